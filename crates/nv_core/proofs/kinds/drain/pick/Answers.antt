use Rattle.std.proofs.Common.{◌≡◌, ◌∙◌, ℕ, Bool, true, false, List, ap, inl, inr, refl, sym}
use Rattle.nv_alloc.specs.declared.hand.Hand.{Hand}
use Rattle.nv_machine.specs.SnapshotOrCleaner.{pick_turn}
use Rattle.nv_machine.specs.World as machine
use Rattle.nv_machine.specs.World.{HandState, empty_hand, with_book}
use Rattle.nv_steps.specs.OnBook.{IsBefore, once_picked, was_granted}
use Rattle.nv_steps.specs.declared.picks.Picked.TheVariants as picked
use Rattle.nv_steps.proofs.OtherStates.{numbers_of, pick_ends, pick_moves}
use Rattle.nv_core.specs.GhostCalls.{IsEither}
use Rattle.nv_core.specs.Shown.{draining_of, hand_of, next_of, shared_of, shown}
use Rattle.nv_core.proofs.kinds.drain.pick.Goals as goal

-- the turn of a pick, for which memory was granted or not
either : (by : Bool → machine.Turn) (granted : Bool) (t : machine.Turn) → by granted ≡ t → IsEither by t
either by true t is = inl is
either by false t is = inr is

pub returns-in-First-clause-turn : goal.returns-in-First-clause-turn
returns-in-First-clause-turn c told =
    let s = shared_of c.args.shared.now in
    let r = shown told c.args.running.now in
    let d = draining_of c.args.draining in
    let new = c.pick.new.book.state in
    let h = hand_of c.args.hand.now in
    let after = hand_of c.pick.new.hand in
    let q = once_picked d r c.in-First.picked in
    let before : IsBefore (machine.Pick d) r = record { next = ap next_of c.requires.next; slots = c.requires.slots } in
    let kept : after ≡ empty_hand = ap (λ (x : Hand). hand_of x) c.in-First.ensures.hand ∙ c.requires.empty in
    inl (pick_moves s.book new s r refl d true h after c.requires.empty before q
    (c.in-First.ensures.turn (numbers_of 0) 0 d.left r before)
    ∙ ap (λ (x : HandState). machine.Moves (with_book new s) x q) kept
    ∙ ap (λ (slots : List ℕ). machine.Moves (with_book new s) empty_hand (record q { slots = slots })) (sym c.one-running.ensures))

pub returns-in-Ends-clause-turn : goal.returns-in-Ends-clause-turn
returns-in-Ends-clause-turn c told =
    let s = shared_of c.args.shared.now in
    let r = shown told c.args.running.now in
    let d = draining_of c.args.draining in
    let new = c.pick.new.book.state in
    let h = hand_of c.args.hand.now in
    let after = hand_of c.pick.new.hand in
    let granted = was_granted (picked.Ends c.in-Ends.answer) in
    let before : IsBefore (machine.Pick d) r = record { next = ap next_of c.requires.next; slots = c.requires.slots } in
    let kept : after ≡ empty_hand = ap (λ (x : Hand). hand_of x) c.in-Ends.ensures.hand ∙ c.requires.empty in
    either (λ granted. pick_turn d granted s empty_hand r) granted (machine.Ends c.in-Ends.answer (with_book new s) empty_hand)
    (pick_ends s.book new s r refl d granted h after c.requires.empty before c.in-Ends.answer
    (c.in-Ends.ensures.turn (numbers_of 0) 0 d.left r before)
    ∙ ap (λ (x : HandState). machine.Ends c.in-Ends.answer (with_book new s) x) kept)
