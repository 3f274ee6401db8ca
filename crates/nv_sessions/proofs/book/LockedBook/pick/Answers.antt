use Rattle.std.proofs.Common.{◌≡◌, ◌∙◌, ap, subst, sym}
use Rattle.nv_alloc.specs.declared.hand.Hand.{Hand}
use Rattle.nv_book.specs.Book.{BookValue}
use Rattle.nv_epoch.specs.SnapList.{Snapshots}
use Rattle.nv_machine.specs.World.{HandState, empty_hand}
use Rattle.nv_sessions.specs.Draining.{IsPickedFrom}
use Rattle.nv_sessions.specs.Snapped.{AreSnapped}
use Rattle.nv_steps.specs.Hands.{hand_of}
use Rattle.nv_steps.specs.OnBook.{IsPickTurn, drain_of, on_book, was_granted}
use Rattle.nv_sessions.proofs.Draining.{kept_book, pick_told}
use Rattle.nv_sessions.proofs.book.LockedBook.pick.Goals as goal

-- a pick from the book behind its lock
pub returns-clause-turn : goal.returns-clause-turn
returns-clause-turn g c numbers actor left r before =
    let was : hand_of c.args.hand.now ≡ empty_hand = c.requires.empty in
    let behind : hand_of c.pick-picked.new.hand ≡ empty_hand = ap (λ (h : Hand). hand_of h) c.pick-picked.ensures.hand ∙ was in
    let p = c.pick-picked.result in
    let d = drain_of c.args.released left in
    subst (λ (b : BookValue). IsPickTurn numbers actor (on_book r empty_hand (was_granted p) b.state c.pick-picked.new.book.state) d p empty_hand)
    c.self.view_is
    (subst (λ (h : HandState). IsPickTurn numbers actor (on_book r h (was_granted p) c.self.inside.book.state c.pick-picked.new.book.state) d p empty_hand) was
    (subst (λ (h : HandState). IsPickTurn numbers actor
    (on_book r (hand_of c.args.hand.now) (was_granted p) c.self.inside.book.state c.pick-picked.new.book.state) d p h) behind
    (c.pick-picked.ensures.turn numbers actor left r before)))

pub returns-clause-ends : goal.returns-clause-ends
returns-clause-ends g c =
    (pick_told c.args.self.now.state c.pick-picked.new.book.state c.args.released c.pick-picked.result (returns-clause-turn g c)).0

pub returns-clause-from : goal.returns-clause-from
returns-clause-from g c =
    (pick_told c.args.self.now.state c.pick-picked.new.book.state c.args.released c.pick-picked.result (returns-clause-turn g c)).1

pub invariant_of-self : goal.invariant_of-self
invariant_of-self g c =
    let was : hand_of c.args.hand.now ≡ empty_hand = c.requires.empty in
    let behind : hand_of c.pick-picked.new.hand ≡ empty_hand = ap (λ (h : Hand). hand_of h) c.pick-picked.ensures.hand ∙ was in
    let p = c.pick-picked.result in
    let old = c.self.inside.book.state in
    let new = c.pick-picked.new.book.state in
    let from : IsPickedFrom old new p = (pick_told old new c.args.released p (λ numbers actor left r before.
    let d = drain_of c.args.released left in
    subst (λ (h : HandState). IsPickTurn numbers actor (on_book r h (was_granted p) old new) d p empty_hand) was
    (subst (λ (h : HandState). IsPickTurn numbers actor (on_book r (hand_of c.args.hand.now) (was_granted p) old new) d p h) behind
    (c.pick-picked.ensures.turn numbers actor left r before)))).1 in
    let kept = kept_book old new p from in (
      kept.0 ∙ c.self.invariant.0,
      subst (λ (snaps : Snapshots). AreSnapped g.C.Commits.living g.C.Commits.epoch snaps c.self.inside.snap_book.total) (sym kept.1)
          c.self.invariant.1,
      c.set.ensures ∙ c.has_deferred-left.ensures,
    )
