-- An opening of the journal with the cells of a call, as the machine's.
use Rattle.std.proofs.Common.{◌≡◌, ℕ, suc, ◌<◌, ◌≤◌, ◌∙◌, ◌==◌, ◌&&◌, not, nat_lt, Bool, true, false, true≢false, List, [], ◌∷◌, ap, ap₂, arith, length, map, refl, subst, sym}
use Rattle.std.specs.Prelude.{if◌then◌else◌}
use Rattle.std.proofs.lemmas.Bool.{le-ltb, lt-ltb}
use Rattle.std.proofs.lemmas.List.{length-map}
use Rattle.nv_book.specs.Book.{with_journal}
use Rattle.nv_calls.specs.Commit.{CommitValue, after_open}
use Rattle.nv_calls.specs.Progress.{is_open, opens as opens_journal}
use Rattle.nv_calls.specs.Ready.{CellCommitValue, old_tail, old_tails, plan_at}
use Rattle.nv_calls.specs.SlotCells.{lent_cells}
use Rattle.nv_calls.specs.declared.progress.CommitStep.TheVariants as step
use Rattle.nv_cell.specs.Cell.{CellState, CellValue}
use Rattle.nv_journal.specs.declared.old_tail.OldTail.{OldTail}
use Rattle.nv_machine.specs.Kinds as kinds
use Rattle.nv_machine.specs.Kinds.{open_turn}
use Rattle.nv_machine.specs.Reads.{slot_at, written_slots}
use Rattle.nv_machine.specs.Sequence.{publishing}
use Rattle.nv_machine.specs.World as machine
use Rattle.nv_machine.specs.World.{Publish, cell_at, go_to, with_book}
use Rattle.nv_core.specs.Parts.{HaveSlots}
use Rattle.nv_core.specs.Shown.{ShownCall, commit_next, hand_in, machine_step, shared_of, shown_commit, slots_in}
use Rattle.nv_core.specs.GhostCalls.{IsCommitOf, IsOnItsWay}
use Rattle.nv_core.specs.declared.running.Running.{Running}
use Rattle.nv_core.specs.declared.shared.Shared.{Shared}
use Rattle.nv_calls.proofs.LentSlots.{lent_at}
use Rattle.nv_core.proofs.Publishes.{state_there}

-- what is told of the commit stays
pub open_told : (slots : List ℕ) (old new : CommitValue) (cpu : ℕ) (tails : List OldTail) (told : ShownCall)
    → new ≡ after_open cpu tails old → IsCommitOf slots old told → IsCommitOf slots new told
open_told slots old new cpu tails told commit is =
    subst (λ (c : CommitValue). IsCommitOf slots c told) (sym commit) (record { number = is.number; epoch = is.epoch; plans = is.plans })

pub open_way : (old new : CommitValue) (cpu : ℕ) (tails : List OldTail) → IsOnItsWay old → old.appended ≡ length old.plans
    → old.published ≡ 0 → 2 ≤ length old.plans → new ≡ after_open cpu tails old → IsOnItsWay new
open_way old new cpu tails way appended first two commit =
    let back : old.retired ≡ 0 = way.publishes (omega (arith, first, two)) in
    subst IsOnItsWay (sym commit) (record {
      appended = way.appended;
      published = way.published;
      retired = way.retired;
      appends = way.appends;
      publishes = way.publishes;
      opened = λ is. (two, appended, back);
      between = λ many some less. refl;
    })

-- once the journal is open, the first of two or more inodes is published
pub opens_next : (c : CommitValue) (written : List ℕ) → length written ≡ length c.plans → length c.plans ≤ c.appended → c.published ≡ 0
    → 2 ≤ length c.plans → is_open c ≡ true → publishing 0 written ≡ commit_next c
opens_next c written many appended none two noted =
    first (nat_lt 0 (length written)) (lt-ltb 0 (length written) (omega (arith, many, two)))
    ∙ ap Publish (sym none)
    ∙ sym (go (nat_lt c.appended (length c.plans)) (opens_journal c) (nat_lt c.published (length c.plans)) (is_open c)
    (nat_lt c.retired (length c.plans))
    (le-ltb c.appended (length c.plans) appended)
    (open_already (nat_lt 1 (length c.plans)) (c.published == 0) (is_open c) noted)
    (lt-ltb c.published (length c.plans) (omega (arith, none, two))))
  where
    first : (b : Bool) → b ≡ true
        → (if b then Publish 0 else if nat_lt 1 (length written) then machine.Close else if nat_lt 0 (length written) then machine.Retire 0
        else machine.Leave) ≡ Publish 0
    first true q = refl
    first false q = absurd (true≢false (sym q))

    open_already : (a b o : Bool) → o ≡ true → (a && b && not o) ≡ false
    open_already true true true q = refl
    open_already true false true q = refl
    open_already false true true q = refl
    open_already false false true q = refl
    open_already a b false q = absurd (true≢false (sym q))

    go : (b1 b2 b3 b4 b5 : Bool) → b1 ≡ false → b2 ≡ false → b3 ≡ true
        → machine_step (if b1 then step.Append else if b2 then step.Open else if b3 then step.Publish else if b4 then step.Close
        else if b5 then step.Retire else step.Leave) c
        ≡ Publish c.published
    go true b2 b3 b4 b5 q r s = absurd (true≢false q)
    go false true b3 b4 b5 q r s = absurd (true≢false r)
    go false false true b4 b5 q r s = refl
    go false false false b4 b5 q r s = absurd (true≢false (sym s))

-- the tails of the written slots are those of the planned cells
tails_same : (g : ℕ → OldTail) (f : CellCommitValue → OldTail) (h : CellCommitValue → ℕ) (plans : List CellCommitValue)
    → ((j : ℕ) → j < length plans → g (h (plan_at plans j)) ≡ f (plan_at plans j)) → map g (map h plans) ≡ map f plans
tails_same g f h [] same = refl
tails_same g f h (p ∷ plans) same =
    ap₂ (λ (t : OldTail) (ts : List OldTail). t ∷ ts) (same 0 (omega arith))
    (tails_same g f h plans (λ j lt. same (suc j) (omega (arith, lt))))

-- the machine's opening with the tails of all cells that get entries
pub opens : (shared : Shared) (running : Running) (old : CommitValue) (told : ShownCall) (cpu : ℕ) → IsCommitOf (slots_in running.slots) old told
    → HaveSlots shared.cells.items (slots_in running.slots)
    → ((j : ℕ) → j < length old.plans → (plan_at old.plans j).at < length (slots_in running.slots))
    → old.appended ≡ length old.plans → old.published ≡ 0 → 2 ≤ length old.plans
    → (let tails = old_tails (lent_cells (slots_in running.slots) shared.cells.items) old.plans in
    let after = after_open cpu tails old in
    open_turn cpu (shared_of shared) (hand_in old) (shown_commit old told running)
    ≡ machine.Moves (record (shared_of shared) { book = with_journal cpu tails shared.book.state }) (hand_in after)
    (shown_commit after told running))
opens shared running old told cpu is there within appended none two =
    let s = shared_of shared in
    let h = hand_in old in
    let r = shown_commit old told running in
    let slots = slots_in running.slots in
    let cells = shared.cells.items in
    let w = written_slots r in
    let tails = old_tails (lent_cells slots cells) old.plans in
    let after = after_open cpu tails old in
    let at : CellCommitValue → ℕ = λ plan. slot_at slots plan.at in
    let tail : ℕ → OldTail = λ ino. record { ino = ino; tail = (cell_at s ino).chain.tail } in
    let long : length w ≡ length old.plans = ap (λ (xs : List ℕ). length xs) is.plans.written ∙ length-map old.plans at in
    let same : kinds.old_tails s w ≡ tails =
    ap (λ (xs : List ℕ). kinds.old_tails s xs) is.plans.written
    ∙ tails_same tail (old_tail (lent_cells slots cells)) at old.plans
    (λ j lt.
    let k = (plan_at old.plans j).at in
    ap (λ (n : ℕ). let t : OldTail = record { ino = slot_at slots k; tail = n } in t)
    (ap (λ (c : CellState). c.chain.tail) (state_there cells (slot_at slots k) (there k (within j lt))))
    ∙ sym (ap (λ (c : ℕ × CellValue). let t : OldTail = record { ino = c.0; tail = c.1.state.chain.tail } in t)
    (lent_at slots cells k (within j lt)))) in
    let next : publishing 0 w ≡ commit_next after = opens_next after w long (omega (arith, appended)) none two refl in
    ap (λ (ts : List OldTail). machine.Moves (with_book (with_journal cpu ts s.book) s) h (go_to (publishing 0 w) r)) same
    ∙ ap (λ (x : machine.Next). machine.Moves (with_book (with_journal cpu tails s.book) s) h (go_to x r)) next
