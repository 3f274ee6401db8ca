-- A closing of the journal, as the machine's.
use Rattle.std.proofs.Common.{◌≡◌, ℕ, ◌≤◌, ◌∙◌, true, Option, Some, List, None, [], ap, arith, length, refl, subst, sym}
use Rattle.std.specs.Prelude.{unwrap_or}
use Rattle.std.specs.Option.{option_map}
use Rattle.std.proofs.lemmas.List.{length-map}
use Rattle.nv_book.specs.Book.{with_journal}
use Rattle.nv_calls.specs.Commit.{CommitValue, after_close, without_journal}
use Rattle.nv_calls.specs.Progress.{is_open}
use Rattle.nv_calls.specs.Ready.{CellCommitValue}
use Rattle.nv_machine.specs.Kinds.{close_turn}
use Rattle.nv_machine.specs.Reads.{slot_at, written_slots}
use Rattle.nv_machine.specs.Sequence.{retiring}
use Rattle.nv_machine.specs.World as machine
use Rattle.nv_machine.specs.World.{go_to, with_book}
use Rattle.nv_core.specs.Shown.{ShownCall, commit_next, hand_in, shared_of, shown_commit, slots_in}
use Rattle.nv_core.specs.GhostCalls.{IsCommitOf, IsOnItsWay}
use Rattle.nv_core.specs.declared.running.Running.{Running}
use Rattle.nv_core.specs.declared.shared.Shared.{Shared}
use Rattle.nv_core.proofs.Retires.{retires_next}

pub closes : (shared : Shared) (running : Running) (old : CommitValue) (told : ShownCall) (cpu : ℕ)
    → IsCommitOf (slots_in running.slots) old told
    → IsOnItsWay old → is_open old ≡ true → length old.plans ≤ old.published → old.journal ≡ Some cpu
    → close_turn cpu (shared_of shared) (hand_in old) (shown_commit old told running)
    ≡ machine.Moves (record (shared_of shared) { book = without_journal old shared.book.state }) (hand_in (after_close old))
    (shown_commit (after_close old) told running)
closes shared running old told cpu is way noted published own =
    let s = shared_of shared in
    let h = record (hand_in old) { ino = None } in
    let r = shown_commit old told running in
    let w = written_slots r in
    let after = after_close old in
    let opened = way.opened noted in
    let long : length w ≡ length old.plans =
    ap (λ (xs : List ℕ). length xs) is.plans.written
    ∙ length-map old.plans (λ (plan : CellCommitValue). slot_at (slots_in running.slots) plan.at) in
    let next : retiring 0 w ≡ commit_next after =
    ap (λ (n : ℕ). retiring n w) (sym opened.2)
    ∙ retires_next after w long (omega (arith, opened.1)) published (omega (arith, published, opened.0)) refl in
    ap (λ (x : machine.Next). machine.Moves (with_book (with_journal cpu [] s.book) s) h (go_to x r)) next
    ∙ sym (ap (λ (j : Option ℕ). machine.Moves (record s {
      book = unwrap_or (option_map (λ m. with_journal m [] shared.book.state) j) shared.book.state;
    }) h (go_to (commit_next after) r)) own)

-- what is told of the commit stays
pub close_told : (slots : List ℕ) (old new : CommitValue) (told : ShownCall) → new ≡ after_close old → IsCommitOf slots old told
    → IsCommitOf slots new told
close_told slots old new told commit is =
    subst (λ (c : CommitValue). IsCommitOf slots c told) (sym commit) (record { number = is.number; epoch = is.epoch; plans = is.plans })
