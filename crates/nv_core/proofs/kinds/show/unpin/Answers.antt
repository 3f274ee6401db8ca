use Rattle.std.proofs.Common.{◌≡◌, ◌∙◌, ℕ, true, List, ap, refl, sym}
use Rattle.std.specs.Prelude.{Result}
use Rattle.nv_base.specs.declared.fault.Fault.{Fault}
use Rattle.nv_book.specs.Book.{BookState}
use Rattle.nv_calls.specs.declared.answer.Answer.{Answer}
use Rattle.nv_entry.specs.declared.tree.TreeNode.{TreeNode}
use Rattle.nv_machine.specs.SnapshotOrCleaner.{unpin_turn}
use Rattle.nv_machine.specs.World as machine
use Rattle.nv_machine.specs.World.{HandState, with_book}
use Rattle.nv_steps.specs.OnBook.{on_book}
use Rattle.nv_steps.specs.Turns.{IsEnd}
use Rattle.nv_steps.proofs.OtherStates.{numbers_of, unpin_here}
use Rattle.nv_core.specs.Shown.{next_of, seen_in, shared_of, shown, snapshot_in}
use Rattle.nv_core.specs.declared.next.Next.{Next}
use Rattle.nv_core.specs.declared.next.Next.TheVariants as next
use Rattle.nv_core.specs.declared.next.SnapshotOrCleanerStep.TheVariants as on
use Rattle.nv_core.proofs.kinds.show.unpin.Goals as goal

-- the book is asked to unpin the snapshot of the step that was taken out of the call
asked_as_told : (step : Next) (asked snapshot : ℕ) (seen : List TreeNode) (s : machine.Shared) (old new : BookState) (h : HandState)
    (r : machine.Running) (result : Result Answer Fault) → step ≡ next.SnapshotOrCleaner (on.Unpin snapshot seen) → asked ≡ snapshot
    → r.next ≡ next_of step → s.book ≡ old
    → (r.next ≡ machine.SnapshotOrCleaner (machine.Unpin asked seen) → IsEnd (numbers_of 0) 0 (on_book r h true old new) result h)
    → unpin_turn (snapshot_in step) (seen_in step) s h r ≡ machine.Ends result (with_book new s) h
asked_as_told step asked snapshot seen s old new h r result is same next book ends =
    rw is (rw (← same)
    (let here : r.next ≡ machine.SnapshotOrCleaner (machine.Unpin asked seen) =
    next ∙ ap next_of is ∙ ap (λ (n : ℕ). machine.SnapshotOrCleaner (machine.Unpin n seen)) (sym same) in
    unpin_here old new s r book asked seen h here result (ends here)))

pub returns-clause-turn : goal.returns-clause-turn
returns-clause-turn c told h =
    let old = c.args.shared.now.book.state in
    let new = c.unpin.new.book.state in
    let r = shown told c.args.running.now in
    let seen = c.in-SnapshotOrCleaner-Unpin.seen in
    asked_as_told c.args.running.now.next c.new.result c.in-SnapshotOrCleaner-Unpin.snapshot seen (shared_of c.args.shared.now) old new h r
    c.unpin.result (cc) c.new.ensures refl refl
    (λ here. c.unpin.ensures.turn (numbers_of 0) 0 true h r seen here c.shown_at_end-shown.ensures)
