-- What a step of a cleaner leaves to the other actors.
use Rattle.std.proofs.Common.{◌≡◌, ℕ, ◌∙◌, List, subst, sym}
use Rattle.nv_alloc.specs.declared.hand.Hand.{Hand}
use Rattle.nv_machine.specs.World as machine
use Rattle.nv_machine.specs.Locks.{held_at}
use Rattle.nv_machine.specs.Sequence.{slots_on}
use Rattle.nv_core.specs.Frames.{LeavesRest}
use Rattle.nv_core.specs.Shown.{next_of, slots_in, step_on}
use Rattle.nv_core.specs.Steps.{Given}
use Rattle.nv_core.specs.declared.next.SnapshotOrCleanerStep.{SnapshotOrCleanerStep}
use Rattle.nv_core.specs.declared.next.Next.{Next}
use Rattle.nv_core.specs.declared.next.Next.TheVariants as next
use Rattle.nv_core.specs.declared.running.Running.{Running}
use Rattle.nv_core.specs.declared.shared.Shared.{Shared}

-- a cleaner holds the slot of its step
pub rest_held : (shared new : Shared) (hand : Hand) (running : Running) (actor : ℕ) (step : SnapshotOrCleanerStep)
    → running.next ≡ next.SnapshotOrCleaner step → Given running.next shared hand running
    → ((slots : List ℕ) → held_at (machine.SnapshotOrCleaner (step_on step)) slots ≡ slots) → LeavesRest actor (slots_on (step_on step)) shared new
    → LeavesRest actor (held_at (next_of running.next) (slots_in running.slots)) shared new
rest_held shared new hand running actor step e given held rest =
    let slots : slots_in running.slots ≡ slots_on (step_on step) = (subst (λ (n : Next). Given n shared hand running) e given).0 in
    subst (λ (n : Next). LeavesRest actor (held_at (next_of n) (slots_in running.slots)) shared new) (sym e)
    (subst (λ (l : List ℕ). LeavesRest actor l shared new) (sym (held (slots_in running.slots) ∙ slots)) rest)
