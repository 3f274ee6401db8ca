-- What is shown of a call, whoever has its hand.
use Rattle.std.proofs.Common.{◌≡◌, ℕ, List, true, refl}
use Rattle.nv_calls.specs.Commit.{CommitValue}
use Rattle.nv_calls.specs.declared.progress.CommitStep.{CommitStep}
use Rattle.nv_calls.specs.declared.progress.CommitStep.TheVariants as step
use Rattle.nv_machine.specs.Locks.{commits_at, held_at}
use Rattle.nv_core.specs.Shown.{ShownCall, machine_step, shown_by, slots_in}
use Rattle.nv_core.specs.declared.reservation.Reservation.{Reservation}
use Rattle.nv_core.specs.declared.reservation.Reservation.TheVariants as reserved
use Rattle.nv_core.specs.declared.running.Running.{Running}

pub shown_slots : (held : Reservation) (told : ShownCall) (running : Running) → (shown_by held told running).slots ≡ slots_in running.slots
shown_slots (reserved.Hand hand) told running = refl
shown_slots (reserved.Ready ready) told running = refl
shown_slots (reserved.Commit commit) told running = refl

-- a commit holds all its slots, and the commit lock
pub commit_holds : (s : CommitStep) (commit : CommitValue) (slots : List ℕ) → held_at (machine_step s commit) slots ≡ slots
commit_holds step.Append commit slots = refl
commit_holds step.Open commit slots = refl
commit_holds step.Publish commit slots = refl
commit_holds step.Close commit slots = refl
commit_holds step.Retire commit slots = refl
commit_holds step.Leave commit slots = refl

pub commit_commits : (s : CommitStep) (commit : CommitValue) → commits_at (machine_step s commit) ≡ true
commit_commits step.Append commit = refl
commit_commits step.Open commit = refl
commit_commits step.Publish commit = refl
commit_commits step.Close commit = refl
commit_commits step.Retire commit = refl
commit_commits step.Leave commit = refl
