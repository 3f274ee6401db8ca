-- The first step of a call on snapshots or of a cleaner, which locks the slot of its number if it has one.
use Rattle.std.proofs.Common.{Bool, None, false, nat_lt, refl, true, ℕ, ◌<◌, ◌≡◌, if◌then◌else◌}
use Rattle.std.proofs.lemmas.Bool.{ltb-true}
use Rattle.nv_calls.specs.declared.snapshot_or_cleaner_call.SnapshotOrCleanerCall.{SnapshotOrCleanerCall}
use Rattle.nv_calls.specs.declared.snapshot_or_cleaner_call.SnapshotOrCleanerCall.TheVariants as on
use Rattle.nv_machine.specs.Sequence.{first_clean, first_step, new_draining}
use Rattle.nv_machine.specs.World.{Auto, Drop, Fast, PlanCleaning, LockCleaned, SnapshotOrCleanerStep, Make, Manner, Pick, Pin, Thorough}

pub clean_by : (P : SnapshotOrCleanerStep → Type 0) (slots : ℕ)
    → ((manner : Manner) (ino : ℕ) → ino < slots → P (LockCleaned manner ino)) → ((manner : Manner) → P (PlanCleaning manner None))
    → (manner : Manner) (ino : ℕ) → P (first_clean slots manner ino)
clean_by P slots lock planning manner ino = go (nat_lt ino slots) refl where
  go : (b : Bool) → nat_lt ino slots ≡ b → P (if b then LockCleaned manner ino else PlanCleaning manner None)
  go true inside = lock manner ino (ltb-true ino slots inside)
  go false past = planning manner

module _ (P : SnapshotOrCleanerStep → Type 0) (slots : ℕ) (make : P Make) (drop : (snapshot : ℕ) → P (Drop snapshot))
    (pin : (snapshot : ℕ) → P (Pin snapshot)) (pick : (count : ℕ) → P (Pick (new_draining count)))
    (lock : (manner : Manner) (ino : ℕ) → ino < slots → P (LockCleaned manner ino))
    (planning : (manner : Manner) → P (PlanCleaning manner None)) where
  pub first_by : (what : SnapshotOrCleanerCall) → P (first_step slots what)
  first_by on.Snap = make
  first_by (on.Drop snapshot) = drop snapshot
  first_by (on.Show snapshot) = pin snapshot
  first_by (on.Drain count) = pick count
  first_by (on.Fast ino) = clean_by P slots lock planning Fast ino
  first_by (on.Thorough ino) = clean_by P slots lock planning Thorough ino
  first_by (on.Auto ino) = clean_by P slots lock planning Auto ino
