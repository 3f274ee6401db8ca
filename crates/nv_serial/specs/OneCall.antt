-- ONE CALL of a world with numbers: what it is answered, and the world after it.
use Rattle.std.specs.Prelude.{ℕ, Bool, true, false, nat_lt}
use Rattle.nv_base.specs.declared.fault.Fault.TheVariants.{NoActor}
use Rattle.nv_calls.specs.declared.call.Call.{Call}
use Rattle.nv_calls.specs.declared.call.Call.TheVariants as call
use Rattle.nv_calls.specs.declared.snapshot_or_cleaner_call.SnapshotOrCleanerCall.{SnapshotOrCleanerCall}
use Rattle.nv_calls.specs.declared.snapshot_or_cleaner_call.SnapshotOrCleanerCall.TheVariants as on
use Rattle.nv_serial.specs.Cleaning.{auto, fast, if_inode, thorough}
use Rattle.nv_serial.specs.FileCalls.{on_files}
use Rattle.nv_serial.specs.Serial.{Outcome, Serial, refused}
use Rattle.nv_serial.specs.Snapshots.{drain, drop_snapshot, show, snap}

-- what a call on snapshots, or a cleaner, is replied and leaves
abbrev pub maintained : Serial → ℕ → SnapshotOrCleanerCall → Outcome
maintained s actor on.Snap = snap s
maintained s actor (on.Drop snapshot) = drop_snapshot snapshot s
maintained s actor (on.Show snapshot) = show snapshot s
maintained s actor (on.Drain count) = drain count s
maintained s actor (on.Fast ino) = if_inode s ino (fast s ino)
maintained s actor (on.Thorough ino) = if_inode s ino (thorough s actor ino)
maintained s actor (on.Auto ino) = if_inode s ino (auto s actor ino)

-- what a call is replied and leaves
abbrev pub of_call : Serial → ℕ → Call → Outcome
of_call s actor (call.SnapshotOrCleaner what) = maintained s actor what
of_call s actor c = on_files s actor c

-- one call: its reply and the world after it. An actor that is not there is refused `NoActor`.
abbrev pub serial_call : Serial → ℕ → Call → Outcome
serial_call s actor c = if_there (nat_lt actor s.numbers.actors) where
  if_there : Bool → Outcome
  if_there false = refused NoActor s
  if_there true = of_call s actor c
