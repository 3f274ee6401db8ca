-- Why a call is refused, by nodes, snapshots and numbers.
use Rattle.std.specs.Prelude.{◌≡◌, ◌<◌, ◌≤◌, ◌⊎◌, ℕ, ◌+◌, false, length, Option, Some, None, Err}
use Rattle.std.specs.List.{list_any}
use Rattle.nv_base.specs.declared.fault.Fault.{Fault}
use Rattle.nv_base.specs.declared.fault.Fault.TheVariants as fault
use Rattle.nv_base.specs.declared.limits.TheConstants.{NUMBER}
use Rattle.nv_base.specs.declared.numbers.Handle.{Handle}
use Rattle.nv_calls.specs.AllCalls.{is_nothing, refusal}
use Rattle.nv_calls.specs.Refusals.{passes}
use Rattle.nv_calls.specs.declared.call.Call.{Call}
use Rattle.nv_calls.specs.declared.snapshot_or_cleaner_call.SnapshotOrCleanerCall.{SnapshotOrCleanerCall}
use Rattle.nv_calls.specs.declared.snapshot_or_cleaner_call.SnapshotOrCleanerCall.TheVariants as on
use Rattle.nv_cell.specs.Readers.{has_entry}
use Rattle.nv_machine.specs.PlainRun.{is_of}
use Rattle.nv_serial.specs.Cleaning.{pages_filled}
use Rattle.nv_serial.specs.Committed.{needs}
use Rattle.nv_serial.specs.FileCalls.{handle_for, makes_inode, plan_for, wanted}
use Rattle.nv_serial.specs.Free.{pool_of, row_of}
use Rattle.nv_serial.specs.Serial.{Serial, copies_now, log_in}
use Rattle.nv_serial.specs.Snapshots.{snapshot_tree_told}

-- A CALL PASSES ITS TESTS, and is to commit something
pub record Passes (s : Serial) (actor : ℕ) (c : Call) : Type 0 where
  -- its actor is there
  pub there : actor < s.numbers.actors
  -- the nodes do not refuse it
  pub unrefused : refusal s.numbers.block (copies_now s) c ≡ passes
  -- it commits something
  pub commits : is_nothing c ≡ false

-- the handle of a call's new inode; that of the root where it makes none, and nothing where no inode number is free for it
abbrev pub handle_taken : Serial → Call → Option Handle
handle_taken s c = handle_for (makes_inode c) (pool_of s) s

-- how many blocks a call takes, for data and for log pages
abbrev pub blocks_taken : Serial → ℕ → Handle → Call → ℕ
blocks_taken s actor made c = wanted s c + needs s (plan_for s actor made c)

-- a call that passes its tests has an inode number if it needs one, and blocks
pub record HasRoom (s : Serial) (actor : ℕ) (c : Call) (made : Handle) : Type 0 where
  -- its new inode has this handle
  pub handle : handle_taken s c ≡ Some made
  -- the row has as many blocks as it takes
  pub blocks : blocks_taken s actor made c ≤ length (row_of s actor)

-- what a call is short of that passes its tests: an inode number, blocks, or a commit number, in this order
abbrev pub IsShort : Serial → ℕ → Call → Fault → Type 0
IsShort s actor c fault.NoInode = handle_taken s c ≡ None
IsShort s actor c fault.NoSpace =
    (made : Handle) × (handle_taken s c ≡ Some made) × (length (row_of s actor) < blocks_taken s actor made c)
IsShort s actor c fault.CommitLimit = (made : Handle) × HasRoom s actor c made × (NUMBER ≤ s.plain.commit)
IsShort s actor c other = ⊥

-- THE CAUSE OF A REFUSAL: an actor that is not there, then what the nodes refuse the call for, and then what it is short of
abbrev pub IsCause : Serial → ℕ → Call → Fault → Type 0
IsCause s actor c why =
    ((why ≡ fault.NoActor) × (s.numbers.actors ≤ actor))
    ⊎ ((refusal s.numbers.block (copies_now s) c ≡ Err why) ⊎ (Passes s actor c × IsShort s actor c why))

-- ---- calls on snapshots, and cleaners

-- why a `snap` is refused: at the last epoch, and then where as many snapshots live as may
abbrev pub IsSnapCause : Serial → Fault → Type 0
IsSnapCause s fault.EpochLimit = NUMBER ≤ s.plain.epoch
IsSnapCause s fault.TooManySnapshots = s.numbers.snaps ≤ length s.plain.copies
IsSnapCause s other = ⊥

-- why a cleaner is refused: its slot has no inode, or else there are fewer free blocks than the entries that stay fill
abbrev pub IsCleanerCause : Serial → ℕ → ℕ → Fault → Type 0
IsCleanerCause s actor ino fault.Stale = has_entry (log_in s ino) ≡ false
IsCleanerCause s actor ino fault.NoSpace = length (row_of s actor) < pages_filled s ino
IsCleanerCause s actor ino other = ⊥

-- why a call on snapshots is refused, or a cleaner, of an actor that is there
abbrev pub IsCauseOn : Serial → ℕ → SnapshotOrCleanerCall → Fault → Type 0
IsCauseOn s actor on.Snap why = IsSnapCause s why
IsCauseOn s actor (on.Drop snapshot) why = (why ≡ fault.NoSnapshot) × (list_any (is_of snapshot) s.plain.copies ≡ false)
IsCauseOn s actor (on.Show snapshot) why = (why ≡ fault.NoSnapshot) × (snapshot_tree_told s snapshot ≡ None)
IsCauseOn s actor (on.Drain most) why = ⊥
IsCauseOn s actor (on.Fast ino) why = (why ≡ fault.Stale) × (has_entry (log_in s ino) ≡ false)
IsCauseOn s actor (on.Thorough ino) why = IsCleanerCause s actor ino why
IsCauseOn s actor (on.Auto ino) why = IsCleanerCause s actor ino why
