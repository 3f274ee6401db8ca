-- By which faults a session's call may be refused.
use Rattle.std.specs.Prelude.{◌≡◌, ◌⊎◌, ◌&&◌, ◌||◌, ℕ, Bool, true, false, List, [], ◌∷◌, ◌++◌, Contains, IsTrue, Result, Ok, Err, is_none, length}
use Rattle.nv_base.specs.Memory.{out_of_memory}
use Rattle.nv_base.specs.declared.fault.Fault.{Fault}
use Rattle.nv_base.specs.declared.fault.Fault.TheVariants as fault
use Rattle.nv_base.specs.declared.fault.MismatchPart.{MismatchPart}
use Rattle.nv_calls.specs.declared.call.Call.{Call}
use Rattle.nv_calls.specs.declared.call.Call.TheVariants as call
use Rattle.nv_calls.specs.declared.looked.LookupResult.{LookupResult}
use Rattle.nv_calls.specs.declared.snapshot_or_cleaner_call.SnapshotOrCleanerCall.{SnapshotOrCleanerCall}
use Rattle.nv_calls.specs.declared.snapshot_or_cleaner_call.SnapshotOrCleanerCall.TheVariants as snapshot_or_cleaner
use Rattle.nv_calls.specs.declared.update.Update.{Update}
use Rattle.nv_calls.specs.declared.update.Update.TheVariants as update
use Rattle.nv_sessions.specs.declared.change.ChangeEnd.{ChangeEnd}
use Rattle.nv_sessions.specs.declared.change.ChangeEnd.TheVariants as ends
use Rattle.nv_sessions.specs.declared.rounds.RoundEnd.{RoundEnd}
use Rattle.nv_sessions.specs.declared.rounds.RoundEnd.TheVariants as round

-- ---- the table of refusals

-- what any commit may want: blocks, memory, a number
abbrev pub wants : List Fault
wants = fault.NoSpace ∷ out_of_memory ∷ fault.CommitLimit ∷ []

-- the faults of a call on snapshots, or of a cleaner
abbrev pub snapshot_or_cleaner_faults : SnapshotOrCleanerCall → List Fault
snapshot_or_cleaner_faults snapshot_or_cleaner.Snap = fault.EpochLimit ∷ fault.TooManySnapshots ∷ []
snapshot_or_cleaner_faults (snapshot_or_cleaner.Drop snapshot) = fault.NoSnapshot ∷ fault.Pinned ∷ []
snapshot_or_cleaner_faults (snapshot_or_cleaner.Show snapshot) = fault.NoSnapshot ∷ out_of_memory ∷ []
snapshot_or_cleaner_faults (snapshot_or_cleaner.Drain number) = out_of_memory ∷ []
snapshot_or_cleaner_faults (snapshot_or_cleaner.Fast ino) = fault.Stale ∷ out_of_memory ∷ []
snapshot_or_cleaner_faults (snapshot_or_cleaner.Thorough ino) = fault.Stale ∷ fault.NoSpace ∷ out_of_memory ∷ []
snapshot_or_cleaner_faults (snapshot_or_cleaner.Auto ino) = fault.Stale ∷ fault.NoSpace ∷ out_of_memory ∷ []

-- the faults that the check of a change may find, by its nodes and for want of an inode number
abbrev pub check_faults : Update → List Fault
check_faults (update.Create dir name mode) = fault.Stale ∷ fault.NotDirectory ∷ fault.BadName ∷ fault.Exists ∷ fault.NoInode ∷ []
check_faults (update.Mkdir dir name mode) = fault.Stale ∷ fault.NotDirectory ∷ fault.BadName ∷ fault.Exists ∷ fault.NoInode ∷ []
check_faults (update.Write file offset count) = fault.Stale ∷ fault.NotFile ∷ fault.WriteTooBig ∷ fault.FileTooBig ∷ []
check_faults (update.Size file size) = fault.Stale ∷ fault.NotFile ∷ fault.FileTooBig ∷ []
check_faults (update.Mode handle mode) = fault.Stale ∷ []
check_faults (update.Unlink dir name) = fault.Stale ∷ fault.NotDirectory ∷ fault.BadName ∷ fault.Missing ∷ fault.NotFile ∷ []
check_faults (update.Rmdir dir name) = fault.Stale ∷ fault.NotDirectory ∷ fault.BadName ∷ fault.Missing ∷ fault.NotEmpty ∷ []
check_faults (update.Rename from old to new) =
    fault.Stale ∷ fault.NotDirectory ∷ fault.BadName ∷ fault.Missing ∷ fault.MoveDirectory ∷ fault.Exists ∷ []

-- whether a call looks names up before it locks, so that other calls may overtake it
abbrev pub looks_up : Update → Bool
looks_up (update.Unlink dir name) = true
looks_up (update.Rmdir dir name) = true
looks_up (update.Rename from old to new) = true
looks_up other = false

-- what a change may meet beside its check: the text of a write can't be read; names are bound
-- anew, round after round
abbrev pub other_faults : Update → List Fault
other_faults (update.Write file offset count) = fault.Read ∷ []
other_faults (update.Unlink dir name) = fault.Contended ∷ []
other_faults (update.Rmdir dir name) = fault.Contended ∷ []
other_faults (update.Rename from old to new) = fault.Contended ∷ []
other_faults other = []

-- the faults of a change
abbrev pub change_faults : Update → List Fault
change_faults u = check_faults u ++ other_faults u ++ wants

-- what lies behind a lock is not as the call needs it, which no type says: a `Mismatch`
abbrev pub IsMisfit : Fault → Type 0
IsMisfit why = (part : MismatchPart) × (why ≡ fault.Mismatch part)

-- a misfit, or want of memory
abbrev pub IsMisfitOrWant : Fault → Type 0
IsMisfitOrWant why = IsMisfit why ⊎ (why ≡ out_of_memory)

-- THE REFUSALS OF A CALL that changes nodes, and no other
abbrev pub MayRefuseChange : Update → Fault → Type 0
MayRefuseChange u why = Contains (change_faults u) why ⊎ IsMisfit why

-- a call on snapshots, or a cleaner, may be refused by this fault
abbrev pub MayRefuseSnapshotOrCleaner : SnapshotOrCleanerCall → Fault → Type 0
MayRefuseSnapshotOrCleaner c why = Contains (snapshot_or_cleaner_faults c) why ⊎ IsMisfit why

-- the faults of a call that reads
abbrev pub view_faults : Call → List Fault
view_faults (call.Read file offset count) = fault.Stale ∷ fault.NotFile ∷ out_of_memory ∷ []
view_faults (call.Stat handle) = fault.Stale ∷ []
view_faults (call.List dir) = fault.Stale ∷ fault.NotDirectory ∷ out_of_memory ∷ []
view_faults (call.Lookup dir name) = fault.Stale ∷ fault.NotDirectory ∷ fault.BadName ∷ fault.Missing ∷ []
view_faults other = []

-- a call that reads may be refused by this fault
abbrev pub MayRefuseView : Call → Fault → Type 0
MayRefuseView c why = Contains (view_faults c) why ⊎ IsMisfit why

-- WHAT MAY REFUSE A CALL: a fault of the call's list, or a `Mismatch`. Example: the list of an
-- `unlink` is `Stale`, `NotDirectory`, `BadName`, `Missing`, `NotFile`, `Contended`, `NoSpace`,
-- `OutOfMemory` and `CommitLimit`. So it is never refused by `Exists`.
abbrev pub MayRefuse : Call → Fault → Type 0
MayRefuse (call.Create dir name mode) why = MayRefuseChange (update.Create dir name mode) why
MayRefuse (call.Mkdir dir name mode) why = MayRefuseChange (update.Mkdir dir name mode) why
MayRefuse (call.Write file offset text) why = MayRefuseChange (update.Write file offset (length text)) why
MayRefuse (call.Size file size) why = MayRefuseChange (update.Size file size) why
MayRefuse (call.Mode handle mode) why = MayRefuseChange (update.Mode handle mode) why
MayRefuse (call.Unlink dir name) why = MayRefuseChange (update.Unlink dir name) why
MayRefuse (call.Rmdir dir name) why = MayRefuseChange (update.Rmdir dir name) why
MayRefuse (call.Rename from old to new) why = MayRefuseChange (update.Rename from old to new) why
MayRefuse (call.SnapshotOrCleaner c) why = MayRefuseSnapshotOrCleaner c why
MayRefuse view why = MayRefuseView view why

-- ---- the way there

-- a change that has passed its check, and whose text was read, may be refused so
abbrev pub IsWant : Fault → Type 0
IsWant why = Contains wants why ⊎ IsMisfit why

-- a look or a check may refuse so: by the nodes, or by a misfit, and never for want of anything
abbrev pub MayRefuseCheck : Update → Fault → Type 0
MayRefuseCheck u why = Contains (check_faults u) why ⊎ IsMisfit why

-- a round may be refused so: by its check, by a want, or by a misfit
abbrev pub MayRefuseRound : Update → Fault → Type 0
MayRefuseRound u why = Contains (check_faults u) why ⊎ IsWant why

-- a round may end so: refused, or by a failed read of its text
abbrev pub MayEnd : Update → Fault → Type 0
MayEnd u why = MayRefuseRound u why ⊎ (why ≡ fault.Read)

-- a call may end so: as a round may, or by `Contended` where a name was bound anew in the last
-- round too
abbrev pub MayGiveUp : Update → Fault → Type 0
MayGiveUp u why = MayEnd u why ⊎ ((why ≡ fault.Contended) × (looks_up u ≡ true))

-- ---- looks

-- no look has found anything
abbrev pub finds_nothing : LookupResult → Bool
finds_nothing looked = is_none looked.first && is_none looked.second

-- only a call that looks names up has found something
abbrev pub LooksFor : Update → LookupResult → Type 0
LooksFor u looked = IsTrue (looks_up u || finds_nothing looked)

-- ---- failed reads

-- how many reads of its text failed in a call that is refused so: one where that refused it
abbrev pub reads_failed : Fault → ℕ
reads_failed fault.Read = 1
reads_failed other = 0

-- how many reads of a source failed, by a call's result
abbrev pub failed_in : {A : Type 0} → Result A Fault → ℕ
failed_in (Ok done) = 0
failed_in (Err why) = reads_failed why

-- how many reads of a source failed, by the end of a change
abbrev pub failed_by : {A : Type 0} → Result A ChangeEnd → ℕ
failed_by (Ok done) = 0
failed_by (Err (ends.Refuses why)) = reads_failed why
failed_by (Err other) = 0

-- how many reads of a source failed, by the end of a round
abbrev pub failed_round : RoundEnd → ℕ
failed_round (round.Ends result) = failed_in result
failed_round (round.BoundAnew back) = 0
