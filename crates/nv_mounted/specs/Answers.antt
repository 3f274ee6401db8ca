-- What each request asks of a world, and what it is answered, by its operation.
use Rattle.std.specs.Prelude.{ℕ, ◌≡◌, ◌+◌, ◌==◌, ◌||◌, Bool, false, if◌then◌else◌, nat_lt, Option, Some, None, Result, Ok, Err}
use Rattle.nv_base.specs.declared.fault.Fault.{Fault}
use Rattle.nv_base.specs.declared.numbers.Handle.{Handle}
use Rattle.nv_calls.specs.Plain.{same_handle}
use Rattle.nv_calls.specs.declared.answer.Answer.{Answer}
use Rattle.nv_calls.specs.declared.call.Call.{Call}
use Rattle.nv_fuse.specs.declared.errno.Errno.TheVariants as errno
use Rattle.nv_fuse.specs.declared.header.Header.{Header}
use Rattle.nv_fuse.specs.declared.operation.Operation.{Operation}
use Rattle.nv_fuse.specs.declared.operation.Operation.TheVariants as operations
use Rattle.nv_fuse.specs.declared.request.Request.{Request}
use Rattle.nv_mount_answers.specs.declared.kept.Time.{Time}
use Rattle.nv_mount_beside.specs.Names.{node_named, refused}
use Rattle.nv_mount_beside.specs.Outcomes.{outcome_of}
use Rattle.nv_mount_beside.specs.Shown.{agreement_with}
use Rattle.nv_mount_beside.specs.declared.outcome.Outcome.{Outcome}
use Rattle.nv_mount_beside.specs.declared.outcome.Outcome.TheVariants as outcomes
use Rattle.nv_mount_beside.specs.declared.refusal.Refusal.{Refusal}
use Rattle.nv_mounted.specs.Contents.{Statfs, fallocate, read_bytes, write_bytes}
use Rattle.nv_mounted.specs.Dialogues.{Dialogue, Ends, Grows, IsHad}
use Rattle.nv_mounted.specs.Entries.{lookup}
use Rattle.nv_mounted.specs.Listings.{close_directory, open_directory, open_one, read_directory}
use Rattle.nv_mounted.specs.Makings.{create, mkdir, mknod}
use Rattle.nv_mounted.specs.Renames.{rename}
use Rattle.nv_mounted.specs.Sets.{set_attributes}
use Rattle.nv_mounted.specs.Side.{Does}
use Rattle.nv_mounted.specs.Snapshots.{drop_snapshot, is_of_snapshots, make_snapshot, read_snapshots, snapshot_get_attributes, snapshot_lookup, snapshot_open, snapshot_read, snapshot_read_directory, snapshots_node}
use Rattle.nv_mounted.specs.Talks.{get_attributes, open_node, release_file, rmdir, unlink}
use Rattle.nv_mounted.specs.declared.world.Room.{Room}
use Rattle.nv_mounted.specs.declared.side.Side.{Side}

-- how a request is answered
pub data Answering : Type 0 where
  -- by what the world tells, and what stands beside it may change
  ByChange : Dialogue (Outcome × Side) → Answering
  -- by what the world tells, and nothing beside it changes
  ByAnswer : Dialogue Outcome → Answering
  -- at once, and nothing changes
  AtOnce : Result Outcome Refusal → Answering
  -- by how much room there is
  ByRoom : Answering

-- what is done without doing anything
abbrev pub nothing : Answering
nothing = AtOnce (Ok outcomes.Done)

-- the end of a range, where a number of 64 bits tells it
abbrev pub end_of : ℕ → ℕ → Option ℕ
end_of offset size = if nat_lt (offset + size) 18446744073709551616 then Some (offset + size) else None

-- ---- a node of the world

abbrev pub answer_of : Side → Time → Header → Operation → Answering
answer_of side now header (operations.Init major minor readahead flags) =
    AtOnce (Ok (outcomes.Agreed (agreement_with flags)))
answer_of side now header operations.Destroy = nothing
answer_of side now header operations.Statfs = ByRoom
answer_of side now header (operations.Lookup name) = ByAnswer (lookup side header.node name.now)
answer_of side now header (operations.Forget lookups) = AtOnce (Ok outcomes.Silent)
answer_of side now header (operations.ForgetMany count) = AtOnce (Ok outcomes.Silent)
answer_of side now header (operations.Mknod mode device umask name) =
    ByChange (mknod side now header mode name.now)
answer_of side now header (operations.Mkdir mode umask name) =
    ByChange (mkdir side now header mode name.now)
answer_of side now header (operations.Unlink name) =
    ByChange (unlink side now header.node name.now)
answer_of side now header (operations.Rmdir name) = ByChange (rmdir side now header.node name.now)
answer_of side now header (operations.Rename to old new) =
    ByChange (rename side now header.node old.now to new.now 0)
answer_of side now header (operations.Rename2 to flags old new) =
    ByChange (rename side now header.node old.now to new.now flags)
answer_of side now header (operations.Link linked name) = AtOnce (refused errno.NotPermitted)
answer_of side now header (operations.Create flags mode umask name) =
    ByChange (create side now header mode name.now)
answer_of side now header (operations.GetAttributes flags file) =
    ByAnswer (get_attributes side header.node)
answer_of side now header (operations.SetAttributes set) =
    ByChange (set_attributes side now header.node set)
answer_of side now header (operations.Open flags) = ByChange (open_node side header.node)
answer_of side now header (operations.Read file offset size read_flags lock_owner flags) =
    ByAnswer (read_bytes header.node offset size)
answer_of side now header (operations.Write file offset write_flags lock_owner flags bytes) =
    ByChange (write_bytes side now header.node offset bytes.now)
answer_of side now header (operations.Flush file lock_owner) = nothing
answer_of side now header (operations.Fsync file flags) = nothing
answer_of side now header (operations.Release file flags release_flags lock_owner) =
    ByChange (release_file side now header.node)
answer_of side now header (operations.Fallocate file offset size mode) =
    ByChange (fallocate side now header.node (end_of offset size) mode)
answer_of side now header (operations.OpenDirectory flags) =
    ByChange (open_directory side header.node)
answer_of side now header (operations.ReadDirectory file offset size) =
    ByChange (read_directory side header.node file offset size)
answer_of side now header (operations.FsyncDirectory file flags) = nothing
answer_of side now header (operations.ReleaseDirectory file flags) =
    ByChange (Ends (Ok (outcomes.Done, close_directory side file)))
answer_of side now header operations.Malformed = AtOnce (refused errno.Invalid)
answer_of side now header operations.Other = AtOnce (refused errno.NotImplemented)

-- ---- a node of a snapshot: it is read only, except that snapshots are made and dropped

-- in the directory of snapshots, or else below it
abbrev pub if_snapshots : ℕ → Dialogue (Outcome × Side) → Answering → Answering
if_snapshots number talk below = if number == snapshots_node then ByChange talk else below

abbrev pub read_only : Answering
read_only = AtOnce (refused errno.ReadOnly)

abbrev pub answer_in_snapshot : Side → ℕ → Operation → Answering
answer_in_snapshot side number operations.Statfs = ByRoom
answer_in_snapshot side number (operations.Lookup name) =
    AtOnce (snapshot_lookup side number name.now)
answer_in_snapshot side number (operations.Forget lookups) = AtOnce (Ok outcomes.Silent)
answer_in_snapshot side number (operations.ForgetMany count) = AtOnce (Ok outcomes.Silent)
answer_in_snapshot side number (operations.Mkdir mode umask name) =
    if_snapshots number (make_snapshot side name.now) read_only
answer_in_snapshot side number (operations.Rmdir name) =
    if_snapshots number (drop_snapshot side name.now) read_only
answer_in_snapshot side number (operations.GetAttributes flags file) =
    AtOnce (snapshot_get_attributes side number)
answer_in_snapshot side number (operations.Open flags) = AtOnce (snapshot_open side number)
answer_in_snapshot side number (operations.Read file offset size read_flags lock_owner flags) =
    ByAnswer (Grows (Ends (snapshot_read side number offset size)))
answer_in_snapshot side number (operations.Flush file lock_owner) = nothing
answer_in_snapshot side number (operations.Fsync file flags) = nothing
answer_in_snapshot side number (operations.Release file flags release_flags lock_owner) = nothing
answer_in_snapshot side number (operations.OpenDirectory flags) =
    if_snapshots number (open_one side) (AtOnce (snapshot_open side number))
answer_in_snapshot side number (operations.ReadDirectory file offset size) =
    if_snapshots number (read_snapshots side file offset size)
    (ByAnswer (Grows (Ends (snapshot_read_directory side number offset size))))
answer_in_snapshot side number (operations.FsyncDirectory file flags) = nothing
answer_in_snapshot side number (operations.ReleaseDirectory file flags) =
    if_snapshots number (Ends (Ok (outcomes.Done, close_directory side file))) nothing
answer_in_snapshot side number operations.Malformed = AtOnce (refused errno.Invalid)
answer_in_snapshot side number operations.Other = AtOnce (refused errno.NotImplemented)
answer_in_snapshot side number _ = read_only

-- ---- the directory of hidden files, which no name leads to

abbrev pub hidden_in : Side → Result Handle Refusal → Bool
hidden_in side (Ok handle) = same_handle handle side.hidden
hidden_in side (Err refusal) = false

abbrev pub names_hidden : Side → ℕ → Bool
names_hidden side number = hidden_in side (node_named number)

-- a request about it, or a rename into it; what is forgotten has no answer
abbrev pub reaches_hidden : Side → ℕ → Operation → Bool
reaches_hidden side number (operations.Forget lookups) = false
reaches_hidden side number (operations.ForgetMany count) = false
reaches_hidden side number (operations.Rename to old new) =
    names_hidden side number || names_hidden side to
reaches_hidden side number (operations.Rename2 to flags old new) =
    names_hidden side number || names_hidden side to
reaches_hidden side number _ = names_hidden side number

-- a rename that leads into a snapshot, where nothing changes
abbrev pub leads_to_snapshot : Operation → Bool
leads_to_snapshot (operations.Rename to old new) = is_of_snapshots to
leads_to_snapshot (operations.Rename2 to flags old new) = is_of_snapshots to
leads_to_snapshot _ = false

-- ---- WHAT A REQUEST IS ANSWERED

-- by the node that its header names; the directory of hidden files is told to be gone
abbrev pub answering : Side → Time → Header → Operation → Answering
answering side now header operation =
    if is_of_snapshots header.node then answer_in_snapshot side header.node operation
    else if leads_to_snapshot operation then AtOnce (refused errno.ReadOnly)
    else if reaches_hidden side header.node operation then AtOnce (refused errno.Stale)
    else answer_of side now header operation

-- it is answered so
abbrev pub IsAnsweredBy : {W : Type 0} → (W → Call → Result Answer Fault → W → Type 0)
    → (W → Room → Type 0) → Answering → Time → W → Side → Result Outcome Refusal → W → Side → Type 0
IsAnsweredBy Tells HasRoom (ByChange talk) now core side result new_core new_side =
    Does Tells talk core side result new_core new_side
IsAnsweredBy Tells HasRoom (ByAnswer talk) now core side result new_core new_side =
    IsHad Tells talk core result new_core × (new_side ≡ side)
IsAnsweredBy Tells HasRoom (AtOnce told) now core side result new_core new_side =
    (result ≡ told) × (new_core ≡ core) × (new_side ≡ side)
IsAnsweredBy Tells HasRoom ByRoom now core side result new_core new_side =
    (outcome : Outcome) × (result ≡ Ok outcome)
    × Statfs HasRoom core side now outcome new_core new_side

-- it has one outcome, which tells a refusal by its error
pub record IsAnswered {W : Type 0} (Tells : W → Call → Result Answer Fault → W → Type 0)
    (HasRoom : W → Room → Type 0) (core : W) (side : Side) (now : Time) (request : Request)
    (outcome : Outcome) (new_core : W) (new_side : Side) : Type 0 where
  pub result : Result Outcome Refusal
  pub is : outcome ≡ outcome_of result
  pub answered : IsAnsweredBy Tells HasRoom (answering side now request.header request.operation)
      now core side result new_core new_side
