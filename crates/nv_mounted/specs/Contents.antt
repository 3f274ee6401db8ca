-- The bytes of files, the room that is left, and the cleaning of logs.
use Rattle.std.specs.Prelude.{ℕ, ◌≡◌, ◌==◌, MatchBool, if◌then◌else◌, min, nat_le, nat_lt, List, length, Option, Some, None, Result, Ok, Err}
use Rattle.nv_base.specs.declared.fault.Fault.{Fault}
use Rattle.nv_calls.specs.declared.answer.Answer.{Answer}
use Rattle.nv_calls.specs.declared.answer.Answer.TheVariants as answers
use Rattle.nv_calls.specs.declared.call.Call.TheVariants as calls
use Rattle.nv_calls.specs.declared.snapshot_or_cleaner_call.SnapshotOrCleanerCall.TheVariants as cleaner
use Rattle.nv_fuse.specs.declared.errno.Errno.TheVariants as errno
use Rattle.nv_fuse.specs.declared.reply.Statistics.{Statistics}
use Rattle.nv_mount_answers.specs.declared.kept.Time.{Time}
use Rattle.nv_mount_beside.specs.Names.{node_named, or_refused, refused}
use Rattle.nv_mount_beside.specs.declared.outcome.Outcome.{Outcome}
use Rattle.nv_mount_beside.specs.declared.outcome.Outcome.TheVariants as outcomes
use Rattle.nv_mount_beside.specs.declared.refusal.Refusal.{Refusal}
use Rattle.nv_mounted.specs.Asks.{ask, ask_done, ask_shape, faulted, other_kind}
use Rattle.nv_mounted.specs.Dialogues.{Asks, Dialogue, Ends, Grows, ◌>>=◌}
use Rattle.nv_mounted.specs.Side.{touched}
use Rattle.nv_mounted.specs.declared.world.Room.{Room}
use Rattle.nv_mounted.specs.declared.side.Side.{Side}
use Rattle.nv_mounted.specs.declared.side.Told.{Told}

-- ---- the bytes of files

-- bytes, as many as were asked for at most
abbrev pub bytes_told : ℕ → Result Answer Fault → Result (List ℕ) Refusal
bytes_told count (Ok (answers.Bytes bytes)) =
    if nat_lt count (length bytes) then other_kind else Ok bytes
bytes_told count (Ok other) = other_kind
bytes_told count (Err fault) = faulted fault

-- read bytes from an offset on, 16 MiB at most
abbrev pub read_bytes : ℕ → ℕ → ℕ → Dialogue Outcome
read_bytes number offset size =
    Ends (node_named number) >>= λ file.
    ask (calls.Read file offset (min size 16777216)) (bytes_told (min size 16777216)) >>= λ bytes.
    Ends (Ok (outcomes.Contents bytes))

-- a count of 32 bits
abbrev pub count_told : Result Answer Fault → Result ℕ Refusal
count_told (Ok (answers.Count count)) = if nat_lt 4294967295 count then other_kind else Ok count
count_told (Ok other) = other_kind
count_told (Err fault) = faulted fault

-- write bytes from an offset on
abbrev pub write_bytes : Side → Time → ℕ → ℕ → List ℕ → Dialogue (Outcome × Side)
write_bytes side now number offset bytes =
    Ends (node_named number) >>= λ file.
    Grows (ask (calls.Write file offset bytes) count_told) >>= λ count.
    Ends (Ok (outcomes.Written count, touched now file side))

-- Give bytes up to an end a place: a shorter file becomes as long, except in mode 1, which leaves
-- the size. No block is taken before it is written. An end without a number is refused.
abbrev pub fallocate : Side → Time → ℕ → Option ℕ → ℕ → Dialogue (Outcome × Side)
fallocate side now number end mode =
    Ends (node_named number) >>= λ file.
    if nat_lt 1 mode then Ends (refused errno.NotSupported)
    else Ends (or_refused errno.FileTooBig end) >>= λ size.
    if mode == 1 then Ends (Ok (outcomes.Done, side))
    else ask_shape file >>= λ shape.
    if nat_le size shape.size then Ends (Ok (outcomes.Done, side))
    else ask_done (calls.Size file size) >>= λ done.
    Ends (Ok (outcomes.Done, touched now file side))

-- ---- the room that is left

-- what is told of a room: all that is free is for all users
abbrev pub space_of : Room → Statistics
space_of room = record {
  blocks = room.blocks;
  free_blocks = room.free;
  available_blocks = room.free;
  inodes = room.inodes;
  free_inodes = room.free_inodes;
  block_size = min room.block 4294967295;
  name_length = 255;
  fragment_size = min room.block 4294967295;
}

-- the room that is told in a second: what was told in it before, or else what the world has
abbrev pub IsRoomAt : {W : Type 0} → (W → Room → Type 0) → W → ℕ → Option Told → Room → Type 0
IsRoomAt HasRoom core second (Some told) room =
    MatchBool (told.second == second) (room ≡ told.room) (HasRoom core room)
IsRoomAt HasRoom core second None room = HasRoom core room

-- tell how much room there is, counted once a second at most
pub record Statfs {W : Type 0} (HasRoom : W → Room → Type 0) (core : W) (side : Side)
    (now : Time) (outcome : Outcome) (new_core : W) (new_side : Side) : Type 0 where
  -- the room that is told
  pub room : Room
  -- it is that of this second
  pub is_at : IsRoomAt HasRoom core now.seconds side.told room
  pub told : outcome ≡ outcomes.Space (space_of room)
  -- it is kept for this second, and nothing else changes
  pub kept : new_side ≡ record side { told = Some (record { second = now.seconds; room = room }) }
  pub same : new_core ≡ core

-- ---- the cleaning of logs

-- the log of an inode that was changed often is cleaned once; whether the world refuses it is left
abbrev pub cleaned : Side → Option ℕ → Dialogue (Unit {0} × Side)
cleaned side None = Ends (Ok (tt, side))
cleaned side (Some ino) =
    Asks (calls.SnapshotOrCleaner (cleaner.Auto ino))
    (λ answer. Ends (Ok (tt, record side { due = None })))

-- clean what is due
abbrev pub clean : Side → Dialogue (Unit {0} × Side)
clean side = cleaned side side.due
