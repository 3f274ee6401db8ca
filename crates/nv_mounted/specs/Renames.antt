-- Names that move.
use Rattle.std.specs.Prelude.{ℕ, ◌==◌, ◌&&◌, Bool, true, false, if◌then◌else◌, nat_lt, not, List, Option, Some, None, Result, Ok, Err}
use Rattle.nv_base.specs.declared.fault.Fault.{Fault}
use Rattle.nv_base.specs.declared.fault.Fault.TheVariants as faults
use Rattle.nv_base.specs.declared.node.Kind.{Kind}
use Rattle.nv_base.specs.declared.node.Kind.TheVariants as kinds
use Rattle.nv_base.specs.declared.numbers.Handle.{Handle}
use Rattle.nv_calls.specs.Plain.{same_handle}
use Rattle.nv_calls.specs.declared.answer.Answer.{Answer}
use Rattle.nv_calls.specs.declared.answer.Answer.TheVariants as answers
use Rattle.nv_calls.specs.declared.call.Call.{Call}
use Rattle.nv_calls.specs.declared.call.Call.TheVariants as calls
use Rattle.nv_fuse.specs.declared.errno.Errno.TheVariants as errno
use Rattle.nv_mount_answers.specs.declared.kept.Time.{Time}
use Rattle.nv_mount_beside.specs.Beside.{renamed}
use Rattle.nv_mount_beside.specs.Names.{errno_told, free_name, node_named, refused}
use Rattle.nv_mount_beside.specs.declared.outcome.Outcome.{Outcome}
use Rattle.nv_mount_beside.specs.declared.outcome.Outcome.TheVariants as outcomes
use Rattle.nv_mount_beside.specs.declared.refusal.Refusal.{Refusal}
use Rattle.nv_mount_beside.specs.declared.refusal.Refusal.TheVariants as refusals
use Rattle.nv_mounted.specs.Asks.{ask, ask_done, ask_handle, ask_shape, faulted, other_kind}
use Rattle.nv_mounted.specs.Dialogues.{Asks, Dialogue, Ends, Grows, ◌>>=◌}
use Rattle.nv_mounted.specs.Side.{at_node, put_node, touched}
use Rattle.nv_mounted.specs.Talks.{hidden_name_for, hidden_now}
use Rattle.nv_mounted.specs.declared.rename.Moves.{Moves}
use Rattle.nv_mounted.specs.declared.rename.Way.{Way}
use Rattle.nv_mounted.specs.declared.rename.Way.TheVariants as ways
use Rattle.nv_mounted.specs.declared.side.Side.{Side}

-- ---- what stands at the new name

-- the node that a look-up tells, or that there is none
abbrev pub there_told : Result Answer Fault → Result (Option Handle) Refusal
there_told (Ok (answers.Made handle)) = Ok (Some handle)
there_told (Ok other) = other_kind
there_told (Err faults.Missing) = Ok None
there_told (Err fault) = faulted fault

-- a node of the first kind moves over one of the second: an empty directory goes first, and an open
-- file is hidden
abbrev pub way_over : Side → Handle → Kind → Kind → Result Way Refusal
way_over side there kinds.File kinds.Dir = refused errno.IsDirectory
way_over side there kinds.Dir kinds.File = refused errno.NotDirectory
way_over side there kinds.Dir kinds.Dir = Ok ways.Directory
way_over side there kinds.File kinds.File =
    if nat_lt 0 (at_node side there).opens then Ok (ways.Open there) else Ok ways.Free

-- flag 1 lets nothing stand at the new name, and a node that moves to itself stays
abbrev pub way_past : Side → Handle → Kind → ℕ → Option Handle → Dialogue Way
way_past side moved kind flags None = Ends (Ok ways.Free)
way_past side moved kind flags (Some there) =
    if flags == 1 then Ends (refused errno.Exists)
    else if same_handle there moved then Ends (Ok ways.Same)
    else ask_shape there >>= λ other. Ends (way_over side there kind other.kind)

abbrev pub is_directory : Kind → Bool
is_directory kind = elim kind [ kinds.File ↦ false | kinds.Dir ↦ true ]

-- a directory moves to another one
abbrev pub leaves_directory : Kind → Handle → Handle → Bool
leaves_directory kind from to = is_directory kind && not (same_handle from to)

-- what stands in the way of a node that moves, to which no directory leaves its own
abbrev pub ask_way : Side → Handle → Handle → Handle → List ℕ → ℕ → Dialogue Way
ask_way side moved from to new flags =
    ask_shape moved >>= λ shape.
    if leaves_directory shape.kind from to then Ends (refused errno.CrossDevice)
    else ask (calls.Lookup to new) there_told >>= λ there.
    way_past side moved shape.kind flags there

-- ---- the moves

-- a move where nothing is in the way, or a file that is not open
abbrev pub move_name : Handle → List ℕ → Handle → List ℕ → Dialogue (Unit {0})
move_name from old to new = Grows (ask_done (calls.Rename from old to new))

-- a directory moves over an empty one, which goes first
abbrev pub move_over_directory : Handle → List ℕ → Handle → List ℕ → Dialogue (Unit {0})
move_over_directory from old to new =
    Grows (ask_done (calls.Rmdir to new)) >>= λ gone. ask_done (calls.Rename from old to new)

-- a node that has moved at a time
abbrev pub moved_now : Time → Handle → Side → Side
moved_now now moved side = put_node moved (renamed now (at_node side moved)) side

-- after a refused move the file at the new name is back, or has stayed hidden
abbrev pub back_or_hidden : Side → Time → Handle → Fault → Result Answer Fault
    → Dialogue (Outcome × Side)
back_or_hidden side now there fault (Ok answer) = Ends (faulted fault)
back_or_hidden side now there fault (Err other) =
    Ends (Ok (outcomes.Refused (errno_told (refusals.Fault fault)), hidden_now now there side))

-- the file at the new name is moved back
abbrev pub taken_back : Side → Time → Handle → Call → Fault → Dialogue (Outcome × Side)
taken_back side now there back fault = Asks back (back_or_hidden side now there fault)

-- where the second move is refused, the first is taken back
abbrev pub moved_or_back : Side → Time → Handle → Handle → Call → Result Answer Fault
    → Dialogue (Outcome × Side)
moved_or_back side now moved there back (Ok answer) =
    Ends (Ok (outcomes.Done, moved_now now moved (hidden_now now there side)))
moved_or_back side now moved there back (Err fault) = taken_back side now there back fault

abbrev pub move_or_take_back : Side → Time → Handle → Handle → Call → Call
    → Dialogue (Outcome × Side)
move_or_take_back side now moved there over back =
    Asks over (moved_or_back side now moved there back)

-- The moves of a file over an open one: that goes among the hidden ones, the other goes to its
-- name, and if need be the first comes back.
abbrev pub moves_over : Handle → List ℕ → Handle → List ℕ → Handle → List ℕ → Moves
moves_over hidden_dir hidden from old to new = record {
  away = calls.Rename to new hidden_dir hidden;
  over = calls.Rename from old to new;
  back = calls.Rename hidden_dir hidden to new;
}

-- a file moves over an open one
abbrev pub move_over_open : Side → Time → Handle → Handle → List ℕ → Handle → List ℕ → Handle
    → Dialogue (Outcome × Side)
move_over_open side now moved from old to new there =
    Grows (Ends (hidden_name_for there)) >>= λ hidden.
    let moves = moves_over side.hidden hidden from old to new in
    ask_done moves.away >>= λ gone.
    move_or_take_back side now moved there moves.over moves.back

-- both directories have changed
abbrev pub both_touched : Time → Handle → Handle → Side → Side
both_touched now from to side = touched now to (touched now from side)

-- so has the node that moved from one to the other
abbrev pub all_touched : Time → Handle → Handle → Handle → Side → Side
all_touched now moved from to side = moved_now now moved (both_touched now from to side)

-- each move, by which both directories and the node change
abbrev pub move_freely : Side → Time → Handle → Handle → List ℕ → Handle → List ℕ
    → Dialogue (Outcome × Side)
move_freely side now moved from old to new =
    move_name from old to new >>= λ done.
    Ends (Ok (outcomes.Done, all_touched now moved from to side))

abbrev pub replace_directory : Side → Time → Handle → Handle → List ℕ → Handle → List ℕ
    → Dialogue (Outcome × Side)
replace_directory side now moved from old to new =
    move_over_directory from old to new >>= λ done.
    Ends (Ok (outcomes.Done, all_touched now moved from to side))

abbrev pub replace_open : Side → Time → Handle → Handle → List ℕ → Handle → List ℕ → Handle
    → Dialogue (Outcome × Side)
replace_open side now moved from old to new there =
    move_over_open side now moved from old to new there >>= λ done.
    Ends (Ok (done.0, both_touched now from to done.1))

-- the move on each way; where both names are of one node, nothing is done
abbrev pub moved_by : Side → Time → Handle → Handle → List ℕ → Handle → List ℕ → Way
    → Dialogue (Outcome × Side)
moved_by side now moved from old to new ways.Same = Ends (Ok (outcomes.Done, side))
moved_by side now moved from old to new ways.Free = move_freely side now moved from old to new
moved_by side now moved from old to new ways.Directory =
    replace_directory side now moved from old to new
moved_by side now moved from old to new (ways.Open there) =
    replace_open side now moved from old to new there

-- give a node another name; of the flags only 1 is known
abbrev pub rename : Side → Time → ℕ → List ℕ → ℕ → List ℕ → ℕ → Dialogue (Outcome × Side)
rename side now from old to new flags =
    Ends (node_named from) >>= λ source.
    Ends (node_named to) >>= λ target.
    if nat_lt 1 flags then Ends (refused errno.Invalid)
    else Grows (Ends (free_name source old)) >>= λ old_name.
    Grows (Ends (free_name target new)) >>= λ new_name.
    ask_handle (calls.Lookup source old_name) >>= λ moved.
    ask_way side moved source target new_name flags >>= λ way.
    moved_by side now moved source old_name target new_name way
