-- The bytes of a record: a tag, and its fields.
use Rattle.std.specs.Prelude.{ℕ, List, [], ◌∷◌, ◌++◌}
use Rattle.nv_calls.specs.declared.call.Call.{Call}
use Rattle.nv_calls.specs.declared.call.Call.TheVariants as call
use Rattle.nv_calls.specs.declared.snapshot_or_cleaner_call.SnapshotOrCleanerCall.{SnapshotOrCleanerCall}
use Rattle.nv_calls.specs.declared.snapshot_or_cleaner_call.SnapshotOrCleanerCall.TheVariants as on
use Rattle.nv_records.specs.declared.record.Record.{Record}
use Rattle.nv_records.specs.declared.record.Record.TheVariants as kept
use Rattle.nv_records.specs.Fields.{IsHandle, IsMode, IsNumber, IsString, handle, number, pair, string}

abbrev pub snapshot_or_cleaner_bytes : SnapshotOrCleanerCall → List ℕ
snapshot_or_cleaner_bytes on.Snap = 13 ∷ []
snapshot_or_cleaner_bytes (on.Drop snapshot) = 14 ∷ number snapshot
snapshot_or_cleaner_bytes (on.Show snapshot) = 15 ∷ number snapshot
snapshot_or_cleaner_bytes (on.Drain count) = 16 ∷ number count
snapshot_or_cleaner_bytes (on.Fast ino) = 17 ∷ number ino
snapshot_or_cleaner_bytes (on.Thorough ino) = 18 ∷ number ino
snapshot_or_cleaner_bytes (on.Auto ino) = 19 ∷ number ino

abbrev pub call_bytes : Call → List ℕ
call_bytes (call.Create dir name mode) = 1 ∷ pair (pair handle string) number ((dir, name), mode)
call_bytes (call.Mkdir dir name mode) = 2 ∷ pair (pair handle string) number ((dir, name), mode)
call_bytes (call.Write file offset text) =
    3 ∷ pair (pair handle number) string ((file, offset), text)
call_bytes (call.Read file offset count) =
    4 ∷ pair (pair handle number) number ((file, offset), count)
call_bytes (call.Size file size) = 5 ∷ pair handle number (file, size)
call_bytes (call.Mode node mode) = 6 ∷ pair handle number (node, mode)
call_bytes (call.Stat node) = 7 ∷ handle node
call_bytes (call.List dir) = 8 ∷ handle dir
call_bytes (call.Lookup dir name) = 9 ∷ pair handle string (dir, name)
call_bytes (call.Unlink dir name) = 10 ∷ pair handle string (dir, name)
call_bytes (call.Rmdir dir name) = 11 ∷ pair handle string (dir, name)
call_bytes (call.Rename from old to new) =
    12 ∷ pair (pair handle string) (pair handle string) ((from, old), (to, new))
call_bytes (call.SnapshotOrCleaner what) = snapshot_or_cleaner_bytes what

-- THE BYTES OF A RECORD
abbrev pub bytes_of : Record → List ℕ
bytes_of (kept.Call what) = call_bytes what
bytes_of kept.Stopped = 20 ∷ []
bytes_of (kept.Note text) = 21 ∷ string text

-- ---- what a record of the code has: numbers of 64 bits, a mode within its limit

abbrev pub SnapshotOrCleanerFits : SnapshotOrCleanerCall → Type 0
SnapshotOrCleanerFits on.Snap = Unit {0}
SnapshotOrCleanerFits (on.Drop snapshot) = IsNumber snapshot
SnapshotOrCleanerFits (on.Show snapshot) = IsNumber snapshot
SnapshotOrCleanerFits (on.Drain count) = IsNumber count
SnapshotOrCleanerFits (on.Fast ino) = IsNumber ino
SnapshotOrCleanerFits (on.Thorough ino) = IsNumber ino
SnapshotOrCleanerFits (on.Auto ino) = IsNumber ino

abbrev pub CallFits : Call → Type 0
CallFits (call.Create dir name mode) = (IsHandle dir × IsString name) × IsMode mode
CallFits (call.Mkdir dir name mode) = (IsHandle dir × IsString name) × IsMode mode
CallFits (call.Write file offset text) = (IsHandle file × IsNumber offset) × IsString text
CallFits (call.Read file offset count) = (IsHandle file × IsNumber offset) × IsNumber count
CallFits (call.Size file size) = IsHandle file × IsNumber size
CallFits (call.Mode node mode) = IsHandle node × IsMode mode
CallFits (call.Stat node) = IsHandle node
CallFits (call.List dir) = IsHandle dir
CallFits (call.Lookup dir name) = IsHandle dir × IsString name
CallFits (call.Unlink dir name) = IsHandle dir × IsString name
CallFits (call.Rmdir dir name) = IsHandle dir × IsString name
CallFits (call.Rename from old to new) =
    (IsHandle from × IsString old) × (IsHandle to × IsString new)
CallFits (call.SnapshotOrCleaner what) = SnapshotOrCleanerFits what

abbrev pub Fits : Record → Type 0
Fits (kept.Call what) = CallFits what
Fits kept.Stopped = Unit {0}
Fits (kept.Note text) = IsString text
