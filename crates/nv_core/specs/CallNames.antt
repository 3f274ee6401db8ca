-- Calls by name.
use Rattle.std.specs.Prelude.{◌≡◌}
use Rattle.nv_calls.specs.declared.call.Call.{Call}
use Rattle.nv_calls.specs.declared.call.Call.TheVariants as call
use Rattle.nv_calls.specs.declared.snapshot_or_cleaner_call.SnapshotOrCleanerCall.{SnapshotOrCleanerCall}
use Rattle.nv_calls.specs.declared.snapshot_or_cleaner_call.SnapshotOrCleanerCall.TheVariants as on_call
use Rattle.nv_core.specs.declared.call_name.CallName.{CallName}
use Rattle.nv_core.specs.declared.call_name.CallName.TheVariants as name
use Rattle.nv_core.specs.declared.request.PendingAnswer.{PendingAnswer}
use Rattle.nv_core.specs.declared.request.PendingAnswer.TheVariants as owed

-- the name of a call on snapshots, or of a cleaner
abbrev pub name_on : SnapshotOrCleanerCall → CallName
name_on on_call.Snap = name.Snap
name_on (on_call.Drop snapshot) = name.Drop
name_on (on_call.Show snapshot) = name.Show
name_on (on_call.Drain most) = name.Drain
name_on (on_call.Fast ino) = name.Fast
name_on (on_call.Thorough ino) = name.Thorough
name_on (on_call.Auto ino) = name.Auto

-- the name of a call
abbrev pub call_name : Call → CallName
call_name (call.Create dir bytes mode) = name.Create
call_name (call.Mkdir dir bytes mode) = name.Mkdir
call_name (call.Write file offset text) = name.Write
call_name (call.Read file offset count) = name.Read
call_name (call.Size file size) = name.Size
call_name (call.Mode handle mode) = name.Mode
call_name (call.Stat handle) = name.Stat
call_name (call.List dir) = name.List
call_name (call.Lookup dir bytes) = name.Lookup
call_name (call.Unlink dir bytes) = name.Unlink
call_name (call.Rmdir dir bytes) = name.Rmdir
call_name (call.Rename from old to new) = name.Rename
call_name (call.SnapshotOrCleaner on) = name_on on

-- the name that what is owed to a call keeps; what is counted are the bytes of a write
abbrev pub name_owed : PendingAnswer → CallName
name_owed (owed.Made by) = by
name_owed (owed.Count count) = name.Write
name_owed (owed.Nothing by) = by

-- what is owed has the name of this call
abbrev pub IsNamed : PendingAnswer → Call → Type 0
IsNamed owed c = name_owed owed ≡ call_name c
