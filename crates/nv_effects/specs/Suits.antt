-- Which answers come to a call.
use Rattle.std.specs.Prelude.{◌≡◌, ◌≤◌, ℕ, length}
use Rattle.nv_calls.specs.declared.answer.Answer.{Answer}
use Rattle.nv_calls.specs.declared.answer.Answer.TheVariants as answers
use Rattle.nv_calls.specs.declared.call.Call.{Call}
use Rattle.nv_calls.specs.declared.call.Call.TheVariants as call
use Rattle.nv_calls.specs.declared.snapshot_or_cleaner_call.SnapshotOrCleanerCall.{SnapshotOrCleanerCall}
use Rattle.nv_calls.specs.declared.snapshot_or_cleaner_call.SnapshotOrCleanerCall.TheVariants as on

-- the answer is a handle
abbrev pub IsMade : Answer → Type 0
IsMade (answers.Made handle) = Unit {0}
IsMade other = ⊥

-- the answer counts records
abbrev pub IsCount : Answer → Type 0
IsCount (answers.Count count) = Unit {0}
IsCount other = ⊥

-- the answer says nothing
abbrev pub IsNothing : Answer → Type 0
IsNothing answers.Nothing = Unit {0}
IsNothing other = ⊥

-- the answer has at most so many bytes
abbrev pub IsBytes : ℕ → Answer → Type 0
IsBytes count (answers.Bytes bytes) = length bytes ≤ count
IsBytes count other = ⊥

-- the answer tells of a node
abbrev pub IsStat : Answer → Type 0
IsStat (answers.Stat kind mode size commit) = Unit {0}
IsStat other = ⊥

-- the answer lists names
abbrev pub IsNames : Answer → Type 0
IsNames (answers.Names names) = Unit {0}
IsNames other = ⊥

-- the answer is the number of a snapshot
abbrev pub IsSnapshot : Answer → Type 0
IsSnapshot (answers.Snapshot snapshot) = Unit {0}
IsSnapshot other = ⊥

-- the answer is a tree
abbrev pub IsTree : Answer → Type 0
IsTree (answers.Tree tree) = Unit {0}
IsTree other = ⊥

-- the answer tells what a cleaner took out
abbrev pub IsCleaned : Answer → Type 0
IsCleaned (answers.Cleaned thorough entries pages) = Unit {0}
IsCleaned other = ⊥

-- which answers come to a call on snapshots, or to a cleaner
abbrev pub SuitsOn : SnapshotOrCleanerCall → Answer → Type 0
SuitsOn on.Snap a = IsSnapshot a
SuitsOn (on.Drop snapshot) a = IsNothing a
SuitsOn (on.Show snapshot) a = IsTree a
SuitsOn (on.Drain count) a = IsCount a
SuitsOn (on.Fast ino) a = IsCleaned a
SuitsOn (on.Thorough ino) a = IsCleaned a
SuitsOn (on.Auto ino) a = IsCleaned a

-- an answer suits a call: no other kind of answer comes to it
abbrev pub Suits : Call → Answer → Type 0
Suits (call.Create dir name mode) a = IsMade a
Suits (call.Mkdir dir name mode) a = IsMade a
Suits (call.Write file offset text) a = a ≡ answers.Count (length text)
Suits (call.Read file offset count) a = IsBytes count a
Suits (call.Size file size) a = IsNothing a
Suits (call.Mode handle mode) a = IsNothing a
Suits (call.Stat handle) a = IsStat a
Suits (call.List dir) a = IsNames a
Suits (call.Lookup dir name) a = IsMade a
Suits (call.Unlink dir name) a = IsNothing a
Suits (call.Rmdir dir name) a = IsNothing a
Suits (call.Rename from old to new) a = IsNothing a
Suits (call.SnapshotOrCleaner what) a = SuitsOn what a
