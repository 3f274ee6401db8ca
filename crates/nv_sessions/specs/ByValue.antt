-- What a call that is given as a value leaves of a session.
use Rattle.std.specs.Prelude.{◌≡◌, ◌≤◌, ℕ, ◌+◌, Bool, List, length, max, min}
use Rattle.nv_entry.specs.declared.tree.TreeNode.{TreeNode}
use Rattle.nv_base.specs.declared.limits.TheConstants.{DRAIN}
use Rattle.nv_calls.specs.declared.answer.Answer.TheVariants as answer
use Rattle.nv_calls.specs.declared.call.Call.{Call}
use Rattle.nv_calls.specs.declared.call.Call.TheVariants as call
use Rattle.nv_calls.specs.declared.snapshot_or_cleaner_call.SnapshotOrCleanerCall.{SnapshotOrCleanerCall}
use Rattle.nv_calls.specs.declared.snapshot_or_cleaner_call.SnapshotOrCleanerCall.TheVariants as snapshot_or_cleaner
use Rattle.nv_calls.specs.declared.update.Update.TheVariants as update
use Rattle.nv_sessions.specs.Sessions.{HeldValue, IsChangedBy, IsCommittedBy, IsViewedBy, SessionValue, with_held}
use Rattle.nv_sessions.specs.declared.seen.Seen.{Seen}
use Rattle.nv_sessions.specs.declared.seen.Seen.TheVariants.{Other}

-- what a cleaner answers: how many entries and pages the log lost
abbrev pub HasCleaned : Seen → Type 0
HasCleaned seen = (thorough : Bool) × (entries pages : ℕ) × (seen ≡ Other (answer.Cleaned thorough entries pages))

-- an answer of the kind that a call on snapshots or of a cleaner has, which is neither a commit nor a view
abbrev pub IsAnswerTo : SnapshotOrCleanerCall → Seen → Type 0
IsAnswerTo snapshot_or_cleaner.Snap seen = (s : ℕ) × (seen ≡ Other (answer.Snapshot s))
IsAnswerTo (snapshot_or_cleaner.Drop snapshot) seen = seen ≡ Other answer.Nothing
IsAnswerTo (snapshot_or_cleaner.Show snapshot) seen = (tree : List TreeNode) × (seen ≡ Other (answer.Tree tree))
IsAnswerTo (snapshot_or_cleaner.Drain number) seen = (n : ℕ) × (n ≤ max 1 (min number DRAIN)) × (seen ≡ Other (answer.Count n))
IsAnswerTo (snapshot_or_cleaner.Fast ino) seen = HasCleaned seen
IsAnswerTo (snapshot_or_cleaner.Thorough ino) seen = HasCleaned seen
IsAnswerTo (snapshot_or_cleaner.Auto ino) seen = HasCleaned seen

-- a making or a drop counts as one of the session's
abbrev pub once_snapped : SessionValue → SessionValue
once_snapped before = record before { snapped = before.snapped + 1 }

-- what a call on snapshots or of a cleaner leaves of a session, whose hand holds that at its end;
-- a call on snapshots other than a drain has no hand
abbrev pub after_snapshot_or_cleaner : SnapshotOrCleanerCall → HeldValue → SessionValue → SessionValue
after_snapshot_or_cleaner snapshot_or_cleaner.Snap held before = once_snapped before
after_snapshot_or_cleaner (snapshot_or_cleaner.Drop snapshot) held before = once_snapped before
after_snapshot_or_cleaner (snapshot_or_cleaner.Show snapshot) held before = before
after_snapshot_or_cleaner cleaner held before = with_held held before

-- a call that is given as a value leaves of a session what the method of its name leaves
abbrev pub IsMadeAs : ℕ → List ℕ → SessionValue → SessionValue → Call → Seen → Type 0
IsMadeAs opening opened before after (call.Create dir name mode) seen =
    IsCommittedBy opening before after (update.Create dir name mode) seen
IsMadeAs opening opened before after (call.Mkdir dir name mode) seen =
    IsCommittedBy opening before after (update.Mkdir dir name mode) seen
IsMadeAs opening opened before after (call.Write file offset text) seen =
    IsChangedBy opening before after (update.Write file offset (length text)) seen
IsMadeAs opening opened before after (call.Size file size) seen =
    IsCommittedBy opening before after (update.Size file size) seen
IsMadeAs opening opened before after (call.Mode handle mode) seen =
    IsCommittedBy opening before after (update.Mode handle mode) seen
IsMadeAs opening opened before after (call.Unlink dir name) seen =
    IsCommittedBy opening before after (update.Unlink dir name) seen
IsMadeAs opening opened before after (call.Rmdir dir name) seen =
    IsCommittedBy opening before after (update.Rmdir dir name) seen
IsMadeAs opening opened before after (call.Rename from old to new) seen =
    IsChangedBy opening before after (update.Rename from old to new) seen
IsMadeAs opening opened before after (call.Read file offset count) seen =
    IsViewedBy opened before after file.ino (call.Read file offset count) seen
IsMadeAs opening opened before after (call.Stat handle) seen =
    IsViewedBy opened before after handle.ino (call.Stat handle) seen
IsMadeAs opening opened before after (call.List dir) seen =
    IsViewedBy opened before after dir.ino (call.List dir) seen
IsMadeAs opening opened before after (call.Lookup dir name) seen =
    IsViewedBy opened before after dir.ino (call.Lookup dir name) seen
IsMadeAs opening opened before after (call.SnapshotOrCleaner c) seen = (after ≡ after_snapshot_or_cleaner c after.held before) × IsAnswerTo c seen
