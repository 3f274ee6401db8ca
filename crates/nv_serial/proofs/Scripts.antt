-- Scripts of whole calls, made one at a time on a world with numbers, and what is seen of it.
use Rattle.std.proofs.Common.{ℕ, List, [], ◌∷◌, map}
use Rattle.nv_base.specs.declared.numbers.Handle.{Handle}
use Rattle.nv_base.specs.declared.node.Kind.{Kind}
use Rattle.nv_base.specs.declared.node.Kind.TheVariants as kind
use Rattle.nv_calls.specs.declared.answer.Answer.TheVariants as answer
use Rattle.nv_calls.specs.declared.call.Call.{Call}
use Rattle.nv_calls.specs.declared.call.Call.TheVariants as call
use Rattle.nv_calls.specs.declared.snapshot_or_cleaner_call.SnapshotOrCleanerCall.{SnapshotOrCleanerCall}
use Rattle.nv_calls.specs.declared.snapshot_or_cleaner_call.SnapshotOrCleanerCall.TheVariants as on
use Rattle.nv_cell.specs.declared.tally.LogPageCounts.{LogPageCounts}
use Rattle.nv_entry.specs.declared.tree.TreeNode.{TreeNode}
use Rattle.nv_machine.specs.World.{Done, Reply}
use Rattle.nv_serial.specs.OneCall.{serial_call}
use Rattle.nv_serial.specs.Reports.{chain_count, data_count, entry_count, free_count, gain_by, held_by, log_told, pending_count}
use Rattle.nv_serial.specs.Serial.{Outcome, Serial, living}

-- ---- scripts

pub record Line : Type 0 where
  pub actor : ℕ
  pub call : Call

abbrev pub by : ℕ → Call → Line
by actor c = record { actor = actor; call = c }

abbrev pub line : Serial → Line → Outcome
line s l = serial_call s l.actor l.call

abbrev pub play : Serial → List Line → List Reply
play s [] = []
play s (l ∷ lines) = (line s l).reply ∷ play (line s l).world lines

abbrev pub played : Serial → List Line → Serial
played s [] = s
played s (l ∷ lines) = played (line s l).world lines

-- ---- what is seen

-- blocks that are free, in chains, data and pending
abbrev pub space : Serial → List ℕ
space s = free_count s ∷ chain_count s ∷ data_count s ∷ pending_count s ∷ []

-- the entries of a slot, and of each page how many are live and how many are valid
abbrev pub log : Serial → ℕ → ℕ × List (List ℕ)
log s ino = (entry_count s ino, map (λ (p : LogPageCounts). p.live ∷ p.valid ∷ []) (log_told s ino))

-- the epoch and the last commit; and of each living snapshot its number, the blocks that it holds, and those that its drop
-- would defer
abbrev pub snaps : Serial → List (List ℕ)
snaps s =
    (s.plain.epoch ∷ s.plain.commit ∷ []) ∷ map (λ snapshot. snapshot ∷ held_by s snapshot ∷ gain_by s snapshot ∷ []) (living s)

-- a node of a tree: its path, its kind and mode, and its bytes
abbrev pub Shown : Type 0
Shown = List (List ℕ) × (Kind × (ℕ × List ℕ))

abbrev pub shown : TreeNode → Shown
shown n = (n.path, (n.node.kind, (n.node.mode, n.node.bytes)))

abbrev pub dir_shown : List (List ℕ) → Shown
dir_shown path = (path, (kind.Dir, (493, [])))

abbrev pub root_shown : Shown
root_shown = dir_shown []

abbrev pub file_shown : List (List ℕ) → List ℕ → Shown
file_shown path bytes = (path, (kind.File, (420, bytes)))

-- the nodes of a tree that is replied
abbrev pub told : Reply → List Shown
told (Done (answer.Tree nodes)) = map shown nodes
told reply = []

-- ---- replies that most scripts have

abbrev pub made_as : ℕ → ℕ → Reply
made_as ino generation = Done (answer.Made (record { ino = ino; generation = generation }))

abbrev pub counted : ℕ → Reply
counted count = Done (answer.Count count)

abbrev pub snapped : ℕ → Reply
snapped snapshot = Done (answer.Snapshot snapshot)

abbrev pub nothing : Reply
nothing = Done answer.Nothing

-- ---- lines that most scripts have

abbrev pub handle : ℕ → ℕ → Handle
handle ino generation = record { ino = ino; generation = generation }

abbrev pub maintain : SnapshotOrCleanerCall → Line
maintain what = by 0 (call.SnapshotOrCleaner what)

-- a file in the root
abbrev pub create : List ℕ → Line
create name = by 0 (call.Create (handle 0 1) name 420)

-- bytes into the first file
abbrev pub write : ℕ → List ℕ → Line
write offset text = by 0 (call.Write (handle 1 1) offset text)

abbrev pub read : ℕ → ℕ → Line
read offset count = by 0 (call.Read (handle 1 1) offset count)

-- a name of the root
abbrev pub unlink : List ℕ → Line
unlink name = by 0 (call.Unlink (handle 0 1) name)

abbrev pub show : ℕ → Line
show snapshot = maintain (on.Show snapshot)
