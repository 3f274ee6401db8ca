-- The texts of replies and reports.
use Rattle.std.specs.Prelude.{ℕ, ◌+◌, ◌==◌, Bool, true, false, if◌then◌else◌, List, [], ◌∷◌, ◌++◌, length, codes, decimal}
use Rattle.std.specs.List.{flat_map}
use Rattle.nv_base.specs.Texts.{fault_text}
use Rattle.nv_base.specs.declared.fault.Fault.{Fault}
use Rattle.nv_base.specs.declared.node.Kind.{Kind}
use Rattle.nv_base.specs.declared.node.Kind.TheVariants.{File, Dir}
use Rattle.nv_base.specs.declared.numbers.Handle.{Handle}
use Rattle.nv_alloc.specs.declared.runs.FreeRun.{FreeRun}
use Rattle.nv_calls.specs.declared.answer.Answer.{Answer}
use Rattle.nv_calls.specs.declared.answer.Answer.TheVariants as answer
use Rattle.nv_cell.specs.declared.tally.LogPageCounts.{LogPageCounts}
use Rattle.nv_entry.specs.declared.names.BoundName.{BoundName}
use Rattle.nv_machine.specs.World.{Done, Moved, Refused, Reply, Started, Waiting}
use Rattle.nv_core.specs.declared.reports.LogCounts.{LogCounts}
use Rattle.nv_core.specs.declared.reports.Space.{Space}
use Rattle.nv_core.specs.declared.snaps.SnapCounts.{SnapCounts}
use Rattle.nv_core.specs.declared.snaps.Snaps.{Snaps}
use Rattle.nv_entry.specs.declared.tree.TreeNode.{TreeNode}
use Rattle.nv_restart.specs.Happenings.{Replied, Stopped, Told}
use Rattle.nv_script.specs.Words.{escaped}

-- a text and its line end
abbrev pub line_of : List ℕ → List ℕ
line_of text = text ++ codes "\n"

-- the line of a refusal
abbrev pub refused_line : Fault → List ℕ
refused_line fault = line_of (codes "refused " ++ fault_text fault)

-- how many bytes there are, and the bytes, if there are any
abbrev pub counted_bytes : List ℕ → List ℕ
counted_bytes [] = codes "0"
counted_bytes (byte ∷ bytes) = decimal (length (byte ∷ bytes)) ++ codes " " ++ escaped (byte ∷ bytes)

-- the text of a handle
abbrev pub handle_text : Handle → List ℕ
handle_text handle = decimal handle.ino ++ codes "." ++ decimal handle.generation

-- a file's letter, or a directory's
abbrev pub letter : Kind → List ℕ
letter File = codes "f"
letter Dir = codes "d"

-- a bound name, on a line of its own behind what stands before
abbrev pub bound_text : BoundName → List ℕ
bound_text bound = codes "\n" ++ escaped bound.name ++ codes " " ++ handle_text bound.to

-- each name behind a `/`
abbrev pub names_text : List (List ℕ) → List ℕ
names_text names = flat_map (λ name. codes "/" ++ escaped name) names

-- the root is `/`
abbrev pub path_text : List (List ℕ) → List ℕ
path_text [] = codes "/"
path_text (name ∷ names) = names_text (name ∷ names)

-- a file's letter, mode and bytes, or a directory's letter and mode
abbrev pub kind_text : Kind → ℕ → List ℕ → List ℕ
kind_text File mode bytes = codes "f " ++ decimal mode ++ codes " " ++ counted_bytes bytes
kind_text Dir mode bytes = codes "d " ++ decimal mode

-- the line of a node in a tree
abbrev pub node_line : TreeNode → List ℕ
node_line node = line_of (path_text node.path ++ codes " " ++ kind_text node.node.kind node.node.mode node.node.bytes)

-- the lines of a tree
abbrev pub tree_lines : List TreeNode → List ℕ
tree_lines nodes = flat_map node_line nodes ++ line_of (codes "end")

-- the name of a cleaning
abbrev pub cleaning_name : Bool → List ℕ
cleaning_name true = codes "thorough"
cleaning_name false = codes "fast"

-- the text of what a cleaner is answered
abbrev pub cleaned_text : Bool → (entries pages : ℕ) → List ℕ
cleaned_text thorough entries pages = (codes " " ++ cleaning_name thorough ++ codes " ") ++ decimal entries ++ codes " " ++ decimal pages

-- what an answer shows behind the word `done`. Example: an answer of three bytes 0, `a`, space is
-- `done 3 %00a%20`. Of no bytes it is `done 0`.
abbrev pub answer_text : Answer → List ℕ
answer_text (answer.Made handle) = codes " " ++ handle_text handle
answer_text (answer.Count count) = codes " " ++ decimal count
answer_text answer.Nothing = []
answer_text (answer.Bytes bytes) = codes " " ++ counted_bytes bytes
answer_text (answer.Stat kind mode size commit) =
    codes " " ++ letter kind ++ codes " " ++ decimal mode ++ codes " " ++ decimal size ++ codes " " ++ decimal commit
answer_text (answer.Names names) = codes " " ++ decimal (length names) ++ flat_map bound_text names
answer_text (answer.Snapshot s) = codes " " ++ decimal s
answer_text (answer.Tree nodes) = codes "\n" ++ flat_map node_line nodes ++ codes "end"
answer_text (answer.Cleaned thorough entries pages) = cleaned_text thorough entries pages

-- the line of a reply
abbrev pub reply_line : Reply → List ℕ
reply_line Started = line_of (codes "started")
reply_line Moved = line_of (codes "moved")
reply_line Waiting = line_of (codes "waits")
reply_line (Done answer) = line_of (codes "done" ++ answer_text answer)
reply_line (Refused fault) = refused_line fault

-- the line of what a happening is told
abbrev pub told_line : Told → List ℕ
told_line (Replied reply) = reply_line reply
told_line Stopped = line_of (codes "stopped")

-- the line of a living snapshot: the blocks that it holds, those that a drop defers, and its pins
abbrev pub snap_line : SnapCounts → List ℕ
snap_line snap =
    line_of (codes "snap " ++ decimal snap.snapshot ++ codes " held " ++ decimal snap.held ++ codes " gain " ++ decimal snap.gain
    ++ codes " pins " ++ decimal snap.pins)

-- the lines of `snaps`: how many snapshots live, epoch and last commit, and a line for each
abbrev pub snaps_lines : Snaps → List ℕ
snaps_lines snaps =
    line_of (codes "snaps " ++ decimal (length snaps.living) ++ codes " epoch " ++ decimal snaps.epoch ++ codes " commit "
    ++ decimal snaps.commit)
    ++ flat_map snap_line snaps.living

-- where the blocks are
abbrev pub space_line : Space → List ℕ
space_line space =
    line_of (codes "free " ++ decimal space.free ++ codes " chain " ++ decimal space.chain ++ codes " data " ++ decimal space.«data»
    ++ codes " pending " ++ decimal space.pending ++ codes " hand " ++ decimal space.hand)

-- a run of free blocks by its ends, or one block by its number
abbrev pub run_text : FreeRun → List ℕ
run_text run = codes " " ++ (if run.first == run.last then decimal run.first else decimal run.first ++ codes "-" ++ decimal run.last)

-- the text of a CPU's free runs
abbrev pub runs_text : List FreeRun → List ℕ
runs_text [] = codes " -"
runs_text (run ∷ runs) = flat_map run_text (run ∷ runs)

-- the free lists of the CPUs from one on
abbrev pub lists_from : ℕ → List (List FreeRun) → List ℕ
lists_from cpu [] = []
lists_from cpu (runs ∷ lists) = line_of (codes "cpu " ++ decimal cpu ++ runs_text runs) ++ lists_from (cpu + 1) lists

-- the lines of `lists`
abbrev pub lists_lines : List (List FreeRun) → List ℕ
lists_lines lists = lists_from 0 lists

-- the text of a log page's counts
abbrev pub counts_text : LogPageCounts → List ℕ
counts_text counts = codes " " ++ decimal counts.live ++ codes ":" ++ decimal counts.valid

-- the log of a slot: entries and pages, and the counts of each page
abbrev pub log_line : ℕ → LogCounts → List ℕ
log_line ino log = line_of (codes "log " ++ decimal ino ++ codes " " ++ decimal log.entries ++ codes " " ++ decimal (length log.pages)
    ++ flat_map counts_text log.pages)
