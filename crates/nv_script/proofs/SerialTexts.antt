-- What a script of whole calls writes, by the serial player: a function of its lines, which computes.
use Rattle.std.proofs.Common.{◌++◌, ℕ, List, [], ◌∷◌, codes, length, nat_lt, Option, Some, None}
use Rattle.std.specs.Prelude.{if◌then◌else◌, Ok, Err}
use Rattle.nv_base.specs.declared.fault.Fault.TheVariants as fault
use Rattle.nv_base.specs.declared.geometry.GeometryNumbers.{GeometryNumbers}
use Rattle.nv_entry.specs.declared.tree.TreeNode.{TreeNode}
use Rattle.nv_serial.specs.OneCall.{serial_call}
use Rattle.nv_serial.specs.Serial.{Serial, new_serial}
use Rattle.nv_serial.specs.Stopped.{serial_stopped}
use Rattle.nv_script.specs.declared.command.Command.{Command}
use Rattle.nv_script.specs.declared.command.Command.TheVariants as command
use Rattle.nv_script.specs.Grammar.{Parsed, command_of, format_of}
use Rattle.nv_script.specs.SerialPlayer.{serial_log, serial_nodes, serial_reports, serial_snaps, serial_space}
use Rattle.nv_script.specs.Texts.{line_of, lists_lines, log_line, refused_line, reply_line, snaps_lines, space_line, tree_lines}
use Rattle.nv_script.specs.Words.{words_of}

abbrev tree_text : Option (List TreeNode) → List ℕ
tree_text (Some nodes) = tree_lines nodes
tree_text None = refused_line fault.NoSnapshot

abbrev pub report_text : Serial → Command → List ℕ
report_text s command.Tree = tree_text (serial_nodes s None)
report_text s (command.SnapTree snapshot) = tree_text (serial_nodes s (Some snapshot))
report_text s command.Snaps = snaps_lines (serial_snaps s)
report_text s command.Space = space_line (serial_space s)
report_text s command.Lists = lists_lines ((serial_reports s).lists)
report_text s (command.Log ino) = if nat_lt ino (length s.slots) then log_line ino (serial_log s ino) else refused_line fault.Stale
report_text s command.Audit = line_of (codes "audit ok")
report_text s other = []

-- what a line writes, and the world after it
abbrev pub text_by : Serial → Parsed Command → List ℕ
text_by s (Ok (command.Do actor c)) = reply_line ((serial_call s actor c).reply)
text_by s (Ok command.Stop) = line_of (codes "stopped")
text_by s (Ok report) = report_text s report
text_by s (Err fault) = []

abbrev pub world_by : Serial → Parsed Command → Serial
world_by s (Ok (command.Do actor c)) = (serial_call s actor c).world
world_by s (Ok command.Stop) = serial_stopped s
world_by s (Ok report) = s
world_by s (Err fault) = s

abbrev pub writes : Serial → List (List ℕ) → List ℕ
writes s [] = []
writes s (line ∷ lines) = text_by s (command_of (words_of line)) ++ writes (world_by s (command_of (words_of line))) lines

-- a script begins with its format
abbrev pub made_by : Parsed GeometryNumbers → List (List ℕ) → List ℕ
made_by (Ok numbers) lines = line_of (codes "formatted") ++ writes (new_serial numbers) lines
made_by (Err fault) lines = []

abbrev pub script : List (List ℕ) → List ℕ
script [] = []
script (line ∷ lines) = made_by (format_of (words_of line)) lines
