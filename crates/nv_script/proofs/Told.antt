-- Each answer is whole lines, none of which is an echo.
use Rattle.std.proofs.Common.{◌≡◌, ◌∙◌, ℕ, ◌+◌, ◌==◌, ◌⊎◌, Bool, true, false, inl, inr, List, [], ◌∷◌, ◌++◌, length, Option, Some, None, append_assoc, append-nil, arith, refl, subst, sym}
use Rattle.std.specs.Prelude.{MatchBool, codes, decimal, if◌then◌else◌, nat_lt}
use Rattle.std.specs.List.{flat_map}
use Rattle.nv_alloc.specs.declared.runs.FreeRun.{FreeRun}
use Rattle.nv_base.specs.Limits.{first_bad_field}
use Rattle.nv_base.specs.Memory.{out_of_memory}
use Rattle.nv_base.specs.Texts.{bracketed, fault_text, field_name, image_fault_name, part_name, script_fault_name}
use Rattle.nv_base.specs.declared.fault.Fault.{Fault}
use Rattle.nv_base.specs.declared.fault.Fault.TheVariants as fault
use Rattle.nv_base.specs.declared.fault.GeometryField.{GeometryField}
use Rattle.nv_base.specs.declared.fault.GeometryField.TheVariants as field
use Rattle.nv_base.specs.declared.fault.ImageFault.{ImageFault}
use Rattle.nv_base.specs.declared.fault.ImageFault.TheVariants as image
use Rattle.nv_base.specs.declared.fault.MismatchPart.{MismatchPart}
use Rattle.nv_base.specs.declared.fault.MismatchPart.TheVariants as part
use Rattle.nv_base.specs.declared.fault.ScriptFaultKind.{ScriptFaultKind}
use Rattle.nv_base.specs.declared.fault.ScriptFaultKind.TheVariants as script
use Rattle.nv_base.specs.declared.geometry.GeometryNumbers.{GeometryNumbers}
use Rattle.nv_base.specs.declared.node.Kind.{Kind}
use Rattle.nv_base.specs.declared.node.Kind.TheVariants.{File, Dir}
use Rattle.nv_base.specs.declared.numbers.Handle.{Handle}
use Rattle.nv_calls.specs.declared.answer.Answer.{Answer}
use Rattle.nv_calls.specs.declared.answer.Answer.TheVariants as answer
use Rattle.nv_cell.specs.declared.tally.LogPageCounts.{LogPageCounts}
use Rattle.nv_core.specs.declared.reports.LogCounts.{LogCounts}
use Rattle.nv_core.specs.declared.reports.Space.{Space}
use Rattle.nv_core.specs.declared.snaps.SnapCounts.{SnapCounts}
use Rattle.nv_core.specs.declared.snaps.Snaps.{Snaps}
use Rattle.nv_entry.specs.declared.names.BoundName.{BoundName}
use Rattle.nv_entry.specs.declared.tree.TreeNode.{TreeNode}
use Rattle.nv_machine.specs.World.{Done, Moved, Refused, Reply, Started, Waiting, World}
use Rattle.nv_script.specs.declared.command.Command.{Command}
use Rattle.nv_script.specs.declared.command.Command.TheVariants as command
use Rattle.nv_script.specs.Grammar.{is_skipped}
use Rattle.nv_script.specs.Lines.{HasNoEnd}
use Rattle.nv_script.specs.Play.{Acts, Formats, ListsFront, Plays, PlaysWords, Reports, ShowsLog, ShowsTree, machine_player, nodes_at, reports_by_scan}
use Rattle.nv_script.specs.Texts.{answer_text, bound_text, cleaning_name, counted_bytes, counts_text, handle_text, kind_text, letter, line_of, lists_from, lists_lines, log_line, node_line, path_text, refused_line, reply_line, run_text, runs_text, snap_line, snaps_lines, space_line, tree_lines}
use Rattle.nv_script.specs.Words.{escaped, words_of}
use Rattle.nv_script.proofs.Answering.{IsAnswer, all_told, both_told, is_beside, line_told, neither, none_told}
use Rattle.nv_script.proofs.Lines.{HasNoEnd-append}
use Rattle.nv_script.proofs.Solid.{clean_text, decimal_solid, escaped_solid, other_event, other_line, solid_append, solid_clean, two_words, two_words_event}

-- ---- no line end stands in a part of a line

number_clean : (n : ℕ) → HasNoEnd (decimal n)
number_clean n = solid_clean (decimal n) (decimal_solid n)

escaped_clean : (bytes : List ℕ) → HasNoEnd (escaped bytes)
escaped_clean bytes = solid_clean (escaped bytes) (escaped_solid bytes)

-- a number behind a label
labelled : (a label : List ℕ) (n : ℕ) → HasNoEnd a → HasNoEnd label → HasNoEnd (a ++ label ++ decimal n)
labelled a label n first then_ =
    HasNoEnd-append (a ++ label) (decimal n) (HasNoEnd-append a label first then_) (number_clean n)

all_clean : {X : Type 0} (text : X → List ℕ) (xs : List X) → ((x : X) → HasNoEnd (text x)) → HasNoEnd (flat_map text xs)
all_clean text [] each = tt
all_clean text (x ∷ xs) each = HasNoEnd-append (text x) (flat_map text xs) (each x) (all_clean text xs each)

handle_solid : (handle : Handle) → HasNoEnd (handle_text handle)
handle_solid handle = labelled (decimal handle.ino) (codes ".") handle.generation (number_clean handle.ino) (clean_text (codes ".") refl)

bracket_clean : (text : List ℕ) → HasNoEnd text → HasNoEnd (bracketed text)
bracket_clean text clean = HasNoEnd-append (codes "(" ++ text) (codes ")")
    (HasNoEnd-append (codes "(") text (clean_text (codes "(") refl) clean) (clean_text (codes ")") refl)

field_clean : (f : GeometryField) → HasNoEnd (field_name f)
field_clean field.Blocks = clean_text (codes "blocks") refl
field_clean f = clean_text (field_name f) refl

part_clean : (p : MismatchPart) → HasNoEnd (part_name p)
part_clean part.Index = clean_text (codes "index") refl
part_clean p = clean_text (part_name p) refl

image_clean : (f : ImageFault) → HasNoEnd (image_fault_name f)
image_clean image.Geometry = clean_text (codes "geometry") refl
image_clean f = clean_text (image_fault_name f) refl

script_clean : (k : ScriptFaultKind) → HasNoEnd (script_fault_name k)
script_clean script.Lines = clean_text (codes "lines") refl
script_clean k = clean_text (script_fault_name k) refl

fault_clean : (why : Fault) → HasNoEnd (fault_text why)
fault_clean (fault.BadGeometry first) = HasNoEnd-append (codes "E2 BadGeometry") (bracketed (field_name first))
    (clean_text (codes "E2 BadGeometry") refl) (bracket_clean (field_name first) (field_clean first))
fault_clean (fault.Mismatch first) = HasNoEnd-append (codes "E24 Mismatch") (bracketed (part_name first))
    (clean_text (codes "E24 Mismatch") refl) (bracket_clean (part_name first) (part_clean first))
fault_clean (fault.BadImage first) = HasNoEnd-append (codes "E26 BadImage") (bracketed (image_fault_name first))
    (clean_text (codes "E26 BadImage") refl) (bracket_clean (image_fault_name first) (image_clean first))
fault_clean (fault.ScriptFault first line) =
    let place = decimal line ++ codes ", " ++ script_fault_name first in
    let clean : HasNoEnd place = HasNoEnd-append (decimal line ++ codes ", ") (script_fault_name first)
    (HasNoEnd-append (decimal line) (codes ", ") (number_clean line) (clean_text (codes ", ") refl)) (script_clean first) in
    HasNoEnd-append (codes "E27 ScriptFault") (bracketed place) (clean_text (codes "E27 ScriptFault") refl) (bracket_clean place clean)
fault_clean why = clean_text (fault_text why) refl

counted_clean : (bytes : List ℕ) → HasNoEnd (counted_bytes bytes)
counted_clean [] = clean_text (codes "0") refl
counted_clean (byte ∷ bytes) =
    let count = decimal (length (byte ∷ bytes)) in
    HasNoEnd-append (count ++ codes " ") (escaped (byte ∷ bytes))
    (HasNoEnd-append count (codes " ") (number_clean (length (byte ∷ bytes))) (clean_text (codes " ") refl)) (escaped_clean (byte ∷ bytes))

letter_clean : (kind : Kind) → HasNoEnd (letter kind)
letter_clean File = clean_text (codes "f") refl
letter_clean Dir = clean_text (codes "d") refl

-- ---- replies

refused_told : (why : Fault) → IsAnswer (refused_line why)
refused_told why = line_told (codes "refused " ++ fault_text why)
    (HasNoEnd-append (codes "refused ") (fault_text why) (clean_text (codes "refused ") refl) (fault_clean why)) refl

-- a text behind `done`
done_told : (text : List ℕ) → HasNoEnd text → IsAnswer (line_of (codes "done" ++ text))
done_told text clean = line_told (codes "done" ++ text) (HasNoEnd-append (codes "done") text (clean_text (codes "done") refl) clean) refl

-- a word behind a space
spaced : (text : List ℕ) → HasNoEnd text → HasNoEnd (codes " " ++ text)
spaced text clean = HasNoEnd-append (codes " ") text (clean_text (codes " ") refl) clean

-- the line of a bound name
bound_clean : (bound : BoundName) → HasNoEnd (escaped bound.name ++ codes " " ++ handle_text bound.to)
bound_clean bound = HasNoEnd-append (escaped bound.name ++ codes " ") (handle_text bound.to)
    (HasNoEnd-append (escaped bound.name) (codes " ") (escaped_clean bound.name) (clean_text (codes " ") refl)) (handle_solid bound.to)

bound_other : (bound : BoundName) → is_beside (escaped bound.name ++ codes " " ++ handle_text bound.to) ≡ false
bound_other bound =
    let to = bound.to in
    let solid = solid_append (decimal to.ino ++ codes ".") (decimal to.generation)
    (solid_append (decimal to.ino) (codes ".") (decimal_solid to.ino) (omega arith, tt)) (decimal_solid to.generation) in
    rw (append_assoc (escaped bound.name) (codes " ") (handle_text to))
    (neither (escaped bound.name ++ (codes " " ++ handle_text to))
    (two_words (escaped bound.name) (handle_text to) (escaped_solid bound.name) solid)
    (two_words_event (escaped bound.name) (handle_text to) (escaped_solid bound.name) solid))

-- names behind a line, each on a line of its own
names_told : (line : List ℕ) (names : List BoundName) → HasNoEnd line → is_beside line ≡ false
    → IsAnswer ((line ++ flat_map bound_text names) ++ 10 ∷ [])
names_told line [] clean other = subst (λ (t : List ℕ). IsAnswer (t ++ 10 ∷ [])) (sym (append-nil line)) (line_told line clean other)
names_told line (bound ∷ names) clean other =
    let own = escaped bound.name ++ codes " " ++ handle_text bound.to in
    let more = own ++ flat_map bound_text names in
    let whole : (line ++ 10 ∷ more) ++ 10 ∷ [] ≡ (line ++ 10 ∷ []) ++ (more ++ 10 ∷ []) =
    append_assoc line (10 ∷ more) (10 ∷ []) ∙ sym (append_assoc line (10 ∷ []) (more ++ 10 ∷ [])) in
    subst IsAnswer (sym whole) (both_told (line ++ 10 ∷ []) (more ++ 10 ∷ []) (line_told line clean other)
    (names_told own names (bound_clean bound) (bound_other bound)))

path_clean : (path : List (List ℕ)) → HasNoEnd (path_text path)
path_clean [] = clean_text (codes "/") refl
path_clean (name ∷ names) = all_clean (λ n. codes "/" ++ escaped n) (name ∷ names)
    (λ n. HasNoEnd-append (codes "/") (escaped n) (clean_text (codes "/") refl) (escaped_clean n))

path_other : (path : List (List ℕ)) (rest : List ℕ) → is_beside (path_text path ++ codes " " ++ rest) ≡ false
path_other [] rest = refl
path_other (name ∷ names) rest =
    let more = ((escaped name ++ flat_map (λ n. codes "/" ++ escaped n) names) ++ codes " ") ++ rest in
    neither (47 ∷ more) (other_line 47 more refl) (other_event 47 more refl)

kind_clean : (kind : Kind) (mode : ℕ) (bytes : List ℕ) → HasNoEnd (kind_text kind mode bytes)
kind_clean File mode bytes =
    let front = HasNoEnd-append (codes "f ") (decimal mode) (clean_text (codes "f ") refl) (number_clean mode) in
    HasNoEnd-append (codes "f " ++ decimal mode ++ codes " ") (counted_bytes bytes)
    (HasNoEnd-append (codes "f " ++ decimal mode) (codes " ") front (clean_text (codes " ") refl)) (counted_clean bytes)
kind_clean Dir mode bytes = HasNoEnd-append (codes "d ") (decimal mode) (clean_text (codes "d ") refl) (number_clean mode)

node_told : (node : TreeNode) → IsAnswer (node_line node)
node_told node =
    let kind = kind_text node.node.kind node.node.mode node.node.bytes in
    line_told (path_text node.path ++ codes " " ++ kind)
    (HasNoEnd-append (path_text node.path ++ codes " ") kind
    (HasNoEnd-append (path_text node.path) (codes " ") (path_clean node.path) (clean_text (codes " ") refl))
    (kind_clean node.node.kind node.node.mode node.node.bytes)) (path_other node.path kind)

pub nodes_told : (nodes : List TreeNode) → IsAnswer (flat_map node_line nodes)
nodes_told nodes = all_told node_line nodes node_told

tree_told : (nodes : List TreeNode) → IsAnswer (tree_lines nodes)
tree_told nodes = both_told (flat_map node_line nodes) (line_of (codes "end")) (nodes_told nodes)
    (line_told (codes "end") (clean_text (codes "end") refl) refl)

cleaning_clean : (thorough : Bool) → HasNoEnd (codes " " ++ cleaning_name thorough ++ codes " ")
cleaning_clean true = clean_text (codes " thorough ") refl
cleaning_clean false = clean_text (codes " fast ") refl

answer_told : (a : Answer) → IsAnswer (line_of (codes "done" ++ answer_text a))
answer_told (answer.Made handle) = done_told (codes " " ++ handle_text handle) (spaced (handle_text handle) (handle_solid handle))
answer_told (answer.Count count) = done_told (codes " " ++ decimal count) (spaced (decimal count) (number_clean count))
answer_told answer.Nothing = done_told [] tt
answer_told (answer.Bytes bytes) = done_told (codes " " ++ counted_bytes bytes) (spaced (counted_bytes bytes) (counted_clean bytes))
answer_told (answer.Stat kind mode size commit) =
    let space = clean_text (codes " ") refl in
    done_told (codes " " ++ letter kind ++ codes " " ++ decimal mode ++ codes " " ++ decimal size ++ codes " " ++ decimal commit)
    (labelled (codes " " ++ letter kind ++ codes " " ++ decimal mode ++ codes " " ++ decimal size) (codes " ") commit
    (labelled (codes " " ++ letter kind ++ codes " " ++ decimal mode) (codes " ") size
    (labelled (codes " " ++ letter kind) (codes " ") mode (spaced (letter kind) (letter_clean kind)) space) space) space)
answer_told (answer.Names names) = names_told (codes "done" ++ (codes " " ++ decimal (length names))) names
    (HasNoEnd-append (codes "done") (codes " " ++ decimal (length names)) (clean_text (codes "done") refl)
    (spaced (decimal (length names)) (number_clean (length names)))) refl
answer_told (answer.Snapshot s) = done_told (codes " " ++ decimal s) (spaced (decimal s) (number_clean s))
answer_told (answer.Tree nodes) =
    let lines = flat_map node_line nodes in
    both_told (codes "done\n") ((lines ++ codes "end") ++ 10 ∷ []) (line_told (codes "done") (clean_text (codes "done") refl) refl)
    (subst IsAnswer (sym (append_assoc lines (codes "end") (10 ∷ []))) (tree_told nodes))
answer_told (answer.Cleaned thorough entries pages) =
    let name = codes " " ++ cleaning_name thorough ++ codes " " in
    done_told (name ++ decimal entries ++ codes " " ++ decimal pages)
    (labelled (name ++ decimal entries) (codes " ") pages
    (HasNoEnd-append name (decimal entries) (cleaning_clean thorough) (number_clean entries)) (clean_text (codes " ") refl))

pub reply_told : (r : Reply) → IsAnswer (reply_line r)
reply_told Started = line_told (codes "started") (clean_text (codes "started") refl) refl
reply_told Moved = line_told (codes "moved") (clean_text (codes "moved") refl) refl
reply_told Waiting = line_told (codes "waits") (clean_text (codes "waits") refl) refl
reply_told (Done a) = answer_told a
reply_told (Refused why) = refused_told why

-- ---- reports

snap_told : (snap : SnapCounts) → IsAnswer (snap_line snap)
snap_told snap =
    let first = HasNoEnd-append (codes "snap ") (decimal snap.snapshot) (clean_text (codes "snap ") refl) (number_clean snap.snapshot) in
    let held = labelled (codes "snap " ++ decimal snap.snapshot) (codes " held ") snap.held first (clean_text (codes " held ") refl) in
    let gain = labelled (codes "snap " ++ decimal snap.snapshot ++ codes " held " ++ decimal snap.held) (codes " gain ") snap.gain held
    (clean_text (codes " gain ") refl) in
    line_told
    (codes "snap " ++ decimal snap.snapshot ++ codes " held " ++ decimal snap.held ++ codes " gain " ++ decimal snap.gain
    ++ codes " pins " ++ decimal snap.pins)
    (labelled (codes "snap " ++ decimal snap.snapshot ++ codes " held " ++ decimal snap.held ++ codes " gain " ++ decimal snap.gain)
    (codes " pins ") snap.pins gain (clean_text (codes " pins ") refl)) refl

snaps_told : (snaps : Snaps) → IsAnswer (snaps_lines snaps)
snaps_told snaps =
    let count = length snaps.living in
    let first = HasNoEnd-append (codes "snaps ") (decimal count) (clean_text (codes "snaps ") refl) (number_clean count) in
    let epoch = labelled (codes "snaps " ++ decimal count) (codes " epoch ") snaps.epoch first (clean_text (codes " epoch ") refl) in
    let line = codes "snaps " ++ decimal count ++ codes " epoch " ++ decimal snaps.epoch ++ codes " commit " ++ decimal snaps.commit in
    both_told (line_of line) (flat_map snap_line snaps.living)
    (line_told line (labelled (codes "snaps " ++ decimal count ++ codes " epoch " ++ decimal snaps.epoch) (codes " commit ") snaps.commit
    epoch (clean_text (codes " commit ") refl)) refl)
    (all_told snap_line snaps.living snap_told)

space_told : (space : Space) → IsAnswer (space_line space)
space_told space =
    let free = HasNoEnd-append (codes "free ") (decimal space.free) (clean_text (codes "free ") refl) (number_clean space.free) in
    let chain = labelled (codes "free " ++ decimal space.free) (codes " chain ") space.chain free (clean_text (codes " chain ") refl) in
    let pages = labelled (codes "free " ++ decimal space.free ++ codes " chain " ++ decimal space.chain) (codes " data ") space.«data» chain
    (clean_text (codes " data ") refl) in
    let pending = labelled
    (codes "free " ++ decimal space.free ++ codes " chain " ++ decimal space.chain ++ codes " data " ++ decimal space.«data»)
    (codes " pending ") space.pending pages (clean_text (codes " pending ") refl) in
    line_told
    (codes "free " ++ decimal space.free ++ codes " chain " ++ decimal space.chain ++ codes " data " ++ decimal space.«data»
    ++ codes " pending " ++ decimal space.pending ++ codes " hand " ++ decimal space.hand)
    (labelled
    (codes "free " ++ decimal space.free ++ codes " chain " ++ decimal space.chain ++ codes " data " ++ decimal space.«data»
    ++ codes " pending " ++ decimal space.pending) (codes " hand ") space.hand pending (clean_text (codes " hand ") refl)) refl

run_clean : (run : FreeRun) → HasNoEnd (run_text run)
run_clean run = spaced (if run.first == run.last then decimal run.first else decimal run.first ++ codes "-" ++ decimal run.last)
    (go (run.first == run.last)) where
      go : (one : Bool) → HasNoEnd (if one then decimal run.first else decimal run.first ++ codes "-" ++ decimal run.last)
      go true = number_clean run.first
      go false = labelled (decimal run.first) (codes "-") run.last (number_clean run.first) (clean_text (codes "-") refl)

runs_clean : (runs : List FreeRun) → HasNoEnd (runs_text runs)
runs_clean [] = clean_text (codes " -") refl
runs_clean (run ∷ runs) = all_clean run_text (run ∷ runs) run_clean

lists_told : (cpu : ℕ) (lists : List (List FreeRun)) → IsAnswer (lists_from cpu lists)
lists_told cpu [] = none_told
lists_told cpu (runs ∷ lists) =
    let front = HasNoEnd-append (codes "cpu ") (decimal cpu) (clean_text (codes "cpu ") refl) (number_clean cpu) in
    both_told (line_of (codes "cpu " ++ decimal cpu ++ runs_text runs)) (lists_from (cpu + 1) lists)
    (line_told (codes "cpu " ++ decimal cpu ++ runs_text runs)
    (HasNoEnd-append (codes "cpu " ++ decimal cpu) (runs_text runs) front (runs_clean runs)) refl)
    (lists_told (cpu + 1) lists)

counts_clean : (counts : LogPageCounts) → HasNoEnd (counts_text counts)
counts_clean counts = labelled (codes " " ++ decimal counts.live) (codes ":") counts.valid
    (spaced (decimal counts.live) (number_clean counts.live)) (clean_text (codes ":") refl)

log_told : (ino : ℕ) (log : LogCounts) → IsAnswer (log_line ino log)
log_told ino log =
    let space = clean_text (codes " ") refl in
    let first = HasNoEnd-append (codes "log ") (decimal ino) (clean_text (codes "log ") refl) (number_clean ino) in
    let entries = labelled (codes "log " ++ decimal ino) (codes " ") log.entries first space in
    let pages = labelled (codes "log " ++ decimal ino ++ codes " " ++ decimal log.entries) (codes " ") (length log.pages) entries space in
    let front = codes "log " ++ decimal ino ++ codes " " ++ decimal log.entries ++ codes " " ++ decimal (length log.pages) in
    line_told (front ++ flat_map counts_text log.pages)
    (HasNoEnd-append front (flat_map counts_text log.pages) pages (all_clean counts_text log.pages counts_clean)) refl

-- ---- lines

reports_told : (lines : List ℕ) (m : World) (text : List ℕ) (n : World) → IsAnswer lines → Reports lines m text n → IsAnswer text
reports_told lines m text n told (inl is, same) = subst IsAnswer (sym is) told
reports_told lines m text n told (inr refused, same) = subst IsAnswer (sym refused) (refused_told out_of_memory)

shown_tree : (nodes : Option (List TreeNode)) (m : World) (text : List ℕ) (n : World) → ShowsTree nodes m text n → IsAnswer text
shown_tree None m text n shows = subst IsAnswer (sym shows.0) (refused_told fault.NoSnapshot)
shown_tree (Some nodes) m text n shows = reports_told (tree_lines nodes) m text n (tree_told nodes) shows

shown_log : (there : Bool) (ino : ℕ) (m : World) (text : List ℕ) (n : World) → ShowsLog there (reports_by_scan m) ino m text n
    → IsAnswer text
shown_log true ino m text n shows =
    reports_told (log_line ino ((reports_by_scan m).log ino)) m text n (log_told ino ((reports_by_scan m).log ino)) shows
shown_log false ino m text n shows = subst IsAnswer (sym shows.0) (refused_told fault.Stale)

acts_told : (m : World) (c : Command) (text : List ℕ) (n : World) → Acts m c text n → IsAnswer text
acts_told m (command.Start actor call) text n acts = subst IsAnswer (sym acts.0) (reply_told _)
acts_told m (command.Go actor more) text n acts = subst IsAnswer (sym acts.2) (reply_told acts.0)
acts_told m (command.Run actor) text n acts = subst IsAnswer (sym acts.2) (reply_told acts.0)
acts_told m (command.Do actor call) text n acts = subst IsAnswer (sym acts.2) (reply_told acts.0)
acts_told m command.Stop text n (inl stopped) =
    subst IsAnswer (sym stopped.0) (line_told (codes "stopped") (clean_text (codes "stopped") refl) refl)
acts_told m command.Stop text n (inr refused) = subst IsAnswer (sym refused.0) (refused_told out_of_memory)
acts_told m command.Tree text n acts = shown_tree (nodes_at m None) m text n acts
acts_told m (command.SnapTree snapshot) text n acts = shown_tree (nodes_at m (Some snapshot)) m text n acts
acts_told m command.Snaps text n acts =
    reports_told (snaps_lines (reports_by_scan m).snaps) m text n (snaps_told (reports_by_scan m).snaps) acts
acts_told m command.Space text n acts = subst IsAnswer (sym acts.0) (space_told (reports_by_scan m).space)
acts_told m command.Lists text n acts =
    reports_told (lists_lines (reports_by_scan m).lists) m text n (lists_told 0 (reports_by_scan m).lists) acts
acts_told m (command.Log ino) text n acts = shown_log (nat_lt ino (length m.shared.cells)) ino m text n acts
acts_told m command.Audit text n acts = reports_told (line_of (codes "audit ok")) m text n
    (line_told (codes "audit ok") (clean_text (codes "audit ok") refl) refl) acts

formats_told : (bad : Option GeometryField) (numbers : GeometryNumbers) (text : List ℕ) (n : Option World)
    → Formats machine_player 0 bad numbers text n → IsAnswer text
formats_told (Some f) numbers text n formats = subst IsAnswer (sym formats.0) (refused_told (fault.BadGeometry f))
formats_told None numbers text n (inl made) =
    subst IsAnswer (sym made.0) (line_told (codes "formatted") (clean_text (codes "formatted") refl) refl)
formats_told None numbers text n (inr refused) = subst IsAnswer (sym refused.0) (refused_told out_of_memory)

words_told : (m : Option World) (words : List (List ℕ)) (text : List ℕ) (n : Option World) → PlaysWords machine_player 0 m words text n
    → IsAnswer text
words_told None words text n plays = formats_told (first_bad_field plays.0) plays.0 text n plays.2
words_told (Some m) words text n plays = acts_told m plays.0 text plays.1 plays.3

-- THE LAW of one line
pub line_answers : (m : Option World) (line text : List ℕ) (n : Option World) → Plays machine_player 0 m line text n → IsAnswer text
line_answers m line text n plays = go (is_skipped line) plays where
  go : (b : Bool) → MatchBool b ((text ≡ []) × (n ≡ m)) (PlaysWords machine_player 0 m (words_of line) text n) → IsAnswer text
  go true skips = subst IsAnswer (sym skips.0) none_told
  go false words = words_told m (words_of line) text n words

-- the first lines of a tree
pub front_answers : (nodes : Option (List TreeNode)) (sent : List ℕ) → (sent ≡ []) ⊎ ListsFront nodes sent → IsAnswer sent
front_answers nodes sent (inl none) = subst IsAnswer (sym none) none_told
front_answers nodes sent (inr front) = subst IsAnswer (sym front.3) (nodes_told front.0)
