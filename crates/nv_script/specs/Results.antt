-- What inner functions of a script's run tell each other.
use Rattle.std.specs.Prelude.{◌≡◌, ◌⊎◌, ◌≤◌, ℕ, ◌+◌, Bool, true, false, nat_lt, if◌then◌else◌, List, [], ◌++◌, length, codes, Option, Some, None, is_some, IsSome, Result, Ok, Err, MatchResult}
use Rattle.std.specs.Io.KnownBytes.{Appends, Consumes, prepend_known}
use Rattle.std.specs.List.{flat_map}
use Rattle.nv_base.specs.declared.fault.Fault.{Fault}
use Rattle.nv_base.specs.declared.fault.Fault.TheVariants as fault
use Rattle.nv_base.specs.declared.fault.GeometryField.{GeometryField}
use Rattle.nv_base.specs.declared.fault.ScriptFaultKind.{ScriptFaultKind}
use Rattle.nv_base.specs.declared.fault.ScriptFaultKind.TheVariants as kind
use Rattle.nv_base.specs.declared.geometry.GeometryNumbers.{GeometryNumbers}
use Rattle.nv_entry.specs.declared.tree.TreeNode.{TreeNode}
use Rattle.nv_machine.specs.Format.{formatted}
use Rattle.nv_machine.specs.World as machine
use Rattle.nv_core.specs.Worlds.{HasRun, Shows, ShowsAny, WorldState}
use Rattle.nv_script.specs.declared.asked.Asked.{Asked}
use Rattle.nv_script.specs.declared.command.Command.TheVariants as command
use Rattle.nv_script.specs.declared.fault.LineFault.{LineFault}
use Rattle.nv_script.specs.declared.fault.LineFault.TheVariants as line_fault
use Rattle.nv_script.specs.declared.feed.LineResult.{LineResult}
use Rattle.nv_script.specs.declared.feed.LineResult.TheVariants as taken
use Rattle.nv_script.specs.declared.trace.Trace.{Trace}
use Rattle.nv_script.specs.declared.trace.Trace.TheVariants as trace
use Rattle.nv_script.specs.Grammar.{command_of, is_skipped}
use Rattle.nv_script.specs.Lines.{IsLine, LineResultIs, WritesFront, WritesSome, ended}
use Rattle.nv_script.specs.Play.{EndsBy, EndsWell, Formats, LineFails, ListsFront, Plays, PlaysAll, StopsAt, machine_player, most_lines, no_head}
use Rattle.nv_script.specs.Texts.{line_of, node_line, refused_line, tree_lines}
use Rattle.nv_script.specs.Trace.{player_by}
use Rattle.nv_script.specs.Words.{words_of}
use Rattle.nv_base.specs.Memory.{out_of_memory}

-- events lead to a world, where there is one
abbrev pub HasAnyRun : Option machine.World → Type 0
HasAnyRun None = Unit {0}
HasAnyRun (Some m) = HasRun m

-- a line is played on the worlds that are shown, to which events lead, and its events are told or
-- not
abbrev pub PlaysTold : Trace → ℕ → Option WorldState → List ℕ → (List ℕ → Type 0) → Option WorldState → Type 0
PlaysTold told number old line Writes new =
    (m : Option machine.World) → ShowsAny old m → HasAnyRun m
    → (n : Option machine.World) × (text : List ℕ) × Plays (player_by told no_head) number m line text n × ShowsAny new n × Writes text

-- a line is played where its events are not told: its answers are the same whatever its number
abbrev pub PlaysShown : Option WorldState → List ℕ → (List ℕ → Type 0) → Option WorldState → Type 0
PlaysShown old line Writes new = PlaysTold trace.Off 0 old line Writes new

-- where a text goes
pub record Sent : Type 0 where
  -- what the writer has, where that is known
  pub written : Option (List ℕ)
  -- what is gathered, and not yet written
  pub gathered : List ℕ

-- a text was sent behind what was gathered: what of both was not written is gathered now
abbrev pub Sends : Sent → Sent → List ℕ → Type 0
Sends old new text = WritesFront old.written new.written (old.gathered ++ text) new.gathered

-- a text was sent behind what was gathered, and then this rest was gathered
abbrev pub SendsBut : List ℕ → Sent → Sent → List ℕ → Type 0
SendsBut rest old new text = WritesFront old.written new.written (old.gathered ++ text) (new.gathered ++ rest)

-- a write of the text failed, and after it nothing is gathered
abbrev pub Fails : Sent → Sent → List ℕ → Type 0
Fails old new text = WritesSome old.written new.written (old.gathered ++ text) × (new.gathered ≡ [])

-- what became of one line that was not played to its end, where this stands before its answers: memory was refused at a
-- command, a write failed, or the line has a fault, and then nothing has changed
abbrev pub LineFaultBehind : Trace → (number : ℕ) → (head : List ℕ) → LineFault → Sent → Sent → Option machine.World → List ℕ → Type 0
LineFaultBehind told number head (line_fault.OutOfMemory _) old new m line =
    (text : List ℕ) × StopsAt (player_by told no_head) head m line text × Sends old new text
LineFaultBehind told number head line_fault.Write old new m line =
    (text : List ℕ) × (n : Option machine.World) × Plays (player_by told no_head) number m line text n × Fails old new (head ++ text)
LineFaultBehind told number head (line_fault.Faulty fault) old new m line = LineFails (is_some m) line fault × (new ≡ old)

-- what became of a line that was not played to its end, where nothing stands before its answers
abbrev pub LineFaultIs : LineFault → Sent → Sent → Option machine.World → List ℕ → Type 0
LineFaultIs fault old new m line = LineFaultBehind trace.Off 0 [] fault old new m line

-- what became of one line, and of the text that it writes
abbrev pub LineIs : {A : Type 0} → Trace → (number : ℕ) → (head : List ℕ) → Result A LineFault → Sent → Sent → Option WorldState
    → List ℕ → List ℕ → Option WorldState → Type 0
LineIs told number head (Ok done) old new world line rest world' =
    PlaysTold told number world line (λ text. SendsBut rest old new (head ++ text)) world'
LineIs told number head (Err fault) old new world line rest world' =
    (m : Option machine.World) → ShowsAny world m → HasAnyRun m → LineFaultBehind told number head fault old new m line

-- what became of one line, all of whose text was sent
abbrev pub AnswersBehind : {A : Type 0} → Trace → (number : ℕ) → (head : List ℕ) → Result A LineFault → Sent → Sent → Option WorldState
    → List ℕ → Option WorldState → Type 0
AnswersBehind told number head (Ok done) old new world line world' =
    PlaysTold told number world line (λ text. Sends old new (head ++ text)) world'
AnswersBehind told number head (Err fault) old new world line world' =
    (m : Option machine.World) → ShowsAny world m → HasAnyRun m → LineFaultBehind told number head fault old new m line

-- what became of one line, all of whose text was sent, where neither events nor anything else
-- stands before its answers
abbrev pub AnswersLine : {A : Type 0} → Result A LineFault → Sent → Sent → Option WorldState → List ℕ → Option WorldState → Type 0
AnswersLine {A = A} result old new world line world' = AnswersBehind {A = A} trace.Off 0 [] result old new world line world'

-- why a text was not sent
abbrev pub IsNotSent : LineFault → Sent → Sent → List ℕ → Type 0
IsNotSent (line_fault.OutOfMemory _) old new text = new ≡ old
IsNotSent line_fault.Write old new text = Fails old new text
IsNotSent (line_fault.Faulty fault) old new text = ⊥

-- the text of a tree, or a refusal where there is none, or for want of memory
abbrev pub ListsText : Option (List TreeNode) → List ℕ → Type 0
ListsText None text = text ≡ refused_line fault.NoSnapshot
ListsText (Some nodes) text = (text ≡ tree_lines nodes) ⊎ (text ≡ refused_line out_of_memory)

-- a tree, none where its snapshot does not live, or want of memory
abbrev pub IsTree : Option (List TreeNode) → Result (List TreeNode) Fault → Type 0
IsTree None result = result ≡ Err fault.NoSnapshot
IsTree (Some nodes) result = MatchResult result (λ tree. tree ≡ nodes) (λ why. why ≡ out_of_memory)

-- what became of a tree's text, behind this
abbrev pub ListBehind : (head : List ℕ) → Result (Unit {0}) LineFault → Sent → Sent → List ℕ → Option (List TreeNode) → Type 0
ListBehind head (Ok done) old new rest nodes = (text : List ℕ) × ListsText nodes text × SendsBut rest old new (head ++ text)
ListBehind head (Err (line_fault.OutOfMemory _)) old new rest nodes =
    (text : List ℕ) × ((text ≡ []) ⊎ ListsFront nodes text) × Sends old new (head ++ text)
ListBehind head (Err line_fault.Write) old new rest nodes = (text : List ℕ) × ListsText nodes text × Fails old new (head ++ text)
ListBehind head (Err (line_fault.Faulty fault)) old new rest nodes = ⊥

-- a list of nodes is written, or a front of it
abbrev pub ListIs : Result (Unit {0}) LineFault → Sent → Sent → List ℕ → Option (List TreeNode) → Type 0
ListIs result old new rest nodes = ListBehind [] result old new rest nodes

-- memory was refused before the first node, or past it
abbrev pub StopsList : Bool → Option (List TreeNode) → Sent → Sent → Type 0
StopsList false nodes old new = IsSome nodes × (new ≡ old)
StopsList true nodes old new = (text : List ℕ) × ListsFront nodes text × Sends old new text

-- a node's line was not sent
abbrev pub FailsList : LineFault → Option (List TreeNode) → Sent → Sent → Type 0
FailsList (line_fault.OutOfMemory _) nodes old new = (text : List ℕ) × ListsFront nodes text × Sends old new text
FailsList line_fault.Write nodes old new = (list : List TreeNode) × (nodes ≡ Some list) × Fails old new (tree_lines list)
FailsList (line_fault.Faulty fault) nodes old new = ⊥

-- how the lines of nodes were sent: all of them, or by which fault no more
abbrev pub HandsLines : Result (Unit {0}) Fault → Bool → LineFault → Option (List TreeNode) → Sent → Sent → Type 0
HandsLines result begun why nodes old new = MatchResult result
    (λ _. (list : List TreeNode) × (nodes ≡ Some list) × Sends old new (flat_map node_line list))
    (λ refused. ((refused ≡ fault.NoSnapshot) × (begun ≡ false) × (nodes ≡ None) × (new ≡ old))
    ⊎ (((refused ≡ out_of_memory) × StopsList begun nodes old new)
    ⊎ ((refused ≡ fault.Write) × FailsList why nodes old new)))

-- a world is made, or there is none
abbrev pub MakesWorld : Option GeometryField → GeometryNumbers → List ℕ → Option WorldState → Type 0
MakesWorld field numbers text new = (n : Option machine.World) × Formats machine_player 0 field numbers text n × ShowsAny new n

-- the same where this form tells it
abbrev pub MakesTold : Trace → ℕ → Option GeometryField → GeometryNumbers → List ℕ → Option WorldState → Type 0
MakesTold told number field numbers text new =
    (n : Option machine.World) × Formats (player_by told no_head) number field numbers text n × ShowsAny new n

-- a test holds, or words are miscounted
abbrev pub Counts : Result (Unit {0}) ScriptFaultKind → Bool → Type 0
Counts (Ok done) test = test ≡ true
Counts (Err fault) test = (test ≡ false) × (fault ≡ kind.Count)

-- a new world, the first number that is out of a geometry's limits, or want of memory
abbrev pub IsNewWorld : Option GeometryField → GeometryNumbers → Result WorldState Fault → Type 0
IsNewWorld (Some field) numbers result = result ≡ Err (fault.BadGeometry field)
IsNewWorld None numbers result = MatchResult result (λ w. Shows w (formatted numbers)) (λ why. why ≡ out_of_memory)

-- a text was gathered behind the rest, or not
abbrev pub Gathers : Bool → (old text new : List ℕ) → Type 0
Gathers true old text new = new ≡ old ++ text
Gathers false old text new = new ≡ old

-- how many writes fail in a line that ends so
abbrev pub failed_in_line : {A : Type 0} → Result A LineFault → ℕ
failed_in_line (Err line_fault.Write) = 1
failed_in_line _ = 0

-- how many writes fail in a tree's lines that end so, of which one was not sent for this reason
abbrev pub failed_in_tree : Result (Unit {0}) Fault → LineFault → ℕ
failed_in_tree (Err fault.Write) why = failed_in_line {A = Unit {0}} (Err why)
failed_in_tree _ why = 0

-- that nothing differs is told only with what stands for an audit
abbrev pub TellsAudit : Option Asked → List ℕ → Type 0
TellsAudit None text = text ≡ refused_line out_of_memory
TellsAudit (Some asked) text = text ≡ line_of (codes "audit ok")

-- a line asks for an audit of the world
abbrev pub AsksAudit : Option WorldState → List ℕ → Type 0
AsksAudit world line = IsSome world × (is_skipped line ≡ false) × (command_of (words_of line) ≡ Ok command.Audit)

-- how a line's fault ends the script
abbrev pub ending_of : ℕ → LineFault → Fault
ending_of number (line_fault.OutOfMemory witness) = fault.OutOfMemory witness
ending_of number line_fault.Write = fault.Write
ending_of number (line_fault.Faulty kind) = fault.ScriptFault kind number

-- the answer about a line with this number: past the last allowed line it is the fault `lines`
abbrev pub within_lines : ℕ → Result Bool Fault → Result Bool Fault
within_lines number answer = if nat_lt most_lines number then Err (fault.ScriptFault kind.Lines number) else answer

-- whether what was taken is a line to play; or how it ends the script
abbrev pub is_line : ℕ → LineResult → Result Bool Fault
is_line number taken.End = Ok false
is_line number taken.Line = within_lines number (Ok true)
is_line number taken.Long = within_lines number (Err (fault.ScriptFault kind.Long number))
is_line number taken.Unended = within_lines number (Err (fault.ScriptFault kind.Unended number))

-- what became of the next line, and of what was gathered before it was asked for
abbrev pub TakesLine : Result Bool Fault → ℕ → (known left : Option (List ℕ)) → (ahead line : List ℕ) → Sent → Sent → Type 0
TakesLine (Ok true) number known left ahead line old new = WritesFront old.written new.written old.gathered new.gathered
    × (number ≤ most_lines) × IsLine line × LineResultIs taken.Line known (prepend_known ahead left) line
TakesLine (Ok false) number known left ahead line old new = WritesFront old.written new.written old.gathered new.gathered
    × LineResultIs taken.End known (prepend_known ahead left) line
TakesLine (Err fault.Read) number known left ahead line old new = WritesFront old.written new.written old.gathered new.gathered
    × (new.gathered ≡ []) × (ahead ≡ []) × IsLine line × Consumes known (prepend_known ahead left) line
TakesLine (Err fault.Write) number known left ahead line old new =
    WritesSome old.written new.written old.gathered × (new.gathered ≡ [])
TakesLine (Err (fault.ScriptFault why at)) number known left ahead line old new =
    WritesFront old.written new.written old.gathered new.gathered × (t : LineResult)
    × (is_line number t ≡ Err (fault.ScriptFault why at)) × IsLine line × LineResultIs t known (prepend_known ahead left) line
TakesLine (Err _) number known left ahead line old new = ⊥

-- what holds before the line with a number, where this stands before answers
pub record AtLineBy (told : Trace) (head : ℕ → List ℕ → List ℕ) (input known old new : Option (List ℕ)) (gathered : List ℕ) (number : ℕ)
    (world : Option machine.World) : Type 0 where
  -- the lines before it
  pub lines : List (List ℕ)
  -- the text that they write
  pub text : List ℕ
  -- the number is that of the next line
  pub count : length lines + 1 ≡ number
  -- these lines were taken from the reader, each with its end
  pub taken : Consumes input known (ended lines)
  -- from no world on they write this text, and lead to this world
  pub plays : PlaysAll (player_by told head) None lines text world
  -- the text was written, except for its end, which is gathered
  pub written : WritesFront old new text gathered

-- a player is at a line, with answers alone written
abbrev pub AtLine : (input known old new : Option (List ℕ)) → List ℕ → ℕ → Option machine.World → Type 0
AtLine input known old new gathered number world = AtLineBy trace.Off no_head input known old new gathered number world

-- once a read or a write failed, nothing is gathered
abbrev pub HoldsNone : {A : Type 0} → Result A Fault → List ℕ → Type 0
HoldsNone (Err fault.Read) gathered = gathered ≡ []
HoldsNone (Err fault.Write) gathered = gathered ≡ []
HoldsNone _ gathered = Unit {0}

-- what is gathered at the end was written, where no read and no write failed before; else nothing was gathered
abbrev pub EndsText : (outcome result : Result (Unit {0}) Fault) → Sent → Sent → Type 0
EndsText (Err fault.Read) result old new = (result ≡ Err fault.Read) × (new ≡ old)
EndsText (Err fault.Write) result old new = (result ≡ Err fault.Write) × (new ≡ old)
EndsText outcome result old new = ((result ≡ outcome) × Appends old.written new.written old.gathered)
    ⊎ ((result ≡ Err fault.Write) × WritesSome old.written new.written old.gathered)

-- after the line with a number, which is one of the allowed: the script goes on, or this is its end
abbrev pub TurnIs : Trace → (head : ℕ → List ℕ → List ℕ) → Result Bool Fault → (input left known old new : Option (List ℕ)) → List ℕ → ℕ
    → Option WorldState → Type 0
TurnIs told head (Ok true) input left known old new gathered number world =
    (number ≤ most_lines) × (n : Option machine.World) × AtLineBy told head input known old new gathered (number + 1) n × ShowsAny world n
TurnIs told head (Ok false) input left known old new gathered number world =
    EndsWell (player_by told head) input left (λ text. WritesFront old new text gathered)
TurnIs told head (Err why) input left known old new gathered number world =
    EndsBy (player_by told head) why input left (λ text. WritesFront old new text gathered)
    × HoldsNone {A = Bool} (Err why) gathered
