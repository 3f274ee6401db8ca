-- What a whole script writes.
use Rattle.std.specs.Prelude.{◌≡◌, ◌≢◌, ◌⊎◌, ◌≤◌, ℕ, ◌+◌, Bool, true, false, nat_lt, List, [], ◌∷◌, ◌++◌, length, codes, Option, Some, None, IfSome, is_some, Result, Ok, Err, MatchBool, option_map}
use Rattle.std.specs.Io.KnownBytes.{Appends, Consumes, IsAtEnd}
use Rattle.std.specs.List.{flat_map}
use Rattle.nv_alloc.specs.declared.runs.FreeRun.{FreeRun}
use Rattle.nv_base.specs.Limits.{first_bad_field}
use Rattle.nv_base.specs.declared.fault.Fault.{Fault}
use Rattle.nv_base.specs.declared.fault.Fault.TheVariants as fault
use Rattle.nv_base.specs.declared.fault.GeometryField.{GeometryField}
use Rattle.nv_base.specs.declared.fault.ScriptFaultKind.{ScriptFaultKind}
use Rattle.nv_base.specs.declared.fault.ScriptFaultKind.TheVariants as kind
use Rattle.nv_base.specs.declared.geometry.GeometryNumbers.{GeometryNumbers}
use Rattle.nv_entry.specs.declared.tree.TreeNode.{TreeNode}
use Rattle.nv_machine.specs.Format.{formatted}
use Rattle.nv_machine.specs.Step.{step}
use Rattle.nv_machine.specs.World.{Reply, Start, World}
use Rattle.nv_epoch.specs.SnapList.{pins_of}
use Rattle.nv_core.specs.Reports.{lists_of, log_at, snaps_of, space_of}
use Rattle.nv_core.specs.Scans.{lists_by_scan, log_by_scan, snaps_by_scan, space_by_scan}
use Rattle.nv_core.specs.Settled.{snapshot_tree, tree_of}
use Rattle.nv_core.specs.declared.reports.LogCounts.{LogCounts}
use Rattle.nv_core.specs.declared.reports.Space.{Space}
use Rattle.nv_core.specs.declared.snaps.Snaps.{Snaps}
use Rattle.nv_core.specs.Whole.{Calls, GoesOn, Runs}
use Rattle.nv_restart.specs.Restarted.{restarted}
use Rattle.nv_script.specs.declared.command.Command.{Command}
use Rattle.nv_script.specs.declared.command.Command.TheVariants as command
use Rattle.nv_script.specs.Grammar.{command_of, format_of, is_skipped}
use Rattle.nv_script.specs.Lines.{IsCutOff, IsLine, ended}
use Rattle.nv_script.specs.Texts.{line_of, lists_lines, log_line, node_line, refused_line, reply_line, snaps_lines, space_line, tree_lines}
use Rattle.nv_script.specs.Words.{words_of}
use Rattle.nv_base.specs.Memory.{out_of_memory}

-- WHO PLAYS A SCRIPT. The definitions below hold of any player.
pub record Player : Type 1 where
  -- the kind of its worlds
  pub World : Type 0
  -- the world that a `format` makes, by its numbers
  pub empty : GeometryNumbers → World
  -- what the command of the line with a number writes, and the world that it leaves
  pub Acts : ℕ → World → Command → List ℕ → World → Type 0
  -- the nodes of the tree that a command lists, if it lists one
  pub listed : World → Command → Option (List TreeNode)
  -- what is written before the answers to the line with a number
  pub head : ℕ → List ℕ → List ℕ
  -- what a `format` in the line with a number writes, by the world that it made and its answer
  pub made : ℕ → Option World → List ℕ → List ℕ

-- ---- commands on a world of any kind

-- the last reply is written
abbrev pub Answers : {W : Type 0} → (Reply → W → Type 0) → List ℕ → W → Type 0
Answers Replies text new = (last : Reply) × Replies last new × (text ≡ reply_line last)

-- a report of the world now, or a refusal for want of memory; nothing changes
abbrev pub Reports : {W : Type 0} → List ℕ → W → List ℕ → W → Type 0
Reports lines old text new = ((text ≡ lines) ⊎ (text ≡ refused_line out_of_memory)) × (new ≡ old)

-- what a world of any kind reports
pub record WorldReports : Type 0 where
  -- where its blocks are
  pub space : Space
  -- the free blocks of each CPU's list, as maximal runs
  pub lists : List (List FreeRun)
  -- how many inode slots it has
  pub slots : ℕ
  -- how many entries and log pages the log of a slot has, with the counts of each page
  pub log : ℕ → LogCounts
  -- its epoch, its last commit, and the counts of each living snapshot
  pub snaps : Snaps
  -- the nodes of the tree now, or of a snapshot where it lives
  pub nodes : Option ℕ → Option (List TreeNode)

-- the log of a slot, or a refusal where there is none
abbrev pub ShowsLog : {W : Type 0} → Bool → WorldReports → ℕ → W → List ℕ → W → Type 0
ShowsLog true told ino old text new = Reports (log_line ino (told.log ino)) old text new
ShowsLog false told ino old text new = (text ≡ refused_line fault.Stale) × (new ≡ old)

-- a tree, or a refusal where its snapshot does not live
abbrev pub ShowsTree : {W : Type 0} → Option (List TreeNode) → W → List ℕ → W → Type 0
ShowsTree (Some nodes) old text new = Reports (tree_lines nodes) old text new
ShowsTree None old text new = (text ≡ refused_line fault.NoSnapshot) × (new ≡ old)

-- WHAT A REPORT WRITES, where the world reports this: its text, or that memory is refused. `space`
-- is never refused. The world stays. Example: `log 9` of a world with eight inode slots is refused
-- as `Stale`.
abbrev pub Tells : {W : Type 0} → WorldReports → W → Command → List ℕ → W → Type 0
Tells told old command.Tree text new = ShowsTree (told.nodes None) old text new
Tells told old (command.SnapTree snapshot) text new = ShowsTree (told.nodes (Some snapshot)) old text new
Tells told old command.Snaps text new = Reports (snaps_lines told.snaps) old text new
Tells told old command.Space text new = (text ≡ space_line told.space) × (new ≡ old)
Tells told old command.Lists text new = Reports (lists_lines told.lists) old text new
Tells told old (command.Log ino) text new = ShowsLog (nat_lt ino told.slots) told ino old text new
Tells told old command.Audit text new = Reports (line_of (codes "audit ok")) old text new
Tells told old _ text new = ⊥

-- the machine stops and goes on as this; or memory is refused, and nothing changes
abbrev pub Restarts : {W : Type 0} → (stopped old : W) → List ℕ → W → Type 0
Restarts stopped old text new = ((text ≡ line_of (codes "stopped")) × (new ≡ stopped)) ⊎ ((text ≡ refused_line out_of_memory) × (new ≡ old))

-- a command lists a tree
abbrev pub is_list : Command → Bool
is_list command.Tree = true
is_list (command.SnapTree snapshot) = true
is_list _ = false

-- the nodes that a command lists
abbrev pub nodes_listed : WorldReports → Command → Option (List TreeNode)
nodes_listed told command.Tree = told.nodes None
nodes_listed told (command.SnapTree snapshot) = told.nodes (Some snapshot)
nodes_listed told _ = None

-- the lines of the first of these nodes. Example: of `/`, `/d` and `/d/x` the lines of `/` and
-- `/d`.
abbrev pub ListsFront : Option (List TreeNode) → List ℕ → Type 0
ListsFront nodes sent = (front rest : List TreeNode) × (nodes ≡ Some (front ++ rest)) × (sent ≡ flat_map node_line front)

-- ---- the lines of a script

-- the most lines of a script
abbrev pub most_lines : ℕ
most_lines = 1048576

-- more than 4,096 bytes come before the next line end, or before the end of the bytes
abbrev pub IsLong : List ℕ → Type 0
IsLong bytes = (line rest : List ℕ) × (byte : ℕ) × IsLine line × (length line ≡ 4096) × (byte ≢ 10) × (bytes ≡ (line ++ byte ∷ []) ++ rest)

-- some bytes, at most 4,096, and no line end
abbrev pub IsUnended : List ℕ → Type 0
IsUnended bytes = IsLine bytes × (bytes ≢ [])

-- words have this fault: where no world is made as a `format`, and else as a command
abbrev pub WordsFail : Bool → List (List ℕ) → ScriptFaultKind → Type 0
WordsFail false words fault = format_of words ≡ Err fault
WordsFail true words fault = command_of words ≡ Err fault

-- a line that is not skipped has this fault
abbrev pub LineFails : Bool → List ℕ → ScriptFaultKind → Type 0
LineFails made line fault = (is_skipped line ≡ false) × WordsFail made (words_of line) fault

-- the next line has a fault of its words, as `Fails` says
abbrev pub IsFaulty : (List ℕ → ScriptFaultKind → Type 0) → List ℕ → ScriptFaultKind → Type 0
IsFaulty Fails bytes fault = (line rest : List ℕ) × IsLine line × (bytes ≡ (line ++ 10 ∷ []) ++ rest) × Fails line fault

-- the fault of the line with this number, which the bytes begin: past the last allowed line any byte is a fault
abbrev pub IsFaultBy : (List ℕ → ScriptFaultKind → Type 0) → ℕ → List ℕ → ScriptFaultKind → Type 0
IsFaultBy Fails number bytes fault = MatchBool (nat_lt most_lines number)
    ((fault ≡ kind.Lines) × (bytes ≢ []))
    (((fault ≡ kind.Long) × IsLong bytes) ⊎ (((fault ≡ kind.Unended) × IsUnended bytes) ⊎ IsFaulty Fails bytes fault))

-- THE FAULT OF A LINE: `lines` for any byte past line 1,048,576; `long` for more than 4,096 bytes
-- before the next line end; `unended` for a last piece without its line end; else the fault of its
-- words. Example: a script that ends with `tree` and no LF has the fault `unended` there.
abbrev pub IsFault : ℕ → Bool → List ℕ → ScriptFaultKind → Type 0
IsFault number made bytes fault = IsFaultBy (LineFails made) number bytes fault

-- a `format` makes an empty world; or it is refused, for a number or for want of memory, and there is still none
abbrev pub Formats : (player : Player) → (number : ℕ) → Option GeometryField → GeometryNumbers → List ℕ → Option player.World → Type 0
Formats player number (Some field) numbers text new =
    (text ≡ player.made number None (refused_line (fault.BadGeometry field))) × (new ≡ None)
Formats player number None numbers text new =
    ((text ≡ player.made number (Some (player.empty numbers)) (line_of (codes "formatted"))) × (new ≡ Some (player.empty numbers)))
    ⊎ ((text ≡ player.made number None (refused_line out_of_memory)) × (new ≡ None))

-- the words of a line without a fault: a `format` where no world is made, and else a command on the world
abbrev pub PlaysWords : (player : Player) → (number : ℕ) → Option player.World → List (List ℕ) → List ℕ → Option player.World → Type 0
PlaysWords player number None words text new =
    (numbers : GeometryNumbers) × (format_of words ≡ Ok numbers) × Formats player number (first_bad_field numbers) numbers text new
PlaysWords player number (Some old) words text new =
    (command : Command) × (world : player.World) × (command_of words ≡ Ok command) × player.Acts number old command text world
    × (new ≡ Some world)

-- WHAT A LINE WRITES AND LEAVES, which has this number: nothing where it is skipped. Else it is
-- what its command does to the player's world. Where no world is made, a `format` makes the empty
-- one.
abbrev pub Plays : (player : Player) → (number : ℕ) → Option player.World → List ℕ → List ℕ → Option player.World → Type 0
Plays player number old line text new =
    MatchBool (is_skipped line) ((text ≡ []) × (new ≡ old)) (PlaysWords player number old (words_of line) text new)

-- some lines, one after another, of which the first has this number
abbrev pub PlaysFrom : (player : Player) → ℕ → Option player.World → List (List ℕ) → List ℕ → Option player.World → Type 0
PlaysFrom player number old [] text new = (text ≡ []) × (new ≡ old)
PlaysFrom player number old (line ∷ lines) text new =
    (first rest : List ℕ) × (mid : Option player.World) × IsLine line × Plays player number old line first mid
    × PlaysFrom player (number + 1) mid lines rest new × (text ≡ (player.head number line ++ first) ++ rest)

-- the first lines of a script, one after another
abbrev pub PlaysAll : (player : Player) → Option player.World → List (List ℕ) → List ℕ → Option player.World → Type 0
PlaysAll player old lines text new = PlaysFrom player 1 old lines text new

-- the first lines of a script were played
pub record Played (player : Player) (input : Option (List ℕ)) (lines : List (List ℕ)) (rest text : List ℕ)
    (world : Option player.World) : Type 0 where
  -- where the reader's bytes are known, they are these lines, each with its end, and the rest
  pub split : IfSome input (λ bytes. bytes ≡ ended lines ++ rest)
  -- they are no more than a script may have
  pub few : length lines ≤ most_lines
  -- from no world on they write this text, and lead to this world
  pub plays : PlaysAll player None lines text world

-- these words ask for a tree, and these are its first lines
abbrev pub ListsWords : (player : Player) → Option player.World → List (List ℕ) → List ℕ → Type 0
ListsWords player None words sent = ⊥
ListsWords player (Some old) words sent = (command : Command) × (command_of words ≡ Ok command) × (is_list command ≡ true)
    × ((sent ≡ []) ⊎ ListsFront (player.listed old command) sent)

-- the next line, which has this number, was played, and of its text these bytes alone were written
abbrev pub BreaksOff : (player : Player) → ℕ → List ℕ → Option player.World → List ℕ → Type 0
BreaksOff player number bytes world sent = (line rest text : List ℕ) × (new : Option player.World) × IsLine line
    × (bytes ≡ (line ++ 10 ∷ []) ++ rest) × Plays player number world line text new × IsCutOff sent (player.head number line ++ text)

-- memory is refused at a command: nothing of its text is written, or what stands before its answers and whole lines of a tree
abbrev pub StopsAt : (player : Player) → (head : List ℕ) → Option player.World → (line sent : List ℕ) → Type 0
StopsAt player head world line sent = (is_skipped line ≡ false)
    × ((sent ≡ []) ⊎ ((front : List ℕ) × ListsWords player world (words_of line) front × (sent ≡ head ++ front)))

-- memory is refused before the first line, or at the command of the next one
abbrev pub Stops : (player : Player) → List (List ℕ) → List ℕ → Option player.World → List ℕ → Type 0
Stops player lines bytes world sent = ((lines ≡ []) × (sent ≡ []))
    ⊎ ((line rest : List ℕ) × IsLine line × (bytes ≡ (line ++ 10 ∷ []) ++ rest)
    × StopsAt player (player.head (length lines + 1) line) world line sent)

-- all lines were played and their text was written, and nothing is left
abbrev pub EndsWell : (player : Player) → (input left : Option (List ℕ)) → (List ℕ → Type 0) → Type 0
EndsWell player input left Writes =
    (lines : List (List ℕ)) × (text : List ℕ) × (world : Option player.World) × Played player input lines [] text world
    × IsAtEnd left × Writes text

-- the first lines were played and their text was written
abbrev pub EndsAfter : (player : Player) → (input : Option (List ℕ)) → (List ℕ → Type 0)
    → (List (List ℕ) → List ℕ → Option player.World → Type 0) → Type 0
EndsAfter player input Writes Also = (lines : List (List ℕ)) × (rest text : List ℕ) × (world : Option player.World)
    × Played player input lines rest text world × Also lines rest world × Writes text

-- HOW A SCRIPT ENDS EARLY: by a fault of the next line, with the number of that line; by a failed
-- read, of whose reader no more than a piece of the next line is gone; for want of memory, before
-- the first line or at a command, of whose tree the first lines may be written; by a failed write,
-- which leaves a front of the text of the line after them
abbrev pub EndsBy : (player : Player) → Fault → (input left : Option (List ℕ)) → (List ℕ → Type 0) → Type 0
EndsBy player (fault.ScriptFault why number) input left Writes =
    EndsAfter player input Writes (λ lines rest world. (number ≡ length lines + 1) × IsFault number (is_some world) rest why)
EndsBy player fault.Read input left Writes =
    EndsAfter player input Writes (λ lines rest world. (piece : List ℕ) × IsLine piece × Consumes input left (ended lines ++ piece))
EndsBy player (fault.OutOfMemory _) input left Writes =
    (lines : List (List ℕ)) × (rest text sent : List ℕ) × (world : Option player.World) × Played player input lines rest text world
    × Stops player lines rest world sent × Writes (text ++ sent)
EndsBy player fault.Write input left Writes = (lines : List (List ℕ)) × (rest text sent : List ℕ) × (world : Option player.World)
    × Played player input lines rest text world × BreaksOff player (length lines + 1) rest world sent × Writes (text ++ sent)
EndsBy player _ input left Writes = ⊥

-- how a script ends: what the reader has at first and is left with, and what is written
abbrev pub Ends : (player : Player) → Result (Unit {0}) Fault → (input left : Option (List ℕ)) → (List ℕ → Type 0) → Type 0
Ends player (Ok done) input left Writes = EndsWell player input left Writes
Ends player (Err why) input left Writes = EndsBy player why input left Writes

-- how many reads fail in a script that ends so: one where it ends by a failed read, and else none.
-- Example: the second read fails behind a `format`. The ending is E28 with one failed read and no
-- failed write, and `formatted` is written.
abbrev pub failed_reads : {A : Type 0} → Result A Fault → ℕ
failed_reads (Err fault.Read) = 1
failed_reads _ = 0

-- how many writes fail in a script that ends so: one where it ends by a failed write, and else
-- none
abbrev pub failed_writes : {A : Type 0} → Result A Fault → ℕ
failed_writes (Err fault.Write) = 1
failed_writes _ = 0

-- ---- the machine of steps

-- the nodes of the tree now, or of a snapshot, where it lives
abbrev pub nodes_at : World → Option ℕ → Option (List TreeNode)
nodes_at old None = Some (tree_of old)
nodes_at old (Some snapshot) = option_map (λ pins. snapshot_tree old snapshot) (pins_of old.shared.book.snaps snapshot)

-- what a world reports by what stands in it. For each world that events lead to, `reports_by_scan`
-- is the same.
abbrev pub reports_of : World → WorldReports
reports_of w = record {
  space = space_of w;
  lists = lists_of w.shared;
  slots = length w.shared.cells;
  log = log_at w.shared;
  snaps = snaps_of w.shared.book;
  nodes = nodes_at w;
}

-- what a world reports BY ONE SCAN of all logs
abbrev pub reports_by_scan : World → WorldReports
reports_by_scan w = record {
  space = space_by_scan w;
  lists = lists_by_scan w;
  slots = length w.shared.cells;
  log = log_by_scan w;
  snaps = snaps_by_scan w;
  nodes = nodes_at w;
}

-- what a command writes and leaves, where the world reports this
abbrev pub ActsBy : WorldReports → World → Command → List ℕ → World → Type 0
ActsBy told old (command.Start actor call) text new =
    (text ≡ reply_line ((step old (Start actor call)).reply)) × (new ≡ (step old (Start actor call)).world)
ActsBy told old (command.Go actor more) text new = Answers (GoesOn (more + 1) old actor) text new
ActsBy told old (command.Run actor) text new = Answers (Runs old actor) text new
ActsBy told old (command.Do actor call) text new = Answers (Calls old actor call) text new
ActsBy told old command.Stop text new = Restarts (restarted old) old text new
ActsBy told old report text new = Tells told old report text new

-- what a command writes and leaves on the machine's world, whose reports are those of one scan.
-- What moves a call does so by the steps of `nv_machine`, and writes the last reply. Example: `do
-- 0 stat 0.1` is all steps of that call.
abbrev pub Acts : World → Command → List ℕ → World → Type 0
Acts old command text new = ActsBy (reports_by_scan old) old command text new

-- the machine, with this before the answers to each line
abbrev pub machine_player_with : (ℕ → List ℕ → List ℕ) → Player
machine_player_with head = record {
  World = World;
  empty = formatted;
  Acts = λ number old command text new. Acts old command text new;
  listed = λ w. nodes_listed (reports_by_scan w);
  head = head;
  made = λ number new answer. answer;
}

-- nothing stands before answers
abbrev pub no_head : ℕ → List ℕ → List ℕ
no_head number line = []

-- THE PLAYER THAT `play` KEEPS TO: its worlds are the machine's, and nothing stands before answers
abbrev pub machine_player : Player
machine_player = machine_player_with no_head

-- HOW THE MACHINE ENDS A SCRIPT, where the writer has this at first and is left with that: with
-- all lines played and their text written, or by a fault. Example: a format and then `jump` write
-- `formatted`, and the fault is `word` at line 2.
abbrev pub PlaysScript : Result (Unit {0}) Fault → (input left old new : Option (List ℕ)) → Type 0
PlaysScript result input left old new = Ends machine_player result input left (λ text. Appends old new text)
