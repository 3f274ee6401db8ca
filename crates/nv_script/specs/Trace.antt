-- A script that is traced: before the answer to a line stands a line for each event that it makes, and without these lines the text
-- is that of `play`.
use Rattle.std.specs.Prelude.{◌≡◌, ◌≢◌, ◌⊎◌, ℕ, ◌+◌, ◌==◌, ◌&&◌, Bool, false, not, List, [], ◌∷◌, ◌++◌, codes, decimal, Option, Some, None, Result, Err}
use Rattle.std.specs.Io.KnownBytes.{Appends}
use Rattle.std.specs.List.{filter}
use Rattle.nv_base.specs.declared.fault.Fault.{Fault}
use Rattle.nv_base.specs.Memory.{out_of_memory}
use Rattle.nv_base.specs.declared.fault.Fault.TheVariants as fault
use Rattle.nv_calls.specs.declared.call.Call.{Call}
use Rattle.nv_entry.specs.declared.tree.TreeNode.{TreeNode}
use Rattle.nv_machine.specs.Format.{formatted}
use Rattle.nv_machine.specs.Frame.{Lent, lent}
use Rattle.nv_machine.specs.PlainRun.{plain_change_of}
use Rattle.nv_machine.specs.Step.{step}
use Rattle.nv_machine.specs.StepNames as named
use Rattle.nv_machine.specs.StepRows.{name_of}
use Rattle.nv_machine.specs.World.{Done, Go, Moved, Refused, Reply, Running, Start, Started, Waiting, World, actor_at}
use Rattle.nv_core.specs.CallNames.{call_name}
use Rattle.nv_core.specs.NextSteps.{holder_for, number_at}
use Rattle.nv_core.specs.Whole.{GoesOn, Runs}
use Rattle.nv_core.specs.declared.call_name.CallName.{CallName}
use Rattle.nv_core.specs.declared.call_name.CallName.TheVariants as called
use Rattle.nv_script.specs.declared.call.CallWord.{CallWord}
use Rattle.nv_script.specs.declared.call.CallWord.TheVariants as calls
use Rattle.nv_script.specs.declared.command.Command.{Command}
use Rattle.nv_script.specs.declared.command.Command.TheVariants as command
use Rattle.nv_script.specs.declared.echo.Echo.{Echo}
use Rattle.nv_script.specs.declared.trace.Trace.{Trace}
use Rattle.nv_script.specs.declared.trace.Trace.TheVariants as trace
use Rattle.nv_script.specs.Echo.{AreClean, before_answers}
use Rattle.nv_script.specs.Grammar.{name_in, row}
use Rattle.nv_script.specs.Json.{answer_lines}
use Rattle.nv_script.specs.JsonWorld.{hand_object, lent_object, text_of_line, world_line}
use Rattle.nv_script.specs.Lines.{ended}
use Rattle.nv_script.specs.Play.{ActsBy, Ends, Player, WorldReports, machine_player, no_head, nodes_listed, reports_by_scan}
use Rattle.nv_restart.specs.Restarted.{restarted}
use Rattle.nv_script.specs.Texts.{line_of, refused_line, reply_line}

-- ---- the words of an event

-- the word of a call by its name
abbrev pub word_of : CallName → CallWord
word_of called.Create = calls.Create
word_of called.Mkdir = calls.Mkdir
word_of called.Write = calls.Write
word_of called.Read = calls.Read
word_of called.Size = calls.Size
word_of called.Mode = calls.Mode
word_of called.Stat = calls.Stat
word_of called.List = calls.List
word_of called.Lookup = calls.Lookup
word_of called.Unlink = calls.Unlink
word_of called.Rmdir = calls.Rmdir
word_of called.Rename = calls.Rename
word_of called.Snap = calls.Snap
word_of called.Drop = calls.Drop
word_of called.Show = calls.Show
word_of called.Drain = calls.Drain
word_of called.Fast = calls.Fast
word_of called.Thorough = calls.Thorough
word_of called.Auto = calls.Auto

-- a call as scripts spell it
abbrev pub call_text : CallName → List ℕ
call_text call = name_in (row (word_of call))

-- the word of a step
abbrev pub step_word : named.StepName → List ℕ
step_word named.Number = codes "number"
step_word (named.Look dir) = codes "look"
step_word (named.Lock slot) = codes "lock"
step_word named.Check = codes "check"
step_word (named.TakeBlocks cpu) = codes "take_blocks"
step_word (named.TakeLogPages cpu) = codes "take_log_pages"
step_word named.Ready = codes "ready"
step_word named.Enter = codes "enter"
step_word (named.Append slot) = codes "append"
step_word (named.Open cpu) = codes "open"
step_word (named.Publish slot) = codes "publish"
step_word (named.Close cpu) = codes "close"
step_word (named.Retire slot) = codes "retire"
step_word named.Leave = codes "leave"
step_word (named.Unlock slot) = codes "unlock"
step_word (named.Give cpu) = codes "give"
step_word named.ReturnNumber = codes "return_number"
step_word (named.Visit slot) = codes "visit"
step_word named.Make = codes "make"
step_word named.Drop = codes "drop"
step_word named.Pin = codes "pin"
step_word (named.Show slot) = codes "show"
step_word named.Unpin = codes "unpin"
step_word named.Pick = codes "pick"
step_word (named.LockPicked slot) = codes "lock_picked"
step_word (named.Release slot) = codes "release"
step_word (named.LockCleaned slot) = codes "lock_cleaned"
step_word named.PlanCleaning = codes "plan_cleaning"
step_word (named.Fresh cpu) = codes "fresh"
step_word (named.Unlink slot) = codes "unlink"
step_word (named.Compact slot) = codes "compact"

-- the inode slot, the CPU or the directory of a step
abbrev pub step_place : named.StepName → Option ℕ
step_place (named.Look dir) = Some dir
step_place (named.Lock slot) = Some slot
step_place (named.TakeBlocks cpu) = Some cpu
step_place (named.TakeLogPages cpu) = Some cpu
step_place (named.Append slot) = Some slot
step_place (named.Open cpu) = Some cpu
step_place (named.Publish slot) = Some slot
step_place (named.Close cpu) = Some cpu
step_place (named.Retire slot) = Some slot
step_place (named.Unlock slot) = Some slot
step_place (named.Give cpu) = Some cpu
step_place (named.Visit slot) = Some slot
step_place (named.Show slot) = Some slot
step_place (named.LockPicked slot) = Some slot
step_place (named.Release slot) = Some slot
step_place (named.LockCleaned slot) = Some slot
step_place (named.Fresh cpu) = Some cpu
step_place (named.Unlink slot) = Some slot
step_place (named.Compact slot) = Some slot
step_place other = None

-- a number behind a label, where there is one
abbrev pub labelled : List ℕ → Option ℕ → List ℕ
labelled label None = []
labelled label (Some number) = label ++ decimal number

-- the reply to a step, and the actor that a waiting one waits for
abbrev pub reply_text : Reply → Option ℕ → List ℕ
reply_text Started holder = codes "start"
reply_text Moved holder = codes "moved"
reply_text Waiting holder = codes "waits" ++ labelled (codes " ") holder
reply_text (Done answer) holder = codes "done"
reply_text (Refused why) holder = codes "refused"

-- ---- THE LINES OF EVENTS

-- what an event's line begins with: two spaces, the number of the script's line, the actor and its call
abbrev pub event_head : ℕ → ℕ → CallName → List ℕ
event_head number actor call =
    codes "  " ++ decimal number ++ codes " " ++ decimal actor ++ codes " " ++ call_text call ++ codes " "

-- what an event's object begins with
abbrev pub object_head : ℕ → ℕ → CallName → List ℕ
object_head number actor call =
    codes "{\"line\":" ++ decimal number ++ codes ",\"actor\":" ++ decimal actor ++ codes ",\"call\":\"" ++ call_text call
    ++ codes "\",\"step\":\""

-- a call that starts, where events are told in this form
abbrev pub start_line : Trace → (number actor : ℕ) → CallName → List ℕ
start_line trace.Off number actor call = []
start_line trace.Text number actor call = line_of (event_head number actor call ++ codes "start")
start_line trace.Json number actor call = line_of (object_head number actor call ++ codes "start\",\"reply\":\"started\"}")

-- the line of a start; one that is refused is no event, and has none
abbrev pub start_lines : Trace → (number actor : ℕ) → CallName → Reply → List ℕ
start_lines form number actor call Started = start_line form number actor call
start_lines form number actor call other = []

-- a step by its name, its reply, who holds the lock that it needs, and the number of the commit where it is the commit point
abbrev pub step_text : ℕ → ℕ → CallName → named.StepName → Reply → (holder commit : Option ℕ) → List ℕ
step_text number actor call name reply holder commit =
    line_of (event_head number actor call ++ step_word name ++ labelled (codes " ") (step_place name) ++ codes " "
    ++ reply_text reply holder ++ labelled (codes " commit ") commit)

-- the word of a reply to a step
abbrev pub reply_word : Reply → List ℕ
reply_word Started = codes "started"
reply_word Moved = codes "moved"
reply_word Waiting = codes "waits"
reply_word (Done answer) = codes "done"
reply_word (Refused why) = codes "refused"

-- the actor that a step waits for, where it waits
abbrev pub awaited_member : Reply → Option ℕ → List ℕ
awaited_member Waiting holder = labelled (codes ",\"for\":") holder
awaited_member reply holder = []

-- what a step that was made has left: its actor's hand, and the parts that it was lent
abbrev pub made_members : ℕ → Lent → World → List ℕ
made_members actor parts after =
    codes ",\"hand\":" ++ hand_object (actor_at after actor).hand ++ codes ",\"lent\":" ++ lent_object parts after.shared

-- one that waits has left nothing
abbrev pub left_members : Reply → ℕ → Lent → World → List ℕ
left_members Started actor parts after = []
left_members Waiting actor parts after = []
left_members reply actor parts after = made_members actor parts after

-- what the object of a step begins with: its name, and the inode slot, the CPU or the directory of it
abbrev pub step_head : ℕ → ℕ → CallName → named.StepName → List ℕ
step_head number actor call name =
    object_head number actor call ++ step_word name ++ codes "\"" ++ labelled (codes ",\"at\":") (step_place name)

-- the reply to a step, who holds the lock that it waits for, and the number of the commit where it is the commit point
abbrev pub replied_members : Reply → (holder commit : Option ℕ) → List ℕ
replied_members reply holder commit =
    codes ",\"reply\":\"" ++ reply_word reply ++ codes "\"" ++ awaited_member reply holder ++ labelled (codes ",\"commit\":") commit

-- a step as an object, with what it has left in the world after it
abbrev pub step_object : ℕ → ℕ → CallName → named.StepName → Reply → (holder commit : Option ℕ) → Lent → World → List ℕ
step_object number actor call name reply holder commit parts after =
    line_of (step_head number actor call name ++ replied_members reply holder commit ++ left_members reply actor parts after ++ codes "}")

-- the line of a step, where events are told in this form
abbrev pub step_by : Trace → (number actor : ℕ) → CallName → named.StepName → Reply → (holder commit : Option ℕ) → Lent → World → List ℕ
step_by trace.Off number actor call name reply holder commit parts after = []
step_by trace.Text number actor call name reply holder commit parts after = step_text number actor call name reply holder commit
step_by trace.Json number actor call name reply holder commit parts after =
    step_object number actor call name reply holder commit parts after

-- a step of a running call
abbrev pub step_line : Trace → (number : ℕ) → World → ℕ → Bool → Running → List ℕ
step_line form number m actor granted r =
    step_by form number actor (call_name r.call) (name_of r.next m.numbers.cpus actor r) ((step m (Go actor granted)).reply)
    (holder_for m.shared r r.next) (number_at (plain_change_of m (Go actor granted)) r.commit) (lent r.next m.numbers.cpus actor r)
    ((step m (Go actor granted)).world)

-- an event of an actor that runs no call has no line
abbrev pub go_line : Trace → (number : ℕ) → World → ℕ → Bool → Option Running → List ℕ
go_line form number m actor granted None = []
go_line form number m actor granted (Some r) = step_line form number m actor granted r

-- events of an actor's call one after another, each told of the world before it
abbrev pub go_lines : Trace → (number : ℕ) → World → ℕ → List Bool → List ℕ
go_lines form number m actor [] = []
go_lines form number m actor (granted ∷ grants) =
    go_line form number m actor granted (actor_at m actor).running ++ go_lines form number (step m (Go actor granted)).world actor grants

-- ---- commands, told event by event. Example: `do 0 mode 1.1 384` in line 9 writes ten lines of events, from `  9 0 mode start` to
-- `  9 0 mode unlock 1 done`, among them `  9 0 mode publish 1 moved commit 3`, and then `done`.

-- a call goes on, and THE VERY GRANTS THAT GIVE ITS LAST REPLY give the lines of its events
abbrev pub GoesTraced : Trace → (number most : ℕ) → World → ℕ → (events : List ℕ) → Reply → World → Type 0
GoesTraced form number most old actor events last new =
    (goes : GoesOn most old actor last new) × (events ≡ go_lines form number old actor goes.grants)

-- a call goes on until it does not move, and its events have these lines
abbrev pub RunsTraced : Trace → (number : ℕ) → World → ℕ → (events : List ℕ) → Reply → World → Type 0
RunsTraced form number old actor events last new =
    (runs : Runs old actor last new) × (events ≡ go_lines form number old actor runs.goes.grants)

-- a call that was started runs, and one that was refused has no events
abbrev pub RunsTracedFrom : Reply → Trace → (number : ℕ) → World → ℕ → (events : List ℕ) → Reply → World → Type 0
RunsTracedFrom Started form number old actor events last new = RunsTraced form number old actor events last new
RunsTracedFrom first form number old actor events last new = (last ≡ first) × (new ≡ old) × (events ≡ [])

-- a whole call: its start, and the steps of one that was started
abbrev pub CallsTraced : Trace → (number : ℕ) → World → ℕ → Call → (events : List ℕ) → Reply → World → Type 0
CallsTraced form number old actor c events last new =
    let start = step old (Start actor c) in
    (steps : List ℕ) × RunsTracedFrom start.reply form number start.world actor steps last new
    × (events ≡ start_lines form number actor (call_name c) start.reply ++ steps)

-- an answer to the line with a number: as JSON each of its lines is an object too
abbrev pub answer_by : Trace → (number : ℕ) → List ℕ → List ℕ
answer_by trace.Off number answer = answer
answer_by trace.Text number answer = answer
answer_by trace.Json number answer = answer_lines number answer

-- the same of a command that makes a world: as JSON the world behind it is told
abbrev pub made_by : Trace → (number : ℕ) → Option World → List ℕ → List ℕ
made_by trace.Off number new answer = answer
made_by trace.Text number new answer = answer
made_by trace.Json number None answer = answer_lines number answer
made_by trace.Json number (Some w) answer = world_line number w ++ answer_lines number answer

-- the events are written, and then the last reply
abbrev pub AnswersTraced : Trace → (number : ℕ) → (List ℕ → Reply → World → Type 0) → List ℕ → World → Type 0
AnswersTraced form number Traced text new =
    (events : List ℕ) × (last : Reply) × Traced events last new × (text ≡ events ++ answer_by form number (reply_line last))

-- the machine stops and goes on as this; or memory is refused, and nothing changes
abbrev pub RestartsTold : Trace → (number : ℕ) → (stopped old : World) → List ℕ → World → Type 0
RestartsTold form number stopped old text new =
    ((text ≡ made_by form number (Some stopped) (line_of (codes "stopped"))) × (new ≡ stopped))
    ⊎ ((text ≡ made_by form number None (refused_line out_of_memory)) × (new ≡ old))

-- a report makes no event
abbrev pub ReportsTold : Trace → (number : ℕ) → (List ℕ → World → Type 0) → List ℕ → World → Type 0
ReportsTold trace.Off number Acts text new = Acts text new
ReportsTold trace.Text number Acts text new = Acts text new
ReportsTold trace.Json number Acts text new = (answer : List ℕ) × Acts answer new × (text ≡ answer_lines number answer)

-- WHAT A TRACED COMMAND WRITES AND LEAVES, in the line with a number, where the world reports this
abbrev pub ActsTracedBy : WorldReports → Trace → ℕ → World → Command → List ℕ → World → Type 0
ActsTracedBy told form number old (command.Start actor c) text new =
    let start = step old (Start actor c) in
    (text ≡ start_lines form number actor (call_name c) start.reply ++ answer_by form number (reply_line start.reply)) × (new ≡ start.world)
ActsTracedBy told form number old (command.Go actor more) text new =
    AnswersTraced form number (GoesTraced form number (more + 1) old actor) text new
ActsTracedBy told form number old (command.Run actor) text new = AnswersTraced form number (RunsTraced form number old actor) text new
ActsTracedBy told form number old (command.Do actor c) text new = AnswersTraced form number (CallsTraced form number old actor c) text new
ActsTracedBy told form number old command.Stop text new = RestartsTold form number (restarted old) old text new
ActsTracedBy told form number old report text new = ReportsTold form number (ActsBy told old report) text new

-- ---- players

-- a command, with its events or without, where the world reports this
abbrev pub ActsToldBy : WorldReports → Trace → ℕ → World → Command → List ℕ → World → Type 0
ActsToldBy told trace.Off number old c text new = ActsBy told old c text new
ActsToldBy told trace.Text number old c text new = ActsTracedBy told trace.Text number old c text new
ActsToldBy told trace.Json number old c text new = ActsTracedBy told trace.Json number old c text new

-- what stands before what a line writes: its text as an object, or its echo
abbrev pub head_by : Trace → Echo → ℕ → List ℕ → List ℕ
head_by trace.Off echo = before_answers echo
head_by trace.Text echo = before_answers echo
head_by trace.Json echo = text_of_line

-- a command, with its events or without, where reports are those of one scan
abbrev pub ActsTold : Trace → ℕ → World → Command → List ℕ → World → Type 0
ActsTold events number old c text new = ActsToldBy (reports_by_scan old) events number old c text new

-- the nodes of which the first may stand alone where memory is refused; as JSON a tree is told as a whole
abbrev pub listed_by : Trace → WorldReports → Command → Option (List TreeNode)
listed_by trace.Off told c = nodes_listed told c
listed_by trace.Text told c = nodes_listed told c
listed_by trace.Json told c = None

-- the machine, where events are told or not, with this before the answers to each line
abbrev pub player_by : Trace → (ℕ → List ℕ → List ℕ) → Player
player_by told head = record {
  World = World;
  empty = formatted;
  Acts = λ number old command text new. ActsTold told number old command text new;
  listed = λ w. listed_by told (reports_by_scan w);
  head = head;
  made = λ number new answer. made_by told number new answer;
}

-- THE TRACING PLAYER: the machine, with the lines of its events
abbrev pub tracing_player : Player
tracing_player = player_by trace.Text no_head

-- HOW A TRACED SCRIPT ENDS: as one that is played, by a player that tells events
abbrev pub TracesScript : Result (Unit {0}) Fault → (input left old new : Option (List ℕ)) → Type 0
TracesScript result input left old new = Ends tracing_player result input left (λ text. Appends old new text)

-- THE SAME AS JSON: an object a line
abbrev pub json_player : Player
json_player = player_by trace.Json text_of_line

-- how a script ends that is traced so
abbrev pub TracesInJson : Result (Unit {0}) Fault → (input left old new : Option (List ℕ)) → Type 0
TracesInJson result input left old new = Ends json_player result input left (λ text. Appends old new text)

-- ---- the output without its events

-- a line is one of an event: it begins with two spaces, as no line of an answer does
abbrev pub is_event : List ℕ → Bool
is_event (a ∷ b ∷ rest) = (a == 32) && (b == 32)
is_event _ = false

-- the lines without those of events
abbrev pub without_events : List (List ℕ) → List (List ℕ)
without_events lines = filter (λ line. not (is_event line)) lines

-- what was written is whole lines, and this text once those of events are left out
abbrev pub IsTraced : (written text : List ℕ) → Type 0
IsTraced written text =
    (lines : List (List ℕ)) × AreClean lines × (written ≡ ended lines) × (text ≡ ended (without_events lines))

-- A TRACED SCRIPT ENDS AS ONE THAT IS PLAYED, and without the events its text is the same; a failed write can leave a piece of one
abbrev pub PlaysWithoutEvents : Result (Unit {0}) Fault → (input left old new : Option (List ℕ)) → Type 0
PlaysWithoutEvents result input left old new = result ≢ Err fault.Write
    → Ends machine_player result input left (λ text. (written : List ℕ) × IsTraced written text × Appends old new written)
