-- A line that is played on what a world shows.
use Rattle.std.proofs.Common.{◌≡◌, ◌⊎◌, ℕ, ◌++◌, Bool, false, true, List, [], Option, Some, None, Result, Ok, Err, inl, inr, is_some, refl, subst, sym}
use Rattle.std.proofs.lemmas.Bool.{false≢true}
use Rattle.std.specs.Prelude.{◌≢◌, MatchBool, codes}
use Rattle.nv_base.specs.Limits.{first_bad_field}
use Rattle.nv_base.specs.Memory.{no_memory}
use Rattle.nv_base.specs.declared.fault.Fault.TheVariants as fault
use Rattle.nv_base.specs.declared.fault.GeometryField.{GeometryField}
use Rattle.nv_base.specs.declared.fault.ScriptFaultKind.{ScriptFaultKind}
use Rattle.nv_base.specs.declared.geometry.GeometryNumbers.{GeometryNumbers}
use Rattle.nv_entry.specs.declared.tree.TreeNode.{TreeNode}
use Rattle.nv_machine.specs.Format.{formatted}
use Rattle.nv_machine.specs.World as machine
use Rattle.nv_script.specs.declared.command.Command.{Command}
use Rattle.nv_script.specs.declared.command.Command.TheVariants as command
use Rattle.nv_script.specs.declared.fault.LineFault.{LineFault}
use Rattle.nv_script.specs.declared.fault.LineFault.TheVariants as line_fault
use Rattle.nv_script.specs.Grammar.{IsLineFault, Parsed, command_of, format_of, is_skipped}
use Rattle.nv_script.specs.Play.{Acts, Formats, LineFails, ListsFront, Plays, PlaysWords, ShowsTree, WordsFail, is_list, machine_player, no_head, nodes_at, reports_of}
use Rattle.nv_script.specs.Json.{answer_lines}
use Rattle.nv_script.specs.Trace.{ActsTold, ActsToldBy, player_by}
use Rattle.nv_script.specs.declared.trace.Trace.{Trace}
use Rattle.nv_script.specs.declared.trace.Trace.TheVariants as trace
use Rattle.nv_script.specs.Lines.{WritesFront, WritesSome}
use Rattle.nv_script.specs.Results.{AnswersBehind, HasAnyRun, IsNewWorld, LineFaultBehind, LineIs, ListBehind, ListIs, ListsText, MakesTold, MakesWorld, PlaysTold, SendsBut, Sent}
use Rattle.nv_script.specs.Texts.{line_of, refused_line, tree_lines}
use Rattle.nv_script.specs.Words.{words_of}
use Rattle.nv_core.specs.Worlds.{WorldState}
use Rattle.nv_core.specs.Worlds.{Leads, Shows, ShowsAny}
use Rattle.nv_script.proofs.Handed.{sends_none}
use Rattle.nv_script.proofs.Known.{writes_behind, writes_none, writes_some_behind, writes_some_first}
use Rattle.nv_script.proofs.RunsPlayed.{told_scanned}

-- a world that was made
pub made : (field : Option GeometryField) (numbers : GeometryNumbers) (text : List ℕ) (world : WorldState)
    → IsNewWorld field numbers (Ok world) → text ≡ line_of (codes "formatted") → MakesWorld field numbers text (Some world)
made (Some field) numbers text world new is = absurd (cc)
made None numbers text world shows is = (Some (formatted numbers), inl (is, refl), shows)

-- ---- a line that asks for a tree

acts_tree : (nodes : Option (List TreeNode)) (old : machine.World) (text : List ℕ) → ListsText nodes text → ShowsTree nodes old text old
acts_tree None old text is = (is, refl)
acts_tree (Some nodes) old text is = (is, refl)

acts_listed : (old : machine.World) (c : Command) (text : List ℕ) → is_list c ≡ true → ListsText (machine_player.listed old c) text
    → Acts old c text old
acts_listed old command.Tree text lists is = (is, refl)
acts_listed old (command.SnapTree snapshot) text lists is = acts_tree (nodes_at old (Some snapshot)) old text is
acts_listed old _ text lists is = absurd (false≢true lists)

-- the same where events are told: a tree has none
lists_told : (events : Trace) (number : ℕ) (old : machine.World) (c : Command) (text : List ℕ) → events ≢ trace.Json → is_list c ≡ true
    → ListsText (machine_player.listed old c) text → ActsTold events number old c text old
lists_told trace.Off number old c text plain lists is = acts_listed old c text lists is
lists_told trace.Text number old command.Tree text plain lists is = (is, refl)
lists_told trace.Text number old (command.SnapTree snapshot) text plain lists is = acts_tree (nodes_at old (Some snapshot)) old text is
lists_told trace.Text number old _ text plain lists is = absurd (false≢true lists)
lists_told trace.Json number old c text plain lists is = absurd (plain refl)

plays_words : (events : Trace) (number : ℕ) (old new : Option machine.World) (line text : List ℕ) → is_skipped line ≡ false
    → PlaysWords (player_by events no_head) number old (words_of line) text new → Plays (player_by events no_head) number old line text new
plays_words events number old new line text skipped plays =
    subst (λ (b : Bool). MatchBool b ((text ≡ []) × (new ≡ old)) (PlaysWords (player_by events no_head) number old (words_of line) text new))
    (sym skipped) plays

pub plays_listed : (events : Trace) (number : ℕ) (old : machine.World) (line text : List ℕ) (c : Command) → events ≢ trace.Json → is_skipped line ≡ false
    → command_of (words_of line) ≡ Ok c → is_list c ≡ true → ListsText (machine_player.listed old c) text
    → Plays (player_by events no_head) number (Some old) line text (Some old)
plays_listed events number old line text c plain skipped read lists is =
    plays_words events number (Some old) (Some old) line text skipped (c, old, read, lists_told events number old c text plain lists is, refl)

-- its first nodes may stand alone
fronts_told : (events : Trace) (m : machine.World) (c : Command) (sent : List ℕ) → events ≢ trace.Json
    → (sent ≡ []) ⊎ ListsFront (machine_player.listed m c) sent
    → (sent ≡ []) ⊎ ListsFront ((player_by events no_head).listed m c) sent
fronts_told trace.Off m c sent plain front = front
fronts_told trace.Text m c sent plain front = front
fronts_told trace.Json m c sent plain front = absurd (plain refl)

-- what a tree's line is answered, behind a head, is the answer of the line
pub lists_line : (events : Trace) (number : ℕ) (head : List ℕ) (result : Result (Unit {0}) LineFault) (from to : Sent) (old : Option WorldState) (world : WorldState)
    (line rest : List ℕ) (c : Command) → events ≢ trace.Json → old ≡ Some world → is_skipped line ≡ false → command_of (words_of line) ≡ Ok c → is_list c ≡ true
    → ((m : machine.World) → Shows world m → ListBehind head result from to rest (machine_player.listed m c))
    → LineIs events number head result from to old line rest (Some world)
lists_line events number head result from to old world line rest c plain there skipped read lists given = by result given where
  shown_at : (P : Option machine.World → Type 0) → ((m : machine.World) → Shows world m → P (Some m))
      → (m : Option machine.World) → ShowsAny old m → HasAnyRun m → P m
  shown_at P each m shows run = go m (subst (λ (w : Option WorldState). ShowsAny w m) there shows) where
    go : (m : Option machine.World) → ShowsAny (Some world) m → P m
    go None shown = absurd shown
    go (Some m) shown = each m shown

  by : (r : Result (Unit {0}) LineFault)
      → ((m : machine.World) → Shows world m → ListBehind head r from to rest (machine_player.listed m c))
      → LineIs events number head r from to old line rest (Some world)
  by (Ok done) given =
      shown_at
      (λ m. (n : Option machine.World) × (text : List ℕ) × Plays (player_by events no_head) number m line text n × ShowsAny (Some world) n
      × SendsBut rest from to (head ++ text))
      (λ m shown. let it = given m shown in (Some m, it.0, plays_listed events number m line it.0 c plain skipped read lists it.1, shown, it.2))
  by (Err (line_fault.OutOfMemory witness)) given =
      shown_at (λ m. LineFaultBehind events number head (line_fault.OutOfMemory witness) from to m line)
      (λ m shown. let it = given m shown in
      (head ++ it.0, (skipped, inr (it.0, (c, read, lists, fronts_told events m c it.0 plain it.1), refl)), it.2))
  by (Err line_fault.Write) given =
      shown_at (λ m. LineFaultBehind events number head line_fault.Write from to m line)
      (λ m shown. let it = given m shown in (it.0, Some m, plays_listed events number m line it.0 c plain skipped read lists it.1, it.2))
  by (Err (line_fault.Faulty why)) given =
      shown_at (λ m. LineFaultBehind events number head (line_fault.Faulty why) from to m line) (λ m shown. absurd (given m shown))

-- memory is refused before anything of a line is sent
pub starved : (events : Trace) (number : ℕ) (head : List ℕ) (from : Sent) (world : Option WorldState) (line rest : List ℕ) (new : Option WorldState)
    → is_skipped line ≡ false → LineIs {A = Unit {0}} events number head (Err (line_fault.OutOfMemory no_memory)) from from world line rest new
starved events number head from world line rest new skipped m shown run = ([], (skipped, inl refl), sends_none from)

pub starved_answer : (events : Trace) (number : ℕ) (head : List ℕ) (from : Sent) (world : Option WorldState) (line : List ℕ) (new : Option WorldState)
    → is_skipped line ≡ false → AnswersBehind {A = Unit {0}} events number head (Err (line_fault.OutOfMemory no_memory)) from from world line new
starved_answer events number head from world line new skipped m shown run = ([], (skipped, inl refl), sends_none from)

-- a line has a fault, or memory is refused while it is read
pub unread : {A : Type 0} (events : Trace) (number : ℕ) (head : List ℕ) (why : LineFault) (from : Sent) (old : Option WorldState) (line rest : List ℕ) (new : Option WorldState)
    (parsed : Parsed A) → is_skipped line ≡ false → IsLineFault why parsed
    → ((kind : ScriptFaultKind) → parsed ≡ Err kind → WordsFail (is_some old) (words_of line) kind)
    → LineIs {A = Unit {0}} events number head (Err why) from from old line rest new
unread events number head (line_fault.OutOfMemory _) from old line rest new parsed skipped is fails = starved events number head from old line rest new skipped
unread events number head line_fault.Write from old line rest new parsed skipped is fails = absurd is
unread events number head (line_fault.Faulty kind) from old line rest new parsed skipped is fails = λ m shown run.
    (subst (λ (made : Bool). LineFails made line kind) (as_many old m shown) (skipped, fails kind is), refl)
  where
    as_many : (old : Option WorldState) (m : Option machine.World) → ShowsAny old m → is_some old ≡ is_some m
    as_many None None shown = refl
    as_many None (Some m) shown = absurd shown
    as_many (Some w) None shown = absurd shown
    as_many (Some w) (Some m) shown = refl

-- a line is played on the worlds that are shown, and answered this
abbrev pub PlaysTo : Trace → ℕ → Option WorldState → List ℕ → List ℕ → Option WorldState → Type 0
PlaysTo events number old line text new = (m : Option machine.World) → ShowsAny old m → HasAnyRun m
    → (n : Option machine.World) × Plays (player_by events no_head) number m line text n × ShowsAny new n

-- a command on a world
pub played : (events : Trace) (number : ℕ) (old : Option WorldState) (world new : WorldState) (line text : List ℕ) (command : Command) → old ≡ Some world
    → is_skipped line ≡ false → command_of (words_of line) ≡ Ok command
    → Leads (λ m n. ActsToldBy (reports_of m) events number m command text n) world new → PlaysTo events number old line text (Some new)
played events number old world new line text command there skipped read leads m shows has =
    go m (subst (λ (w : Option WorldState). ShowsAny w m) there shows) has where
      go : (m : Option machine.World) → ShowsAny (Some world) m → HasAnyRun m
          → (n : Option machine.World) × Plays (player_by events no_head) number m line text n × ShowsAny (Some new) n
      go None shown has = absurd shown
      go (Some m) shown has =
          let by = leads m shown in (
            Some by.0,
            plays_words events number (Some m) (Some by.0) line text skipped
                (command, by.0, read, told_scanned events number m command text by.0 has by.1, refl),
            by.2,
          )

-- a `format` is told as it is played, except as JSON
formats_told : (events : Trace) (number : ℕ) (field : Option GeometryField) (numbers : GeometryNumbers) (text : List ℕ)
    (n : Option machine.World) → events ≢ trace.Json → Formats machine_player 0 field numbers text n
    → Formats (player_by events no_head) number field numbers text n
formats_told trace.Off number (Some field) numbers text n plain formats = formats
formats_told trace.Off number None numbers text n plain formats = formats
formats_told trace.Text number (Some field) numbers text n plain formats = formats
formats_told trace.Text number None numbers text n plain formats = formats
formats_told trace.Json number field numbers text n plain formats = absurd (plain refl)

-- a line that makes a world, and its world is told so
pub makes : (events : Trace) (number : ℕ) (old new : Option WorldState) (line text : List ℕ) (numbers : GeometryNumbers) → old ≡ None
    → is_skipped line ≡ false → format_of (words_of line) ≡ Ok numbers → MakesTold events number (first_bad_field numbers) numbers text new
    → PlaysTo events number old line text new
makes events number old new line text numbers none skipped read made m shown run =
    go m (subst (λ (w : Option WorldState). ShowsAny w m) none shown) where
      go : (m : Option machine.World) → ShowsAny None m → (n : Option machine.World) × Plays (player_by events no_head) number m line text n × ShowsAny new n
      go None shown = (made.0, plays_words events number None made.0 line text skipped (numbers, read, made.1), made.2)
      go (Some m) shown = absurd shown

-- and one that is not told as JSON
pub formats : (events : Trace) (number : ℕ) (old new : Option WorldState) (line text : List ℕ) (numbers : GeometryNumbers) → events ≢ trace.Json → old ≡ None
    → is_skipped line ≡ false → format_of (words_of line) ≡ Ok numbers → MakesWorld (first_bad_field numbers) numbers text new
    → PlaysTo events number old line text new
formats events number old new line text numbers plain none skipped read is =
    makes events number old new line text numbers none skipped read
    (is.0, formats_told events number (first_bad_field numbers) numbers text is.0 plain is.1, is.2)

-- what stands before the answers to a line was sent, and these are to be sent
pub headed : (events : Trace) (number : ℕ) (head : List ℕ) (from to : Sent) (old new : Option WorldState) (line text : List ℕ) → PlaysTo events number old line text new
    → WritesFront from.written to.written (from.gathered ++ head) to.gathered
    → LineIs {A = Unit {0}} events number head (Ok tt) from to old line text new
headed events number head from to old new line text plays sent m shown run =
    let p = plays m shown run in (
      p.0,
      text,
      p.1,
      p.2,
      writes_behind from.written to.written to.written from.gathered head to.gathered text (to.gathered ++ text) sent
          (writes_none to.written (to.gathered ++ text)),
    )

-- or a write of it failed
pub unheaded : (events : Trace) (number : ℕ) (head : List ℕ) (from to : Sent) (old new : Option WorldState) (line text rest : List ℕ) (world : Option WorldState)
    → PlaysTo events number old line text new → WritesSome from.written to.written (from.gathered ++ head) × (to.gathered ≡ [])
    → LineIs {A = Unit {0}} events number head (Err line_fault.Write) from to old line rest world
unheaded events number head from to old new line text rest world plays some m shown run =
    let p = plays m shown run in
    (text, p.0, p.1, (writes_some_first from.written to.written from.gathered head text some.0, some.1))

-- a line that is skipped
pub skips : (events : Trace) (number : ℕ) (head : List ℕ) (old : Option WorldState) (line rest : List ℕ) (from : Sent) → is_skipped line ≡ true → head ≡ [] → rest ≡ []
    → PlaysTold events number old line (λ text. SendsBut rest from from (head ++ text)) old
skips events number head old line rest from skipped none empty m shown run = (
  m,
  rest,
  subst (λ (b : Bool). MatchBool b ((rest ≡ []) × (m ≡ m)) (PlaysWords (player_by events no_head) number m (words_of line) rest m))
      (sym skipped) (empty, refl),
  shown,
  subst (λ (h : List ℕ). SendsBut rest from from (h ++ rest)) (sym none) (writes_none from.written (from.gathered ++ rest)),
)

-- ---- a tree behind a head

-- some text of a tree
pub some_list : (nodes : Option (List TreeNode)) → (text : List ℕ) × ListsText nodes text
some_list None = (refused_line fault.NoSnapshot, refl)
some_list (Some nodes) = (tree_lines nodes, inl refl)

pub lists_behind : (head : List ℕ) (result : Result (Unit {0}) LineFault) (from mid to : Sent) (rest : List ℕ)
    (nodes : Option (List TreeNode)) → WritesFront from.written mid.written (from.gathered ++ head) mid.gathered
    → ListIs result mid to rest nodes → ListBehind head result from to rest nodes
lists_behind head (Ok done) from mid to rest nodes sent list =
    (list.0, list.1, writes_behind _ _ _ from.gathered head mid.gathered list.0 _ sent list.2)
lists_behind head (Err (line_fault.OutOfMemory _)) from mid to rest nodes sent list =
    (list.0, list.1, writes_behind _ _ _ from.gathered head mid.gathered list.0 _ sent list.2)
lists_behind head (Err line_fault.Write) from mid to rest nodes sent list =
    (list.0, list.1, (writes_some_behind _ _ _ from.gathered head mid.gathered list.0 sent list.2.0, list.2.1))
lists_behind head (Err (line_fault.Faulty why)) from mid to rest nodes sent list = absurd list

pub lists_unheaded : (head : List ℕ) (from to : Sent) (rest : List ℕ) (nodes : Option (List TreeNode))
    → WritesSome from.written to.written (from.gathered ++ head) × (to.gathered ≡ [])
    → ListBehind head (Err line_fault.Write) from to rest nodes
lists_unheaded head from to rest nodes some =
    let text = some_list nodes in
    (text.0, text.1, (writes_some_first from.written to.written from.gathered head text.0 some.0, some.1))

-- as JSON some text of a tree is told as a whole
json_told : (number : ℕ) (old : machine.World) (c : Command) → is_list c ≡ true
    → (text : List ℕ) × ActsTold trace.Json number old c text old
json_told number old command.Tree lists =
    let tree = some_list (machine_player.listed old command.Tree) in
    (answer_lines number tree.0, (tree.0, acts_listed old command.Tree tree.0 lists tree.1, refl))
json_told number old (command.SnapTree snapshot) lists =
    let tree = some_list (machine_player.listed old (command.SnapTree snapshot)) in
    (answer_lines number tree.0, (tree.0, acts_listed old (command.SnapTree snapshot) tree.0 lists tree.1, refl))
json_told number old _ lists = absurd (false≢true lists)

pub plays_in_json : (number : ℕ) (old : machine.World) (line : List ℕ) (c : Command) → is_skipped line ≡ false
    → command_of (words_of line) ≡ Ok c → is_list c ≡ true
    → (text : List ℕ) × Plays (player_by trace.Json no_head) number (Some old) line text (Some old)
plays_in_json number old line c skipped read lists =
    let told = json_told number old c lists in
    (told.0, plays_words trace.Json number (Some old) (Some old) line told.0 skipped (c, old, read, told.1, refl))

-- a command that lists no tree
pub no_list : (c : Command) → (c ≡ command.Tree → ⊥) → ((s : ℕ) → c ≡ command.SnapTree s → ⊥) → is_list c ≡ false
no_list command.Tree tree snapshot = absurd (tree refl)
no_list (command.SnapTree s) tree snapshot = absurd (snapshot s refl)
no_list _ tree snapshot = refl
