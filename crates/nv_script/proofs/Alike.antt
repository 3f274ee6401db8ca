-- Two players whose worlds go alike play a script alike, where none of its lines makes a single step.
use Rattle.std.proofs.Common.{◌≡◌, ◌∙◌, ◌⊎◌, inl, inr, ℕ, ◌+◌, ◌++◌, length, Bool, true, false, List, [], ◌∷◌, Option, Some, None, Result, Ok, Err, is_some, ap, append_assoc, refl, subst, sym}
use Rattle.std.specs.Prelude.{MatchBool, codes, nat_lt}
use Rattle.nv_base.specs.Limits.{first_bad_field}
use Rattle.nv_base.specs.Memory.{out_of_memory}
use Rattle.nv_base.specs.declared.fault.Fault.{Fault}
use Rattle.nv_base.specs.declared.fault.Fault.TheVariants as fault
use Rattle.nv_base.specs.declared.fault.GeometryField.{GeometryField}
use Rattle.nv_base.specs.declared.geometry.GeometryNumbers.{GeometryNumbers}
use Rattle.nv_entry.specs.declared.tree.TreeNode.{TreeNode}
use Rattle.nv_script.specs.declared.command.Command.{Command}
use Rattle.nv_script.specs.declared.command.Command.TheVariants as command
use Rattle.nv_script.specs.Grammar.{command_of, is_skipped}
use Rattle.nv_script.specs.Lines.{IsCutOff, IsLine, ended}
use Rattle.nv_script.specs.Play.{Ends, EndsBy, Formats, IsFault, ListsFront, ListsWords, Played, Player, Plays, PlaysFrom, PlaysWords, Reports, ShowsLog, ShowsTree, Stops, StopsAt, Tells, WorldReports}
use Rattle.nv_script.specs.Serially.{HasNoSteps, makes_steps}
use Rattle.nv_script.specs.Texts.{line_of, lists_lines, log_line, refused_line, snaps_lines, space_line}
use Rattle.nv_script.specs.Words.{words_of}
use Rattle.nv_script.proofs.Lines.{ended-push}

-- a line makes no step
abbrev pub IsWhole : List ℕ → Type 0
IsWhole line = (c : Command) → command_of (words_of line) ≡ Ok c → makes_steps c ≡ false

-- as one world goes, so does the other: from the start, and by each command that makes no step; the same stands before answers, and a
-- `format` is told the same
pub record GoAlike (P Q : Player) (Like : P.World → Q.World → Type 0) : Type 0 where
  pub start : (numbers : GeometryNumbers) → first_bad_field numbers ≡ None → Like (P.empty numbers) (Q.empty numbers)
  pub acts : (number : ℕ) (m : P.World) (s : Q.World) (c : Command) (text : List ℕ) (n : P.World) → Like m s → makes_steps c ≡ false
      → P.Acts number m c text n → (t : Q.World) × Q.Acts number s c text t × Like n t
  pub lists : (m : P.World) (s : Q.World) (c : Command) → Like m s → P.listed m c ≡ Q.listed s c
  pub heads : (number : ℕ) (line : List ℕ) → P.head number line ≡ Q.head number line
  pub made : (number : ℕ) (m : Option P.World) (s : Option Q.World) (answer : List ℕ) → P.made number m answer ≡ Q.made number s answer

-- two worlds report the same
pub record ReportAlike (a b : WorldReports) : Type 0 where
  pub space : a.space ≡ b.space
  pub lists : a.lists ≡ b.lists
  pub slots : a.slots ≡ b.slots
  pub log : (ino : ℕ) → nat_lt ino a.slots ≡ true → a.log ino ≡ b.log ino
  pub snaps : a.snaps ≡ b.snaps
  pub nodes : (which : Option ℕ) → a.nodes which ≡ b.nodes which

-- so a report writes the same of both, and leaves both
module _ {V W : Type 0} (m n : V) (s : W) (text : List ℕ) where
  reports_alike : (lines lines' : List ℕ) → lines ≡ lines' → Reports lines m text n → Reports lines' s text s × (n ≡ m)
  reports_alike lines lines' same told = subst (λ (l : List ℕ). Reports l s text s × (n ≡ m)) same ((told.0, refl), told.1)

  tree_alike : (nodes nodes' : Option (List TreeNode)) → nodes ≡ nodes' → ShowsTree nodes m text n → ShowsTree nodes' s text s × (n ≡ m)
  tree_alike nodes nodes' same shows = subst (λ (o : Option (List TreeNode)). ShowsTree o s text s × (n ≡ m)) same (go nodes shows) where
    go : (o : Option (List TreeNode)) → ShowsTree o m text n → ShowsTree o s text s × (n ≡ m)
    go None told = ((told.0, refl), told.1)
    go (Some list) told = ((told.0, refl), told.1)

  log_alike : (a b : WorldReports) (ino : ℕ) → ReportAlike a b → ShowsLog (nat_lt ino a.slots) a ino m text n
      → ShowsLog (nat_lt ino b.slots) b ino s text s × (n ≡ m)
  log_alike a b ino same shows =
      subst (λ (slots : ℕ). ShowsLog (nat_lt ino slots) b ino s text s × (n ≡ m)) same.slots (go (nat_lt ino a.slots) refl shows) where
        go : (there : Bool) → nat_lt ino a.slots ≡ there → ShowsLog there a ino m text n → ShowsLog there b ino s text s × (n ≡ m)
        go true is told = reports_alike _ _ (ap (log_line ino) (same.log ino is)) told
        go false is told = ((told.0, refl), told.1)

  pub tells_alike : (a b : WorldReports) (c : Command) → ReportAlike a b → Tells a m c text n → Tells b s c text s × (n ≡ m)
  tells_alike a b command.Tree same told = tree_alike (a.nodes None) (b.nodes None) (same.nodes None) told
  tells_alike a b (command.SnapTree snapshot) same told =
      tree_alike (a.nodes (Some snapshot)) (b.nodes (Some snapshot)) (same.nodes (Some snapshot)) told
  tells_alike a b command.Snaps same told = reports_alike _ _ (ap snaps_lines same.snaps) told
  tells_alike a b command.Space same told =
      ((told.0 ∙ ap space_line same.space, refl), told.1)
  tells_alike a b command.Lists same told = reports_alike _ _ (ap lists_lines same.lists) told
  tells_alike a b (command.Log ino) same told = log_alike a b ino same told
  tells_alike a b command.Audit same told = ((told.0, refl), told.1)
  tells_alike a b _ same told = absurd told

module _ (P Q : Player) (Like : P.World → Q.World → Type 0) (alike : GoAlike P Q Like) where
  abbrev pub AreLike : Option P.World → Option Q.World → Type 0
  AreLike None None = Unit {0}
  AreLike (Some m) (Some s) = Like m s
  AreLike m s = ⊥

  -- what a line of the first player is of the second one
  abbrev Follows : ℕ → Option Q.World → List ℕ → List ℕ → Option P.World → Type 0
  Follows number s line text n = (t : Option Q.World) × Plays Q number s line text t × AreLike n t

  formats_alike : (number : ℕ) (field : Option GeometryField) (numbers : GeometryNumbers) (text : List ℕ) (n : Option P.World)
      → first_bad_field numbers ≡ field → Formats P number field numbers text n
      → (t : Option Q.World) × Formats Q number field numbers text t × AreLike n t
  formats_alike number (Some field) numbers text n is formats = (
    None,
    (formats.0 ∙ alike.made number None None (refused_line (fault.BadGeometry field)), refl),
    subst (λ (w : Option P.World). AreLike w None) (sym formats.1) tt,
  )
  formats_alike number None numbers text n is (inl made) = (
    Some (Q.empty numbers),
    inl (made.0 ∙ alike.made number (Some (P.empty numbers)) (Some (Q.empty numbers)) (line_of (codes "formatted")), refl),
    subst (λ (w : Option P.World). AreLike w (Some (Q.empty numbers))) (sym made.1) (alike.start numbers is),
  )
  formats_alike number None numbers text n is (inr none) = (
    None,
    inr (none.0 ∙ alike.made number None None (refused_line out_of_memory), refl),
    subst (λ (w : Option P.World). AreLike w None) (sym none.1) tt,
  )

  words_alike : (number : ℕ) (m : Option P.World) (s : Option Q.World) (line text : List ℕ) (n : Option P.World) → AreLike m s → IsWhole line
      → PlaysWords P number m (words_of line) text n → (t : Option Q.World) × PlaysWords Q number s (words_of line) text t × AreLike n t
  words_alike number None None line text n like whole plays =
      let made = formats_alike number (first_bad_field plays.0) plays.0 text n refl plays.2 in
      (made.0, (plays.0, plays.1, made.1), made.2)
  words_alike number (Some m) (Some s) line text n like whole plays =
      let acts = alike.acts number m s plays.0 text plays.1 like (whole plays.0 plays.2) plays.3 in (
        Some acts.0,
        (plays.0, acts.0, plays.2, acts.1, refl),
        subst (λ (w : Option P.World). AreLike w (Some acts.0)) (sym plays.4) acts.2,
      )
  words_alike number None (Some s) line text n like whole plays = absurd like
  words_alike number (Some m) None line text n like whole plays = absurd like

  line_alike : (number : ℕ) (m : Option P.World) (s : Option Q.World) (line text : List ℕ) (n : Option P.World) → AreLike m s → IsWhole line
      → Plays P number m line text n → Follows number s line text n
  line_alike number m s line text n like whole plays = go (is_skipped line) plays where
    go : (b : Bool) → MatchBool b ((text ≡ []) × (n ≡ m)) (PlaysWords P number m (words_of line) text n)
        → (t : Option Q.World) × MatchBool b ((text ≡ []) × (t ≡ s)) (PlaysWords Q number s (words_of line) text t) × AreLike n t
    go true skips = (s, (skips.0, refl), subst (λ (w : Option P.World). AreLike w s) (sym skips.1) like)
    go false words = words_alike number m s line text n like whole words

  -- each of some lines makes no step
  abbrev AreWhole : List (List ℕ) → Type 0
  AreWhole [] = Unit {0}
  AreWhole (line ∷ lines) = (IsLine line → IsWhole line) × AreWhole lines

  lines_alike : (number : ℕ) (m : Option P.World) (s : Option Q.World) (lines : List (List ℕ)) (text : List ℕ) (n : Option P.World)
      → AreLike m s → AreWhole lines → PlaysFrom P number m lines text n
      → (t : Option Q.World) × PlaysFrom Q number s lines text t × AreLike n t
  lines_alike number m s [] text n like whole plays =
      (s, (plays.0, refl), subst (λ (w : Option P.World). AreLike w s) (sym plays.1) like)
  lines_alike number m s (line ∷ lines) text n like whole plays =
      let one = line_alike number m s line plays.0 plays.2 like (whole.0 plays.3) plays.4 in
      let more = lines_alike (number + 1) plays.2 one.0 lines plays.1 n one.2 whole.1 plays.5 in
      let text_is = plays.6 ∙ ap (λ (h : List ℕ). (h ++ plays.0) ++ plays.1) (alike.heads number line) in
      (more.0, (plays.0, plays.1, one.0, plays.3, one.1, more.1, text_is), more.2)

  -- ---- of the bytes that the reader has

  lines_whole : (bytes : List ℕ) (before lines : List (List ℕ)) (rest : List ℕ) → HasNoSteps bytes
      → bytes ≡ ended before ++ (ended lines ++ rest) → AreWhole lines
  lines_whole bytes before [] rest none is = tt
  lines_whole bytes before (line ∷ lines) rest none is =
      let split : bytes ≡ ended before ++ ((line ++ 10 ∷ []) ++ (ended lines ++ rest)) =
      is ∙ ap (λ (b : List ℕ). ended before ++ b) (append_assoc (line ++ 10 ∷ []) (ended lines) rest) in
      let next : bytes ≡ ended (before ++ line ∷ []) ++ (ended lines ++ rest) =
      split ∙ sym (append_assoc (ended before) (line ++ 10 ∷ []) (ended lines ++ rest))
      ∙ ap (λ (front : List ℕ). front ++ (ended lines ++ rest)) (sym (ended-push before line)) in
      (λ lawful c read. none before line (ended lines ++ rest) c split lawful read, lines_whole bytes (before ++ line ∷ []) lines rest none next)

  -- the line behind some lines
  line_whole : (bytes : List ℕ) (lines : List (List ℕ)) (line rest after : List ℕ) → HasNoSteps bytes → bytes ≡ ended lines ++ rest
      → rest ≡ (line ++ 10 ∷ []) ++ after → IsLine line → IsWhole line
  line_whole bytes lines line rest after none is rest_is lawful c read =
      none lines line after c (is ∙ ap (λ (b : List ℕ). ended lines ++ b) rest_is) lawful read

  -- the first lines, played by the second player: the world is like the first one's
  record PlayedAlike (bytes : List ℕ) (lines : List (List ℕ)) (rest text : List ℕ) (world : Option P.World) : Type 0 where
    world' : Option Q.World
    played : Played Q (Some bytes) lines rest text world'
    like : AreLike world world'

  played_alike : (bytes : List ℕ) (lines : List (List ℕ)) (rest text : List ℕ) (world : Option P.World) → HasNoSteps bytes
      → Played P (Some bytes) lines rest text world → PlayedAlike bytes lines rest text world
  played_alike bytes lines rest text world none played =
      let whole = lines_whole bytes [] lines rest none played.split in
      let all = lines_alike 1 None None lines text world tt whole played.plays in
      record { world' = all.0; played = record { split = played.split; few = played.few; plays = all.1 }; like = all.2 }

  made_alike : (world : Option P.World) (world' : Option Q.World) → AreLike world world' → is_some world ≡ is_some world'
  made_alike None None like = refl
  made_alike (Some m) (Some s) like = refl
  made_alike None (Some s) like = absurd like
  made_alike (Some m) None like = absurd like

  lists_alike : (world : Option P.World) (world' : Option Q.World) (words : List (List ℕ)) (sent : List ℕ) → AreLike world world'
      → ListsWords P world words sent → ListsWords Q world' words sent
  lists_alike None world' words sent like lists = absurd lists
  lists_alike (Some m) None words sent like lists = absurd like
  lists_alike (Some m) (Some s) words sent like lists =
      let same = alike.lists m s lists.0 like in (
        lists.0,
        lists.1,
        lists.2,
        subst (λ (nodes : Option (List TreeNode)). (sent ≡ []) ⊎ ListsFront nodes sent) same lists.3,
      )

  stops_at_alike : (head head' : List ℕ) (world : Option P.World) (world' : Option Q.World) (line sent : List ℕ) → head ≡ head'
      → AreLike world world' → StopsAt P head world line sent → StopsAt Q head' world' line sent
  stops_at_alike head head' world world' line sent same like (skipped, inl none) = (skipped, inl none)
  stops_at_alike head head' world world' line sent same like (skipped, inr (front, lists, is)) = (
    skipped,
    inr (front, lists_alike world world' (words_of line) front like lists, is ∙ ap (λ (h : List ℕ). h ++ front) same),
  )

  stops_alike : (lines : List (List ℕ)) (rest : List ℕ) (world : Option P.World) (world' : Option Q.World) (sent : List ℕ)
      → AreLike world world' → Stops P lines rest world sent → Stops Q lines rest world' sent
  stops_alike lines rest world world' sent like (inl first) = inl first
  stops_alike lines rest world world' sent like (inr (line, after, lawful, is, at)) =
      let same = alike.heads (length lines + 1) line in
      inr (line, after, lawful, is, stops_at_alike _ _ world world' line sent same like at)

  ends_by_alike : (why : Fault) (bytes : List ℕ) (left : Option (List ℕ)) (Writes : List ℕ → Type 0) → HasNoSteps bytes
      → EndsBy P why (Some bytes) left Writes → EndsBy Q why (Some bytes) left Writes
  ends_by_alike (fault.ScriptFault why number) bytes left Writes none e =
      let q = played_alike bytes e.0 e.1 e.2 e.3 none e.4 in
      let same = made_alike e.3 q.world' q.like in
      (e.0, e.1, e.2, q.world', q.played, (e.5.0, subst (λ (made : Bool). IsFault number made e.1 why) same e.5.1), e.6)
  ends_by_alike fault.Read bytes left Writes none e =
      let q = played_alike bytes e.0 e.1 e.2 e.3 none e.4 in
      (e.0, e.1, e.2, q.world', q.played, e.5, e.6)
  ends_by_alike (fault.OutOfMemory _) bytes left Writes none e =
      let q = played_alike bytes e.0 e.1 e.2 e.4 none e.5 in
      (e.0, e.1, e.2, e.3, q.world', q.played, stops_alike e.0 e.1 e.4 q.world' e.3 q.like e.6, e.7)
  ends_by_alike fault.Write bytes left Writes none e =
      let q = played_alike bytes e.0 e.1 e.2 e.4 none e.5 in
      let off = e.6 in
      let whole = line_whole bytes e.0 off.0 e.1 off.1 none e.5.split off.5 off.4 in
      let next = line_alike (length e.0 + 1) e.4 q.world' off.0 off.2 off.3 q.like whole off.6 in
      let cut = subst (λ (h : List ℕ). IsCutOff e.3 (h ++ off.2)) (alike.heads (length e.0 + 1) off.0) off.7 in
      (e.0, e.1, e.2, e.3, q.world', q.played, (off.0, off.1, off.2, next.0, off.4, off.5, next.1, cut), e.7)
  ends_by_alike _ bytes left Writes none e = absurd e

  -- THE LAW
  pub ends_alike : (result : Result (Unit {0}) Fault) (bytes : List ℕ) (left : Option (List ℕ)) (Writes : List ℕ → Type 0) → HasNoSteps bytes
      → Ends P result (Some bytes) left Writes → Ends Q result (Some bytes) left Writes
  ends_alike (Ok done) bytes left Writes none e =
      let q = played_alike bytes e.0 [] e.1 e.2 none e.3 in (e.0, e.1, q.world', q.played, e.4, e.5)
  ends_alike (Err why) bytes left Writes none e = ends_by_alike why bytes left Writes none e
