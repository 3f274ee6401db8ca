-- How a script ends whose calls threads made, and what was written of its text.
use Rattle.std.proofs.Common.{◌≡◌, ℕ, ◌+◌, ◌<◌, ◌⊎◌, inl, inr, List, [], ◌∷◌, ◌++◌, drop, get_or, length, map, take, None, Option, Some, Result, Ok, Err, refl, sym, ap, subst, ◌∙◌, append_assoc, append-nil, arith}
use Rattle.std.proofs.KnownBytes.{Appends-nil}
use Rattle.std.proofs.lemmas.Bool.{cases_lt}
use Rattle.std.proofs.lemmas.List.{map-append, take-append-drop, take_more}
use Rattle.std.proofs.lemmas.List.Folds.{concat-append}
use Rattle.std.specs.Io.KnownBytes.{Appends, IsAtEnd}
use Rattle.std.specs.List.{concat}
use Rattle.std.specs.Prelude.{codes}
use Rattle.nv_base.specs.declared.fault.Fault.{Fault}
use Rattle.nv_base.specs.declared.fault.Fault.TheVariants as fault
use Rattle.nv_machine.specs.World.{Shared, World}
use Rattle.nv_core.specs.AtRest.{IsBusy}
use Rattle.nv_core.specs.Worlds.{HasRun, Shows, ShowsAny, WorldState}
use Rattle.nv_script.specs.Lines.{IsLine, WritesFront, WritesSome}
use Rattle.nv_script.specs.Play.{EndsAfter, Plays, failed_reads, failed_writes, machine_player, no_head}
use Rattle.nv_script.specs.Results.{EndsText, Fails, HoldsNone, Sends, Sent}
use Rattle.nv_base.specs.declared.geometry.GeometryNumbers.{GeometryNumbers}
use Rattle.nv_work.specs.declared.forked.ForkedCall.{ForkedCall}
use Rattle.nv_work.specs.Threads.{AreThreadTexts, calls_in, shares_of}
use Rattle.nv_work.specs.Work.{AreAnswersTo, BeginAlike, EndsAmong, EndsBefore, EndsForked, EndsReported, EndsThreads, FollowsFork, Fork, Forks, Works, WorksBy}
use Rattle.nv_work.specs.Working.{AddsText, ClosesAfter, RefusesThreads, ReportIs, TellsAll}
use Rattle.nv_script.proofs.Breaks.{longer, shorter}
use Rattle.nv_script.specs.declared.trace.Trace.TheVariants as trace
use Rattle.nv_script.proofs.Endings.{broken_off, broken_played, ends_on}
use Rattle.nv_work.proofs.Forking.{broken_fork}
use Rattle.nv_script.proofs.Known.{writes_all, writes_end, writes_grown, writes_rest, writes_some}

-- ---- where what is said of the text was turned into something else

module _ (input : Option (List ℕ)) (Old New : List ℕ → Type 0) (turn : (text : List ℕ) → Old text → New text) where
  after_on : (Also : List (List ℕ) → List ℕ → Option World → Type 0) → EndsAfter machine_player input Old Also
      → EndsAfter machine_player input New Also
  after_on Also e = (e.0, e.1, e.2, e.3, e.4, e.5, turn e.2 e.6)

  forked_on : (Also : Fork → List ℕ → Type 0) → EndsForked input Old Also → EndsForked input New Also
  forked_on Also e = (e.0, e.1, e.2, e.3, turn e.0.text e.4)

  before_on : (why : Fault) (left : Option (List ℕ)) → EndsBefore why input left Old → EndsBefore why input left New
  before_on (fault.ScriptFault why number) left (inl e) = inl (after_on _ e)
  before_on (fault.ScriptFault why number) left (inr (inl e)) = inr (inl (after_on _ e))
  before_on (fault.ScriptFault why number) left (inr (inr e)) = inr (inr (forked_on _ e))
  before_on fault.Read left (inl e) = inl (after_on _ e)
  before_on fault.Read left (inr e) = inr (forked_on _ e)
  before_on fault.ActorBusy left e = forked_on _ e
  before_on (fault.Mismatch part) left e = forked_on _ e
  before_on fault.Write left e = ends_on trace.Off no_head (Err fault.Write) input left Old New turn e
  before_on (fault.OutOfMemory witness) left (inl e) = inl (ends_on trace.Off no_head (Err (fault.OutOfMemory witness)) input left Old New turn e)
  before_on (fault.OutOfMemory witness) left (inr e) = inr (forked_on _ e)
  before_on _ left e = absurd e

  module _ (threads : ℕ) where
    threads_on : EndsThreads threads input Old → EndsThreads threads input New
    threads_on e = (e.0, e.1, e.2, e.3, e.4, e.5, turn (e.0.text ++ e.1) e.6)

    reported_on : EndsReported threads input Old → EndsReported threads input New
    reported_on e = (e.0, e.1, e.2, e.3, e.4, e.5, e.6, e.7, turn (e.0.text ++ (concat e.1 ++ e.2)) e.8)

    among_on : (why : Fault) → EndsAmong threads why input Old → EndsAmong threads why input New
    among_on fault.Write e = threads_on e
    among_on (fault.OutOfMemory witness) e = threads_on e
    among_on _ e = absurd e

    works_on : (r : Result (Unit {0}) Fault) (left : Option (List ℕ)) → Works threads r input left Old → Works threads r input left New
    works_on (Ok done) left e = (reported_on e.0, e.1)
    works_on (Err why) left (inl e) = inl (before_on why left e)
    works_on (Err why) left (inr e) = inr (among_on why e)

-- ---- a write that failed

-- what was told begins as something does of which it is a front
alike_front : (sent rest text answers : List ℕ) → text ≡ sent ++ rest → BeginAlike text answers → BeginAlike sent answers
alike_front sent rest text answers cut alike =
    (rest ++ alike.0, alike.1, sym (append_assoc sent rest alike.0) ∙ ap (λ t. t ++ alike.0) (sym cut) ∙ alike.2)

-- the same of texts that are the same
pub alike_as : (text told answers all : List ℕ) → text ≡ told → answers ≡ all → BeginAlike text answers → BeginAlike told all
alike_as text told answers all same whole alike =
    (alike.0, alike.1, ap (λ t. t ++ alike.0) (sym same) ∙ alike.2 ∙ ap (λ t. t ++ alike.1) whole)

module _ (threads : ℕ) where
  -- some of the text of the lines before `fork` was written, or all of it and some more
  told_in_part : (input left old new : Option (List ℕ)) (f : Fork) (told : List ℕ) (texts : List (List ℕ)) → Forks input f []
      → AreAnswersTo threads f texts → BeginAlike told (concat texts) → WritesSome old new (f.text ++ told)
      → WorksBy threads fault.Write input left (λ text. Appends old new text)
  told_in_part input left old new f told texts forks answers alike some =
      let cut = some.1 in
      elim (cases_lt (length some.0) (length f.text)) [
        | inl less ↦ inl (broken_fork input left old new f [] forks (some.0, shorter f.text told some.0 cut.0 cut.1 less, some.2))
        | inr most ↦
            let more = longer f.text told some.0 cut.0 cut.1 most in
            inr (
              f,
              more.0,
              texts,
              forks,
              answers,
              alike_front more.0 cut.0 told (concat texts) more.2 alike,
              subst (λ (text : List ℕ). Appends old new text) more.1 some.2,
            )
      ]

  module _ (input left old mid new : Option (List ℕ)) (gathered : List ℕ) (some : WritesSome mid new gathered) where
    abbrev Before : List ℕ → Type 0
    Before text = WritesFront old mid text gathered

    abbrev Broken : Type 0
    Broken = WorksBy threads fault.Write input left (λ text. Appends old new text)

    after_off : (Also : List (List ℕ) → List ℕ → Option World → Type 0) → EndsAfter machine_player input Before Also → Broken
    after_off Also e = inl (broken_played trace.Off no_head input left old mid new gathered e.0 e.1 e.2 e.3 e.4 e.6 some)

    forked_off : (Also : Fork → List ℕ → Type 0) → EndsForked input Before Also → Broken
    forked_off Also e = inl (broken_fork input left old new e.0 e.1 e.2 (writes_some old mid new e.0.text gathered e.4 some))

    before_off : (why : Fault) → EndsBefore why input left Before → Broken
    before_off (fault.ScriptFault why number) (inl e) = after_off _ e
    before_off (fault.ScriptFault why number) (inr (inl e)) = after_off _ e
    before_off (fault.ScriptFault why number) (inr (inr e)) = forked_off _ e
    before_off fault.Read (inl e) = after_off _ e
    before_off fault.Read (inr e) = forked_off _ e
    before_off fault.ActorBusy e = forked_off _ e
    before_off (fault.Mismatch part) e = forked_off _ e
    before_off fault.Write e = inl (broken_off trace.Off no_head (Err fault.Write) input left old mid new gathered e some)
    before_off (fault.OutOfMemory witness) (inl e) =
        inl (broken_off trace.Off no_head (Err (fault.OutOfMemory witness)) input left old mid new gathered e some)
    before_off (fault.OutOfMemory witness) (inr e) = forked_off _ e
    before_off _ e = absurd e

    threads_off : EndsThreads threads input Before → Broken
    threads_off e =
        told_in_part input left old new e.0 e.1 e.2 e.3 e.4 e.5 (writes_some old mid new (e.0.text ++ e.1) gathered e.6 some)

    among_off : (why : Fault) → EndsAmong threads why input Before → Broken
    among_off fault.Write e = threads_off e
    among_off (fault.OutOfMemory witness) e = threads_off e
    among_off _ e = absurd e

    works_off : (r : Result (Unit {0}) Fault) → Works threads r input left Before → Broken
    works_off (Ok done) e =
        let r = e.0 in
        threads_off (r.0, concat r.1 ++ r.2, r.1, r.4, r.5, ([], r.2, append-nil (concat r.1 ++ r.2)), r.8)
    works_off (Err why) (inl e) = before_off why e
    works_off (Err why) (inr e) = among_off why e

-- how a script ends once what is gathered was written, where nothing failed before
pub works_text : (threads : ℕ) (outcome result : Result (Unit {0}) Fault) (input left old : Option (List ℕ)) (from to : Sent)
    → Works threads outcome input left (λ text. WritesFront old from.written text from.gathered)
    → HoldsNone outcome from.gathered → EndsText outcome result from to
    → Works threads result input left (λ text. Appends old to.written text)
works_text threads outcome result input left old from to e held ended = by outcome e held ended where
  Was : Result (Unit {0}) Fault → Type 0
  Was o = Works threads o input left (λ text. WritesFront old from.written text from.gathered)

  Now : Result (Unit {0}) Fault → Type 0
  Now r = Works threads r input left (λ text. Appends old to.written text)

  flushed : (o : Result (Unit {0}) Fault) → Was o → ((result ≡ o) × Appends from.written to.written from.gathered)
      ⊎ ((result ≡ Err fault.Write) × WritesSome from.written to.written from.gathered) → Now result
  flushed o e (inl all) = subst Now (sym all.0)
      (works_on input (λ text. WritesFront old from.written text from.gathered) (λ text. Appends old to.written text)
      (λ text front. writes_end old from.written to.written text from.gathered front all.1) threads o left e)
  flushed o e (inr some) = subst Now (sym some.0) (works_off threads input left old from.written to.written from.gathered some.1 o e)

  failed : (o : Result (Unit {0}) Fault) → Was o → from.gathered ≡ [] → (result ≡ o) × (to ≡ from) → Now result
  failed o e none same =
      let rest = subst (λ (bytes : List ℕ). Appends from.written from.written bytes) (sym none) (Appends-nil from.written) in
      subst Now (sym same.0)
      (subst (λ (t : Sent). Works threads o input left (λ text. Appends old t.written text)) (sym same.1)
      (works_on input (λ text. WritesFront old from.written text from.gathered) (λ text. Appends old from.written text)
      (λ text front. writes_end old from.written from.written text from.gathered front rest) threads o left e))

  by : (o : Result (Unit {0}) Fault) → Was o → HoldsNone o from.gathered → EndsText o result from to → Now result
  by (Ok done) e held is = flushed (Ok done) e is
  by (Err fault.Read) e held is = failed (Err fault.Read) e held is
  by (Err fault.Write) e held is = failed (Err fault.Write) e held is
  by (Err (fault.ScriptFault why number)) e held is = flushed (Err (fault.ScriptFault why number)) e is
  by (Err fault.ActorBusy) e held is = flushed (Err fault.ActorBusy) e is
  by (Err (fault.Mismatch part)) e held is = flushed (Err (fault.Mismatch part)) e is
  by (Err (fault.OutOfMemory witness)) e held is = flushed (Err (fault.OutOfMemory witness)) e is
  by (Err _) (inl e) held is = absurd e
  by (Err _) (inr e) held is = absurd e

-- ---- all lines were taken

-- some text, and what was told behind it
sent_on : (old : Option (List ℕ)) (from to : Sent) (text told : List ℕ) → WritesFront old from.written text from.gathered
    → Sends from to told → WritesFront old to.written (text ++ told) to.gathered
sent_on old from to text told written sends =
    writes_rest old from.written to.written (text ++ told) (from.gathered ++ told) to.gathered
    (writes_grown old from.written text from.gathered told written) sends

-- there is a world then
pub none_shown : (world : Option WorldState) (m : World) → world ≡ None → ShowsAny world (Some m) → ⊥
none_shown None m none shown = shown
none_shown (Some w) m none shown = cc

pub some_shown : (world : Option WorldState) (w : WorldState) (m : World) → world ≡ Some w → ShowsAny world (Some m) → Shows w m
some_shown world w m some shown = subst (λ (o : Option WorldState). ShowsAny o (Some m)) some shown

-- threads did not make their calls, or the service did not close
pub no_threads : (threads : ℕ) (input left old new : Option (List ℕ)) (gathered : List ℕ) (f : Fork) → Forks input f [] → IsAtEnd left
    → WritesFront old new f.text gathered
    → (why : Fault) → RefusesThreads why f.world
    → WorksBy threads why input left (λ text. WritesFront old new text gathered) × HoldsNone {A = Unit {0}} (Err why) gathered
no_threads threads input left old new gathered f forks end written fault.ActorBusy is = (inl (f, [], forks, (refl, is, end), written), tt)
no_threads threads input left old new gathered f forks end written (fault.Mismatch part) is = (inl (f, [], forks, (refl, is, end), written), tt)
no_threads threads input left old new gathered f forks end written (fault.OutOfMemory witness) is =
    (inl (inr (f, [], forks, tt, written)), tt)
no_threads threads input left old new gathered f forks end written _ is = absurd is

-- no read and no write has failed then
pub no_failures : (why : Fault) (m : World) → RefusesThreads why m
    → (failed_reads {A = Unit {0}} (Err why) ≡ 0) × (failed_writes {A = Unit {0}} (Err why) ≡ 0)
no_failures fault.ActorBusy m is = (refl, refl)
no_failures (fault.Mismatch part) m is = (refl, refl)
no_failures (fault.OutOfMemory witness) m is = (refl, refl)
no_failures _ m is = absurd is

-- no read fails where texts and reports are gathered
pub reads_nothing : (r : Result (Unit {0}) Fault) (texts : List (List ℕ)) (world : Option WorldState) (old new : Sent)
    → TellsAll r texts world old new → failed_reads r ≡ 0
reads_nothing (Ok done) texts world old new is = refl
reads_nothing (Err fault.Write) texts world old new is = refl
reads_nothing (Err (fault.OutOfMemory witness)) texts world old new is = refl
reads_nothing (Err _) texts world old new is = absurd is

-- the world after threads
pub follows : (opened closed : WorldState) (fork m : World) → Shows opened fork → ClosesAfter opened closed → Shows closed m → HasRun m
    → FollowsFork fork m
follows opened closed fork m before came shows run = record {
  run = run;
  numbers = sym shows.numbers ∙ came.numbers ∙ before.numbers;
  commit =
      let first = ap (λ (s : Shared). s.book.commit) before.shared in
      let last = ap (λ (s : Shared). s.book.commit) shows.shared in
      let c = came.commit in
      omega (arith, first, last, c);
}

-- the texts of threads are the answers to their calls
pub answers_to : (threads : ℕ) (f : Fork) (opened : WorldState) (lists : List (List ForkedCall)) (texts : List (List ℕ))
    → ¬ IsBusy f.world → Shows opened f.world → lists ≡ shares_of threads (calls_in f.behind)
    → AreThreadTexts opened.shared.geometry.numbers.actors lists texts → AreAnswersTo threads f texts
answers_to threads f opened lists texts idle shows shares told = (
  idle,
  subst (λ (g : GeometryNumbers). AreThreadTexts g.actors (shares_of threads (calls_in f.behind)) texts) shows.numbers
      (subst (λ ls. AreThreadTexts opened.shared.geometry.numbers.actors ls texts) shares told),
)

-- the answers of threads were told, and the reports behind them
pub threads_told : (threads : ℕ) (input left old : Option (List ℕ)) (from to : Sent) (f : Fork) (opened closed : WorldState)
    (texts : List (List ℕ)) → Forks input f [] → IsAtEnd left → WritesFront old from.written f.text from.gathered
    → Shows opened f.world → ClosesAfter opened closed → AreAnswersTo threads f texts
    → (r : Result (Unit {0}) Fault) → TellsAll r texts (Some closed) from to
    → Works threads r input left (λ text. WritesFront old to.written text to.gathered) × HoldsNone r to.gathered
threads_told threads input left old from to f opened closed texts forks end written before came answers (Ok done) is = (
  (
    (
      f,
      texts,
      is.0,
      is.1,
      forks,
      answers,
      follows opened closed f.world is.1 before came is.2 is.3,
      is.4,
      sent_on old from to f.text (concat texts ++ is.0) written is.5,
    ),
    end,
  ),
  tt,
)
threads_told threads input left old from to f opened closed texts forks end written before came answers (Err fault.Write) is =
    let part = writes_some old from.written to.written (f.text ++ is.0) (from.gathered ++ is.0)
    (writes_grown old from.written f.text from.gathered is.0 written) is.2.0 in
    let all = told_in_part threads input left old to.written f is.0 texts forks answers is.1 part in
    let turned = works_on input (λ text. Appends old to.written text) (λ text. WritesFront old to.written text to.gathered)
    (λ text whole. subst (λ (rest : List ℕ). WritesFront old to.written text rest) (sym is.2.1) (writes_all old to.written text whole))
    threads (Err fault.Write) left all in
    (turned, is.2.1)
threads_told threads input left old from to f opened closed texts forks end written before came answers (Err (fault.OutOfMemory witness)) is =
    (inr (f, is.0, texts, forks, answers, is.1, sent_on old from to f.text is.0 written is.2), tt)
threads_told threads input left old from to f opened closed texts forks end written before came answers (Err _) is = absurd is

-- one text was sent behind another
pub sends_both : (a b c : Sent) (told more : List ℕ) → Sends a b told → Sends b c more → Sends a c (told ++ more)
sends_both a b c told more first then_ = subst (λ (t : List ℕ). WritesFront a.written c.written t c.gathered)
    (append_assoc a.gathered told more)
    (writes_rest a.written b.written c.written _ _ c.gathered (writes_grown a.written b.written _ b.gathered more first) then_)

-- one text was sent, and a write of another failed
pub fails_both : (a b c : Sent) (text more : List ℕ) → Sends a b text → Fails b c more → Fails a c (text ++ more)
fails_both a b c text more first then_ = (
  subst (λ (t : List ℕ). WritesSome a.written c.written t) (append_assoc a.gathered text more)
      (writes_some a.written b.written c.written _ _ (writes_grown a.written b.written _ b.gathered more first) then_.0),
  then_.1,
)

-- ---- texts one after another

module _ {V : Type 0} (f : V → List ℕ) (xs : List V) (i : ℕ) where
  abbrev So : List ℕ
  So = concat (map f (take i xs))

  -- one more of them
  pub texts_more : (x : V) → i < length xs → x ≡ get_or xs i x → concat (map f (take (i + 1) xs)) ≡ So ++ f x
  texts_more x less same =
      ap (λ l. concat (map f l)) (take_more xs i x less) ∙ ap concat (map-append f (take i xs) (get_or xs i x ∷ []))
      ∙ concat-append (map f (take i xs)) (f (get_or xs i x) ∷ []) ∙ ap (λ t. So ++ t) (append-nil (f (get_or xs i x)))
      ∙ ap (λ y. So ++ f y) (sym same)

  -- the first of them begin as all do
  pub texts_begin : BeginAlike So (concat (map f xs))
  texts_begin = (
    concat (map f (drop i xs)),
    [],
    sym (concat-append (map f (take i xs)) (map f (drop i xs))) ∙ ap concat (sym (map-append f (take i xs) (drop i xs)))
        ∙ ap (λ l. concat (map f l)) (take-append-drop i xs) ∙ sym (append-nil (concat (map f xs))),
  )

-- something was told behind a text
pub tells_more : (a b c : Sent) (text : List ℕ) → Sends a b text → (why : Fault) → AddsText (Err why) b c [] → AddsText (Err why) a c text
tells_more a b c text first fault.Write then_ = (
  text ++ then_.0,
  ([], then_.0, append-nil (text ++ then_.0)),
  fails_both a b c text then_.0 first then_.2,
)
tells_more a b c text first (fault.OutOfMemory witness) then_ =
    (text ++ then_.0, ([], then_.0, append-nil (text ++ then_.0)), sends_both a b c text then_.0 first then_.2)
tells_more a b c text first _ then_ = absurd then_

-- a text was told in part, or with more behind it: it begins as its first part does
pub tells_front : (a c : Sent) (text more : List ℕ) (why : Fault) → AddsText (Err why) a c (text ++ more) → AddsText (Err why) a c text
tells_front a c text more fault.Write is = (is.0, (is.1.0, more ++ is.1.1, is.1.2 ∙ append_assoc text more is.1.1), is.2)
tells_front a c text more (fault.OutOfMemory witness) is =
    (is.0, (is.1.0, more ++ is.1.1, is.1.2 ∙ append_assoc text more is.1.1), is.2)
tells_front a c text more _ is = absurd is

tree_is_line : IsLine (codes "tree")
tree_is_line =
    (((λ e. omega (arith, e)), ((λ e. omega (arith, e)), ((λ e. omega (arith, e)), ((λ e. omega (arith, e)), tt)))), omega arith)

snaps_is_line : IsLine (codes "snaps")
snaps_is_line = (
  (
    (λ e. omega (arith, e)),
    ((λ e. omega (arith, e)), ((λ e. omega (arith, e)), ((λ e. omega (arith, e)), ((λ e. omega (arith, e)), tt)))),
  ),
  omega arith,
)

audit_is_line : IsLine (codes "audit")
audit_is_line = (
  (
    (λ e. omega (arith, e)),
    ((λ e. omega (arith, e)), ((λ e. omega (arith, e)), ((λ e. omega (arith, e)), ((λ e. omega (arith, e)), tt)))),
  ),
  omega arith,
)

-- the answers of threads and the reports were sent
pub tells_all : (a b c d e : Sent) (texts : List (List ℕ)) → Sends a b (concat texts) → (shown : Option WorldState) (m n o : World)
    → ShowsAny shown (Some m) → HasRun m → (tree snaps : List ℕ)
    → Plays machine_player 0 (Some m) (codes "tree") tree (Some n) → Plays machine_player 0 (Some n) (codes "snaps") snaps (Some o)
    → Sends b c tree → Sends c d snaps → (r : Result (Unit {0}) Fault) (world : Option WorldState)
    → ReportIs r (codes "audit") o d e world → TellsAll r texts shown a e
tells_all a b c d e texts first shown m n o shows run tree snaps plays more second third r world is = by r is where
  before : Sends b d (tree ++ snaps)
  before = sends_both b c d tree snaps second third

  by : (r : Result (Unit {0}) Fault) → ReportIs r (codes "audit") o d e world → TellsAll r texts shown a e
  by (Ok done) (p, audit, plays', shown', has, sends) =
      let whole = sends_both a b e (concat texts) ((tree ++ snaps) ++ audit) first (sends_both b d e (tree ++ snaps) audit before sends) in (
        tree ++ (snaps ++ (audit ++ [])),
        m,
        shows,
        run,
        (
          Some p,
          (
            tree,
            snaps ++ (audit ++ []),
            Some n,
            tree_is_line,
            plays,
            (
              snaps,
              audit ++ [],
              Some o,
              snaps_is_line,
              more,
              (audit, [], Some p, audit_is_line, plays', (refl, refl), refl),
              refl,
            ),
            refl,
          ),
        ),
        subst (λ (t : List ℕ). Sends a e (concat texts ++ t))
            (append_assoc tree snaps audit ∙ ap (λ t. tree ++ (snaps ++ t)) (sym (append-nil audit))) whole,
      )
  by (Err why) adds =
      let both = sends_both a b d (concat texts) (tree ++ snaps) first before in
      tells_front a e (concat texts) (tree ++ snaps) why (tells_more a d e (concat texts ++ (tree ++ snaps)) both why adds)
