-- A script that is traced writes, without the lines of events, what it writes when it is played.
use Rattle.std.proofs.Common.{◌≢◌, ℕ, ◌+◌, ◌++◌, List, [], ◌∷◌, Option, Some, None, Result, Ok, Err, ap, inl, inr, refl, subst, sym}
use Rattle.std.specs.Io.KnownBytes.{Appends}
use Rattle.nv_base.specs.declared.fault.Fault.{Fault}
use Rattle.nv_base.specs.declared.fault.Fault.TheVariants as fault
use Rattle.nv_machine.specs.World.{World}
use Rattle.nv_script.specs.Play.{Ends, EndsBy, ListsWords, Played, PlaysFrom, Stops, machine_player}
use Rattle.nv_script.specs.Trace.{IsTraced, PlaysWithoutEvents, tracing_player}
use Rattle.nv_script.specs.Words.{words_of}
use Rattle.nv_script.proofs.Answering.{IsAnswer}
use Rattle.nv_script.proofs.EventLines.{answer_traced, both_traced, none_traced}
use Rattle.nv_script.proofs.Told.{front_answers, line_answers}
use Rattle.nv_script.proofs.Untraced.{line_untraced}

-- some lines: without the events they wrote this
lines_plain : (number : ℕ) (m : Option World) (lines : List (List ℕ)) (text : List ℕ) (n : Option World)
    → PlaysFrom tracing_player number m lines text n
    → (plain : List ℕ) × PlaysFrom machine_player number m lines plain n × IsTraced text plain
lines_plain number m [] text n plays = ([], (refl, plays.1), subst (λ (t : List ℕ). IsTraced t []) (sym plays.0) none_traced)
lines_plain number m (line ∷ lines) text n plays =
    let more = lines_plain (number + 1) plays.2 lines plays.1 n plays.5 in
    let one = line_untraced number m line plays.0 plays.2 plays.4 in
    let behind = one.2 in
    let own = subst (λ (t : List ℕ). IsTraced t one.0) (sym behind.text_is)
    (both_traced behind.events [] one.0 one.0 behind.told (answer_traced one.0 (line_answers m line one.0 plays.2 one.1))) in (
      one.0 ++ more.0,
      (one.0, more.0, plays.2, plays.3, one.1, more.1, refl),
      subst (λ (t : List ℕ). IsTraced t (one.0 ++ more.0)) (sym plays.6) (both_traced plays.0 one.0 plays.1 more.0 own more.2),
    )

-- the first lines, played without events
record PlayedPlain (input : Option (List ℕ)) (lines : List (List ℕ)) (rest text : List ℕ) (world : Option World) : Type 0 where
  plain : List ℕ
  played : Played machine_player input lines rest plain world
  traced : IsTraced text plain

played_plain : (input : Option (List ℕ)) (lines : List (List ℕ)) (rest text : List ℕ) (world : Option World)
    → Played tracing_player input lines rest text world → PlayedPlain input lines rest text world
played_plain input lines rest text world played =
    let all = lines_plain 1 None lines text world played.plays in
    record { plain = all.0; played = record { split = played.split; few = played.few; plays = all.1 }; traced = all.2 }

words_front : (world : Option World) (words : List (List ℕ)) (sent : List ℕ) → ListsWords machine_player world words sent → IsAnswer sent
words_front None words sent lists = absurd lists
words_front (Some m) words sent lists = front_answers (machine_player.listed m lists.0) sent lists.3

-- what was sent where memory was refused: of events nothing
stops_plain : (lines : List (List ℕ)) (rest : List ℕ) (world : Option World) (sent : List ℕ) → Stops tracing_player lines rest world sent
    → (plain : List ℕ) × Stops machine_player lines rest world plain × IsTraced sent plain
stops_plain lines rest world sent (inl first) =
    ([], inl (first.0, refl), subst (λ (t : List ℕ). IsTraced t []) (sym first.1) none_traced)
stops_plain lines rest world sent (inr (line, after, lawful, is, (skipped, inl none))) =
    ([], inr (line, after, lawful, is, (skipped, inl refl)), subst (λ (t : List ℕ). IsTraced t []) (sym none) none_traced)
stops_plain lines rest world sent (inr (line, after, lawful, is, (skipped, inr (front, lists, sent_is)))) = (
  front,
  inr (line, after, lawful, is, (skipped, inr (front, lists, refl))),
  subst (λ (t : List ℕ). IsTraced t front) (sym sent_is) (answer_traced front (words_front world (words_of line) front lists)),
)

module _ (input left old new : Option (List ℕ)) where
  abbrev Writes : List ℕ → Type 0
  Writes text = Appends old new text

  abbrev Plain : List ℕ → Type 0
  Plain text = (written : List ℕ) × IsTraced written text × Appends old new written

  ends_by : (why : Fault) → why ≢ fault.Write → EndsBy tracing_player why input left Writes → EndsBy machine_player why input left Plain
  ends_by (fault.ScriptFault why number) other e =
      let p = played_plain input e.0 e.1 e.2 e.3 e.4 in (e.0, e.1, p.plain, e.3, p.played, e.5, (e.2, p.traced, e.6))
  ends_by fault.Read other e =
      let p = played_plain input e.0 e.1 e.2 e.3 e.4 in (e.0, e.1, p.plain, e.3, p.played, e.5, (e.2, p.traced, e.6))
  ends_by (fault.OutOfMemory witness) other e =
      let p = played_plain input e.0 e.1 e.2 e.4 e.5 in
      let s = stops_plain e.0 e.1 e.4 e.3 e.6 in
      (e.0, e.1, p.plain, s.0, e.4, p.played, s.1, (e.2 ++ e.3, both_traced e.2 p.plain e.3 s.0 p.traced s.2, e.7))
  ends_by fault.Write other e = absurd (other refl)
  ends_by _ other e = absurd e

  ends : (result : Result (Unit {0}) Fault) → result ≢ Err fault.Write → Ends tracing_player result input left Writes
      → Ends machine_player result input left Plain
  ends (Ok done) other e =
      let p = played_plain input e.0 [] e.1 e.2 e.3 in (e.0, p.plain, e.2, p.played, e.4, (e.1, p.traced, e.5))
  ends (Err why) other e = ends_by why (λ is. other (ap Err is)) e

  -- THE LAW
  pub traces_plain : (result : Result (Unit {0}) Fault) → Ends tracing_player result input left Writes
      → PlaysWithoutEvents result input left old new
  traces_plain result e other = ends result other e
