-- A script that is played with an echo writes, without the echoes, what it writes without one.
use Rattle.std.proofs.Common.{◌≢◌, ℕ, ◌+◌, ◌++◌, Bool, true, false, List, [], ◌∷◌, length, Option, Some, None, Result, Ok, Err, ap, inl, inr, refl, subst, sym}
use Rattle.std.specs.Prelude.{if◌then◌else◌}
use Rattle.std.specs.Io.KnownBytes.{Appends}
use Rattle.nv_base.specs.declared.fault.Fault.{Fault}
use Rattle.nv_base.specs.declared.fault.Fault.TheVariants as fault
use Rattle.nv_machine.specs.World.{World}
use Rattle.nv_script.specs.Echo.{IsEchoed, PlaysWithoutEchoes, echo_line, echo_of}
use Rattle.nv_script.specs.Grammar.{is_skipped}
use Rattle.nv_script.specs.Lines.{HasNoEnd}
use Rattle.nv_script.specs.Play.{Ends, EndsBy, ListsWords, Played, PlaysFrom, Stops, machine_player, machine_player_with}
use Rattle.nv_script.specs.Words.{words_of}
use Rattle.nv_script.proofs.Answering.{IsAnswer, answer_shown, both_shown, echo_shown, none_shown}
use Rattle.nv_script.proofs.Told.{front_answers, line_answers}

head_shown : (number : ℕ) (line : List ℕ) → HasNoEnd line → IsEchoed (echo_of number line) []
head_shown number line clean = go (is_skipped line) where
  go : (skipped : Bool) → IsEchoed (if skipped then [] else echo_line number line) []
  go true = none_shown
  go false = echo_shown number line clean

-- some lines: without the echoes they wrote this
lines_plain : (number : ℕ) (m : Option World) (lines : List (List ℕ)) (text : List ℕ) (n : Option World)
    → PlaysFrom (machine_player_with echo_of) number m lines text n
    → (plain : List ℕ) × PlaysFrom machine_player number m lines plain n × IsEchoed text plain
lines_plain number m [] text n plays = ([], (refl, plays.1), subst (λ (t : List ℕ). IsEchoed t []) (sym plays.0) none_shown)
lines_plain number m (line ∷ lines) text n plays =
    let more = lines_plain (number + 1) plays.2 lines plays.1 n plays.5 in
    let first = plays.0 in
    let own = both_shown (echo_of number line) [] first first (head_shown number line plays.3.0)
    (answer_shown first (line_answers m line first plays.2 plays.4)) in (
      first ++ more.0,
      (first, more.0, plays.2, plays.3, plays.4, more.1, refl),
      subst (λ (t : List ℕ). IsEchoed t (first ++ more.0)) (sym plays.6)
          (both_shown (echo_of number line ++ first) first plays.1 more.0 own more.2),
    )

-- the first lines, played without an echo
record PlayedPlain (input : Option (List ℕ)) (lines : List (List ℕ)) (rest text : List ℕ) (world : Option World) : Type 0 where
  plain : List ℕ
  played : Played machine_player input lines rest plain world
  echoed : IsEchoed text plain

played_plain : (input : Option (List ℕ)) (lines : List (List ℕ)) (rest text : List ℕ) (world : Option World)
    → Played (machine_player_with echo_of) input lines rest text world → PlayedPlain input lines rest text world
played_plain input lines rest text world played =
    let all = lines_plain 1 None lines text world played.plays in
    record { plain = all.0; played = record { split = played.split; few = played.few; plays = all.1 }; echoed = all.2 }

words_front : (world : Option World) (words : List (List ℕ)) (sent : List ℕ) → ListsWords machine_player world words sent → IsAnswer sent
words_front None words sent lists = absurd lists
words_front (Some m) words sent lists = front_answers (machine_player.listed m lists.0) sent lists.3

-- what was sent where memory was refused
stops_plain : (lines : List (List ℕ)) (rest : List ℕ) (world : Option World) (sent : List ℕ)
    → Stops (machine_player_with echo_of) lines rest world sent
    → (plain : List ℕ) × Stops machine_player lines rest world plain × IsEchoed sent plain
stops_plain lines rest world sent (inl first) =
    ([], inl (first.0, refl), subst (λ (t : List ℕ). IsEchoed t []) (sym first.1) none_shown)
stops_plain lines rest world sent (inr (line, after, lawful, is, (skipped, inl none))) =
    ([], inr (line, after, lawful, is, (skipped, inl refl)), subst (λ (t : List ℕ). IsEchoed t []) (sym none) none_shown)
stops_plain lines rest world sent (inr (line, after, lawful, is, (skipped, inr (front, lists, sent_is)))) =
    let place = length lines + 1 in (
      front,
      inr (line, after, lawful, is, (skipped, inr (front, lists, refl))),
      subst (λ (t : List ℕ). IsEchoed t front) (sym sent_is)
          (both_shown (echo_of place line) [] front front (head_shown place line lawful.0)
          (answer_shown front (words_front world (words_of line) front lists))),
    )

module _ (input left old new : Option (List ℕ)) where
  abbrev Writes : List ℕ → Type 0
  Writes text = Appends old new text

  abbrev Plain : List ℕ → Type 0
  Plain text = (written : List ℕ) × IsEchoed written text × Appends old new written

  ends_by : (why : Fault) → why ≢ fault.Write → EndsBy (machine_player_with echo_of) why input left Writes
      → EndsBy machine_player why input left Plain
  ends_by (fault.ScriptFault why number) other e =
      let p = played_plain input e.0 e.1 e.2 e.3 e.4 in (e.0, e.1, p.plain, e.3, p.played, e.5, (e.2, p.echoed, e.6))
  ends_by fault.Read other e =
      let p = played_plain input e.0 e.1 e.2 e.3 e.4 in (e.0, e.1, p.plain, e.3, p.played, e.5, (e.2, p.echoed, e.6))
  ends_by (fault.OutOfMemory witness) other e =
      let p = played_plain input e.0 e.1 e.2 e.4 e.5 in
      let s = stops_plain e.0 e.1 e.4 e.3 e.6 in
      (e.0, e.1, p.plain, s.0, e.4, p.played, s.1, (e.2 ++ e.3, both_shown e.2 p.plain e.3 s.0 p.echoed s.2, e.7))
  ends_by fault.Write other e = absurd (other refl)
  ends_by _ other e = absurd e

  ends : (result : Result (Unit {0}) Fault) → result ≢ Err fault.Write → Ends (machine_player_with echo_of) result input left Writes
      → Ends machine_player result input left Plain
  ends (Ok done) other e =
      let p = played_plain input e.0 [] e.1 e.2 e.3 in (e.0, p.plain, e.2, p.played, e.4, (e.1, p.echoed, e.5))
  ends (Err why) other e = ends_by why (λ is. other (ap Err is)) e

  -- THE LAW
  pub plays_plain : (result : Result (Unit {0}) Fault) → Ends (machine_player_with echo_of) result input left Writes
      → PlaysWithoutEchoes result input left old new
  plays_plain result e other = ends result other e
