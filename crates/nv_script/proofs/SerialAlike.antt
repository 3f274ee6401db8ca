-- Where calls are answered as the world with numbers says, the machine and the serial player go alike, so a script of
-- whole calls and stops ends as the serial player plays it.
use Rattle.std.proofs.Common.{◌≡◌, ◌∙◌, ℕ, Bool, true, false, List, [], ◌∷◌, Option, Some, None, Result, inl, inr, ap, refl, subst, sym}
use Rattle.std.specs.Io.KnownBytes.{Appends}
use Rattle.nv_base.specs.Limits.{first_bad_field}
use Rattle.nv_base.specs.declared.fault.Fault.{Fault}
use Rattle.nv_base.specs.declared.geometry.GeometryNumbers.{GeometryNumbers}
use Rattle.nv_book.specs.declared.record.Record.{Record}
use Rattle.nv_calls.specs.declared.call.Call.{Call}
use Rattle.nv_machine.specs.Format.{formatted}
use Rattle.nv_machine.specs.Needed.{IsAtRest}
use Rattle.nv_machine.specs.Recorded.{records_after}
use Rattle.nv_machine.specs.Starts.{IsStart}
use Rattle.nv_machine.specs.Step.{after, replies, step}
use Rattle.nv_machine.specs.World.{Reply, Start, Started, World}
use Rattle.nv_machine.proofs.WorldsAtRest.{start_again}
use Rattle.nv_core.specs.Whole.{Calls, RunsFrom}
use Rattle.nv_core.specs.Worlds.{gos}
use Rattle.nv_restart.specs.Restarted.{restarted}
use Rattle.nv_serial.specs.Histories.{StandsAs}
use Rattle.nv_serial.specs.Law.{AreRepliesTo, IsOutcome, alone}
use Rattle.nv_serial.specs.OneCall.{serial_call}
use Rattle.nv_serial.specs.Serial.{Serial, new_serial}
use Rattle.nv_serial.specs.Stopped.{serial_stopped}
use Rattle.nv_serial.proofs.AtRestLogs.{told_by}
use Rattle.nv_serial.proofs.AtRestPlain.{serial_is}
use Rattle.nv_serial.proofs.SerialHistories.{call_stands, stands_new, stop_stands}
use Rattle.nv_script.specs.declared.command.Command.{Command}
use Rattle.nv_script.specs.declared.command.Command.TheVariants as command
use Rattle.nv_script.specs.Play.{Acts, Ends, PlaysScript, Restarts, machine_player, nodes_listed, reports_by_scan}
use Rattle.nv_script.specs.SerialPlayer.{serial_player, serial_reports}
use Rattle.nv_script.specs.Serially.{PlaysAlone, makes_steps}
use Rattle.nv_script.proofs.Alike.{GoAlike, ReportAlike, ends_alike, tells_alike}
use Rattle.nv_script.proofs.RunsPlayed.{within}
use Rattle.nv_script.proofs.SerialReports.{reports_same}

-- ---- the machine's world beside one with numbers

abbrev Stands : World → Serial → Type 0
Stands m s = (g : GeometryNumbers) × StandsAs g m s

new_stands : (numbers : GeometryNumbers) → first_bad_field numbers ≡ None → Stands (formatted numbers) (new_serial numbers)
new_stands numbers good = (numbers, stands_new numbers (within numbers good))

reports_told : (m : World) (s : Serial) → Stands m s → ReportAlike (reports_by_scan m) (serial_reports s)
reports_told m s (g, stands) =
    let start = stands.start in
    let w : World = after start stands.events in
    let rs : List Record = records_after start stands.events stands.records in
    let again : IsStart g w rs =
    start_again g start stands.records stands.events stands.is_start (subst IsAtRest (sym stands.leads) stands.rest) in
    let same : told_by g w rs ≡ s = sym (serial_is g start stands.records stands.events stands.is_start) ∙ stands.serial_is in
    subst (λ (t : Serial). ReportAlike (reports_by_scan m) (serial_reports t)) same
    (subst (λ (v : World). ReportAlike (reports_by_scan v) (serial_reports (told_by g w rs))) stands.leads
    (reports_same g w rs again))

lists_told : (m : World) (s : Serial) (c : Command) → Stands m s → nodes_listed (reports_by_scan m) c ≡ nodes_listed (serial_reports s) c
lists_told m s command.Tree stands = (reports_told m s stands).nodes None
lists_told m s (command.SnapTree snapshot) stands = (reports_told m s stands).nodes (Some snapshot)
lists_told m s _ stands = refl

-- ---- a whole call

-- its events are those of a call that is made alone, which may be refused at its start
record IsMade (m : World) (actor : ℕ) (c : Call) (last : Reply) (n : World) : Type 0 where
  grants : List Bool
  replies_are : AreRepliesTo grants (replies m (alone actor c grants)) last
  world_is : n ≡ after m (alone actor c grants)

made_of : (m : World) (actor : ℕ) (c : Call) (last : Reply) (n : World) → Calls m actor c last n → IsMade m actor c last n
made_of m actor c last n calls = go (step m (Start actor c)).reply refl calls where
  go : (first : Reply) → (step m (Start actor c)).reply ≡ first → RunsFrom first (step m (Start actor c)).world actor last n
      → IsMade m actor c last n
  go Started is runs =
      let moves = runs.goes in
      record {
        grants = moves.grants;
        replies_are = inr (
          moves.replies.before,
          ap (λ (r : Reply). r ∷ replies (step m (Start actor c)).world (gos actor moves.grants)) is
              ∙ ap (λ (told : List Reply). Started ∷ told) moves.replies.all_are,
          runs.ended,
        );
        world_is = moves.world;
      }
  go _ is ends = record {
    grants = [];
    replies_are = inl (refl, ap (λ (r : Reply). r ∷ []) (is ∙ sym ends.0), λ started. let other = ends.0 in cc);
    world_is = ends.1;
  }

call_told : (m : World) (s : Serial) (actor : ℕ) (c : Call) (last : Reply) (n : World) → Stands m s → Calls m actor c last n
    → (t : Serial) × IsOutcome c s (serial_call s actor c) last t × Stands n t
call_told m s actor c last n (g, stands) calls =
    let made = made_of m actor c last n calls in
    let served = call_stands g m s stands actor c made.grants last made.replies_are in
    (served.next, served.outcome, (g, subst (λ (w : World). StandsAs g w served.next) (sym made.world_is) served.stands))

no_step : {P : Type 0} → true ≡ false → P
no_step e = cc

-- ---- a stop

restarts_alike : {W V : Type 0} (P : W → V → Type 0) (m next n : W) (s after : V) (text : List ℕ) → P m s → P next after
    → Restarts next m text n → (t : V) × Restarts after s text t × P n t
restarts_alike P m next n s after text now then (inl stopped) =
    (after, inl (stopped.0, refl), subst (λ w. P w after) (sym stopped.1) then)
restarts_alike P m next n s after text now then (inr refused) =
    (s, inr (refused.0, refl), subst (λ w. P w s) (sym refused.1) now)

stop_told : (m : World) (s : Serial) → Stands m s → Stands (restarted m) (serial_stopped s)
stop_told m s (g, stands) = (g, stop_stands g m s stands)

acts_told : (m : World) (s : Serial) (c : Command) (text : List ℕ) (n : World) → Stands m s → makes_steps c ≡ false
    → Acts m c text n → (t : Serial) × serial_player.Acts 0 s c text t × Stands n t
acts_told m s (command.Start actor call) text n stands whole acts = no_step whole
acts_told m s (command.Go actor more) text n stands whole acts = no_step whole
acts_told m s (command.Run actor) text n stands whole acts = no_step whole
acts_told m s (command.Do actor call) text n stands whole acts =
    let called = call_told m s actor call acts.0 n stands acts.1 in (called.0, (acts.0, called.1, acts.2), called.2)
acts_told m s command.Stop text n stands whole acts =
    restarts_alike Stands m (restarted m) n s (serial_stopped s) text stands (stop_told m s stands) acts
acts_told m s report text n stands whole acts =
    let told = tells_alike m n s text (reports_by_scan m) (serial_reports s) report (reports_told m s stands) acts in
    (s, told.0, subst (λ (w : World). Stands w s) (sym told.1) stands)

-- THE PLAYERS GO ALIKE
pub go_alike : GoAlike machine_player serial_player Stands
go_alike = record {
  start = new_stands;
  acts = λ number. acts_told;
  lists = lists_told;
  heads = λ number line. refl;
  made = λ number m s answer. refl;
}

-- THE LAW of scripts whose lines make no step
pub plays_alone : (result : Result (Unit {0}) Fault) (input left old new : Option (List ℕ)) → PlaysScript result input left old new
    → PlaysAlone serial_player result input left old new
plays_alone result input left old new plays bytes known none =
    subst (λ (all : Option (List ℕ)). Ends serial_player result all left (λ text. Appends old new text)) (sym known)
    (ends_alike machine_player serial_player Stands go_alike result bytes left (λ text. Appends old new text) none
    (subst (λ (all : Option (List ℕ)). Ends machine_player result all left (λ text. Appends old new text)) known plays))
