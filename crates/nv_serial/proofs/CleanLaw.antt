-- THE CLEANERS of the law of calls that are made one at a time: their last replies, and what they leave.
use Rattle.std.proofs.Common.{◌≡◌, ◌≢◌, ◌∙◌, ℕ, ◌<◌, ◌++◌, Bool, true, false, List, [], ◌∷◌, Option, None, ap, append_assoc, arith, get_or-set_same, if◌then◌else◌, inl, inr, length, lt-ltb, map, nat_lt, refl, replicate, subst, sym}
use Rattle.std.proofs.lemmas.Bool.{ltb-false, ltb-true}
use Rattle.nv_base.specs.declared.geometry.GeometryNumbers.{GeometryNumbers}
use Rattle.nv_book.specs.declared.record.Record.{Record}
use Rattle.nv_calls.specs.declared.call.Call.{Call}
use Rattle.nv_calls.specs.declared.call.Call.TheVariants as call
use Rattle.nv_calls.specs.declared.snapshot_or_cleaner_call.SnapshotOrCleanerCall.TheVariants as on
use Rattle.nv_machine.specs.Alone.{goes}
use Rattle.nv_machine.specs.CleanerAnswers.{cleaner}
use Rattle.nv_machine.specs.Needed.{IsAtRest}
use Rattle.nv_machine.specs.PlainRun.{Plain, plain_of}
use Rattle.nv_machine.specs.Recorded.{records_after}
use Rattle.nv_machine.specs.Sequence.{beginning, begun, first_clean, slots_on, started}
use Rattle.nv_machine.specs.Starts.{IsStart}
use Rattle.nv_machine.specs.Step.{Step, after, replies, start_step, step}
use Rattle.nv_machine.specs.World.{Actor, Auto, Event, Fast, HandState, PlanCleaning, LockCleaned, SnapshotOrCleaner, Manner, Moved, Reply, Running, Start, Started, Thorough, World, actor_at, empty_hand, idle}
use Rattle.nv_machine.proofs.CallsStay.{IsCallOf}
use Rattle.nv_machine.proofs.CopiesAll.{after_one}
use Rattle.nv_machine.proofs.OverEvents.{begun_at, others_stay}
use Rattle.nv_machine.proofs.PlainOfRuns.{plain_is}
use Rattle.nv_machine.proofs.WorldsAtRest.{start_again}
use Rattle.nv_serial.specs.Law.{AreRepliesTo, IsMadeAlone, IsOutcome, IsSerialCall, alone, serial_after}
use Rattle.nv_serial.specs.OneCall.{serial_call}
use Rattle.nv_serial.specs.Serial.{Serial}
use Rattle.nv_serial.specs.Shown.{slot_told}
use Rattle.nv_serial.proofs.AloneStages.{PlainState, beside_after, beside_more, begun_call}
use Rattle.nv_serial.proofs.AtRestLogs.{told_by}
use Rattle.nv_serial.proofs.AtRestPlain.{serial_is}
use Rattle.nv_serial.proofs.CleanRuns.{IsRunOut, IsUnder, run}
use Rattle.nv_serial.proofs.CleanStages.{IsBare, Stands}
use Rattle.nv_serial.proofs.SnapAlone.{heads, tails}
use Rattle.nv_serial.proofs.SnapCalls.{is_inside, start_refused}

module _ (g : GeometryNumbers) (start : World) (records : List Record) (is_start : IsStart g start records) (before : List Event)
    (at_rest : IsAtRest (after start before)) (actor : ℕ) (manner : Manner) (ino : ℕ) where
  abbrev v : World
  v = after start before

  abbrev ds : List Record
  ds = records_after start before records

  abbrev at : IsStart g v ds
  at = start_again g start records before is_start at_rest

  abbrev c : Call
  c = cleaner manner ino

  abbrev Both : List Event → Type 0
  Both events = beside_after start events (record { records = records; plain = plain_of start })
      ≡ beside_after start before (record { records = records; plain = plain_of start })

  abbrev begin : Event
  begin = Start actor c

  -- ---- it begins

  module _ (there : actor < g.actors) where
    abbrev x : World
    x = (start_step true None actor c v).world

    inside : actor < length v.actors
    inside = omega (arith, there, at.actors)

    started_is : step v (Start actor c) ≡ start_step true None actor c v
    started_is =
        ap (λ (b : Bool). start_step b (actor_at v actor).running actor c v) (lt-ltb actor (length v.actors) inside)
        ∙ ap (λ (o : Option Running). start_step true o actor c v) (at_rest actor)

    abbrev StandsAt : HandState → Running → Type 0
    StandsAt h r = Stands g v ds at actor there manner ino v.shared h r

    first_stage : (m : Manner) → m ≡ manner → (d : Call) → let k = first_clean (length v.shared.cells) m ino in
        StandsAt empty_hand (started d (SnapshotOrCleaner k) (slots_on k))
    first_stage m same d = go (nat_lt ino (length v.shared.cells)) refl where
      bare : IsBare g v ds at actor there manner ino v.shared empty_hand
      bare = record { cells_are = refl; lists_are = refl; pages_are = refl }

      go : (b : Bool) → nat_lt ino (length v.shared.cells) ≡ b → let k = if b then LockCleaned m ino else PlanCleaning m None in
          StandsAt empty_hand (started d (SnapshotOrCleaner k) (slots_on k))
      go true low =
          let lt = ltb-true ino (length v.shared.cells) low in
          record { by = (same, refl, omega (arith, lt, at.slots), bare, at.unlocked ino); number = refl }
      go false past =
          let ge = ltb-false ino (length v.shared.cells) past in
          record { by = (same, omega (arith, ge, at.slots), bare); number = refl }

    begun_stage : (m : Manner) → m ≡ manner → StandsAt empty_hand (begun (beginning (cleaner m ino)) v.shared (cleaner m ino))
    begun_stage Fast same = first_stage Fast same (cleaner Fast ino)
    begun_stage Thorough same = first_stage Thorough same (cleaner Thorough ino)
    begun_stage Auto same = first_stage Auto same (cleaner Auto ino)

    first_under : IsUnder g start records is_start before at_rest actor there manner ino x
    first_under =
        let r = begun (beginning c) v.shared c in
        let own : actor_at x actor ≡ begun_at v actor c = get_or-set_same v.actors actor (begun_at v actor c) idle inside in
        let hand : (actor_at v actor).hand ≡ empty_hand = ap (λ (a : Actor). a.hand) (at.idle_all actor) in
        record {
          running = r;
          runs = ap (λ (a : Actor). a.running) own;
          stands = subst (λ (a : Actor). Stands g v ds at actor there manner ino v.shared a.hand r) (sym own)
              (subst (λ (h : HandState). StandsAt h r) (sym hand) (begun_stage manner refl));
          its = subst (λ (a : Actor). IsCallOf c a.running) (sym own) (begun_call (beginning c) v.shared c);
          others = λ b ne.
              ap (λ (a : Actor). a.running) (sym (ap (λ (made : Step). actor_at made.world b) started_is)
              ∙ others_stay v b (Start actor c) ne) ∙ at_rest b;
        }

  began : Both (before ++ begin ∷ [])
  began = beside_more before start begin (record { records = records; plain = plain_of start })

  -- ---- the worlds with numbers

  abbrev old : Serial
  old = told_by g v ds

  old_is : serial_after g start records before ≡ old
  old_is = serial_is g start records before is_start

  new_is : (events : List Event) → Both events
      → serial_after g start records events ≡ record old { slots = map slot_told (after start events).shared.cells }
  new_is events same =
      ap (λ (b : PlainState). let s : Serial = record {
        numbers = g;
        plain = b.plain;
        slots = map slot_told (after start events).shared.cells;
        records = b.records;
      } in s) same
      ∙ ap (λ (p : Plain). let s : Serial = record old { plain = p; slots = map slot_told (after start events).shared.cells } in s)
      (plain_is g start records before is_start)

  outcome_is : (events : List Event) (last : Reply) → Both events
      → IsOutcome c old (serial_call old actor c) last (record old { slots = map slot_told (after start events).shared.cells })
      → IsOutcome c (serial_after g start records before) (serial_call (serial_after g start records before) actor c) last
      (serial_after g start records events)
  outcome_is events last same told =
      subst (λ (s : Serial). IsOutcome c s (serial_call s actor c) last (serial_after g start records events)) (sym old_is)
      (subst (IsOutcome c old (serial_call old actor c) last) (sym (new_is events same)) told)

  -- ---- the cases

  abbrev Law : List Bool → Reply → Type 0
  Law grants last = IsSerialCall g start records before actor c grants last

  -- the events of the call, step by step
  abbrev events_of : List Bool → List Event
  events_of grants = (before ++ begin ∷ []) ++ goes actor grants

  same_events : (grants : List Bool) → events_of grants ≡ before ++ alone actor c grants
  same_events grants = append_assoc before (begin ∷ []) (goes actor grants)

  module _ (there : actor < g.actors) where
    runs_out : (grants : List Bool) (last : Reply) → IsRunOut g start records is_start before at_rest actor there manner ino (events_of grants) last
        → Law grants last
    runs_out grants last out = record {
      outcome = subst (λ (events : List Event). IsOutcome c (serial_after g start records before)
          (serial_call (serial_after g start records before) actor c) last (serial_after g start records events)) (same_events grants)
          (outcome_is (events_of grants) last out.stays out.over.outcome);
      rest = subst (λ (events : List Event). IsAtRest (after start events)) (same_events grants) out.over.rest;
    }

    there_law : (grants : List Bool) (count : ℕ) (last : Reply)
        → replies v (alone actor c grants) ≡ Started ∷ (replicate count Moved ++ last ∷ []) → last ≢ Moved → Law grants last
    there_law grants count last told ended =
        let on : x there ≡ after start (before ++ begin ∷ []) =
        sym (ap (λ (made : Step). made.world) (started_is there)) ∙ after_one before start begin in
        let more : replies (after start (before ++ begin ∷ [])) (goes actor grants) ≡ replicate count Moved ++ last ∷ [] =
        ap (λ (y : World). replies y (goes actor grants)) (sym (after_one before start begin)) ∙ tails told in
        runs_out grants last
        (run g start records is_start before at_rest actor there manner ino grants (before ++ begin ∷ []) count last
        (subst (IsUnder g start records is_start before at_rest actor there manner ino) on (first_under there)) began more ended)

-- A CLEANER that is made alone is told what the world with numbers says, and leaves what it says; and then no call runs
pub clean_serial : (g : GeometryNumbers) (start : World) (records : List Record) (before : List Event) (actor : ℕ) (manner : Manner)
    (ino : ℕ) (grants : List Bool) (last : Reply) → IsMadeAlone g start records before actor (cleaner manner ino) grants last
    → IsSerialCall g start records before actor (cleaner manner ino) grants last
clean_serial g start records before actor manner ino grants last made = by made.replies_are where
  by : AreRepliesTo grants (replies (after start before) (alone actor (cleaner manner ino) grants)) last
      → IsSerialCall g start records before actor (cleaner manner ino) grants last
  by (inl refused) = start_refused g start records before actor (cleaner manner ino) grants last made refused
  by (inr (count, told, ended)) =
      there_law g start records made.start_is before made.rest actor manner ino
      (ltb-true actor g.actors (is_inside g (after start before) (records_after start before records)
      (start_again g start records before made.start_is made.rest) actor (cleaner manner ino) (heads told))) grants count last told ended

-- and so of each of the three calls
pub fast_serial : (g : GeometryNumbers) (start : World) (records : List Record) (before : List Event) (actor ino : ℕ)
    (grants : List Bool) (last : Reply) → IsMadeAlone g start records before actor (call.SnapshotOrCleaner (on.Fast ino)) grants last
    → IsSerialCall g start records before actor (call.SnapshotOrCleaner (on.Fast ino)) grants last
fast_serial g start records before actor ino = clean_serial g start records before actor Fast ino

pub thorough_serial : (g : GeometryNumbers) (start : World) (records : List Record) (before : List Event) (actor ino : ℕ)
    (grants : List Bool) (last : Reply) → IsMadeAlone g start records before actor (call.SnapshotOrCleaner (on.Thorough ino)) grants last
    → IsSerialCall g start records before actor (call.SnapshotOrCleaner (on.Thorough ino)) grants last
thorough_serial g start records before actor ino = clean_serial g start records before actor Thorough ino

pub auto_serial : (g : GeometryNumbers) (start : World) (records : List Record) (before : List Event) (actor ino : ℕ)
    (grants : List Bool) (last : Reply) → IsMadeAlone g start records before actor (call.SnapshotOrCleaner (on.Auto ino)) grants last
    → IsSerialCall g start records before actor (call.SnapshotOrCleaner (on.Auto ino)) grants last
auto_serial g start records before actor ino = clean_serial g start records before actor Auto ino
