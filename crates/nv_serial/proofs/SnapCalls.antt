-- A call on snapshots that is made alone is the call of the world with numbers, where what holds before its steps says so.
use Rattle.std.proofs.Common.{◌≡◌, ◌≢◌, ◌∙◌, ℕ, ◌++◌, Bool, true, false, List, [], ◌∷◌, Option, Some, None, ap, length, map, nat_lt, refl, replicate, subst, sym, inl, inr}
use Rattle.nv_base.specs.declared.fault.Fault.TheVariants.{NoActor}
use Rattle.nv_base.specs.declared.geometry.GeometryNumbers.{GeometryNumbers}
use Rattle.nv_book.specs.declared.record.Record.{Record}
use Rattle.nv_calls.specs.declared.call.Call.{Call}
use Rattle.nv_machine.specs.Alone.{goes}
use Rattle.nv_machine.specs.Needed.{IsAtRest}
use Rattle.nv_machine.specs.PlainRun.{Plain, plain_after, plain_of, plain_step}
use Rattle.nv_machine.specs.Recorded.{records_after, records_in}
use Rattle.nv_machine.specs.Sequence.{beginning, begun}
use Rattle.nv_machine.specs.Starts.{IsStart}
use Rattle.nv_machine.specs.Step.{after, replies, start_step, step}
use Rattle.nv_machine.specs.World.{Actor, Event, Moved, Refused, Reply, Running, Shared, Start, Started, World, actor_at, empty_hand}
use Rattle.nv_machine.proofs.NextSteps.{Known}
use Rattle.nv_machine.proofs.OverEvents.{others_stay, started, turn_at, with_call}
use Rattle.nv_machine.proofs.PlainOfRuns.{plain_is}
use Rattle.nv_machine.proofs.SingleEvents.{starts}
use Rattle.nv_machine.proofs.WorldsAtRest.{start_again}
use Rattle.nv_serial.specs.Law.{AreRepliesTo, IsMadeAlone, IsOutcome, IsSerialCall, alone, serial_after}
use Rattle.nv_serial.specs.OneCall.{of_call, serial_call}
use Rattle.nv_serial.specs.Serial.{Outcome, Serial, refused}
use Rattle.nv_serial.specs.Shown.{slot_told}
use Rattle.nv_serial.proofs.AloneStages.{PlainState}
use Rattle.nv_serial.proofs.AtRestLogs.{told_by}
use Rattle.nv_serial.proofs.AtRestPlain.{serial_is}
use Rattle.nv_serial.proofs.CommitLaw.{there_is}
use Rattle.nv_serial.proofs.SnapAlone.{HasEnded, Holds, HoldsThen, Now, OthersRest, at_first, heads, numbered, run, tails}

-- ---- events behind others

pub after_all : (front back : List Event) (w : World) → after w (front ++ back) ≡ after (after w front) back
after_all [] back w = refl
after_all (e ∷ front) back w = after_all front back (step w e).world

records_all : (front back : List Event) (w : World) (rs : List Record)
    → records_after w (front ++ back) rs ≡ records_after (after w front) back (records_after w front rs)
records_all [] back w rs = refl
records_all (e ∷ front) back w rs = records_all front back (step w e).world (records_in w e rs)

plain_all : (front back : List Event) (w : World) (p : Plain)
    → plain_after w (front ++ back) p ≡ plain_after (after w front) back (plain_after w front p)
plain_all [] back w p = refl
plain_all (e ∷ front) back w p = plain_all front back (step w e).world (plain_step w e p)

-- ---- an actor that is not there

called_nobody : (s : Serial) (actor : ℕ) (c : Call) → nat_lt actor s.numbers.actors ≡ false → serial_call s actor c ≡ refused NoActor s
called_nobody s actor c e = rw e refl

-- ---- of a world in which nothing runs

module _ (g : GeometryNumbers) (w : World) (rs : List Record) (is : IsStart g w rs) (actor : ℕ) (c : Call) where
  abbrev s : Serial
  s = told_by g w rs

  -- an actor that is not there is told so, and nothing has changed
  not_started : (b : Bool) (running : Option Running) → nat_lt actor (length w.actors) ≡ b → running ≡ None
      → (start_step b running actor c w).reply ≢ Started
      → (nat_lt actor g.actors ≡ false) × ((start_step b running actor c w).reply ≡ Refused NoActor)
      × ((start_step b running actor c w).world ≡ w)
  not_started false running there none never = (ap (nat_lt actor) (sym is.actors) ∙ there, refl, refl)
  not_started true None there none never = absurd (never refl)
  not_started true (Some r) there none never = cc

  pub others_begin : OthersRest g w rs actor c (Start actor c ∷ [])
  others_begin b ne = others_stay w b (Start actor c) ne ∙ is.idle_all b

  there : (b : Bool) (running : Option Running) → nat_lt actor (length w.actors) ≡ b
      → (start_step b running actor c w).reply ≡ Started → nat_lt actor g.actors ≡ true
  there false running is_b e = cc
  there true running is_b e = ap (nat_lt actor) (sym is.actors) ∙ is_b

  pub is_inside : (step w (Start actor c)).reply ≡ Started → nat_lt actor g.actors ≡ true
  is_inside = there (nat_lt actor (length w.actors)) (actor_at w actor).running refl

  module _ (X : PlainState → Known) (made : Outcome)
      (keeps : (events : List Event) (granted : Bool) (r : Running) → OthersRest g w rs actor c events
      → (actor_at (after w events) actor).running ≡ Some r → Holds g w rs actor c X events r
      → HoldsThen g w rs actor c X made (Now g w rs actor c events) (after w events) r (turn_at (after w events) actor granted r))
      (first : X (at_first g w rs actor c) (begun (beginning c) w.shared c).next w.shared empty_hand (begun (beginning c) w.shared c))
      (last : Reply) (over : last ≢ Moved) where
    -- a call that is started runs to its end
    pub runs_alone : (grants : List Bool) (count : ℕ) → (step w (Start actor c)).reply ≡ Started
        → replies (step w (Start actor c)).world (goes actor grants) ≡ replicate count Moved ++ last ∷ []
        → HasEnded g w rs actor c made (alone actor c grants) last
    runs_alone grants count starts_it told =
        let first_run = begun (beginning c) w.shared c in
        let own : actor_at (step w (Start actor c)).world actor ≡ with_call empty_hand (Some first_run) =
        started w actor c starts_it ∙ ap (λ (x : Actor). with_call x.hand (Some first_run)) (is.idle_all actor) in
        run g w rs actor c X made keeps last over grants count (Start actor c ∷ []) first_run others_begin
        (ap (λ (x : Actor). x.running) own)
        (subst (λ (x : Actor). X (at_first g w rs actor c) first_run.next (step w (Start actor c)).world.shared x.hand first_run) (sym own)
        (subst (λ (x : Shared). X (at_first g w rs actor c) first_run.next x empty_hand first_run) (sym (starts w actor c).shared) first))
        told

-- ---- after any events

module _ (g : GeometryNumbers) (start : World) (records : List Record) (before : List Event) (actor : ℕ) (c : Call) (grants : List Bool)
    (last : Reply) (alone_is : IsMadeAlone g start records before actor c grants last) where
  abbrev pub world_then : World
  world_then = after start before

  abbrev pub records_then : List Record
  records_then = records_after start before records

  pub start_then : IsStart g world_then records_then
  start_then = start_again g start records before alone_is.start_is alone_is.rest

  abbrev told_then : Serial
  told_then = told_by g world_then records_then

  abbrev events : List Event
  events = alone actor c grants

  all_told : serial_after g start records (before ++ events)
      ≡ numbered g world_then records_then actor c (Now g world_then records_then actor c events) (after world_then events).shared
  all_told =
      let world = after_all before events start in
      let rs = records_all before events start records in
      let plain = plain_all before events start (plain_of start)
      ∙ ap (λ (p : Plain). plain_after world_then events p) (plain_is g start records before alone_is.start_is) in
      λ i. record { numbers = g; plain = plain i; slots = map slot_told (world i).shared.cells; records = rs i }

  -- the outcome and the rest of it are those of the law
  serial_of : (made : Outcome) → serial_call told_then actor c ≡ made
      → HasEnded g world_then records_then actor c made events last → IsSerialCall g start records before actor c grants last
  serial_of made is ended =
      let old = serial_is g start records before alone_is.start_is in
      record {
        outcome =
            subst (λ (s : Serial). IsOutcome c s (serial_call s actor c) last (serial_after g start records (before ++ events))) (sym old)
            (subst (λ (made : Outcome). IsOutcome c told_then made last (serial_after g start records (before ++ events))) (sym is)
            (subst (λ (new : Serial). IsOutcome c told_then made last new) (sym all_told) ended.outcome));
        rest = subst IsAtRest (sym (after_all before events start)) ended.rest;
      }

  -- a start that is refused changes nothing
  pub start_refused : (grants ≡ []) × (replies world_then (alone actor c grants) ≡ last ∷ []) × (last ≢ Started)
      → IsSerialCall g start records before actor c grants last
  start_refused nothing =
      let reply : (step world_then (Start actor c)).reply ≡ last =
      heads (ap (λ (gs : List Bool). replies world_then (alone actor c gs)) (sym nothing.0) ∙ nothing.1) in
      let refusal = not_started g world_then records_then start_then actor c (nat_lt actor (length world_then.actors))
      (actor_at world_then actor).running refl (ap (λ (x : Actor). x.running) (start_then.idle_all actor))
      (λ e. nothing.2 (sym reply ∙ e)) in
      let world : after world_then events ≡ world_then =
      ap (λ (gs : List Bool). after world_then (alone actor c gs)) nothing.0 ∙ refusal.2 in
      let beside : Now g world_then records_then actor c events ≡ at_first g world_then records_then actor c =
      ap (λ (gs : List Bool). Now g world_then records_then actor c (alone actor c gs)) nothing.0 in
      serial_of (refused NoActor told_then) (called_nobody told_then actor c refusal.0) (record {
        outcome = inl (
          sym reply ∙ refusal.1,
          (λ i. numbered g world_then records_then actor c (beside i) (world i).shared),
        );
        rest = subst IsAtRest (sym world) alone_is.rest;
      })

  -- THE LAW of a call, by what holds before its steps
  pub is_serial : (X : PlainState → Known)
      → ((events : List Event) (granted : Bool) (r : Running) → OthersRest g world_then records_then actor c events
      → (actor_at (after world_then events) actor).running ≡ Some r → Holds g world_then records_then actor c X events r
      → HoldsThen g world_then records_then actor c X (of_call told_then actor c) (Now g world_then records_then actor c events)
      (after world_then events) r (turn_at (after world_then events) actor granted r))
      → X (at_first g world_then records_then actor c) (begun (beginning c) world_then.shared c).next world_then.shared empty_hand
      (begun (beginning c) world_then.shared c)
      → IsSerialCall g start records before actor c grants last
  is_serial X keeps first = by alone_is.replies_are where
    by : AreRepliesTo grants (replies world_then (alone actor c grants)) last → IsSerialCall g start records before actor c grants last
    by (inl nothing) = start_refused nothing
    by (inr some) =
        let starts_it : (step world_then (Start actor c)).reply ≡ Started = heads some.1 in
        let ended = runs_alone g world_then records_then start_then actor c X (of_call told_then actor c) keeps first last some.2 grants
        some.0 starts_it (tails some.1) in
        serial_of (of_call told_then actor c)
        (there_is told_then actor c (is_inside g world_then records_then start_then actor c starts_it))
        ended
