-- What holds of every world holds after one event of an actor.
use Rattle.std.proofs.Common.{◌≡◌, ◌∙◌, ℕ, ◌<◌, ◌≤◌, Bool, true, false, List, [], ◌∷◌, ◌++◌, Option, Some, None, ap, ap₂, arith, length, nat_lt, refl, subst, sym}
use Rattle.std.specs.Prelude.{◌==◌, ◌≢◌, slice_index_or, slice_set}
use Rattle.std.proofs.lemmas.Bool.{eqb-false, eqb-true, le-ltb, lt-ltb}
use Rattle.std.proofs.lemmas.Grind.{get_or-set_at}
use Rattle.std.proofs.lemmas.List.{get_or-set_other, length-set}
use Rattle.nv_base.specs.declared.fault.Fault.TheVariants.{ActorBusy, ActorIdle}
use Rattle.nv_base.specs.declared.geometry.GeometryNumbers.{GeometryNumbers}
use Rattle.nv_machine.specs.Locks.{AreLocks}
use Rattle.nv_calls.specs.declared.call.Call.{Call}
use Rattle.nv_machine.specs.Sequence.{beginning, begun}
use Rattle.nv_machine.specs.Starts.{IsStart}
use Rattle.nv_machine.specs.Step as machine_step
use Rattle.nv_machine.specs.Step.{changed, go_step, start_step, stays, step}
use Rattle.nv_machine.specs.World as machine
use Rattle.nv_machine.specs.World.{actor_at}
use Rattle.nv_core.proofs.Given.{can_step}
use Rattle.nv_core.proofs.Runs.{after-snoc}
use Rattle.nv_core.proofs.Stays.{rooms_stay}
use Rattle.nv_core.proofs.WorldSteps.{set_back, shows_none, shows_set, shows_some, steps_on, world_with}
use Rattle.nv_core.specs.Rooms.{HasActorRooms}
use Rattle.nv_core.specs.Turns.{CanGo, HasTurned, LeavesOthers}
use Rattle.nv_restart.specs.Happenings.{Replied}
use Rattle.nv_restart.specs.Stops.{MayStop}
use Rattle.nv_core.specs.Worlds.{IsStep, IsWorld, IsWorldAfter, EventRun, Shows, ShowsActor, ShowsCall, ShowsRunning, WorldState, told_by}
use Rattle.nv_core.specs.Shown.{held_by, shared_of}
use Rattle.nv_core.specs.declared.event.Event.TheVariants as event
use Rattle.nv_core.specs.declared.event.Reply.{Reply}
use Rattle.nv_core.specs.declared.event.Reply.TheVariants as reply
use Rattle.nv_core.specs.declared.running.Running.{Running}
use Rattle.nv_core.specs.declared.shared.Shared.{Shared}
use Rattle.nv_machine.proofs.EveryWorld.{reached}
use Rattle.nv_core.specs.declared.world.Actor.{Actor}

-- the locks of a world that events have led to
pub locks_of : (w : WorldState) (m : machine.World) (run : EventRun) → IsWorldAfter w m run → AreLocks m
locks_of w m run is =
    subst AreLocks (sym is.reached) (reached w.shared.geometry.numbers run.start run.records run.events is.is_start).locks

-- a run with one event more
abbrev pub run_on : EventRun → machine.Event → EventRun
run_on run e = record run { events = run.events ++ e ∷ [] }

-- one event more
pub world_after : (w : WorldState) (m : machine.World) (run : EventRun) (e : machine.Event) (actor : ℕ) (new : Shared) (state : Actor)
    → IsWorldAfter w m run → actor < length w.actors → new.geometry ≡ w.shared.geometry
    → Shows (world_with new actor state w) (step m e).world → HasActorRooms new state.reserved state.running
    → ((k : ℕ) (d : Actor) → k ≢ actor → k < length w.actors
    → HasActorRooms new (slice_index_or w.actors k d).reserved (slice_index_or w.actors k d).running)
    → IsWorldAfter (world_with new actor state w) (step m e).world (run_on run e)
world_after w m run e actor new state is lt same shows own others = record {
  is_start = subst (λ (g : GeometryNumbers). IsStart g run.start run.records) (ap (λ g. g.numbers) (sym same)) is.is_start;
  reached = ap (λ (x : machine.World). (step x e).world) is.reached ∙ sym (after-snoc run.start run.events e);
  may = subst (λ (g : GeometryNumbers). MayStop g.block run.start.shared) (ap (λ g. g.numbers) (sym same)) is.may;
  shows = shows;
  rooms = λ k d small. each k d (omega (arith, small, length-set w.actors actor state));
} where
  Has : Actor → Type 0
  Has a = HasActorRooms new a.reserved a.running

  each : (k : ℕ) (d : Actor) → k < length w.actors → Has (slice_index_or (slice_set w.actors actor state) k d)
  each k d small = go (k == actor) refl where
    go : (b : Bool) → (k == actor) ≡ b → Has (slice_index_or (slice_set w.actors actor state) k d)
    go true e = subst Has (sym (get_or-set_at w.actors actor k state d (eqb-true k actor e) lt)) own
    go false e =
        let apart = eqb-false k actor e in
        subst Has (sym (get_or-set_other w.actors actor k state d apart)) (others k d apart small)

-- what the next step of an actor's call is given
pub can_go : (w : WorldState) → IsWorld w → (actor : ℕ) → actor < length w.actors → (own : Actor) → (d : Actor)
    → slice_index_or w.actors actor d ≡ own → CanGo w.shared own.reserved own.running actor
can_go w is actor there own d at = by own.running refl where
  m : machine.World
  m = is.0

  all : IsWorldAfter w m is.1
  all = is.2

  by : (o : Option Running) → own.running ≡ o → CanGo w.shared own.reserved o actor
  by None e = tt
  by (Some running) e =
      can_step w.shared w.actors m is.1 all.is_start all.reached all.shows.shared all.shows.count actor there own
      (subst (λ (a : Actor). ShowsActor a (actor_at m actor)) at (all.shows.each actor d there))
      (subst (λ (a : Actor). HasActorRooms w.shared a.reserved a.running) at (all.rooms actor d there)) running e

-- a call that has gone on leads to a world again
pub goes_on : (w : WorldState) → IsWorld w → (actor : ℕ) (d : Actor) (new : Shared) (state : Actor) (running : Running) (answer : Reply)
    → actor < length w.actors → (slice_index_or w.actors actor d).running ≡ Some running
    → ((r : machine.Running) → ShowsCall (slice_index_or w.actors actor d).reserved running r
    → HasTurned actor w.shared (slice_index_or w.actors actor d).reserved running r answer new state)
    → ((r : machine.Running) → ShowsCall (slice_index_or w.actors actor d).reserved running r → LeavesOthers actor r w.shared new)
    → HasActorRooms new state.reserved state.running → IsWorld (world_with new actor state w)
goes_on w is actor d new state running answer lt runs turns leaves rooms =
    let m = is.0 in
    let all = is.2 in
    let before = (slice_index_or w.actors actor d).reserved in
    let own = all.shows.each actor d lt in
    let call = shows_some before running (actor_at m actor).running
    (subst (λ (o : Option Running). ShowsRunning before o (actor_at m actor).running) runs own.running) in
    let rest = leaves call.0 call.2 in
    let one = steps_on w m actor d new state running answer all.shows lt runs rest.geometry turns in
    let e = machine.Go actor one.0 in (
      (step m e).world,
      run_on is.1 e,
      world_after w m is.1 e actor new state all lt rest.geometry one.2 rooms
          (λ k dk apart small. rooms_stay m (locks_of w m is.1 all) w.shared new all.shows.shared actor k apart call.0 call.1 rest
          (slice_index_or w.actors k dk) (all.shows.each k dk small) (all.rooms k dk small)),
    )

-- ---- an actor without a call

-- a Go of an actor without a call is refused, and changes nothing
pub stays_idle : (w : WorldState) (m : machine.World) (actor : ℕ) (d : Actor) (new : Shared) (state : Actor) → Shows w m
    → actor < length w.actors → (slice_index_or w.actors actor d).running ≡ None → new ≡ w.shared → state ≡ slice_index_or w.actors actor d
    → (step m (machine.Go actor true) ≡ stays (machine.Refused ActorIdle) m) × (world_with new actor state w ≡ w)
stays_idle w m actor d new state shows lt none same back =
    let own = shows.each actor d lt in
    let is : (actor_at m actor).running ≡ None =
    shows_none (slice_index_or w.actors actor d).reserved (actor_at m actor).running
    (subst (λ (o : Option Running). ShowsRunning (slice_index_or w.actors actor d).reserved o (actor_at m actor).running) none own.running) in (
      ap (λ (b : Bool). go_step b (actor_at m actor).running actor true m) (lt-ltb actor (length m.actors) (omega (arith, lt, shows.count)))
          ∙ ap (λ (o : Option machine.Running). go_step true o actor true m) is,
      ap₂ (λ (s : Shared) (xs : List Actor). let v : WorldState = record { shared = s; actors = xs } in v) same
          (set_back w.actors actor state d lt (sym back)),
    )

-- what an actor makes of a Go
pub record HasGone (w : WorldState) (actor : ℕ) (before : Actor) (answer : Reply) (new : Shared) (state : Actor) : Type 0 where
  pub idle : before.running ≡ None → (answer ≡ reply.Refused ActorIdle) × (new ≡ w.shared) × (state ≡ before)
  pub turns : (running : Running) (r : machine.Running) → before.running ≡ Some running → ShowsCall before.reserved running r
      → HasTurned actor w.shared before.reserved running r answer new state
  pub rest : (running : Running) (r : machine.Running) → before.running ≡ Some running → ShowsCall before.reserved running r
      → LeavesOthers actor r w.shared new
  pub rooms : HasActorRooms new state.reserved state.running

-- THE STEP OF AN ACTOR: of its call, or none
pub go_steps : (w : WorldState) (m : machine.World) (actor : ℕ) (d : Actor) (new : Shared) (state : Actor) (answer : Reply) → Shows w m
    → actor < length w.actors → IsWorld w
    → HasGone w actor (slice_index_or w.actors actor d) answer new state
    → IsStep m (event.Go actor) answer (world_with new actor state w)
go_steps w m actor d new state answer shows lt is gone = by (slice_index_or w.actors actor d).running refl where
  by : (o : Option Running) → (slice_index_or w.actors actor d).running ≡ o
      → IsStep m (event.Go actor) answer (world_with new actor state w)
  by None none =
      let told = gone.idle none in
      let all = stays_idle w m actor d new state shows lt none told.1 told.2 in
      record {
        granted = true;
        told_is = ap told_by told.0 ∙ ap (λ (s : machine_step.Step). Replied s.reply) (sym all.0);
        shows = subst (λ (s : machine_step.Step). Shows (world_with new actor state w) s.world) (sym all.0)
            (subst (λ (v : WorldState). Shows v m) (sym all.1) shows);
      }
  by (Some running) some =
      let own = is.2.shows.each actor d lt in
      let call = shows_some (slice_index_or w.actors actor d).reserved running (actor_at is.0 actor).running
      (subst (λ (o : Option Running). ShowsRunning (slice_index_or w.actors actor d).reserved o
      (actor_at is.0 actor).running) some own.running) in
      let one = steps_on w m actor d new state running answer shows lt some (gone.rest running call.0 some call.2).geometry
      (λ r shown. gone.turns running r some shown) in
      record { granted = one.0; told_is = one.1; shows = one.2 }

pub go_keeps : (w : WorldState) (actor : ℕ) (d : Actor) (new : Shared) (state : Actor) (answer : Reply)
    → actor < length w.actors → IsWorld w
    → HasGone w actor (slice_index_or w.actors actor d) answer new state
    → IsWorld (world_with new actor state w)
go_keeps w actor d new state answer lt is gone = by (slice_index_or w.actors actor d).running refl where
  by : (o : Option Running) → (slice_index_or w.actors actor d).running ≡ o → IsWorld (world_with new actor state w)
  by None none =
      let told = gone.idle none in
      subst IsWorld (sym (stays_idle w is.0 actor d new state is.2.shows lt none told.1 told.2).1) is
  by (Some running) some =
      goes_on w is actor d new state running answer lt some (λ r shown. gone.turns running r some shown)
      (λ r shown. gone.rest running r some shown) gone.rooms

-- the device is the same
pub go_geometry : (w : WorldState) (actor : ℕ) (d : Actor) (new : Shared) (state : Actor) (answer : Reply)
    → actor < length w.actors → IsWorld w
    → HasGone w actor (slice_index_or w.actors actor d) answer new state → new.geometry ≡ w.shared.geometry
go_geometry w actor d new state answer lt is gone = by (slice_index_or w.actors actor d).running refl where
  by : (o : Option Running) → (slice_index_or w.actors actor d).running ≡ o → new.geometry ≡ w.shared.geometry
  by None none = ap (λ (s : Shared). s.geometry) (gone.idle none).1
  by (Some running) some =
      let own = is.2.shows.each actor d lt in
      let call = shows_some (slice_index_or w.actors actor d).reserved running (actor_at is.0 actor).running
      (subst (λ (o : Option Running). ShowsRunning (slice_index_or w.actors actor d).reserved o
      (actor_at is.0 actor).running) some own.running) in
      (gone.rest running call.0 some call.2).geometry

-- ---- an actor that starts a call

start_is : (m : machine.World) (actor : ℕ) (c : Call) (o : Option machine.Running) → actor < length m.actors
    → (actor_at m actor).running ≡ o
    → step m (machine.Start actor c) ≡ start_step true o actor c m
start_is m actor c o lt is =
    ap (λ (b : Bool). start_step b (actor_at m actor).running actor c m) (lt-ltb actor (length m.actors) lt)
    ∙ ap (λ (o : Option machine.Running). start_step true o actor c m) is

-- what an actor makes of a start
pub record HasStarted (w : WorldState) (before : Actor) (c : Call) (answer : Reply) (state : Actor) : Type 0 where
  pub busy : (running : Running) → before.running ≡ Some running → (answer ≡ reply.Refused ActorBusy) × (state ≡ before)
  pub starts : before.running ≡ None → (answer ≡ reply.Started) × (state.reserved ≡ before.reserved)
      × ShowsRunning state.reserved state.running (Some (begun (beginning c) (shared_of w.shared) c))
  pub rooms : HasActorRooms w.shared state.reserved state.running

pub start_steps : (w : WorldState) (m : machine.World) (actor : ℕ) (d : Actor) (c : Call) (state : Actor) (answer : Reply) → Shows w m
    → actor < length w.actors → HasStarted w (slice_index_or w.actors actor d) c answer state
    → (told_by answer ≡ Replied (step m (machine.Start actor c)).reply)
    × Shows (world_with w.shared actor state w) (step m (machine.Start actor c)).world
start_steps w m actor d c state answer shows lt is = by (slice_index_or w.actors actor d).running refl where
  own : ShowsActor (slice_index_or w.actors actor d) (actor_at m actor)
  own = shows.each actor d lt

  there : actor < length m.actors
  there = omega (arith, lt, shows.count)

  Made : Type 0
  Made = (told_by answer ≡ Replied (step m (machine.Start actor c)).reply)
      × Shows (world_with w.shared actor state w) (step m (machine.Start actor c)).world

  by : (o : Option Running) → (slice_index_or w.actors actor d).running ≡ o → Made
  by None none =
      let told = is.starts none in
      let idle : (actor_at m actor).running ≡ None =
      shows_none (slice_index_or w.actors actor d).reserved (actor_at m actor).running
      (subst (λ (o : Option Running). ShowsRunning (slice_index_or w.actors actor d).reserved o (actor_at m actor).running) none own.running) in
      let r = begun (beginning c) m.shared c in
      let x : machine.Actor = record { hand = (actor_at m actor).hand; running = Some r } in
      let all : step m (machine.Start actor c) ≡ record {
        reply = machine.Started;
        world = changed m.shared (actor_at m actor).hand
            (Some r) actor m;
      } =
      start_is m actor c None there idle in
      let shown : ShowsActor state x = record {
        hand = ap held_by told.1 ∙ own.hand;
        running = subst (λ (s : machine.Shared). ShowsRunning state.reserved state.running
            (Some (begun (beginning c) s c))) shows.shared told.2;
      } in
      let set = shows_set w m actor state x w.shared shows lt refl shown in (
        ap told_by told.0 ∙ ap (λ (s : machine_step.Step). Replied s.reply) (sym all),
        subst (λ (s : machine_step.Step). Shows (world_with w.shared actor state w) s.world) (sym all)
            (subst (λ (s : machine.Shared). Shows (world_with w.shared actor state w)
            (record m { shared = s; actors = slice_set m.actors actor x })) shows.shared set),
      )
  by (Some running) some =
      let told = is.busy running some in
      let call = shows_some (slice_index_or w.actors actor d).reserved running (actor_at m actor).running
      (subst (λ (o : Option Running). ShowsRunning (slice_index_or w.actors actor d).reserved o (actor_at m actor).running) some own.running) in
      let all : step m (machine.Start actor c) ≡ stays (machine.Refused ActorBusy) m = start_is m actor c (Some call.0) there call.1 in
      let back : world_with w.shared actor state w ≡ w =
      ap (λ (xs : List Actor). let v : WorldState = record { shared = w.shared; actors = xs } in v)
      (set_back w.actors actor state d lt (sym told.1)) in (
        ap told_by told.0 ∙ ap (λ (s : machine_step.Step). Replied s.reply) (sym all),
        subst (λ (s : machine_step.Step). Shows (world_with w.shared actor state w) s.world) (sym all)
            (subst (λ (v : WorldState). Shows v m) (sym back) shows),
      )

pub start_keeps : (w : WorldState) (actor : ℕ) (d : Actor) (c : Call) (state : Actor) (answer : Reply) → actor < length w.actors → IsWorld w
    → HasStarted w (slice_index_or w.actors actor d) c answer state → IsWorld (world_with w.shared actor state w)
start_keeps w actor d c state answer lt is has =
    let m = is.0 in
    let e = machine.Start actor c in
    let one = start_steps w m actor d c state answer is.2.shows lt has in (
      (step m e).world,
      run_on is.1 e,
      world_after w m is.1 e actor w.shared state is.2 lt refl one.1 has.rooms (λ k dk apart small. is.2.rooms k dk small),
    )

-- ---- nobody

pub nobody_there : (w : WorldState) (m : machine.World) (actor : ℕ) → Shows w m → length w.actors ≤ actor
    → nat_lt actor (length m.actors) ≡ false
nobody_there w m actor shows past = le-ltb actor (length m.actors) (omega (arith, past, shows.count))
