-- WHAT THE LAWS OF THE MACHINE GIVE EVERY STEP of a call, in a world that shows one of the machine.
use Rattle.std.proofs.Common.{◌≡◌, ℕ, ◌<◌, ◌%◌, ◌∙◌, List, Option, Some, None, ap, arith, length, refl, subst, sym}
use Rattle.std.specs.List.{AllByRecursion}
use Rattle.nv_alloc.specs.Block.{BlockValue}
use Rattle.nv_base.specs.Limits.{IsWithinLimits}
use Rattle.nv_base.specs.declared.geometry.GeometryNumbers.{GeometryNumbers}
use Rattle.nv_base.specs.declared.limits.TheConstants.{NUMBER}
use Rattle.nv_calls.specs.Progress.{step_of}
use Rattle.nv_calls.specs.Ready.{ReadyValue}
use Rattle.nv_machine.specs.Kinds.{blocks_in}
use Rattle.nv_machine.specs.Locks.{AreSlots as AreSlotsOf}
use Rattle.nv_machine.specs.Starts.{IsStart}
use Rattle.nv_machine.specs.Step.{after}
use Rattle.nv_machine.specs.World as machine
use Rattle.nv_machine.specs.World.{HandState, actor_at}
use Rattle.nv_core.specs.Parts.{IsOfDevice}
use Rattle.nv_core.specs.Rooms.{HasActorRooms, HasRooms, hand_held}
use Rattle.nv_core.specs.Shown.{ShownCall, held_by, shared_of, shown_by, shown_ready, slots_in}
use Rattle.nv_core.specs.Steps.{CanEnter, CanStep, GivenBy}
use Rattle.nv_core.specs.GhostCalls.{IsReservationOf, IsReadyOf, IsShownCallOf}
use Rattle.nv_core.specs.Worlds.{EventRun, ShowsActor, ShowsCall, ShowsRunning, shown_call_of}
use Rattle.nv_core.specs.declared.reservation.Reservation.{Reservation}
use Rattle.nv_core.specs.declared.reservation.Reservation.TheVariants as reserved
use Rattle.nv_core.specs.declared.running.Running.{Running}
use Rattle.nv_core.specs.declared.shared.Shared.{Shared}
use Rattle.nv_core.specs.declared.world.Actor.{Actor}
use Rattle.nv_core.proofs.GivenCells.{given_home, given_slots, many_cells}
use Rattle.nv_machine.proofs.WorldSizes.{of_numbers}
use Rattle.nv_core.proofs.GivenEnter.{given_takes, no_journal}
use Rattle.nv_core.proofs.GivenKinds.{given_kind}
use Rattle.nv_core.proofs.GivenLaws.{IsGiven, given_after}
use Rattle.nv_core.proofs.LawsHold.{laws_of}
use Rattle.nv_core.proofs.ShownCalls.{commit_commits, shown_slots}

-- ---- over plain values

held_device : (g : GeometryNumbers) (reserved : Reservation) → AllByRecursion (λ (b : BlockValue). b.number < g.blocks) (blocks_in (held_by reserved))
    → IsOfDevice g (hand_held reserved)
held_device g (reserved.Hand hand) all = all
held_device g (reserved.Ready ready) all = all
held_device g (reserved.Commit commit) all = all

given_enter : (shared : Shared) (actor : ℕ) (told : ShownCall) (ready : ReadyValue) (running : Running)
    → IsGiven shared.geometry.numbers (shared_of shared) actor (held_by (reserved.Ready ready)) (shown_ready told running)
    → IsReadyOf (slots_in running.slots) ready told → shared.holder ≡ None → shared.book.state.commit < NUMBER
    → CanEnter shared running ready actor
given_enter shared actor told ready running given is free few = record {
  take = given_takes shared actor (slots_in running.slots) given.slots given.ordered given.versions few ready told is
      (given.generations refl);
  cpu = omega (arith, given.logs.some, given.logs.wide);
  closed = no_journal shared.book.state.journals (actor % length shared.lists.items) (given.logs.closed free);
}

module _ (shared : Shared) (actor : ℕ) (told : ShownCall) (running : Running) (request : IsShownCallOf running told) where
  given_own : (held : Reservation) → IsGiven shared.geometry.numbers (shared_of shared) actor (held_by held) (shown_by held told running)
      → IsReservationOf (slots_in running.slots) held told → HasRooms shared held running → GivenBy shared held running actor
  given_own (reserved.Hand hand) given is rooms =
      given_kind shared actor told hand running given request running.next refl rooms.0.before
  given_own (reserved.Ready ready) given is rooms = given_enter shared actor told ready running given is
  given_own (reserved.Commit commit) given is rooms = given.commits (commit_commits (step_of commit) commit)

  pub given_step : (held : Reservation) → IsWithinLimits shared.geometry.numbers → actor < shared.geometry.numbers.actors
      → IsGiven shared.geometry.numbers (shared_of shared) actor (held_by held) (shown_by held told running)
      → IsReservationOf (slots_in running.slots) held told → HasRooms shared held running → CanStep shared held running actor
  given_step held limits there given is rooms = record {
    limits = limits;
    actors = there;
    home = given_home shared given.lists;
    device = held_device shared.geometry.numbers held given.device;
    slots = given_slots shared (slots_in running.slots)
        (subst (AreSlotsOf (length (shared_of shared).cells)) (shown_slots held told running) given.slots);
    wide = given.wide ∙ many_cells shared;
    own = given_own held given is rooms;
  }

-- ---- one actor of a world

-- whose machine's world is that after a run
pub can_step_as : (shared : Shared) (held : Reservation) (running : Running) (r : machine.Running) (m : machine.World)
    (run : EventRun) (actor : ℕ) → IsStart shared.geometry.numbers run.start run.records → m ≡ after run.start run.events
    → shared_of shared ≡ m.shared
    → actor < length m.actors → held_by held ≡ (actor_at m actor).hand → (actor_at m actor).running ≡ Some r → ShowsCall held running r
    → HasRooms shared held running → CanStep shared held running actor
can_step_as shared held running r m run actor is_start from same there hand is shows rooms =
    given_step shared actor (shown_call_of r) running shows.request held is_start.limits inside given shows.plan rooms where
      inside : actor < shared.geometry.numbers.actors
      inside =
          let many =
          ap (λ (w : machine.World). length w.actors) from ∙
          (of_numbers shared.geometry.numbers run.start run.records run.events is_start).actors in
          omega (arith, many, there)

      given : IsGiven shared.geometry.numbers (shared_of shared) actor (held_by held) (shown_by held (shown_call_of r) running)
      given =
          let g = shared.geometry.numbers in
          let of_machine = given_after g run.start run.records m run.events is_start from
          (laws_of g run.start run.records m run.events is_start from) actor r is in
          subst (λ (q : machine.Running). IsGiven g (shared_of shared) actor (held_by held) q) (sym shows.shown)
          (subst (λ (h : HandState). IsGiven g (shared_of shared) actor h r) (sym hand)
          (subst (λ (s : machine.Shared). IsGiven g s actor (actor_at m actor).hand r) (sym same) of_machine))

-- ---- a world

-- what the machine has where the code has a call
record HasShown (held : Reservation) (running : Running) (shown : Option machine.Running) : Type 0 where
  r : machine.Running
  is : shown ≡ Some r
  shows : ShowsCall held running r

shown_some : (held : Reservation) (o : Option Running) (shown : Option machine.Running) (running : Running) → o ≡ Some running
    → ShowsRunning held o shown → HasShown held running shown
shown_some held None shown running e shows = cc
shown_some held (Some other) None running e shows = absurd shows
shown_some held (Some other) (Some r) running e shows =
    let same : other ≡ running = cc in
    record { r = r; is = refl; shows = subst (λ (q : Running). ShowsCall held q r) same shows }

-- THE LEMMA: where the shared parts and the actors of a world show those of the machine, an actor's call
-- can make its next step
pub can_step : (shared : Shared) (actors : List Actor) (m : machine.World) (run : EventRun)
    → IsStart shared.geometry.numbers run.start run.records → m ≡ after run.start run.events
    → shared_of shared ≡ m.shared → length actors ≡ length m.actors → (actor : ℕ) → actor < length actors → (own : Actor)
    → ShowsActor own (actor_at m actor) → HasActorRooms shared own.reserved own.running → (running : Running) → own.running ≡ Some running
    → CanStep shared own.reserved running actor
can_step shared actors m run is_start from same many actor there own shows rooms running has_it =
    let call = shown_some own.reserved own.running (actor_at m actor).running running has_it shows.running in
    can_step_as shared own.reserved running call.r m run actor is_start from same (omega (arith, there, many)) shows.hand call.is call.shows
    (subst (λ (o : Option Running). HasActorRooms shared own.reserved o) has_it rooms)
