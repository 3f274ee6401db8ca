-- A world after one event of an actor.
use Rattle.std.proofs.Common.{◌≡◌, ◌∙◌, ℕ, ◌<◌, Bool, true, false, List, Option, Some, None, Ok, Err, ap, ap₂, arith, length, refl, subst, sym}
use Rattle.std.specs.Prelude.{◌==◌, Result, slice_index_or, slice_set}
use Rattle.std.proofs.lemmas.Bool.{eqb-false, eqb-true, lt-ltb}
use Rattle.std.proofs.lemmas.Grind.{get_or-set_at}
use Rattle.std.proofs.lemmas.List.{ext_get_or, get_or-set_other, length-set}
use Rattle.nv_base.specs.declared.fault.Fault.{Fault}
use Rattle.nv_calls.specs.declared.answer.Answer.{Answer}
use Rattle.nv_machine.specs.Step.{go_step, step, turned}
use Rattle.nv_machine.specs.Step as machine_step
use Rattle.nv_machine.specs.World as machine
use Rattle.nv_machine.specs.World.{actor_at, idle}
use Rattle.nv_core.specs.Shown.{held_by, shared_of, turn_of}
use Rattle.nv_core.specs.Turns.{HasTurned, ShowsAfter, replied, still}
use Rattle.nv_restart.specs.Happenings.{Replied}
use Rattle.nv_core.specs.Worlds.{Shows, ShowsActor, ShowsCall, ShowsRunning, WorldState, told_by}
use Rattle.nv_core.specs.declared.event.Reply.{Reply}
use Rattle.nv_core.specs.declared.reservation.Reservation.{Reservation}
use Rattle.nv_core.specs.declared.running.Running.{Running}
use Rattle.nv_core.specs.declared.shared.Shared.{Shared}
use Rattle.nv_core.specs.declared.turn.Turn.{Turn}
use Rattle.nv_core.specs.declared.turn.Turn.TheVariants as turn
use Rattle.nv_core.specs.declared.world.Actor.{Actor}

-- a world with this shared and this actor in a place
abbrev pub world_with : Shared → ℕ → Actor → WorldState → WorldState
world_with shared actor state w = record { shared = shared; actors = slice_set w.actors actor state }

-- ---- what is shown

-- an actor with a call shows one of the machine with its call
pub shows_some : (h : Reservation) (running : Running) (x : Option machine.Running) → ShowsRunning h (Some running) x
    → (r : machine.Running) × (x ≡ Some r) × ShowsCall h running r
shows_some h running None shows = absurd shows
shows_some h running (Some r) shows = (r, refl, shows)

pub shows_none : (h : Reservation) (x : Option machine.Running) → ShowsRunning h None x → x ≡ None
shows_none h None shows = refl
shows_none h (Some r) shows = absurd shows

-- a world with another actor shows the machine's with the actor that this one shows
pub shows_set : (w : WorldState) (m : machine.World) (actor : ℕ) (state : Actor) (x : machine.Actor) (shared : Shared) → Shows w m
    → actor < length w.actors → shared.geometry ≡ w.shared.geometry → ShowsActor state x
    → Shows (world_with shared actor state w) (record m { shared = shared_of shared; actors = slice_set m.actors actor x })
shows_set w m actor state x shared shows lt same one = record {
  numbers = ap (λ g. g.numbers) same ∙ shows.numbers;
  shared = refl;
  count = length-set w.actors actor state ∙ shows.count ∙ sym (length-set m.actors actor x);
  each = λ k d small. each k d (omega (arith, small, length-set w.actors actor state));
} where
  each : (k : ℕ) (d : Actor) → k < length w.actors
      → ShowsActor (slice_index_or (slice_set w.actors actor state) k d) (slice_index_or (slice_set m.actors actor x) k idle)
  each k d small = go (k == actor) refl where
    go : (b : Bool) → (k == actor) ≡ b
        → ShowsActor (slice_index_or (slice_set w.actors actor state) k d) (slice_index_or (slice_set m.actors actor x) k idle)
    go true e =
        let same = eqb-true k actor e in
        let a = get_or-set_at w.actors actor k state d same lt in
        let b = get_or-set_at m.actors actor k x idle same (omega (arith, lt, shows.count)) in
        subst (λ (y : machine.Actor). ShowsActor (slice_index_or (slice_set w.actors actor state) k d) y) (sym b)
        (subst (λ (s : Actor). ShowsActor s x) (sym a) one)
    go false e =
        let apart = eqb-false k actor e in
        let a = get_or-set_other w.actors actor k state d apart in
        let b = get_or-set_other m.actors actor k x idle apart in
        subst (λ (y : machine.Actor). ShowsActor (slice_index_or (slice_set w.actors actor state) k d) y) (sym b)
        (subst (λ (s : Actor). ShowsActor s (actor_at m k)) (sym a) (shows.each k d small))

-- an actor that is put back where it was
pub set_back : (actors : List Actor) (actor : ℕ) (state : Actor) (d : Actor) → actor < length actors → slice_index_or actors actor d ≡ state
    → slice_set actors actor state ≡ actors
set_back actors actor state d lt is =
    ext_get_or d (slice_set actors actor state) actors (length-set actors actor state) (λ k small. each k) where
      each : (k : ℕ) → slice_index_or (slice_set actors actor state) k d ≡ slice_index_or actors k d
      each k = go (k == actor) refl where
        go : (b : Bool) → (k == actor) ≡ b → slice_index_or (slice_set actors actor state) k d ≡ slice_index_or actors k d
        go true e =
            let same = eqb-true k actor e in
            get_or-set_at actors actor k state d same lt ∙ sym is ∙ ap (λ j. slice_index_or actors j d) (sym same)
        go false e = get_or-set_other actors actor k state d (eqb-false k actor e)

-- ---- a turn

-- the reply of a turn is the machine's
told_turned : (t : Turn) (result : Result Answer Fault) (s : machine.Shared) (h : machine.HandState) (r : machine.Running) (actor : ℕ)
    (m : machine.World) → told_by (replied t result) ≡ Replied (turned (turn_of t result s h r) actor m).reply
told_turned turn.Moves result s h r actor m = refl
told_turned turn.Waits result s h r actor m = refl
told_turned turn.Ends (Ok answer) s h r actor m = refl
told_turned turn.Ends (Err fault) s h r actor m = refl

-- and what it leads to is shown
shows_turned : (t : Turn) (w : WorldState) (m : machine.World) (actor : ℕ) (d : Actor) (new : Shared) (state : Actor)
    (running after : Running)
    (r : machine.Running) → Shows w m → actor < length w.actors → (slice_index_or w.actors actor d).running ≡ Some running
    → new.geometry ≡ w.shared.geometry → ShowsAfter t state.reserved after r
    → (t ≡ turn.Waits → (new ≡ w.shared) × (state.reserved ≡ (slice_index_or w.actors actor d).reserved) × (after ≡ running))
    → state.running ≡ still t after
    → Shows (world_with new actor state w) (turned (turn_of t after.answer (shared_of new) (held_by state.reserved) r) actor m).world
shows_turned turn.Moves w m actor d new state running after r shows lt is same shown waits left =
    shows_set w m actor state (record { hand = held_by state.reserved; running = Some r }) new shows lt same
    (record { hand = refl; running = subst (λ (o : Option Running). ShowsRunning state.reserved o (Some r)) (sym left) shown })
shows_turned turn.Waits w m actor d new state running after r shows lt is same shown waits left =
    let all = waits refl in
    let back : slice_index_or w.actors actor d ≡ state =
    ap₂ (λ (h : Reservation) (o : Option Running). let a : Actor = record { reserved = h; running = o } in a) (sym all.1)
    (is ∙ ap Some (sym all.2) ∙ sym left) in
    let actors = set_back w.actors actor state d lt back in
    subst (λ (v : WorldState). Shows v m)
    (sym (ap₂ (λ (s : Shared) (xs : List Actor). let v : WorldState = record { shared = s; actors = xs } in v) all.0 actors)) shows
shows_turned turn.Ends w m actor d new state running after r shows lt is same shown waits left =
    shows_set w m actor state (record { hand = held_by state.reserved; running = None }) new shows lt same
    (record { hand = refl; running = subst (λ (o : Option Running). ShowsRunning state.reserved o None) (sym left) tt })

-- the step of the machine, where an actor has a call
go_is : (m : machine.World) (actor : ℕ) (granted : Bool) (r : machine.Running) → actor < length m.actors
    → (actor_at m actor).running ≡ Some r
    → step m (machine.Go actor granted) ≡ turned (machine_step.turn m.numbers.block actor granted m.shared
    (actor_at m actor).hand r) actor m
go_is m actor granted r lt is =
    ap (λ (b : Bool). go_step b (actor_at m actor).running actor granted m) (lt-ltb actor (length m.actors) lt)
    ∙ ap (λ (o : Option machine.Running). go_step true o actor granted m) is

-- AN ACTOR'S CALL HAS GONE ON: reply and world are those of the machine's step
pub steps_on : (w : WorldState) (m : machine.World) (actor : ℕ) (d : Actor) (new : Shared) (state : Actor) (running : Running)
    (answer : Reply)
    → Shows w m → actor < length w.actors → (slice_index_or w.actors actor d).running ≡ Some running
    → new.geometry ≡ w.shared.geometry
    → ((r : machine.Running) → ShowsCall (slice_index_or w.actors actor d).reserved running r
    → HasTurned actor w.shared (slice_index_or w.actors actor d).reserved running r answer new state)
    → (granted : Bool) × (told_by answer ≡ Replied (step m (machine.Go actor granted)).reply)
    × Shows (world_with new actor state w) (step m (machine.Go actor granted)).world
steps_on w m actor d new state running answer shows lt is same by =
    let before = (slice_index_or w.actors actor d).reserved in
    let own = shows.each actor d lt in
    let call = shows_some before running (actor_at m actor).running
    (subst (λ (o : Option Running). ShowsRunning before o (actor_at m actor).running) is own.running) in
    let r = call.0 in
    let done = by r call.2 in
    let granted = done.is.granted in
    let after = done.is.after in
    let s = shared_of new in
    let h = held_by state.reserved in
    let made : machine_step.turn m.numbers.block actor granted m.shared (actor_at m actor).hand r ≡ turn_of done.result done.after.answer s h after =
    ap (λ g. machine_step.turn g.block actor granted m.shared (actor_at m actor).hand r) (sym shows.numbers)
    ∙ ap (λ (x : machine.Shared). machine_step.turn w.shared.geometry.numbers.block actor granted x (actor_at m actor).hand r)
    (sym shows.shared)
    ∙ ap (λ (x : machine.HandState). machine_step.turn w.shared.geometry.numbers.block actor granted (shared_of w.shared) x r)
    (sym own.hand)
    ∙ done.is.is in
    let all : step m (machine.Go actor granted) ≡ turned (turn_of done.result done.after.answer s h after) actor m =
    go_is m actor granted r (omega (arith, lt, shows.count)) call.1 ∙ ap (λ (t : machine.Turn). turned t actor m) made in (
      granted,
      ap told_by done.reply_is ∙ told_turned done.result done.after.answer s h after actor m
          ∙ ap (λ (x : machine_step.Step). Replied x.reply) (sym all),
      subst (λ (x : machine_step.Step). Shows (world_with new actor state w) x.world) (sym all)
          (shows_turned done.result w m actor d new state running done.after after shows lt is same done.is.shows done.waits done.still_is),
    )
