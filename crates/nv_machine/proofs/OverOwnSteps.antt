-- WHAT HOLDS OF A CALL BY ITS STEPS SINCE ITS START, over all events, once for all laws: a law says what holds where a call
-- begins and after a turn (`KeepsSteps`).
use Rattle.std.proofs.Common.{◌≡◌, ◌∙◌, ℕ, ◌==◌, ◌++◌, Bool, true, false, cond, List, [], ◌∷◌, Option, Some, None, ap, get_or-set_same, length, nat_lt, refl, subst, sym}
use Rattle.std.proofs.lemmas.Bool.{ltb-true}
use Rattle.nv_calls.specs.declared.call.Call.{Call}
use Rattle.nv_machine.specs.OwnSteps.{OwnStep, none_if_started, own_steps, steps_in, with_step}
use Rattle.nv_machine.specs.PlainRun.{actor_of}
use Rattle.nv_machine.specs.Sequence.{beginning, begun}
use Rattle.nv_machine.specs.Step.{after, start_step, step}
use Rattle.nv_machine.specs.World.{Actor, Ends, Event, Go, HandState, Moves, Running, Start, Turn, Waits, World, actor_at, idle}
use Rattle.nv_machine.proofs.Lists.{self}
use Rattle.nv_machine.proofs.OverEvents.{OwnAfter, begun_at, event_of, own_goes, turn_at}

abbrev pub step_at : World → ℕ → Bool → Running → OwnStep
step_at w actor granted r = record { world = w; actor = actor; running = r; granted = granted }

module _ (Has : Running → HandState → List OwnStep → Type 0) where
  abbrev pub HasOn : Option Running → HandState → List OwnStep → Type 0
  HasOn None h steps = Unit {0}
  HasOn (Some r) h steps = Has r h steps

  abbrev pub HasSteps : List OwnStep → Actor → Type 0
  HasSteps steps x = HasOn x.running x.hand steps

  -- after a turn of a call, also of one that waits
  abbrev pub HasAfter : Running → HandState → List OwnStep → Turn → Type 0
  HasAfter r h steps (Moves s g q) = Has q g steps
  HasAfter r h steps Waits = Has r h steps
  HasAfter r h steps (Ends x s g) = Unit {0}

  pub record KeepsSteps (actor : ℕ) (w : World) : Type 0 where
    pub begins : (c : Call) → (actor_at w actor).running ≡ None
        → Has (begun (beginning c) w.shared c) (actor_at w actor).hand []
    pub turns : (granted : Bool) (r : Running) (before : List OwnStep) → (actor_at w actor).running ≡ Some r
        → Has r (actor_at w actor).hand before
        → HasAfter r (actor_at w actor).hand (step_at w actor granted r ∷ before) (turn_at w actor granted r)

  -- ---- one event

  module _ (actor : ℕ) (w : World) (keeps : KeepsSteps actor w) where
    own_after : (r : Running) (steps : List OwnStep) (t : Turn) → (actor_at w actor).running ≡ Some r
        → HasAfter r (actor_at w actor).hand steps t → OwnAfter (actor_at w actor) (HasSteps steps) t
    own_after r steps (Moves s g q) is on = on
    own_after r steps Waits is on = subst (λ (o : Option Running). HasOn o (actor_at w actor).hand steps) (sym is) on
    own_after r steps (Ends x s g) is on = tt

    own_has : (granted : Bool) (before : List OwnStep) → HasSteps before (actor_at w actor)
        → HasSteps (with_step (actor_at w actor).running w actor granted before) (actor_at (step w (Go actor granted)).world actor)
    own_has granted before had =
        own_goes (HasSteps (with_step (actor_at w actor).running w actor granted before)) w actor granted (λ none. rw none tt)
        (λ r there is. subst (λ (o : Option Running). OwnAfter (actor_at w actor) (HasSteps (with_step o w actor granted before))
        (turn_at w actor granted r)) (sym is) (own_after r (step_at w actor granted r ∷ before) (turn_at w actor granted r) is
        (keeps.turns granted r before is (subst (λ (o : Option Running). HasOn o (actor_at w actor).hand before) is had))))

    started_has : (b : Bool) (running : Option Running) (c : Call) (before : List OwnStep) → nat_lt actor (length w.actors) ≡ b
        → (actor_at w actor).running ≡ running → HasSteps before (actor_at w actor)
        → HasSteps (none_if_started (start_step b running actor c w).reply before)
        (actor_at (start_step b running actor c w).world actor)
    started_has false running c before there is had = had
    started_has true (Some r) c before there is had = had
    started_has true None c before there is had =
        subst (HasSteps [])
        (sym (get_or-set_same w.actors actor (begun_at w actor c) idle (ltb-true actor (length w.actors) there)))
        (keeps.begins c is)

    apart_has : (before : List OwnStep) → HasSteps before (actor_at w actor) → (e : Event) → (actor_of e == actor) ≡ false
        → HasSteps (steps_in actor w e before) (actor_at w actor)
    apart_has before had (Start other c) apart = rw apart had
    apart_has before had (Go other granted) apart = rw apart had

    event_has : (e : Event) (before : List OwnStep) → HasSteps before (actor_at w actor)
        → HasSteps (steps_in actor w e before) (actor_at (step w e).world actor)
    event_has e before had =
        event_of w actor (λ (e : Event) (x : Actor). HasSteps (steps_in actor w e before) x) (apart_has before had)
        (λ granted. rw (self actor) (own_has granted before had))
        (λ c. rw (self actor) (started_has (nat_lt actor (length w.actors)) (actor_at w actor).running c before refl refl had)) e

  -- ---- all events

  events_have : (actor : ℕ) (events : List Event) (w : World) (before : List OwnStep)
      → ((past : List Event) → KeepsSteps actor (after w past)) → HasSteps before (actor_at w actor)
      → HasSteps (own_steps actor w events before) (actor_at (after w events) actor)
  events_have actor [] w before keeps had = had
  events_have actor (e ∷ events) w before keeps had =
      events_have actor events (step w e).world (steps_in actor w e before) (λ past. keeps (e ∷ past))
      (event_has actor w (keeps []) e before had)

  -- of a call that runs
  pub running_has : (actor : ℕ) (events : List Event) (start : World) (r : Running)
      → ((past : List Event) → KeepsSteps actor (after start past)) → actor_at start actor ≡ idle
      → (actor_at (after start events) actor).running ≡ Some r
      → Has r (actor_at (after start events) actor).hand (own_steps actor start events [])
  running_has actor events start r keeps idles runs =
      subst (λ (o : Option Running). HasOn o (actor_at (after start events) actor).hand (own_steps actor start events [])) runs
      (events_have actor events start [] keeps (subst (HasSteps []) (sym idles) tt))

-- ---- one more step

steps_more : (events : List Event) (w : World) (actor : ℕ) (e : Event) (before : List OwnStep)
    → own_steps actor w (events ++ e ∷ []) before ≡ steps_in actor (after w events) e (own_steps actor w events before)
steps_more [] w actor e before = refl
steps_more (f ∷ events) w actor e before = steps_more events (step w f).world actor e (steps_in actor w f before)

pub one_more : (events : List Event) (start : World) (actor : ℕ) (granted : Bool) (r : Running)
    → (actor_at (after start events) actor).running ≡ Some r → own_steps actor start (events ++ Go actor granted ∷ []) []
    ≡ step_at (after start events) actor granted r ∷ own_steps actor start events []
one_more events start actor granted r runs =
    let w = after start events in
    let before = own_steps actor start events [] in
    steps_more events start actor (Go actor granted) []
    ∙ ap (λ (b : Bool). cond b (with_step (actor_at w actor).running w actor granted before) before) (self actor)
    ∙ ap (λ (o : Option Running). with_step o w actor granted before) runs
