-- How often a call may still find a name bound anew.
use Rattle.std.specs.Prelude.{ℕ, ◌+◌, ◌≤◌, ◌==◌, if◌then◌else◌, List, [], ◌∷◌, Option, Some, None}
use Rattle.nv_machine.specs.Step.{ending_at, step}
use Rattle.nv_machine.specs.World.{Answers, Check, Cleans, Drains, Ending, Event, Go, HandState, Next, BoundAnew, Refuses, Running, Shared, Start, World, actor_at}

-- how many checks of a call may still find a name bound anew: one a round, and in this round none
-- where it has
abbrev pub checks_left : Ending → ℕ → ℕ
checks_left Answers rounds = rounds + 1
checks_left (Refuses fault) rounds = rounds + 1
checks_left (Drains draining) rounds = rounds + 1
checks_left (Cleans cleaned) rounds = rounds + 1
checks_left BoundAnew rounds = rounds

-- one where a step is a check that finds a name bound anew
abbrev pub fails_by : Next → Option Ending → ℕ
fails_by Check (Some BoundAnew) = 1
fails_by other ending = 0

-- how many rounds an actor's next step fails
abbrev pub fails_of : Option Running → ℕ → Shared → HandState → ℕ
fails_of None block s h = 0
fails_of (Some r) block s h = fails_by r.next (ending_at block s h r)

-- 1 where an event is a check of the actor's call that finds a name bound anew, else 0
abbrev pub fails_in : ℕ → World → Event → ℕ
fails_in actor w (Start other c) = 0
fails_in actor w (Go other granted) =
    if other == actor then fails_of (actor_at w actor).running w.numbers.block w.shared (actor_at w actor).hand else 0

-- HOW OFTEN the actor's call finds a name bound anew
abbrev pub failed_checks : ℕ → World → List Event → ℕ
failed_checks actor w [] = 0
failed_checks actor w (e ∷ events) = fails_in actor w e + failed_checks actor (step w e).world events

-- a call that runs has so many checks in all that may find a name bound anew: those that did, and
-- those left
abbrev pub HasRounds : ℕ → ℕ → Option Running → Type 0
HasRounds all failed None = Unit {0}
HasRounds all failed (Some r) = all ≤ failed + checks_left r.ending r.rounds
