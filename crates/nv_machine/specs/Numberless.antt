-- How a call comes to have no number: its number step found none free.
use Rattle.std.specs.Prelude.{ℕ, ◌==◌, ◌&&◌, ◌||◌, Bool, true, false, List, [], ◌∷◌, Option, Some, None}
use Rattle.nv_machine.specs.Step.{step}
use Rattle.nv_machine.specs.World.{Event, Go, Next, Number, Running, Start, World, actor_at}

-- a number step, where no number is free
abbrev pub is_denied : Next → List ℕ → Bool
is_denied Number [] = true
is_denied next numbers = false

-- an actor's call was denied a number
abbrev pub denied_of : Option Running → List ℕ → Bool
denied_of None numbers = false
denied_of (Some r) numbers = is_denied r.next numbers

-- at this event the actor's call makes its number step, and finds none free
abbrev pub finds_none : ℕ → World → Event → Bool
finds_none actor w (Start other c) = false
finds_none actor w (Go other granted) = (other == actor) && denied_of (actor_at w actor).running w.shared.pool.numbers

-- THE ACTOR'S CALL HAS FOUND NO NUMBER FREE, at one of these events
abbrev pub met_none : ℕ → World → List Event → Bool
met_none actor w [] = false
met_none actor w (e ∷ events) = finds_none actor w e || met_none actor (step w e).world events
