-- Whole calls: the steps of one actor's call, one after another.
use Rattle.std.specs.Prelude.{◌≡◌, ◌≢◌, ◌<◌, ℕ, replicate, ◌+◌, Bool, List, [], ◌∷◌, ◌++◌, Result, Ok, Err}
use Rattle.nv_calls.specs.declared.answer.Answer.{Answer}
use Rattle.nv_calls.specs.declared.call.Call.{Call}
use Rattle.nv_machine.specs.Step.{after, replies, step}
use Rattle.nv_machine.specs.World.{Done, Moved, Refused, Reply, Start, Started, Waiting, World}
use Rattle.nv_core.specs.declared.whole.CallFault.{CallFault}
use Rattle.nv_core.specs.declared.whole.CallFault.TheVariants as fault
use Rattle.nv_core.specs.Worlds.{gos}

-- the replies to at least one event, and to `most` at most
pub record AreReplies (most : ℕ) (all : List Reply) (last : Reply) : Type 0 where
  -- how many of them come before the last
  pub before : ℕ
  -- each before the last one says that the call moved
  pub all_are : all ≡ replicate before Moved ++ last ∷ []
  -- they are `most` at most
  pub few : before < most
  -- the last one says that the call moved only where they are `most`
  pub ends : last ≡ Moved → before + 1 ≡ most

-- an actor's call goes on up to `most` times, and no further than the first reply other than
-- `Moved`
pub record GoesOn (most : ℕ) (old : World) (actor : ℕ) (last : Reply) (new : World) : Type 0 where
  -- of each step whether the memory that it asks for was granted
  pub grants : List Bool
  -- the replies end with the last one, and say before it that the call moved
  pub replies : AreReplies most (replies old (gos actor grants)) last
  -- the world is the one to which these steps lead
  pub world : new ≡ after old (gos actor grants)

-- an actor's call goes on until it moves no more
pub record Runs (old : World) (actor : ℕ) (last : Reply) (new : World) : Type 0 where
  -- how often it may go on
  pub most : ℕ
  -- it goes on so often at most
  pub goes : GoesOn most old actor last new
  -- the last reply is another than `Moved`
  pub ended : last ≢ Moved

-- a call that was started runs, and one that was refused does not
abbrev pub RunsFrom : Reply → World → ℕ → Reply → World → Type 0
RunsFrom Started old actor last new = Runs old actor last new
RunsFrom first old actor last new = (last ≡ first) × (new ≡ old)

-- A WHOLE CALL: it starts, and where it was started it runs
abbrev pub Calls : World → ℕ → Call → Reply → World → Type 0
Calls old actor c last new =
    RunsFrom (step old (Start actor c)).reply (step old (Start actor c)).world actor last new

-- the last reply of a whole call that has this result
abbrev pub last_reply : Result Answer CallFault → Reply
last_reply (Ok answer) = Done answer
last_reply (Err (fault.Refused why)) = Refused why
last_reply (Err fault.Waits) = Waiting

-- an actor's call goes on so often, and moves each time
pub record HasMoved (times actor : ℕ) (old new : World) : Type 0 where
  -- of each step whether the memory that it asks for was granted
  pub grants : List Bool
  -- each reply says that the call moved
  pub replies : replies old (gos actor grants) ≡ replicate times Moved
  -- the world is the one to which these steps lead
  pub world : new ≡ after old (gos actor grants)
