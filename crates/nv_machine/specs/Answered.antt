-- A call that has only its last steps left, and how it ends.
use Rattle.std.specs.Prelude.{◌≡◌, ◌⊎◌, ℕ, Option, Some, None}
use Rattle.nv_calls.specs.AllCalls.{answer}
use Rattle.nv_calls.specs.declared.answer.Answer.{Answer}
use Rattle.nv_machine.specs.Kinds.{result_by}
use Rattle.nv_machine.specs.Step.{Step, reply_of}
use Rattle.nv_machine.specs.World.{Answers, Append, ReturnNumber, Cleans, Close, Drains, Ending, Give, Leave, Moved, Next, Open, BoundAnew, Publish, Refuses, Retire, Running, SnapshotOrCleaner, Unlock, Unpin, actor_at}

-- THE STEPS OF A CALL THAT IS DECIDED: a commit is under way, or what is locked or in the hand is
-- given up
abbrev pub IsLast : Next → Type 0
IsLast (Append place) = Unit {0}
IsLast Open = Unit {0}
IsLast (Publish place) = Unit {0}
IsLast Close = Unit {0}
IsLast (Retire place) = Unit {0}
IsLast Leave = Unit {0}
IsLast (Unlock place) = Unit {0}
IsLast (Give cpu) = Unit {0}
IsLast ReturnNumber = Unit {0}
IsLast other = ⊥

-- such a step, or the last one of a show that is refused, which takes its pin off
abbrev pub IsEnding : Next → Type 0
IsEnding (SnapshotOrCleaner (Unpin snapshot seen)) = Unit {0}
IsEnding other = IsLast other

-- how a call may end that has only such steps left: not by another round or another record
abbrev pub IsFinal : Ending → Type 0
IsFinal Answers = Unit {0}
IsFinal (Refuses fault) = Unit {0}
IsFinal BoundAnew = ⊥
IsFinal (Drains draining) = ⊥
IsFinal (Cleans cleaned) = Unit {0}

-- a call that is to end so, and has no step left that decides anything: from its first `append`
-- on, or from where it was refused
pub record IsToEnd (e : Ending) (r : Running) : Type 0 where
  -- this is how it is to end
  pub ends : r.ending ≡ e
  -- each step that it has left is of a decided call
  pub last : IsLast r.next

-- what a call is answered that makes a commit, which no node tells
abbrev pub answer_of : Running → Answer
answer_of r = answer (λ handle. None) r.made r.call

-- a call that was to end so has moved on
pub record IsMovedOn (e : Ending) (before after : Running) : Type 0 where
  -- it still is to end so
  pub waits : IsToEnd e after
  -- its answer is the one that it had
  pub answer : answer_of after ≡ answer_of before

-- the call that runs now is the one before, moved on towards this end
abbrev pub IsMovedTo : Ending → Running → Option Running → Type 0
IsMovedTo e before None = ⊥
IsMovedTo e before (Some after) = IsMovedOn e before after

-- a step moves the call on towards this end, or is its last and replies it
abbrev pub GoesTo : Ending → ℕ → Running → Step → Type 0
GoesTo e actor r made =
    ((made.reply ≡ Moved) × IsMovedTo e r (actor_at made.world actor).running) ⊎ (made.reply ≡ reply_of (result_by e r))
