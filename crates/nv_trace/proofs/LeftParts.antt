-- What a step has left is told where the step was made.
use Rattle.std.proofs.Common.{◌≡◌, ℕ, List, [], ◌⊎◌, inl, inr, ap}
use Rattle.nv_base.specs.declared.fault.Fault.{Fault}
use Rattle.nv_calls.specs.declared.answer.Answer.{Answer}
use Rattle.nv_machine.specs.Frame.{Lent}
use Rattle.nv_machine.specs.World.{World}
use Rattle.nv_core.specs.Worlds.{reply_of}
use Rattle.nv_core.specs.declared.event.Reply.{Reply}
use Rattle.nv_core.specs.declared.event.Reply.TheVariants as reply
use Rattle.nv_script.specs.Trace.{left_members, made_members}

-- the members of what is left
abbrev pub left_by : ℕ → Lent → World → Reply → List ℕ
left_by actor parts m r = left_members (reply_of r) actor parts m

-- a step that was not made has left nothing
pub nothing_left : (actor : ℕ) (parts : Lent) (m : World) (r : Reply)
    → (r ≡ reply.Started) ⊎ ((r ≡ reply.Waits) ⊎ (r ≡ reply.Stopped)) → left_by actor parts m r ≡ []
nothing_left actor parts m r (inl is) = ap (left_by actor parts m) is
nothing_left actor parts m r (inr (inl is)) = ap (left_by actor parts m) is
nothing_left actor parts m r (inr (inr is)) = ap (left_by actor parts m) is

-- one that was made has left its actor's hand, and the parts that it was lent
pub some_left : (actor : ℕ) (parts : Lent) (m : World) (r : Reply)
    → (r ≡ reply.Moved) ⊎ (((answer : Answer) × (r ≡ reply.Done answer)) ⊎ ((fault : Fault) × (r ≡ reply.Refused fault)))
    → left_by actor parts m r ≡ made_members actor parts m
some_left actor parts m r (inl is) = ap (left_by actor parts m) is
some_left actor parts m r (inr (inl is)) = ap (left_by actor parts m) is.1
some_left actor parts m r (inr (inr is)) = ap (left_by actor parts m) is.1
