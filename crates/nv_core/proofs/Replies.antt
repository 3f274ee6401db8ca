-- What replies are told, of events and of several.
use Rattle.std.proofs.Common.{◌≡◌, ◌∙◌, ℕ, ap, refl, sym}
use Rattle.nv_calls.specs.declared.call.Call.{Call}
use Rattle.nv_machine.specs.Step.{step}
use Rattle.nv_machine.specs.World as machine
use Rattle.nv_restart.specs.Happenings.{Replied, Stopped, Told}
use Rattle.nv_core.specs.Worlds.{IsStep, WorldState, reply_of, told_by}
use Rattle.nv_core.specs.declared.event.Event.TheVariants.{Go, Start}
use Rattle.nv_core.specs.declared.event.Reply.{Reply}
use Rattle.nv_core.specs.declared.event.Reply.TheVariants as reply

-- the reply that is told, if one is
abbrev reply_in : Told → machine.Reply
reply_in (Replied r) = r
reply_in Stopped = machine.Waiting

own : (answer : Reply) → reply_of answer ≡ reply_in (told_by answer)
own reply.Started = refl
own reply.Moved = refl
own reply.Waits = refl
own (reply.Done answer) = refl
own reply.Stopped = refl
own (reply.Refused fault) = refl

pub replied : (answer : Reply) (r : machine.Reply) → told_by answer ≡ Replied r → reply_of answer ≡ r
replied answer r told = own answer ∙ ap reply_in told

pub replied_own : (answer : Reply) (r : machine.Reply) → told_by answer ≡ Replied r → told_by answer ≡ Replied (reply_of answer)
replied_own answer r told = told ∙ ap Replied (sym (replied answer r told))

-- an event of an actor is replied to as the machine replies
pub go_reply : (m : machine.World) (actor : ℕ) (answer : Reply) (new : WorldState) → (made : IsStep m (Go actor) answer new)
    → reply_of answer ≡ (step m (machine.Go actor made.granted)).reply
go_reply m actor answer new made = replied answer (step m (machine.Go actor made.granted)).reply made.told_is

pub start_reply : (m : machine.World) (actor : ℕ) (c : Call) (answer : Reply) (new : WorldState) → IsStep m (Start actor c) answer new
    → reply_of answer ≡ (step m (machine.Start actor c)).reply
start_reply m actor c answer new made = replied answer (step m (machine.Start actor c)).reply made.told_is
