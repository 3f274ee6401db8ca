-- Traced calls up to their end, where memory was granted to their lines or refused.
use Rattle.std.proofs.Common.{◌≡◌, ℕ, ◌++◌, List, Result, Ok, Err}
use Rattle.std.specs.Prelude.{IfOk}
use Rattle.nv_calls.specs.declared.call.Call.{Call}
use Rattle.nv_machine.specs.World as machine
use Rattle.nv_core.specs.CallNames.{call_name}
use Rattle.nv_core.specs.Worlds.{IsBounded, IsStep, Leads, Shows, WorldState, most_goes, reply_of}
use Rattle.nv_core.specs.declared.event.Event.TheVariants as event
use Rattle.nv_core.specs.declared.event.Reply.{Reply}
use Rattle.nv_core.specs.declared.event.Reply.TheVariants as reply
use Rattle.nv_script.specs.declared.trace.Trace.{Trace}
use Rattle.nv_script.specs.Trace.{CallsTraced, GoesTraced, RunsTraced, start_lines}
use Rattle.nv_trace.specs.Traced.{Adds}
use Rattle.nv_trace.proofs.Tracing.{traced_called, traced_ran}

pub finished : {E : Type 0} (form : Trace) (number actor : ℕ) (old new : WorldState) (first out : List ℕ) (result : Result Reply E)
    → ((m : machine.World) → Shows old m → IsBounded m)
    → IfOk result (λ answer. Leads (λ m n. Adds first out (λ events.
    GoesTraced form number most_goes m actor events (reply_of answer) n)) old new)
    → IfOk result (λ answer. Leads (λ m n. Adds first out (λ events. RunsTraced form number m actor events (reply_of answer) n)) old new)
finished form number actor old new first out (Ok answer) bounded goes = traced_ran form number actor old new answer first out bounded goes
finished form number actor old new first out (Err why) bounded goes = tt

pub called : {E : Type 0} (form : Trace) (number actor : ℕ) (c : Call) (old mid new : WorldState) (first before out : List ℕ) (result : Result Reply E)
    → ((m : machine.World) → Shows old m → IsStep m (event.Start actor c) reply.Started mid)
    → before ≡ first ++ start_lines form number actor (call_name c) machine.Started
    → IfOk result (λ answer. Leads (λ m n. Adds before out (λ events. RunsTraced form number m actor events (reply_of answer) n)) mid new)
    → IfOk result (λ answer. Leads (λ m n. Adds first out (λ events. CallsTraced form number m actor c events (reply_of answer) n)) old new)
called form number actor c old mid new first before out (Ok answer) starts begun runs =
    traced_called form number actor c old mid new first before out answer starts begun runs
called form number actor c old mid new first before out (Err why) starts begun runs = tt
