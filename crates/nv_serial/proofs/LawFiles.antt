-- Calls on files and directories of the law of calls that are made one at a time, by the last of their steps.
use Rattle.std.proofs.Common.{◌≡◌, ◌≢◌, ◌∙◌, ◌⊎◌, ℕ, zero, suc, ◌<◌, ◌++◌, Bool, false, List, [], ◌∷◌, Some, None, ap, append_assoc, get_or-set_same, inl, inr, length, subst, sym}
use Rattle.std.specs.Prelude.{Err, Ok, replicate}
use Rattle.std.proofs.lemmas.List.{map-append}
use Rattle.nv_base.specs.Memory.{out_of_memory}
use Rattle.nv_base.specs.declared.fault.Fault.{Fault}
use Rattle.nv_base.specs.declared.geometry.GeometryNumbers.{GeometryNumbers}
use Rattle.nv_book.specs.declared.record.Record.{Record}
use Rattle.nv_calls.specs.declared.answer.Answer.{Answer}
use Rattle.nv_calls.specs.declared.call.Call.{Call}
use Rattle.nv_machine.specs.Alone.{goes}
use Rattle.nv_machine.specs.EndsDecided.{is_snapshot_or_cleaner}
use Rattle.nv_machine.specs.Needed.{IsAtRest}
use Rattle.nv_machine.specs.Sequence.{beginning, begun}
use Rattle.nv_machine.specs.Step.{Step, after, replies, step, turned}
use Rattle.nv_machine.specs.World.{Actor, Done, Ends, Event, Go, Moved, Moves, Refused, Reply, Running, Start, Started, Turn, Waiting, Waits, World, actor_at, idle}
use Rattle.nv_machine.proofs.AloneNeverWaits.{never_waits}
use Rattle.nv_machine.proofs.LocksOverEvents.{events_locks}
use Rattle.nv_machine.proofs.OverEvents.{others_stay, runs_inside, started as begins, turn_at, with_call}
use Rattle.nv_machine.proofs.SingleEvents.{goes as goes_by_turn}
use Rattle.nv_machine.proofs.StartParts.{first_locks}
use Rattle.nv_serial.specs.Law.{AreRepliesTo, IsMadeAlone, IsOutcome, IsSerialCall, alone, grows_nothing, serial_after}
use Rattle.nv_serial.specs.OneCall.{serial_call}
use Rattle.nv_serial.specs.Serial.{Outcome, Serial, refused}
use Rattle.nv_serial.proofs.CommitLaw.{file_calls_done}
use Rattle.nv_serial.proofs.RefusedLaw.{file_calls_refused_so}
use Rattle.nv_serial.proofs.SnapAlone.{heads, no_grants, no_replies, tails}
use Rattle.nv_serial.proofs.SnapCalls.{after_all, start_refused}

-- ---- the last step

-- a step that moves leaves its call running
goes_on : (w : World) (actor : ℕ) (t : Turn) → actor < length w.actors → (turned t actor w).reply ≡ Moved
    → (r : Running) × ((actor_at (turned t actor w).world actor).running ≡ Some r)
goes_on w actor (Moves s h r) there e =
    (r, ap (λ (x : Actor). x.running) (get_or-set_same w.actors actor (with_call h (Some r)) idle there))
goes_on w actor Waits there e = cc
goes_on w actor (Ends (Ok found) s h) there e = cc
goes_on w actor (Ends (Err fault) s h) there e = cc

-- a last reply is an answer or a refusal
abbrev IsEnd : Reply → Type 0
IsEnd last = ((found : Answer) × (last ≡ Done found)) ⊎ ((fault : Fault) × (last ≡ Refused fault))

ends : (w : World) (actor : ℕ) (t : Turn) (last : Reply) → (turned t actor w).reply ≡ last → last ≢ Moved → last ≢ Waiting → IsEnd last
ends w actor (Moves s h r) last e over free = absurd (over (sym e))
ends w actor Waits last e over free = absurd (free (sym e))
ends w actor (Ends (Ok found) s h) last e over free = inl (found, sym e)
ends w actor (Ends (Err fault) s h) last e over free = inr (fault, sym e)

-- of steps that all move but the last
record IsLast (w : World) (actor : ℕ) (grants : List Bool) (last : Reply) : Type 0 where
  pub front : List Bool
  pub granted : Bool
  pub running : Running
  pub grants_are : grants ≡ front ++ granted ∷ []
  pub runs : (actor_at (after w (goes actor front)) actor).running ≡ Some running
  pub reply_is : (step (after w (goes actor front)) (Go actor granted)).reply ≡ last

reply_turned : (w : World) (actor : ℕ) (granted : Bool) (r : Running) → (actor_at w actor).running ≡ Some r
    → step w (Go actor granted) ≡ turned (turn_at w actor granted r) actor w
reply_turned w actor granted r runs = (goes_by_turn w actor granted r (runs_inside w actor r runs) runs).is_turn

module _ (actor : ℕ) (last : Reply) where
  last_step : (grants : List Bool) (count : ℕ) (w : World) (r : Running) → (actor_at w actor).running ≡ Some r
      → replies w (goes actor grants) ≡ replicate count Moved ++ last ∷ [] → IsLast w actor grants last
  last_step [] count w r runs told = absurd (no_replies count last told)
  last_step (b ∷ grants) zero w r runs told = record {
    front = [];
    granted = b;
    running = r;
    grants_are = ap (λ (gs : List Bool). b ∷ gs) (no_grants (step w (Go actor b)).world actor grants (tails told));
    runs = runs;
    reply_is = heads told;
  }
  last_step (b ∷ grants) (suc count) w r runs told =
      let is = reply_turned w actor b r runs in
      let on = goes_on w actor (turn_at w actor b r) (runs_inside w actor r runs)
      (ap (λ (x : Step). x.reply) (sym is) ∙ heads told) in
      one_more b (last_step grants count (step w (Go actor b)).world on.0
      (ap (λ (x : Step). (actor_at x.world actor).running) is ∙ on.1) (tails told)) where
        one_more : (b : Bool) → IsLast (step w (Go actor b)).world actor grants last → IsLast w actor (b ∷ grants) last
        one_more b more = record {
          front = b ∷ more.front;
          granted = more.granted;
          running = more.running;
          grants_are = ap (λ (gs : List Bool). b ∷ gs) more.grants_are;
          runs = more.runs;
          reply_is = more.reply_is;
        }

others_rest : (grants : List Bool) (w : World) (actor : ℕ) → ((b : ℕ) → b ≢ actor → (actor_at w b).running ≡ None)
    → (b : ℕ) → b ≢ actor → (actor_at (after w (goes actor grants)) b).running ≡ None
others_rest [] w actor rest = rest
others_rest (granted ∷ grants) w actor rest =
    others_rest grants (step w (Go actor granted)).world actor
    (λ b ne. ap (λ (x : Actor). x.running) (others_stay w b (Go actor granted) ne) ∙ rest b ne)

-- ---- the law

module _ (g : GeometryNumbers) (start : World) (records : List Record) (before : List Event) (actor : ℕ) (c : Call) (grants : List Bool)
    (last : Reply) (plain : is_snapshot_or_cleaner c ≡ false) (alone_is : IsMadeAlone g start records before actor c grants last) where
  abbrev w : World
  w = after start before

  abbrev s : Serial
  s = serial_after g start records before

  -- the law over these events
  abbrev Law : List Event → Type 0
  Law events = IsOutcome c s (serial_call s actor c) last (serial_after g start records events) × IsAtRest (after start events)

  module _ (started : (step w (Start actor c)).reply ≡ Started) (over : last ≢ Moved)
      (steps : IsLast (step w (Start actor c)).world actor grants last) where
    abbrev ran : List Event
    ran = before ++ Start actor c ∷ goes actor steps.front

    abbrev events : List Event
    events = ran ++ Go actor steps.granted ∷ []

    events_are : events ≡ before ++ alone actor c grants
    events_are =
        append_assoc before (Start actor c ∷ goes actor steps.front) (Go actor steps.granted ∷ [])
        ∙ ap (λ (es : List Event). before ++ Start actor c ∷ es) (sym (map-append (Go actor) steps.front (steps.granted ∷ [])))
        ∙ ap (λ (gs : List Bool). before ++ alone actor c gs) (sym steps.grants_are)

    same : after start ran ≡ after (step w (Start actor c)).world (goes actor steps.front)
    same = after_all before (Start actor c ∷ goes actor steps.front) start

    runs : (actor_at (after start ran) actor).running ≡ Some steps.running
    runs = ap (λ (x : World). (actor_at x actor).running) same ∙ steps.runs

    reply_is : (step (after start ran) (Go actor steps.granted)).reply ≡ last
    reply_is = ap (λ (x : World). (step x (Go actor steps.granted)).reply) same ∙ steps.reply_is

    never : last ≢ Waiting
    never e =
        never_waits (after start ran) actor (events_locks ran start (first_locks g start records alone_is.start_is))
        (λ b ne. ap (λ (x : World). (actor_at x b).running) same
        ∙ others_rest steps.front (step w (Start actor c)).world actor
        (λ other apart. ap (λ (x : Actor). x.running) (others_stay w other (Start actor c) apart) ∙ alone_is.rest other) b ne)
        steps.granted (reply_is ∙ e)

    by : IsEnd last → Law events
    by (inl (found, is)) =
        let law = file_calls_done g start records before actor c steps.front steps.granted steps.running found alone_is.start_is
        alone_is.rest plain started runs (reply_is ∙ is) in (
          inl (is ∙ ap (λ (o : Outcome). o.reply) (sym law.0), ap (λ (o : Outcome). o.world) (sym law.0)),
          law.1,
        )
    by (inr (fault, is)) =
        let law = file_calls_refused_so g start records before actor c steps.front steps.granted steps.running fault
        alone_is.start_is alone_is.rest plain started runs (reply_is ∙ is) in
        (why law.0 law.1, law.2) where
          why : (serial_call s actor c ≡ refused fault s) ⊎ ((fault ≡ out_of_memory) × (grows_nothing c ≡ false))
              → serial_after g start records events ≡ s
              → IsOutcome c s (serial_call s actor c) last (serial_after g start records events)
          why (inl so) left =
              inl (is ∙ ap (λ (o : Outcome). o.reply) (sym so), left ∙ ap (λ (o : Outcome). o.world) (sym so))
          why (inr memory) left = inr (memory.1, is ∙ ap Refused memory.0, left)

    ran_out : IsSerialCall g start records before actor c grants last
    ran_out =
        let law = subst Law events_are
        (by (ends (after start ran) actor (turn_at (after start ran) actor steps.granted steps.running) last
        (ap (λ (x : Step). x.reply) (sym (reply_turned (after start ran) actor steps.granted steps.running runs)) ∙ reply_is) over never)) in
        record { outcome = law.0; rest = law.1 }

  -- A CALL ON FILES AND DIRECTORIES that is made alone is that of the world with numbers
  pub files_alone : IsSerialCall g start records before actor c grants last
  files_alone = go alone_is.replies_are where
    go : AreRepliesTo grants (replies w (alone actor c grants)) last → IsSerialCall g start records before actor c grants last
    go (inl nothing) = start_refused g start records before actor c grants last alone_is nothing
    go (inr some) =
        let starts_it : (step w (Start actor c)).reply ≡ Started = heads some.1 in
        ran_out starts_it some.2
        (last_step actor last grants some.0 (step w (Start actor c)).world (begun (beginning c) w.shared c)
        (ap (λ (x : Actor). x.running) (begins w actor c starts_it)) (tails some.1))
