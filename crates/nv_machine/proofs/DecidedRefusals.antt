-- What a step refuses its call for, the plain world says too, on the settled nodes.
use Rattle.nv_book.specs.declared.record.Record.{Record}
use Rattle.std.proofs.Common.{Bool, List, None, Option, Some, [], refl, subst, suc, sym, zero, ℕ, ◌∙◌, ◌≡◌}
use Rattle.std.specs.Prelude.{Err}
use Rattle.nv_base.specs.declared.fault.Fault.{Fault}
use Rattle.nv_base.specs.declared.geometry.GeometryNumbers.{GeometryNumbers}
use Rattle.nv_base.specs.declared.numbers.Handle.{Handle}
use Rattle.nv_entry.specs.declared.node.NodeCopy.{NodeCopy}
use Rattle.nv_calls.specs.AllCalls.{early, effect, look_refusal, looked, refusal}
use Rattle.nv_calls.specs.Plain.{node_in}
use Rattle.nv_machine.specs.Causes.{IsCause, MayBeOvertaken, RefusesFor}
use Rattle.nv_machine.specs.Kinds.{look_tests}
use Rattle.nv_machine.specs.Reads.{copies, nodes}
use Rattle.nv_machine.specs.Sequence.{Visits, beginning, directories}
use Rattle.nv_machine.specs.Settled.{settled_nodes}
use Rattle.nv_machine.specs.Starts.{IsStart}
use Rattle.nv_machine.specs.Step.{after, handle_at, is_numbered, kind_turn, made_in, same_looked, turn}
use Rattle.nv_machine.specs.World.{Answers, Check, Event, HandState, Look, Next, Running, Shared, Visit, World, actor_at, owner_at}
use Rattle.nv_machine.proofs.EveryWorld.{all_known}
use Rattle.nv_machine.proofs.RefusalCauses.{CheckCause, ReadsAs, caused_by, check_told}
use Rattle.nv_machine.proofs.DecidedReads.{ending_settled, first_look}
use Rattle.nv_machine.proofs.DecidedRuns.{relied, visits_of}
use Rattle.nv_machine.proofs.DecidedTurns.{Relied}
use Rattle.nv_machine.proofs.VisitsRead.{free_node}

module _ (block a cpu : ℕ) (s : Shared) (h : HandState) (r : Running) (going : r.ending ≡ Answers)
    (free : (handle : Handle) → owner_at s handle.ino ≡ None → nodes s handle ≡ settled_nodes s handle) where
  abbrev plain : Handle → Option NodeCopy
  plain = node_in (settled_nodes s)

  first_told : (place : ℕ) (fault : Fault) → owner_at s (handle_at (directories r.call) place).ino ≡ None
      → look_tests place (look_refusal (copies s) r.call) ≡ Err fault → look_refusal plain r.call ≡ Err fault
  first_told zero fault none e = sym (first_look (settled_nodes s) (nodes s) r.call (free (handle_at (directories r.call) 0) none)) ∙ e
  first_told (suc place) fault none e = cc

  reads : (k : Next) → Relied k block a cpu s h r → (k ≡ Visit → beginning r.call ≡ Visits) → ReadsAs k block plain s h r
  reads (Look place) st stage = λ fault none told. first_told place fault none told
  reads Check st stage =
      subst (CheckCause (early plain r.call) (same_looked (looked plain r.call) r.looked) (refusal block plain r.call)
      (is_numbered (beginning r.call) h.ino)) (sym (ending_settled block s h r (st.logs refl) st.fits))
      (check_told (early plain r.call) (same_looked (looked plain r.call) r.looked) (refusal block plain r.call)
      (is_numbered (beginning r.call) h.ino) (effect plain (made_in s h.ino r.made) r.call))
  reads Visit st stage = λ none. sym (st.visit (stage refl) none (record { made = r.made; runs = [] })).refusal
  reads other st stage = tt

  pub settled_caused : (k : Next) (granted : Bool) → Relied k block a cpu s h r
      → (k ≡ Visit → beginning r.call ≡ Visits)
      → RefusesFor (IsCause k block a granted plain s h r) (MayBeOvertaken k plain r) (kind_turn k block a granted s h r)
  settled_caused k granted st stage = caused_by plain block a granted s h r going k (reads k st stage)

pub plainly_caused : (g : GeometryNumbers) (start : World) (records : List Record) (events : List Event) (actor : ℕ)
    (granted : Bool) (r : Running) → IsStart g start records
    → (actor_at (after start events) actor).running ≡ Some r → r.ending ≡ Answers
    → RefusesFor
    (IsCause r.next (after start events).numbers.block actor granted (node_in (settled_nodes (after start events).shared))
    (after start events).shared (actor_at (after start events) actor).hand r)
    (MayBeOvertaken r.next (node_in (settled_nodes (after start events).shared)) r)
    (turn (after start events).numbers.block actor granted (after start events).shared
    (actor_at (after start events) actor).hand r)
plainly_caused g start records events actor granted r is_start is going =
    let w : World = after start events in
    let known = all_known g start records is_start events in
    settled_caused w.numbers.block actor _ w.shared (actor_at w actor).hand r going (free_node w known.reached.grown) r.next granted
    (relied g w known actor r is) (visits_of g start records events actor is_start r is)
