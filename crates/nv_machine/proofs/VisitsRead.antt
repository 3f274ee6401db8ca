-- What a visit reads is settled.
use Rattle.std.proofs.Common.{Bool, List, None, Some, [], ap, cond, length, nat_lt, refl, subst, sym, take, ℕ, ◌<◌, ◌==◌, ◌∙◌, ◌≡◌}
use Rattle.std.proofs.Math.Seq.{take-length}
use Rattle.std.proofs.lemmas.Bool.{lt-ltb}
use Rattle.std.specs.Prelude.{Err, Ok, Result}
use Rattle.nv_base.specs.declared.fault.Fault.{Fault}
use Rattle.nv_base.specs.declared.numbers.Handle.{Handle}
use Rattle.nv_calls.specs.AllCalls.{answer}
use Rattle.nv_calls.specs.Locked.{SameCall, handles}
use Rattle.nv_calls.specs.declared.answer.Answer.{Answer}
use Rattle.nv_calls.specs.declared.call.Call.{Call}
use Rattle.nv_calls.specs.declared.allocation.Allocation.{Allocation}
use Rattle.nv_calls.proofs.Same.{call_same}
use Rattle.nv_cell.specs.Cell.{log_of}
use Rattle.nv_entry.specs.declared.item.Entry.{Entry}
use Rattle.nv_machine.specs.Grown.{AreGrown}
use Rattle.nv_machine.specs.Reads.{nodes}
use Rattle.nv_machine.specs.Sequence.{Visits, beginning, nothing_looked}
use Rattle.nv_machine.specs.Settled.{node_by, settled, settled_nodes}
use Rattle.nv_machine.specs.Step.{handle_at, kind_turn, step, turn, turned}
use Rattle.nv_machine.specs.World.{Done, Ends, Go, HandState, Moves, Next, Refuses, Running, Shared, Turn, Visit, Waits, World, actor_at, cell_at, owner_at}
use Rattle.nv_machine.proofs.StepWays.{After, EndsBy, Going, Telling, any_ends}
use Rattle.nv_machine.proofs.StepWalk.{walk_of}
use Rattle.nv_machine.proofs.SingleEvents.{go_is_turn}
use Rattle.nv_calls.specs.declared.call.Call.TheVariants as call

-- ---- a slot that nobody holds

module _ (w : World) (logs : AreGrown w) where
  free_log : (ino : ℕ) → owner_at w.shared ino ≡ None → log_of (cell_at w.shared ino) ≡ settled w.shared ino
  free_log ino free =
      let whole = logs.free ino free in
      ap (λ (n : ℕ). take n (cell_at w.shared ino).chain.entries) whole.tail ∙ take-length (cell_at w.shared ino).chain.entries
      ∙ whole.entries

  pub free_node : (handle : Handle) → owner_at w.shared handle.ino ≡ None → nodes w.shared handle ≡ settled_nodes w.shared handle
  free_node handle free = ap (λ (log : List Entry). cond (handle.generation == (cell_at w.shared handle.ino).generation)
      (node_by (cell_at w.shared handle.ino) log) None) (free_log handle.ino free)

  -- a visit reads one node
  pub visit_same : (taken : Allocation) (c : Call) → beginning c ≡ Visits
      → owner_at w.shared (handle_at (handles nothing_looked c) 0).ino ≡ None
      → SameCall w.numbers.block (settled_nodes w.shared) (nodes w.shared) taken c
  visit_same taken (call.Read file offset count) is free =
      call_same w.numbers.block (settled_nodes w.shared) (nodes w.shared) taken (call.Read file offset count) (free_node file free, tt)
  visit_same taken (call.Stat handle) is free =
      call_same w.numbers.block (settled_nodes w.shared) (nodes w.shared) taken (call.Stat handle) (free_node handle free, tt)
  visit_same taken (call.List dir) is free =
      call_same w.numbers.block (settled_nodes w.shared) (nodes w.shared) taken (call.List dir) (free_node dir free, tt)
  visit_same taken (call.Lookup dir name) is free =
      call_same w.numbers.block (settled_nodes w.shared) (nodes w.shared) taken (call.Lookup dir name) (free_node dir free, tt)
  visit_same taken other is free = cc

-- ---- a visit that is answered

-- it is not waited for, and its answer is that of the nodes
abbrev IsOfNodes : Shared → Running → Answer → Type 0
IsOfNodes s r found =
    (owner_at s (handle_at (handles nothing_looked r.call) 0).ino ≡ None) × (found ≡ answer (nodes s) r.made r.call)

abbrev Goes : Going
Goes s h q = Unit {0}

abbrev Tells : Shared → Running → Telling
Tells s r x t h = (found : Answer) → x ≡ Ok found → IsOfNodes s r found

visit_told : (block a : ℕ) (granted : Bool) (s : Shared) (h : HandState) (r : Running)
    → After Goes (Tells s r) (kind_turn Visit block a granted s h r)
visit_told block a granted s h r = walk_of Goes (Tells s r) block a s h r Visit granted (
  λ fault free by. refused,
  λ free passed lacks. refused,
  λ free passed found e. (free, (let same : answer (nodes s) r.made r.call ≡ found = cc in sym same)),
) refl where
  refused : {fault : Fault} → EndsBy Goes (Tells s r) r.slots s h r (Refuses fault)
  refused = any_ends (record { last = λ k is. tt; told = λ found e. cc; again = λ n over some. tt; picks = λ d left drains some. tt })

answered : (s : Shared) (r : Running) (t : Turn) (actor : ℕ) (w : World) (told : Answer) → After Goes (Tells s r) t
    → (turned t actor w).reply ≡ Done told → IsOfNodes s r told
answered s r (Moves t h q) actor w told on e = cc
answered s r Waits actor w told on e = cc
answered s r (Ends (Ok found) t h) actor w told on e =
    let same : found ≡ told = cc in on told (ap (λ (x : Answer). let y : Result Answer Fault = Ok x in y) same)
answered s r (Ends (Err fault) t h) actor w told on e = cc

pub visit_answers : (w : World) (actor : ℕ) (granted : Bool) (r : Running) (told : Answer) → AreGrown w → actor < length w.actors
    → (actor_at w actor).running ≡ Some r → r.next ≡ Visit → beginning r.call ≡ Visits
    → (step w (Go actor granted)).reply ≡ Done told → told ≡ answer (settled_nodes w.shared) r.made r.call
visit_answers w actor granted r told logs there is next begins e =
    let h = (actor_at w actor).hand in
    let same = go_is_turn (nat_lt actor (length w.actors)) (actor_at w actor).running w actor granted r
    (lt-ltb actor (length w.actors) there) is in
    let both = answered w.shared r (turn w.numbers.block actor granted w.shared h r) actor w told
    (subst (λ (k : Next). After Goes (Tells w.shared r) (kind_turn k w.numbers.block actor granted w.shared h r)) (sym next)
    (visit_told w.numbers.block actor granted w.shared h r)) (sym (ap (λ x. x.reply) same) ∙ e) in
    both.1 ∙ (visit_same w logs (record { made = r.made; runs = [] }) r.call begins both.0).answer
