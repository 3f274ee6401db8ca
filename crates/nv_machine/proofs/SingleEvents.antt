-- What single events leave, and how lists of them go.
use Rattle.std.proofs.Common.{Bool, List, None, Option, Some, [], ap, arith, false, get_or-set_other, get_or-set_same, length, length-set, nat_lt, refl, set, subst, sym, true, ℕ, ◌+◌, ◌<◌, ◌==◌, ◌∙◌, ◌∷◌, ◌≡◌, ◌≤◌}
use Rattle.std.proofs.lemmas.Bool.{false_from_ne_true, false≢true, lt-ltb, ltb-true}
use Rattle.std.proofs.lemmas.Option.{none-some}
use Rattle.std.specs.List.{AllByRecursion}
use Rattle.std.specs.Prelude.{Err, Ok, Result}
use Rattle.nv_base.specs.declared.fault.Fault.{Fault}
use Rattle.nv_base.specs.declared.fault.Fault.TheVariants.{ActorBusy, ActorIdle, NoActor}
use Rattle.nv_calls.specs.declared.answer.Answer.{Answer}
use Rattle.nv_calls.specs.declared.call.Call.{Call}
use Rattle.nv_machine.specs.Bound.{Falls, IsNoStart, bound, bound_at, bound_of, most_steps_of, moves, moves_by, moves_in}
use Rattle.nv_machine.specs.Frame.{Frame, IsCallStart, IsFramed, IsOneStep, LeavesOthers, Lent, lent}
use Rattle.nv_machine.specs.PlainRun.{actor_of}
use Rattle.nv_machine.specs.Sequence.{beginning, begun}
use Rattle.nv_machine.specs.Step.{Step, after, go_step, reply_of, start_step, stays, step, turn, turned}
use Rattle.nv_machine.specs.World.{Actor, Ends, Event, Go, Moves, Refused, Running, Shared, Start, Started, Turn, Waits, World, actor_at, idle}
use Rattle.nv_machine.proofs.StepBounds.{begun_bound, falls, some_left}
use Rattle.nv_machine.proofs.OverEvents.{event_by, event_of, started, turn_at}
use Rattle.nv_machine.proofs.StepFrames.{framed, same_frame}
use Rattle.nv_machine.proofs.Lists.{self}

-- ---- other actors

set_others : (actor : ℕ) (x : Actor) (w : World) (s : Shared)
    → LeavesOthers actor w (record w { shared = s; actors = set w.actors actor x })
set_others actor x w s = record {
  others = λ b h. get_or-set_other w.actors actor b x idle h;
  count = length-set w.actors actor x;
  numbers = refl;
}

same_others : (actor : ℕ) (w : World) → LeavesOthers actor w w
same_others actor w = record { others = λ b h. refl; count = refl; numbers = refl }

pub turned_others : (t : Turn) (actor : ℕ) (w : World) → LeavesOthers actor w (turned t actor w).world
turned_others (Moves s h r) actor w = set_others actor _ w s
turned_others Waits actor w = same_others actor w
turned_others (Ends result s h) actor w = set_others actor _ w s

pub turned_frame : (l : Lent) (t : Turn) (actor : ℕ) (w : World) → IsFramed l w.shared t
    → Frame l w.shared (turned t actor w).world.shared
turned_frame l (Moves s h r) actor w f = f
turned_frame l Waits actor w f = same_frame l w.shared
turned_frame l (Ends result s h) actor w f = f

-- ---- one event

pub go_is_turn : (b : Bool) (running : Option Running) (w : World) (actor : ℕ) (granted : Bool) (r : Running) → b ≡ true
    → running ≡ Some r
    → go_step b running actor granted w ≡ turned (turn w.numbers.block actor granted w.shared (actor_at w actor).hand r) actor w
go_is_turn b running w actor granted r there is = rw there (rw is refl)

pub goes : (w : World) (actor : ℕ) (granted : Bool) (r : Running) → actor < length w.actors → (actor_at w actor).running ≡ Some r
    → IsOneStep w actor granted r (step w (Go actor granted))
goes w actor granted r there is =
    let t = turn w.numbers.block actor granted w.shared (actor_at w actor).hand r in
    let same = go_is_turn (nat_lt actor (length w.actors)) (actor_at w actor).running w actor granted r
    (lt-ltb actor (length w.actors) there) is in
    record {
      is_turn = same;
      frame = subst (λ (made : Step). Frame (lent r.next (length w.shared.lists) actor r) w.shared made.world.shared) (sym same)
          (turned_frame _ t actor w (framed r.next w.numbers.block actor granted w.shared (actor_at w actor).hand r));
      others = subst (λ (made : Step). LeavesOthers actor w made.world) (sym same) (turned_others t actor w);
    }

start_at : (b : Bool) (running : Option Running) (w : World) (actor : ℕ) (c : Call) → nat_lt actor (length w.actors) ≡ b
    → (actor_at w actor).running ≡ running → IsCallStart w actor c (start_step b running actor c w)
start_at false running w actor c e is = record {
  shared = refl;
  others = same_others actor w;
  own = λ there none. absurd (false≢true (sym e ∙ lt-ltb actor (length w.actors) there));
}
start_at true (Some r) w actor c e is = record {
  shared = refl;
  others = same_others actor w;
  own = λ there none. absurd (none-some r (sym none ∙ is));
}
start_at true None w actor c e is =
    let x : Actor = record { hand = (actor_at w actor).hand; running = Some (begun (beginning c) w.shared c) } in
    record {
      shared = refl;
      others = set_others actor x w w.shared;
      own = λ there none. (refl, get_or-set_same w.actors actor x idle there);
    }

pub starts : (w : World) (actor : ℕ) (c : Call) → IsCallStart w actor c (step w (Start actor c))
starts w actor c = start_at (nat_lt actor (length w.actors)) (actor_at w actor).running w actor c refl refl

-- ---- who is refused an event

no_actor : (w : World) (actor : ℕ) → length w.actors ≤ actor → nat_lt actor (length w.actors) ≡ false
no_actor w actor past = false_from_ne_true (nat_lt actor (length w.actors)) (λ e. omega (arith, past, ltb-true actor (length w.actors) e))

start_nobody : (b : Bool) (running : Option Running) (w : World) (actor : ℕ) (c : Call) → b ≡ false
    → start_step b running actor c w ≡ stays (Refused NoActor) w
start_nobody b running w actor c e = rw e refl

go_nobody : (b : Bool) (running : Option Running) (w : World) (actor : ℕ) (granted : Bool) → b ≡ false
    → go_step b running actor granted w ≡ stays (Refused NoActor) w
go_nobody b running w actor granted e = rw e refl

start_busy : (b : Bool) (running : Option Running) (w : World) (actor : ℕ) (c : Call) (r : Running) → b ≡ true
    → running ≡ Some r → start_step b running actor c w ≡ stays (Refused ActorBusy) w
start_busy b running w actor c r e f = rw e (rw f refl)

go_idle : (b : Bool) (running : Option Running) (w : World) (actor : ℕ) (granted : Bool) → b ≡ true → running ≡ None
    → go_step b running actor granted w ≡ stays (Refused ActorIdle) w
go_idle b running w actor granted e f = rw e (rw f refl)

pub nobody : (w : World) (actor : ℕ) (c : Call) (granted : Bool) → length w.actors ≤ actor
    → (step w (Start actor c) ≡ stays (Refused NoActor) w) × (step w (Go actor granted) ≡ stays (Refused NoActor) w)
nobody w actor c granted past = (
  start_nobody _ _ w actor c (no_actor w actor past),
  go_nobody _ _ w actor granted (no_actor w actor past),
)

pub busy : (w : World) (actor : ℕ) (c : Call) (r : Running) → actor < length w.actors → (actor_at w actor).running ≡ Some r
    → step w (Start actor c) ≡ stays (Refused ActorBusy) w
busy w actor c r there is = start_busy _ _ w actor c r (lt-ltb actor (length w.actors) there) is

pub idles : (w : World) (actor : ℕ) (granted : Bool) → actor < length w.actors → (actor_at w actor).running ≡ None
    → step w (Go actor granted) ≡ stays (Refused ActorIdle) w
idles w actor granted there is = go_idle _ _ w actor granted (lt-ltb actor (length w.actors) there) is

-- ---- the bound

-- an actor that is set is there
pub set_is : (actor : ℕ) (x : Actor) (w : World) (s : Shared) → actor < length w.actors
    → actor_at (record w { shared = s; actors = set w.actors actor x }) actor ≡ x
set_is actor x w s there = get_or-set_same w.actors actor x idle there

last_moves : (result : Result Answer Fault) → moves_by (reply_of result) ≡ 0
last_moves (Ok found) = refl
last_moves (Err fault) = refl

turned_bound : (t : Turn) (actor : ℕ) (w : World) (l : Lent) (n : ℕ) → actor < length w.actors → 0 < n → bound_at w actor ≡ n
    → Falls (length w.shared.lists) n t → IsFramed l w.shared t
    → moves_by (turned t actor w).reply + bound_at (turned t actor w).world actor ≤ n
turned_bound (Moves s h r) actor w l n there some is falls f =
    let set = set_is actor (record { hand = h; running = Some r }) w s there in
    rw set (rw f.cpus (omega (arith, falls)))
turned_bound Waits actor w l n there some is falls f = omega (arith, is)
turned_bound (Ends result s h) actor w l n there some is falls f =
    let set = set_is actor (record { hand = h; running = None }) w s there in
    rw set (omega (arith, some, last_moves result))

own_go : (b : Bool) (running : Option Running) (w : World) (actor : ℕ) (granted : Bool) → nat_lt actor (length w.actors) ≡ b
    → (actor_at w actor).running ≡ running
    → moves_by (go_step b running actor granted w).reply + bound_at (go_step b running actor granted w).world actor ≤ bound_at w actor
own_go false running w actor granted there is = omega arith
own_go true None w actor granted there is = omega arith
own_go true (Some r) w actor granted there is =
    let same : bound_at w actor ≡ bound (length w.shared.lists) r = ap (bound_of (length w.shared.lists)) is in
    let left = some_left (length w.shared.lists) (length r.slots) r.next in
    rw same (turned_bound (turn w.numbers.block actor granted w.shared (actor_at w actor).hand r) actor w
    (lent r.next (length w.shared.lists) actor r)
    (bound (length w.shared.lists) r) (ltb-true actor (length w.actors) there) (omega (arith, left)) same
    (falls r.next w.numbers.block actor granted w.shared (actor_at w actor).hand r)
    (framed r.next w.numbers.block actor granted w.shared (actor_at w actor).hand r))

-- no free list comes or goes
pub event_cpus : (w : World) (e : Event) → length (step w e).world.shared.lists ≡ length w.shared.lists
event_cpus w e = event_by (λ (v : World). length v.shared.lists ≡ length w.shared.lists) w refl e (λ a c there none. refl)
    (λ a granted r there is. (turned_frame (lent r.next (length w.shared.lists) a r) (turn_at w a granted r) a w
    (framed r.next w.numbers.block a granted w.shared (actor_at w a).hand r)).cpus)

-- another actor's event leaves the bound as it is
apart_bound : (w : World) (actor : ℕ) (e : Event) → (actor_of e == actor) ≡ false
    → moves_in actor e (step w e).reply + bound_of (length (step w e).world.shared.lists) (actor_at w actor).running ≤ bound_at w actor
apart_bound w actor (Start other c) apart =
    let same = ap (λ (n : ℕ). bound_of n (actor_at w actor).running) (event_cpus w (Start other c)) in omega (arith, same)
apart_bound w actor (Go other granted) apart =
    let same = ap (λ (n : ℕ). bound_of n (actor_at w actor).running) (event_cpus w (Go other granted)) in
    rw apart (omega (arith, same))

pub event_bound : (w : World) (actor : ℕ) (e : Event) → IsNoStart actor e
    → moves_in actor e (step w e).reply + bound_at (step w e).world actor ≤ bound_at w actor
event_bound w actor e apart =
    event_of w actor (λ (e : Event) (x : Actor). IsNoStart actor e
    → moves_in actor e (step w e).reply + bound_of (length (step w e).world.shared.lists) x.running ≤ bound_at w actor)
    (λ e other no. apart_bound w actor e other)
    (λ granted no. rw (self actor) (own_go (nat_lt actor (length w.actors)) (actor_at w actor).running w actor granted refl refl))
    (λ c no. absurd (no refl)) e apart

pub events_bound : (events : List Event) (w : World) (actor : ℕ) → AllByRecursion (IsNoStart actor) events
    → moves actor w events + bound_at (after w events) actor ≤ bound_at w actor
events_bound [] w actor none = omega arith
events_bound (e ∷ events) w actor none = omega (arith, event_bound w actor e none.0, events_bound events (step w e).world actor none.1)

-- a started call has at most so many steps
pub start_bound : (w : World) (actor : ℕ) (c : Call) → (step w (Start actor c)).reply ≡ Started
    → bound_at (step w (Start actor c)).world actor ≤ most_steps_of c (length w.shared.lists)
start_bound w actor c e =
    rw (started w actor c e, event_cpus w (Start actor c)) (begun_bound w.shared c)
