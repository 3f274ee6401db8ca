-- WHAT EACH WORLD HAS over all events, once for all laws. A law says what holds where a call begins and after a turn: of a
-- world (`event_by`), of what is shared (`event_shared`) or of each actor (`Keeps`); `events_by` goes over all events.
use Rattle.std.proofs.Common.{Bool, List, None, Option, Some, [], ap, arith, false, get_or-set_other, get_or-set_same, if◌then◌else◌, inl, inr, length, length-set, nat_lt, refl, set, subst, sym, true, ℕ, ◌<◌, ◌==◌, ◌∙◌, ◌∷◌, ◌≡◌, ◌≢◌}
use Rattle.std.specs.Prelude.{Result, slice_index_or}
use Rattle.std.proofs.lemmas.Bool.{cases_lt, eqb-false, eqb-true, ltb-false, ltb-true, true≢false}
use Rattle.std.proofs.lemmas.List.{get_or_past}
use Rattle.std.proofs.lemmas.Option.{none-some}
use Rattle.nv_base.specs.declared.fault.Fault.{Fault}
use Rattle.nv_calls.specs.declared.answer.Answer.{Answer}
use Rattle.nv_calls.specs.declared.call.Call.{Call}
use Rattle.nv_machine.specs.PlainRun.{Commits, PlainChange, Nothing, actor_of, plain_change_by, plain_change_of, keeps_nodes}
use Rattle.nv_machine.specs.Sequence.{beginning, begun}
use Rattle.nv_machine.specs.Step.{after, changed, go_step, start_step, step, turn, turned}
use Rattle.nv_machine.specs.World.{Actor, Ends, Event, Go, HandState, Moves, Running, Shared, Start, Started, Turn, Waits, World, actor_at, idle}
use Rattle.nv_machine.proofs.StepWays.{After}

abbrev pub with_call : HandState → Option Running → Actor
with_call h running = record { hand = h; running = running }

-- the turn of an actor's call; the actor and the world where its call begins
abbrev pub turn_at : World → ℕ → Bool → Running → Turn
turn_at w a granted r = turn w.numbers.block a granted w.shared (actor_at w a).hand r

abbrev pub begun_at : World → ℕ → Call → Actor
begun_at w a c = with_call (actor_at w a).hand (Some (begun (beginning c) w.shared c))

abbrev pub begun_in : World → ℕ → Call → World
begun_in w a c = changed w.shared (actor_at w a).hand (Some (begun (beginning c) w.shared c)) a w

-- an actor that runs a call is one of all
pub runs_inside : (w : World) (actor : ℕ) (r : Running) → (actor_at w actor).running ≡ Some r → actor < length w.actors
runs_inside w actor r runs = elim (cases_lt actor (length w.actors)) [
  | inl lt ↦ lt
  | inr ge ↦ absurd (none-some r (sym (ap (λ (x : Actor). x.running) (get_or_past w.actors actor idle ge)) ∙ runs))
]

-- ---- one event

-- of what it does, and of the world after it
module _ (P : PlainChange → World → Type 0) (w : World) (same : P Nothing w) where
  pub go_deed : (b : Bool) (running : Option Running) (a : ℕ) (granted : Bool) → nat_lt a (length w.actors) ≡ b
      → (actor_at w a).running ≡ running
      → ((r : Running) → a < length w.actors → (actor_at w a).running ≡ Some r
      → P (plain_change_by (Some r) w a granted) (turned (turn_at w a granted r) a w).world)
      → P (if b then plain_change_by running w a granted else Nothing) (go_step b running a granted w).world
  go_deed false running a granted e is turns = same
  go_deed true None a granted e is turns = same
  go_deed true (Some r) a granted e is turns = turns r (ltb-true a (length w.actors) e) is

  pub start_deed : (b : Bool) (running : Option Running) (a : ℕ) (c : Call) → nat_lt a (length w.actors) ≡ b
      → (actor_at w a).running ≡ running → (a < length w.actors → (actor_at w a).running ≡ None → P Nothing (begun_in w a c))
      → P Nothing (start_step b running a c w).world
  start_deed false running a c e is begins = same
  start_deed true (Some r) a c e is begins = same
  start_deed true None a c e is begins = begins (ltb-true a (length w.actors) e) is

  pub event_deed : (e : Event)
      → ((a : ℕ) (c : Call) → a < length w.actors → (actor_at w a).running ≡ None → P Nothing (begun_in w a c))
      → ((a : ℕ) (granted : Bool) (r : Running) → a < length w.actors → (actor_at w a).running ≡ Some r
      → P (plain_change_by (Some r) w a granted) (turned (turn_at w a granted r) a w).world)
      → P (plain_change_of w e) (step w e).world
  event_deed (Start a c) begins turns = start_deed (nat_lt a (length w.actors)) (actor_at w a).running a c refl refl (begins a c)
  event_deed (Go a granted) begins turns =
      go_deed (nat_lt a (length w.actors)) (actor_at w a).running a granted refl refl (turns a granted)

-- of the world alone
pub event_by : (P : World → Type 0) (w : World) → P w → (e : Event)
    → ((a : ℕ) (c : Call) → a < length w.actors → (actor_at w a).running ≡ None → P (begun_in w a c))
    → ((a : ℕ) (granted : Bool) (r : Running) → a < length w.actors → (actor_at w a).running ≡ Some r
    → P (turned (turn_at w a granted r) a w).world)
    → P (step w e).world
event_by P w same e begins turns = event_deed (λ (d : PlainChange) (v : World). P v) w same e begins turns

pub commits_if : (d : PlainChange) → keeps_nodes d ≡ false → d ≡ Commits
commits_if Commits e = refl
commits_if other e = cc

-- each event keeps what settled logs tell, or is a commit point
module _ (w : World) (P : Event → Type 0)
    (points : (a : ℕ) (granted : Bool) (r : Running) → a < length w.actors → (actor_at w a).running ≡ Some r
    → plain_change_of w (Go a granted) ≡ Commits → P (Go a granted)) where
  point_by : (b : Bool) (running : Option Running) (a : ℕ) (granted : Bool) → nat_lt a (length w.actors) ≡ b
      → (actor_at w a).running ≡ running → keeps_nodes (plain_change_of w (Go a granted)) ≡ false → P (Go a granted)
  point_by true (Some r) a granted there is e =
      points a granted r (ltb-true a (length w.actors) there) is (commits_if (plain_change_of w (Go a granted)) e)
  point_by true None a granted there is e =
      absurd (true≢false (sym (rw there (ap (λ (o : Option Running). keeps_nodes (plain_change_by o w a granted)) is)) ∙ e))
  point_by false running a granted there is e = absurd (true≢false (sym (rw there refl) ∙ e))

  pub by_points : ((e : Event) → keeps_nodes (plain_change_of w e) ≡ true → P e) → (e : Event) → P e
  by_points keeps e = go (keeps_nodes (plain_change_of w e)) e refl where
    go : (b : Bool) (e : Event) → keeps_nodes (plain_change_of w e) ≡ b → P e
    go true e is = keeps e is
    go false (Start a c) is = absurd (true≢false is)
    go false (Go a granted) is = point_by (nat_lt a (length w.actors)) (actor_at w a).running a granted refl refl is

-- ---- one actor

module _ (w : World) (b : ℕ) where
  abbrev AsItWas : World → Type 0
  AsItWas v = actor_at v b ≡ actor_at w b

  turn_leaves : (t : Turn) (a : ℕ) → b ≢ a → AsItWas (turned t a w).world
  turn_leaves (Moves s h q) a ne = get_or-set_other w.actors a b (with_call h (Some q)) idle ne
  turn_leaves Waits a ne = refl
  turn_leaves (Ends x s h) a ne = get_or-set_other w.actors a b (with_call h None) idle ne

  -- another's event leaves it as it was
  pub others_stay : (e : Event) → b ≢ actor_of e → AsItWas (step w e).world
  others_stay (Start a c) ne =
      start_deed (λ (d : PlainChange). AsItWas) w refl (nat_lt a (length w.actors)) (actor_at w a).running a c refl refl
      (λ there none. get_or-set_other w.actors a b (begun_at w a c) idle ne)
  others_stay (Go a granted) ne =
      go_deed (λ (d : PlainChange). AsItWas) w refl (nat_lt a (length w.actors)) (actor_at w a).running a granted refl refl
      (λ r there is. turn_leaves (turn_at w a granted r) a ne)

-- a call that is started has begun
module _ (w : World) (a : ℕ) (c : Call) where
  has_begun : (b : Bool) (running : Option Running) → nat_lt a (length w.actors) ≡ b → (start_step b running a c w).reply ≡ Started
      → actor_at (start_step b running a c w).world a ≡ begun_at w a c
  has_begun false running e is = cc
  has_begun true (Some r) e is = cc
  has_begun true None e is = get_or-set_same w.actors a (begun_at w a c) idle (ltb-true a (length w.actors) e)

  pub started : (step w (Start a c)).reply ≡ Started → actor_at (step w (Start a c)).world a ≡ begun_at w a c
  started = has_begun (nat_lt a (length w.actors)) (actor_at w a).running refl

-- what holds of it after an event of its own, and else of it as it was
module _ (w : World) (actor : ℕ) (P : Event → Actor → Type 0)
    (others : (e : Event) → (actor_of e == actor) ≡ false → P e (actor_at w actor))
    (goes : (granted : Bool) → P (Go actor granted) (actor_at (step w (Go actor granted)).world actor))
    (starts : (c : Call) → P (Start actor c) (actor_at (step w (Start actor c)).world actor)) where
  pub event_of : (e : Event) → P e (actor_at (step w e).world actor)
  event_of e = go (actor_of e == actor) e refl where
    go : (b : Bool) (e : Event) → (actor_of e == actor) ≡ b → P e (actor_at (step w e).world actor)
    go false e apart =
        subst (P e) (sym (others_stay w actor e (λ is. eqb-false (actor_of e) actor apart (sym is)))) (others e apart)
    go true (Go a granted) same =
        subst (λ (n : ℕ). P (Go n granted) (actor_at (step w (Go n granted)).world actor)) (sym (eqb-true a actor same)) (goes granted)
    go true (Start a c) same =
        subst (λ (n : ℕ). P (Start n c) (actor_at (step w (Start n c)).world actor)) (sym (eqb-true a actor same)) (starts c)

-- it holds of an actor after a turn: of the one whose turn it was, and of another
abbrev pub AfterOwn : (Shared → Actor → Type 0) → Turn → Type 0
AfterOwn Q t = After (λ (s : Shared) (h : HandState) (q : Running). Q s (with_call h (Some q)))
    (λ (x : Result Answer Fault) (s : Shared) (h : HandState). Q s (with_call h None)) t

abbrev pub AfterOther : (Shared → Type 0) → Turn → Type 0
AfterOther Q t = After (λ (s : Shared) (h : HandState) (q : Running). Q s) (λ (x : Result Answer Fault) (s : Shared) (h : HandState). Q s) t

-- the same of an actor whose turn it was, also where it waits
abbrev pub OwnAfter : Actor → (Actor → Type 0) → Turn → Type 0
OwnAfter x Q (Moves s h q) = Q (with_call h (Some q))
OwnAfter x Q Waits = Q x
OwnAfter x Q (Ends y s h) = Q (with_call h None)

pub own_after : (Q : Actor → Type 0) (x : Actor) (t : Turn) → Q x → AfterOwn (λ (s : Shared). Q) t → OwnAfter x Q t
own_after Q x (Moves s h q) had on = on
own_after Q x Waits had on = had
own_after Q x (Ends y s h) had on = on

module _ (Q : Actor → Type 0) (w : World) (a : ℕ) where
  pub turned_own : (t : Turn) → a < length w.actors → OwnAfter (actor_at w a) Q t → Q (actor_at (turned t a w).world a)
  turned_own (Moves s h q) there on = subst Q (sym (get_or-set_same w.actors a (with_call h (Some q)) idle there)) on
  turned_own Waits there on = on
  turned_own (Ends x s h) there on = subst Q (sym (get_or-set_same w.actors a (with_call h None) idle there)) on

  -- an event of its own
  pub own_goes : (granted : Bool) → ((actor_at w a).running ≡ None → Q (actor_at w a))
      → ((r : Running) → a < length w.actors → (actor_at w a).running ≡ Some r → OwnAfter (actor_at w a) Q (turn_at w a granted r))
      → Q (actor_at (step w (Go a granted)).world a)
  own_goes granted stays turns = go (nat_lt a (length w.actors)) (actor_at w a).running refl refl where
    go : (b : Bool) (running : Option Running) → nat_lt a (length w.actors) ≡ b → (actor_at w a).running ≡ running
        → Q (actor_at (go_step b running a granted w).world a)
    go false None e is = stays is
    go false (Some r) e is = absurd (omega (arith, runs_inside w a r is, ltb-false a (length w.actors) e))
    go true None e is = stays is
    go true (Some r) e is =
        let there = ltb-true a (length w.actors) e in turned_own (turn_at w a granted r) there (turns r there is)

-- what speaks of no part of what is shared stays
pub steady : (X : Type 0) → X → (t : Turn) → AfterOther (λ (s : Shared). X) t
steady X x (Moves s h q) = x
steady X x Waits = tt
steady X x (Ends y s h) = x

pub turned_shared : (S : Shared → Type 0) (t : Turn) (a : ℕ) (w : World) → S w.shared → AfterOther S t → S (turned t a w).world.shared
turned_shared S (Moves s h q) a w same on = on
turned_shared S Waits a w same on = same
turned_shared S (Ends x s h) a w same on = on

-- what is shared, after one event
pub event_shared : (S : Shared → Type 0) (w : World) → S w.shared → (e : Event)
    → ((a : ℕ) (granted : Bool) (r : Running) → a < length w.actors → (actor_at w a).running ≡ Some r
    → AfterOther S (turn_at w a granted r))
    → S (step w e).world.shared
event_shared S w same e turns = event_by (λ (v : World). S v.shared) w same e (λ a c there none. same)
    (λ a granted r there is. turned_shared S (turn_at w a granted r) a w same (turns a granted r there is))

-- ---- all events

pub events_by : (Known P : World → Type 0) → ((w : World) (e : Event) → Known w → P w → P (step w e).world) → (events : List Event)
    (w : World) → ((before : List Event) → Known (after w before)) → P w → P (after w events)
events_by Known P each [] w known p = p
events_by Known P each (e ∷ events) w known p =
    events_by Known P each events (step w e).world (λ before. known (e ∷ before)) (each w e (known []) p)

-- no event changes a world's numbers
pub event_numbers : (w : World) (e : Event) → (step w e).world.numbers ≡ w.numbers
event_numbers w e = event_by (λ (v : World). v.numbers ≡ w.numbers) w refl e (λ a c there none. refl)
    (λ a granted r there is. go (turn_at w a granted r) a)
  where
    go : (t : Turn) (a : ℕ) → (turned t a w).world.numbers ≡ w.numbers
    go (Moves s h q) a = refl
    go other a = refl

-- no actor comes or goes
pub event_actors : (w : World) (e : Event) → length (step w e).world.actors ≡ length w.actors
event_actors w e = event_by (λ (v : World). length v.actors ≡ length w.actors) w refl e
    (λ a c there none. length-set w.actors a (begun_at w a c)) (λ a granted r there is. go (turn_at w a granted r) a)
  where
    go : (t : Turn) (a : ℕ) → length (turned t a w).world.actors ≡ length w.actors
    go (Moves s h q) a = length-set w.actors a (with_call h (Some q))
    go Waits a = refl
    go (Ends x s h) a = length-set w.actors a (with_call h None)

-- ---- all actors

module _ (Q : ℕ → Shared → Actor → Type 0) where
  abbrev pub AllHave : World → Type 0
  AllHave w = (b : ℕ) → Q b w.shared (actor_at w b)

  -- where one is another
  pub set_one : (w : World) (a : ℕ) (x : Actor) (t : Shared) → a < length w.actors → Q a t x
      → ((b : ℕ) → b ≢ a → Q b t (actor_at w b)) → (b : ℕ) → Q b t (slice_index_or (set w.actors a x) b idle)
  set_one w a x t there own rest b = go (a == b) refl where
    go : (c : Bool) → (a == b) ≡ c → Q b t (slice_index_or (set w.actors a x) b idle)
    go true e = subst (λ (n : ℕ). Q n t (slice_index_or (set w.actors a x) n idle)) (eqb-true a b e)
        (subst (Q a t) (sym (get_or-set_same w.actors a x idle there)) own)
    go false e = subst (Q b t) (sym (get_or-set_other w.actors a b x idle (λ is. eqb-false a b e (sym is))))
        (rest b (λ is. eqb-false a b e (sym is)))

  -- where its call has begun
  pub set_begun : (w : World) (a : ℕ) (c : Call) → a < length w.actors → Q a w.shared (begun_at w a c) → AllHave w
      → (b : ℕ) → Q b w.shared (slice_index_or (set w.actors a (begun_at w a c)) b idle)
  set_begun w a c there own all = set_one w a (begun_at w a c) w.shared there own (λ b ne. all b)

-- WHAT A LAW HAS TO SHOW of each actor, of worlds of which this is known
pub record Keeps (Known : World → Type 0) (Q : ℕ → Shared → Actor → Type 0) : Type 0 where
  pub begins : (w : World) (a : ℕ) (c : Call) → Known w → (actor_at w a).running ≡ None → Q a w.shared (actor_at w a)
      → Q a w.shared (begun_at w a c)
  pub own : (w : World) (a : ℕ) (granted : Bool) (r : Running) → Known w → (actor_at w a).running ≡ Some r
      → Q a w.shared (with_call (actor_at w a).hand (Some r)) → AfterOwn (Q a) (turn_at w a granted r)
  pub others : (w : World) (a b : ℕ) (granted : Bool) (r : Running) → Known w → (actor_at w a).running ≡ Some r → b ≢ a
      → Q b w.shared (actor_at w b) → AfterOther (λ (t : Shared). Q b t (actor_at w b)) (turn_at w a granted r)

module _ (Known : World → Type 0) (Q : ℕ → Shared → Actor → Type 0) (keeps : Keeps Known Q) where
  turned_all : (t : Turn) (a : ℕ) (w : World) → a < length w.actors → AllHave Q w → AfterOwn (Q a) t
      → ((b : ℕ) → b ≢ a → AfterOther (λ (u : Shared). Q b u (actor_at w b)) t) → AllHave Q (turned t a w).world
  turned_all (Moves s h q) a w there all own rest = set_one Q w a (with_call h (Some q)) s there own rest
  turned_all Waits a w there all own rest = all
  turned_all (Ends x s h) a w there all own rest = set_one Q w a (with_call h None) s there own rest

  event_all : (w : World) (e : Event) → Known w → AllHave Q w → AllHave Q (step w e).world
  event_all w e known all = event_by (AllHave Q) w all e
      (λ a c there none. set_begun Q w a c there (keeps.begins w a c known none (all a)) all)
      (λ a granted r there is. turned_all (turn_at w a granted r) a w there all
      (keeps.own w a granted r known is
      (subst (λ (running : Option Running). Q a w.shared (with_call (actor_at w a).hand running)) is (all a)))
      (λ b ne. keeps.others w a b granted r known is ne (all b)))

  -- EVERY WORLD that events lead to
  pub each : (events : List Event) (w : World) → ((before : List Event) → Known (after w before)) → AllHave Q w
      → AllHave Q (after w events)
  each = events_by Known (AllHave Q) event_all
