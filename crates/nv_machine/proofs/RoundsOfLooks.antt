-- A call is contended after eight checks that found a name bound anew.
use Rattle.std.proofs.Common.{Bool, List, None, Option, Some, [], ap, arith, false, refl, subst, sym, ℕ, ◌+◌, ◌==◌, ◌∙◌, ◌∷◌, ◌≡◌, ◌≤◌}
use Rattle.std.specs.List.{AllByRecursion}
use Rattle.std.specs.Prelude.{Result}
use Rattle.nv_base.specs.declared.fault.Fault.{Fault}
use Rattle.nv_calls.specs.declared.answer.Answer.{Answer}
use Rattle.nv_calls.specs.declared.call.Call.{Call}
use Rattle.nv_machine.specs.Bound.{IsNoStart}
use Rattle.nv_machine.specs.PlainRun.{actor_of}
use Rattle.nv_machine.specs.Rounds.{HasRounds, checks_left, failed_checks, fails_by, fails_in, fails_of}
use Rattle.nv_machine.specs.Sequence.{Beginning, Numbers, beginning, begun}
use Rattle.nv_machine.specs.SnapshotOrCleaner.{snapshot_or_cleaner_turn}
use Rattle.nv_machine.specs.Step.{after, ending_at, kind_turn, step, turn}
use Rattle.nv_machine.specs.World.{Actor, Check, Ending, Ends, Event, Go, HandState, Moves, Next, Number, BoundAnew, Refuses, Running, Shared, SnapshotOrCleanerStep, SnapshotOrCleaner, Start, Started, Turn, Waits, World, actor_at}
use Rattle.nv_machine.proofs.OverEvents.{OwnAfter, event_of, own_goes, started, turn_at}
use Rattle.nv_machine.proofs.Lists.{self}
use Rattle.nv_machine.proofs.StepWays.{After, Closes, StopsBy, any_ends, noted, stopped, is_overtaken}
use Rattle.nv_machine.proofs.StepWalk.{walk}
use Rattle.nv_machine.proofs.SnapshotOrCleanerWalk.{snapshot_or_cleaner_walk, ends_fair}
use Rattle.std.proofs.lemmas.Bool.{true≢false}

-- what is moved on to has at least so many left, with these failed
abbrev HasLeft : ℕ → ℕ → Shared → HandState → Running → Type 0
HasLeft least failed s h r = least ≤ failed + checks_left r.ending r.rounds

abbrev IsEnd : Result Answer Fault → Shared → HandState → Type 0
IsEnd result s h = Unit {0}

abbrev KeepsLeft : ℕ → ℕ → Turn → Type 0
KeepsLeft least failed turn = After (HasLeft least failed) IsEnd turn

one_more : (e : Ending) (rounds : ℕ) → checks_left e rounds ≤ rounds + 1
one_more BoundAnew rounds = omega arith
one_more other rounds = omega arith

left_if : (least : ℕ) (e : Ending) (rounds : ℕ) → least ≤ rounds + 1 → is_overtaken e ≡ false → least ≤ 0 + checks_left e rounds
left_if least BoundAnew rounds few is = absurd (true≢false is)
left_if least other rounds few is = omega (arith, few)

-- ---- every kind

closes : (least failed : ℕ) (s : Shared) (h : HandState) (r : Running) (e : Ending) → least ≤ failed + checks_left e r.rounds
    → Closes (HasLeft least failed) IsEnd s h r e
closes least failed s h r e k = record {
  last = λ k2 is. k;
  told = tt;
  again = λ n over some. let left = ap (λ (x : Ending). checks_left x r.rounds) over in omega (arith, k, left, some);
  picks = λ d left drains some. let same = ap (λ (x : Ending). checks_left x r.rounds) drains in omega (arith, k, same);
}

noted_left : (k : Next) (block : ℕ) (s : Shared) (h : HandState) (r : Running)
    → checks_left (noted k block s h r).ending (noted k block s h r).rounds ≡ checks_left r.ending r.rounds
noted_left Number block s h r = refl
noted_left other block s h r = refl

-- what stops before its work has failed where a name was bound anew
stops_left : (k : Next) (block : ℕ) (s : Shared) (h : HandState) (r : Running) (e : Ending) → StopsBy k block s h r e
    → Closes (HasLeft (checks_left r.ending r.rounds) (fails_by k (ending_at block s h r))) IsEnd s h (stopped k s h r) e
stops_left Check block s h r (Refuses fault) by = closes _ _ s h _ _ (let more = one_more r.ending r.rounds in omega (arith, more))
stops_left Check block s h r BoundAnew by =
    subst (λ (o : Option Ending). Closes (HasLeft (checks_left r.ending r.rounds) (fails_by Check o)) IsEnd s h (stopped Check s h r) BoundAnew)
    (sym by) (closes _ 1 s h _ BoundAnew (let more = one_more r.ending r.rounds in omega (arith, more)))
stops_left Check block s h r e by = closes _ _ s h _ _ (let more = one_more r.ending r.rounds in omega (arith, more))
stops_left other block s h r (Refuses fault) by = closes _ _ s h _ _ (let more = one_more r.ending r.rounds in omega (arith, more))
stops_left other block s h r e by = absurd by

snapshot_left : (step : SnapshotOrCleanerStep) (actor : ℕ) (granted : Bool) (s : Shared) (h : HandState) (r : Running)
    → KeepsLeft (checks_left r.ending r.rounds) 0 (snapshot_or_cleaner_turn step actor granted s h r)
snapshot_left step actor granted s h r =
    let more = one_more r.ending r.rounds in
    snapshot_or_cleaner_walk (HasLeft (checks_left r.ending r.rounds) 0) IsEnd actor s h r step granted (record {
      stops = λ fault cause. any_ends (closes _ 0 s h r _ (omega (arith, more)));
      goes = λ on clear. omega arith;
      told = λ on clear. tt;
      denied = λ snapshot showing on. omega (arith, more);
      leads_on = λ next leads. omega arith;
      over = λ e ends. any_ends (closes _ 0 _ _ r _ (left_if _ e r.rounds more (ends_fair step actor s h e ends)));
      none = λ draining on empty. tt;
    })

kind_left : (k : Next) (block actor : ℕ) (granted : Bool) (s : Shared) (h : HandState) (r : Running)
    → KeepsLeft (checks_left r.ending r.rounds) (fails_by k (ending_at block s h r)) (kind_turn k block actor granted s h r)
kind_left (SnapshotOrCleaner step) block actor granted s h r = snapshot_left step actor granted s h r
kind_left other block actor granted s h r =
    let more = one_more r.ending r.rounds in
    let same = noted_left other block s h r in
    walk (HasLeft (checks_left r.ending r.rounds) (fails_by other (ending_at block s h r))) IsEnd block actor s h r other granted (record {
      stops = λ e by. stops_left other block s h r e by;
      goes = λ on clear. omega (arith, same);
      takes = λ on n next taking. omega (arith, same);
      over = λ on. closes _ _ _ _ r _ (omega arith);
      short = λ on. closes _ _ _ _ r _ (omega (arith, more));
      told = λ on clear. tt;
    }) refl

-- ---- over events

more_failed : (all failed more : ℕ) (running : Option Running) → HasRounds all failed running → HasRounds all (failed + more) running
more_failed all failed more None k = tt
more_failed all failed more (Some r) k = omega (arith, k)

after_rounds : (w : World) (actor all failed more : ℕ) (r : Running) → HasRounds all failed (actor_at w actor).running
    → HasRounds all failed (Some r) → (t : Turn) → KeepsLeft (checks_left r.ending r.rounds) more t
    → OwnAfter (actor_at w actor) (λ (x : Actor). HasRounds all (failed + more) x.running) t
after_rounds w actor all failed more r had k (Moves s h q) kept = omega (arith, k, kept)
after_rounds w actor all failed more r had k Waits kept = more_failed all failed more (actor_at w actor).running had
after_rounds w actor all failed more r had k (Ends result s h) kept = tt

own_rounds : (w : World) (actor : ℕ) (granted : Bool) (all failed : ℕ) → HasRounds all failed (actor_at w actor).running
    → HasRounds all (failed + fails_of (actor_at w actor).running w.numbers.block w.shared (actor_at w actor).hand)
    (actor_at (step w (Go actor granted)).world actor).running
own_rounds w actor granted all failed k =
    own_goes (λ (x : Actor). HasRounds all (failed + fails_of (actor_at w actor).running w.numbers.block w.shared (actor_at w actor).hand)
    x.running) w actor granted (λ none. rw none tt)
    (λ r there is. subst (λ (o : Option Running). OwnAfter (actor_at w actor)
    (λ (x : Actor). HasRounds all (failed + fails_of o w.numbers.block w.shared (actor_at w actor).hand) x.running)
    (turn_at w actor granted r)) (sym is)
    (after_rounds w actor all failed _ r k (subst (HasRounds all failed) is k) (turn_at w actor granted r)
    (kind_left r.next w.numbers.block actor granted w.shared (actor_at w actor).hand r)))

apart_rounds : (w : World) (actor all failed : ℕ) → HasRounds all failed (actor_at w actor).running → (e : Event)
    → (actor_of e == actor) ≡ false → HasRounds all (failed + fails_in actor w e) (actor_at w actor).running
apart_rounds w actor all failed k (Start other c) apart = more_failed all failed 0 (actor_at w actor).running k
apart_rounds w actor all failed k (Go other granted) apart = rw apart (more_failed all failed 0 (actor_at w actor).running k)

event_rounds : (w : World) (actor : ℕ) (e : Event) (all failed : ℕ) → IsNoStart actor e
    → HasRounds all failed (actor_at w actor).running
    → HasRounds all (failed + fails_in actor w e) (actor_at (step w e).world actor).running
event_rounds w actor e all failed apart k =
    event_of w actor (λ (e : Event) (x : Actor). IsNoStart actor e → HasRounds all (failed + fails_in actor w e) x.running)
    (λ e other no. apart_rounds w actor all failed k e other)
    (λ granted no. rw (self actor) (own_rounds w actor granted all failed k))
    (λ c no. absurd (no refl)) e apart

pub events_rounds : (events : List Event) (w : World) (actor all failed : ℕ) → AllByRecursion (IsNoStart actor) events
    → HasRounds all failed (actor_at w actor).running
    → HasRounds all (failed + failed_checks actor w events) (actor_at (after w events) actor).running
events_rounds [] w actor all failed none k = more_failed all failed 0 (actor_at w actor).running k
events_rounds (e ∷ events) w actor all failed none k =
    subst (λ (n : ℕ). HasRounds all n (actor_at (after (step w e).world events) actor).running) (omega arith)
    (events_rounds events (step w e).world actor all (failed + fails_in actor w e) none.1 (event_rounds w actor e all failed none.0 k))

-- ---- a call that starts

begun_rounds : (b : Beginning) (s : Shared) (c : Call) → HasRounds 8 0 (Some (begun b s c))
begun_rounds Numbers s c = omega arith
begun_rounds other s c = omega arith

pub start_rounds : (w : World) (actor : ℕ) (c : Call) → (step w (Start actor c)).reply ≡ Started
    → HasRounds 8 0 (actor_at (step w (Start actor c)).world actor).running
start_rounds w actor c e =
    subst (λ (x : Actor). HasRounds 8 0 x.running) (sym (started w actor c e)) (begun_rounds (beginning c) w.shared c)

none_left : (failed : ℕ) (r : Running) → HasRounds 8 failed (Some r) → r.ending ≡ BoundAnew → r.rounds ≡ 0 → 8 ≤ failed
none_left failed r k over none =
    let left : checks_left r.ending r.rounds ≡ 0 = ap (λ e. checks_left e r.rounds) over ∙ none in omega (arith, k, left)

pub eight_failed : (w : World) (actor : ℕ) (c : Call) (events : List Event) (r : Running) → (step w (Start actor c)).reply ≡ Started
    → AllByRecursion (IsNoStart actor) events → (actor_at (after (step w (Start actor c)).world events) actor).running ≡ Some r
    → r.ending ≡ BoundAnew → r.rounds ≡ 0 → 8 ≤ failed_checks actor (step w (Start actor c)).world events
eight_failed w actor c events r e none is over last =
    let v : World = (step w (Start actor c)).world in
    let eight = none_left (0 + failed_checks actor v events) r
    (subst (λ (running : Option Running). HasRounds 8 (0 + failed_checks actor v events) running) is
    (events_rounds events v actor 8 0 none (start_rounds w actor c e))) over last in
    omega (arith, eight)
