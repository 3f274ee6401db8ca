-- A drain is answered how many records its steps have released: its number, unless a pick of it finds nothing.
use Rattle.std.proofs.Common.{Bool, IsSome, List, None, Option, Some, [], ap, arith, false, if◌then◌else◌, inl, inr, length, nat_lt, refl, subst, sym, true, ℕ, ◌++◌, ◌+◌, ◌-◌, ◌==◌, ◌∙◌, ◌∷◌, ◌≡◌, ◌≤◌, ◌⊎◌}
use Rattle.std.proofs.lemmas.Bool.{eqb-true, ltb-false, ltb-true}
use Rattle.std.proofs.lemmas.List.{get_or_past}
use Rattle.std.proofs.lemmas.Option.{none-some}
use Rattle.std.specs.Prelude.{Err, Ok, Result, max, min}
use Rattle.nv_base.specs.declared.fault.Fault.{Fault}
use Rattle.nv_base.specs.declared.limits.TheConstants.{DRAIN}
use Rattle.nv_base.specs.Memory.{out_of_memory}
use Rattle.nv_calls.specs.declared.answer.Answer.{Answer}
use Rattle.nv_machine.specs.Bound.{AreNoStarts, IsNoStart}
use Rattle.nv_machine.specs.DrainNumbers.{FindsNothing, drain_number}
use Rattle.nv_machine.specs.Kinds.{result_by}
use Rattle.nv_machine.specs.PlainRun.{actor_of}
use Rattle.nv_machine.specs.Reading.{releases, releases_at, releases_in, releases_of}
use Rattle.nv_machine.specs.SnapshotOrCleaner.{snapshot_or_cleaner_turn}
use Rattle.nv_machine.specs.Step.{after, go_step, kind_turn, reply_of, step, turn, turned}
use Rattle.nv_machine.specs.World.{Actor, Answers, ReturnNumber, Done, Draining, Drains, Ending, Ends, Event, Give, Go, HandState, LockPicked, Moves, Next, BoundAnew, Pick, Refused, Refuses, Release, Running, Shared, SnapshotOrCleanerStep, SnapshotOrCleaner, Start, Started, Turn, Unlock, Waits, World, actor_at, idle, Cleans}
use Rattle.nv_machine.proofs.StepWays.{After, AfterBy, EndsBy, Going, IsFull, Lasts, Overs, Rests, Telling, any_ends}
use Rattle.nv_machine.proofs.StepWalk.{walk_by}
use Rattle.nv_machine.proofs.SnapshotOrCleanerWalk.{step_walk_by}
use Rattle.nv_machine.proofs.OverEvents.{OwnAfter, event_of, own_goes, started, turn_at}
use Rattle.nv_machine.proofs.Lists.{self}
use Rattle.nv_calls.specs.declared.answer.Answer.TheVariants as answers
use Rattle.nv_calls.specs.declared.call.Call.TheVariants as call
use Rattle.nv_calls.specs.declared.snapshot_or_cleaner_call.SnapshotOrCleanerCall.TheVariants as on

-- ---- a drain of so many records that has released so many; it is refused for want of memory alone, before its first

abbrev pub HasReleased : ℕ → ℕ → Ending → Type 0
HasReleased all n (Drains draining) = (draining.released ≡ n) × (draining.released + draining.left ≡ all)
HasReleased all n (Refuses fault) = (fault ≡ out_of_memory) × (n ≡ 0)
HasReleased all n Answers = ⊥
HasReleased all n BoundAnew = ⊥
HasReleased all n (Cleans cleaned) = ⊥

-- one more is picked, or to be picked
abbrev pub HasPicked : ℕ → ℕ → Draining → Type 0
HasPicked all n draining = (draining.released ≡ n) × (draining.released + draining.left + 1 ≡ all)

abbrev pub HasReleasedOn : ℕ → ℕ → SnapshotOrCleanerStep → Type 0
HasReleasedOn all n (Pick draining) = HasPicked all n draining
HasReleasedOn all n (LockPicked draining picked) = HasPicked all n draining
HasReleasedOn all n (Release draining picked) = HasPicked all n draining
HasReleasedOn all n other = ⊥

abbrev pub IsDrain : ℕ → ℕ → Next → Ending → Type 0
IsDrain all n (Unlock place) e = HasReleased all n e
IsDrain all n (Give cpu) e = HasReleased all n e
IsDrain all n ReturnNumber e = HasReleased all n e
IsDrain all n (SnapshotOrCleaner step) e = HasReleasedOn all n step
IsDrain all n other e = ⊥

abbrev pub IsDrainOf : ℕ → ℕ → Option Running → Type 0
IsDrainOf all n None = n ≤ all
IsDrainOf all n (Some r) = IsDrain all n r.next r.ending

-- a step is a pick that finds nothing
pub record IsLastPick (k : Next) (s : Shared) : Type 0 where
  pub draining : Draining
  pub picks : k ≡ SnapshotOrCleaner (Pick draining)
  pub nothing : s.book.deferred ≡ []

abbrev count_told : ℕ → Result Answer Fault
count_told n = Ok (answers.Count n)

-- it is told what it has released, which is its number unless its step is such a pick
pub record IsCounted (none : Type 0) (all n : ℕ) (result : Result Answer Fault) : Type 0 where
  pub told : (found : Answer) → result ≡ Ok found → (found ≡ answers.Count n) × ((n ≡ all) ⊎ none)
  pub refused : (fault : Fault) → result ≡ Err fault → (fault ≡ out_of_memory) × (n ≡ 0)
  pub few : n ≤ all

-- a turn after which so many are released, of a call that had released so many before it
abbrev DrainGoes : ℕ → ℕ → Going
DrainGoes all n s h r = IsDrain all n r.next r.ending

abbrev DrainTold : Type 0 → ℕ → ℕ → Telling
DrainTold none all n result s h = IsCounted none all n result

abbrev pub OnDrain : Type 0 → ℕ → ℕ → ℕ → Turn → Type 0
OnDrain none all before n t = AfterBy (before ≡ n) (DrainGoes all n) (DrainTold none all n) t

-- ---- its steps

abbrev fault_told : Fault → Result Answer Fault
fault_told fault = Err fault

same_fault : (fault other : Fault) → fault_told fault ≡ fault_told other → fault ≡ other
same_fault fault other e = cc

abbrev answer_told : Answer → Result Answer Fault
answer_told found = Ok found

same_answer : (found other : Answer) → answer_told found ≡ answer_told other → other ≡ found
same_answer found other e = cc

counted : (none : Type 0) (all n told : ℕ) → told ≡ n → (n ≡ all) ⊎ none → n ≤ all → IsCounted none all n (count_told told)
counted none all n told same last few = record {
  told = λ found is. (same_answer (answers.Count told) found is ∙ ap answers.Count same, last);
  refused = λ fault is. cc;
  few = few;
}

refused : (none : Type 0) (all n : ℕ) (fault : Fault) → (fault ≡ out_of_memory) × (n ≡ 0) → IsCounted none all n (Err fault)
refused none all n fault is = record {
  told = λ found e. cc;
  refused = λ other e. subst (λ (f : Fault). (f ≡ out_of_memory) × (n ≡ 0)) (same_fault fault other e) is;
  few = omega (arith, is.1);
}

-- the last steps: it is told only where it may release no more
full_told : (none : Type 0) (all n : ℕ) (r : Running) (e x : Ending) → e ≡ x → HasReleased all n x → IsFull e
    → IsCounted none all n (result_by x r)
full_told none all n r e (Drains draining) same has full =
    let left = full draining same in
    counted none all n draining.released has.0 (inl (omega (arith, left, has.0, has.1))) (omega (arith, has.0, has.1))
full_told none all n r e (Refuses fault) same has full = refused none all n fault has
full_told none all n r e other same has full = absurd has

module _ (none : Type 0) (all n : ℕ) {s : Shared} {h : HandState} {r : Running} {e : Ending} (is : HasReleased all n e) where
  drain_lasts : Lasts (DrainGoes all n) (DrainTold none all n) s h r e
  drain_lasts = record {
    told = full_told none all n r e e refl is;
    picks = λ d left drains some.
        let has : HasReleased all n (Drains d) = subst (HasReleased all n) drains is in (has.0, omega (arith, has.1, some));
  }

  drain_rests : {home : Option ℕ} → Rests (DrainGoes all n) (DrainTold none all n) home s h r e
  drain_rests = record { give = λ cpu home. is; back = λ ino home has_it. is; lasts = λ home gone. drain_lasts }

  drain_overs : Overs (DrainGoes all n) (DrainTold none all n) s h r e
  drain_overs = record {
    again = λ rounds over some. absurd (subst (HasReleased all n) over is);
    contended = λ over some. absurd (subst (HasReleased all n) over is);
    rests = λ apart. drain_rests;
  }

  drain_ends : {slots : List ℕ} → EndsBy (DrainGoes all n) (DrainTold none all n) slots s h r e
  drain_ends = record { unlock = λ some. is; overs = λ free. drain_overs }

same_none : (n : ℕ) → n ≡ n + 0
same_none n = omega arith

more_none : (all n : ℕ) (e : Ending) → HasReleased all n e → HasReleased all (n + 0) e
more_none all n e is = subst (λ (m : ℕ). HasReleased all m e) (same_none n) is

module _ (all n block actor : ℕ) (granted : Bool) (s : Shared) (h : HandState) (r : Running) where
  -- memory is asked for before the first record alone
  snapshots_on : (step : SnapshotOrCleanerStep) → HasReleasedOn all n step
      → OnDrain (IsLastPick (SnapshotOrCleaner step) s) all n (n + releases_at (SnapshotOrCleaner step))
      (snapshot_or_cleaner_turn step actor granted s h r)
  snapshots_on (Pick draining) is =
      let none = IsLastPick (SnapshotOrCleaner (Pick draining)) s in
      step_walk_by (n ≡ n + 0) (DrainGoes all (n + 0)) (DrainTold none all (n + 0)) actor s h r (Pick draining) granted
      (λ blocked. same_none n) (
        λ lacks first. drain_ends none all (n + 0)
            (refl, (let zeroth = eqb-true draining.released 0 first in omega (arith, is.0, zeroth))),
        λ empty. counted none all (n + 0) draining.released (omega (arith, is.0))
            (inr (record { draining = draining; picks = refl; nothing = empty })) (omega (arith, is.0, is.1)),
        λ picked rest free some. (omega (arith, is.0), is.1),
      )
  snapshots_on (LockPicked draining picked) is =
      step_walk_by (n ≡ n + 0) (DrainGoes all (n + 0))
      (DrainTold (IsLastPick (SnapshotOrCleaner (LockPicked draining picked)) s) all (n + 0))
      actor s h r (LockPicked draining picked) granted (λ blocked. same_none n) (λ free. (omega (arith, is.0), is.1))
  snapshots_on (Release draining picked) is =
      let none = IsLastPick (SnapshotOrCleaner (Release draining picked)) s in
      step_walk_by (n ≡ n + 1) (DrainGoes all (n + 1)) (DrainTold none all (n + 1)) actor s h r (Release draining picked) granted
      (λ blocked. absurd blocked) (drain_ends none all (n + 1) (omega (arith, is.0), omega (arith, is.1)))
  snapshots_on other is = absurd is

  pub kind_on : (k : Next) → IsDrain all n k r.ending
      → OnDrain (IsLastPick k s) all n (n + releases_at k) (kind_turn k block actor granted s h r)
  kind_on (Unlock place) is =
      let none = IsLastPick (Unlock place) s in
      let has = more_none all n r.ending is in
      walk_by (n ≡ n + 0) (DrainGoes all (n + 0)) (DrainTold none all (n + 0)) block actor s h r (Unlock place) granted
      (λ blocked. absurd blocked) (λ more. has, λ past. drain_overs none all (n + 0) has) refl
  kind_on (Give cpu) is =
      let none = IsLastPick (Give cpu) s in
      walk_by (n ≡ n + 0) (DrainGoes all (n + 0)) (DrainTold none all (n + 0)) block actor s h r (Give cpu) granted
      (λ blocked. absurd blocked) (drain_rests none all (n + 0) (more_none all n r.ending is)) refl
  kind_on ReturnNumber is =
      let none = IsLastPick ReturnNumber s in
      walk_by (n ≡ n + 0) (DrainGoes all (n + 0)) (DrainTold none all (n + 0)) block actor s h r ReturnNumber granted
      (λ blocked. absurd blocked) (drain_lasts none all (n + 0) (more_none all n r.ending is)) refl
  kind_on (SnapshotOrCleaner step) is = snapshots_on step is
  kind_on other is = absurd is

-- ---- events

-- what an actor's call has released, and the last step's answer
abbrev IsDrainAt : ℕ → ℕ → ℕ → World → Type 0
IsDrainAt all n actor w = IsDrainOf all n (actor_at w actor).running

-- never more than its number
few_released : (all n : ℕ) (e : Ending) → HasReleased all n e → n ≤ all
few_released all n (Drains draining) is = omega (arith, is.0, is.1)
few_released all n (Refuses fault) is = omega (arith, is.1)
few_released all n other is = absurd is

few_at : (all n : ℕ) (k : Next) (e : Ending) → IsDrain all n k e → n ≤ all
few_at all n (Unlock place) e is = few_released all n e is
few_at all n (Give cpu) e is = few_released all n e is
few_at all n ReturnNumber e is = few_released all n e is
few_at all n (SnapshotOrCleaner (Pick draining)) e is = omega (arith, is.0, is.1)
few_at all n (SnapshotOrCleaner (LockPicked draining picked)) e is = omega (arith, is.0, is.1)
few_at all n (SnapshotOrCleaner (Release draining picked)) e is = omega (arith, is.0, is.1)
few_at all n other e is = absurd is

few_of : (all n : ℕ) (running : Option Running) → IsDrainOf all n running → n ≤ all
few_of all n None is = is
few_of all n (Some r) is = few_at all n r.next r.ending is

module _ (all actor : ℕ) where
  after_drains : (none : Type 0) (n more : ℕ) (w : World) (r : Running) → (actor_at w actor).running ≡ Some r
      → IsDrain all n r.next r.ending → (t : Turn) → OnDrain none all n more t
      → OwnAfter (actor_at w actor) (λ (x : Actor). IsDrainOf all more x.running) t
  after_drains none n more w r is was (Moves s h q) on = on
  after_drains none n more w r is was Waits on =
      subst (IsDrainOf all more) (sym is) (subst (λ (m : ℕ). IsDrain all m r.next r.ending) on was)
  after_drains none n more w r is was (Ends result s h) on = on.few

  own_drains : (n : ℕ) (w : World) (granted : Bool) → IsDrainAt all n actor w
      → IsDrainAt all (n + releases_of (actor_at w actor).running) actor (step w (Go actor granted)).world
  own_drains n w granted was =
      own_goes (λ (x : Actor). IsDrainOf all (n + releases_of (actor_at w actor).running) x.running) w actor granted
      (λ none.
      let few : n ≤ all = subst (IsDrainOf all n) none was in
      subst (λ (o : Option Running). IsDrainOf all (n + releases_of o) o) (sym none) (omega (arith, few)))
      (λ r there is.
      let mine = subst (IsDrainOf all n) is was in
      subst (λ (o : Option Running). OwnAfter (actor_at w actor) (λ (x : Actor). IsDrainOf all (n + releases_of o) x.running)
      (turn_at w actor granted r)) (sym is)
      (after_drains (IsLastPick r.next w.shared) n (n + releases_at r.next) w r is mine (turn_at w actor granted r)
      (kind_on all n w.numbers.block actor granted w.shared (actor_at w actor).hand r r.next mine)))

  apart_drains : (n : ℕ) (w : World) → IsDrainAt all n actor w → (e : Event) → (actor_of e == actor) ≡ false
      → IsDrainOf all (n + releases_in actor w e) (actor_at w actor).running
  apart_drains n w was (Start other c) apart = subst (λ (m : ℕ). IsDrainAt all m actor w) (same_none n) was
  apart_drains n w was (Go other granted) apart = rw apart (subst (λ (m : ℕ). IsDrainAt all m actor w) (same_none n) was)

  event_drains : (n : ℕ) (w : World) (e : Event) → IsNoStart actor e → IsDrainAt all n actor w
      → IsDrainAt all (n + releases_in actor w e) actor (step w e).world
  event_drains n w e apart was =
      event_of w actor (λ (e : Event) (x : Actor). IsNoStart actor e → IsDrainOf all (n + releases_in actor w e) x.running)
      (λ e other no. apart_drains n w was e other)
      (λ granted no. rw (self actor) (own_drains n w granted was))
      (λ c no. absurd (no refl)) e apart

  -- ---- the answer

  -- after so many events so many are released, and the next step is told
  record IsToldBy (n : ℕ) (w : World) (found : Answer) : Type 0 where
    count : found ≡ answers.Count n
    last : (n ≡ all) ⊎ FindsNothing actor w

  reply_told : (none : Type 0) (n : ℕ) (found : Answer) (result : Result Answer Fault) → IsCounted none all n result
      → reply_of result ≡ Done found → (found ≡ answers.Count n) × ((n ≡ all) ⊎ none)
  reply_told none n found (Ok other) counted is = counted.told found (ap Ok (found_is is)) where
    found_is : Done other ≡ Done found → other ≡ found
    found_is e = cc
  reply_told none n found (Err fault) counted is = cc

  turned_told : (none : Type 0) (before n : ℕ) (found : Answer) (t : Turn) (w : World) → OnDrain none all before n t
      → (turned t actor w).reply ≡ Done found → (found ≡ answers.Count n) × ((n ≡ all) ⊎ none)
  turned_told none before n found (Moves s h r) w on is = cc
  turned_told none before n found Waits w on is = cc
  turned_told none before n found (Ends result s h) w on is = reply_told none n found result on is

  go_told : (b : Bool) (running : Option Running) (w : World) (n : ℕ) (found : Answer) (granted : Bool)
      → (actor_at w actor).running ≡ running → IsDrainAt all n actor w → (go_step b running actor granted w).reply ≡ Done found
      → IsToldBy (n + releases_of running) w found
  go_told false running w n found granted is was reply = cc
  go_told true None w n found granted is was reply = cc
  go_told true (Some r) w n found granted is was reply =
      let told = turned_told (IsLastPick r.next w.shared) n (n + releases_at r.next) found
      (turn w.numbers.block actor granted w.shared (actor_at w actor).hand r) w
      (kind_on all n w.numbers.block actor granted w.shared (actor_at w actor).hand r r.next (subst (IsDrainOf all n) is was)) reply in
      record {
        count = told.0;
        last = elim told.1 [
          | inl full ↦ inl full
          | inr pick ↦ inr (record { running = r; draining = pick.draining; runs = is; picks = pick.picks; nothing = pick.nothing })
        ];
      }

  told_as : (n m : ℕ) (w : World) (found : Answer) → n ≡ m → IsToldBy n w found → IsToldBy m w found
  told_as n m w found e is = subst (λ (k : ℕ). IsToldBy k w found) e is

  events_told : (events : List Event) (w : World) (n : ℕ) (found : Answer) (granted : Bool) → AreNoStarts actor events
      → IsDrainAt all n actor w → (step (after w events) (Go actor granted)).reply ≡ Done found
      → IsToldBy (n + releases actor w (events ++ Go actor granted ∷ [])) (after w events) found
  events_told [] w n found granted apart was reply =
      let own = ap (λ (b : Bool). if b then releases_of (actor_at w actor).running else 0) (self actor) in
      told_as (n + releases_of (actor_at w actor).running) _ w found (omega (arith, own))
      (go_told (nat_lt actor (length w.actors)) (actor_at w actor).running w n found granted refl was reply)
  events_told (e ∷ events) w n found granted apart was reply =
      told_as (n + releases_in actor w e + releases actor (step w e).world (events ++ Go actor granted ∷ [])) _
      (after (step w e).world events) found (omega arith)
      (events_told events (step w e).world (n + releases_in actor w e) found granted apart.1 (event_drains n w e apart.0 was) reply)

  -- ---- never more

  events_few : (events : List Event) (w : World) (n : ℕ) → AreNoStarts actor events → IsDrainAt all n actor w
      → n + releases actor w events ≤ all
  events_few [] w n apart was = let few = few_of all n (actor_at w actor).running was in omega (arith, few)
  events_few (e ∷ events) w n apart was =
      let rest = events_few events (step w e).world (n + releases_in actor w e) apart.1 (event_drains n w e apart.0 was) in
      omega (arith, rest)

  -- ---- the refusal

  reply_refused : (none : Type 0) (n : ℕ) (fault : Fault) (result : Result Answer Fault) → IsCounted none all n result
      → reply_of result ≡ Refused fault → (fault ≡ out_of_memory) × (n ≡ 0)
  reply_refused none n fault (Ok found) counted is = cc
  reply_refused none n fault (Err other) counted is = counted.refused fault (ap Err (other_is is)) where
    other_is : Refused other ≡ Refused fault → other ≡ fault
    other_is e = cc

  turned_refused : (none : Type 0) (before n : ℕ) (fault : Fault) (t : Turn) (w : World) → OnDrain none all before n t
      → (turned t actor w).reply ≡ Refused fault → (fault ≡ out_of_memory) × (n ≡ 0)
  turned_refused none before n fault (Moves s h r) w on is = cc
  turned_refused none before n fault Waits w on is = cc
  turned_refused none before n fault (Ends result s h) w on is = reply_refused none n fault result on is

  go_refused : (b : Bool) (running : Option Running) (w : World) (n : ℕ) (fault : Fault) (granted : Bool)
      → nat_lt actor (length w.actors) ≡ b → (actor_at w actor).running ≡ running → IsSome running → IsDrainAt all n actor w
      → (go_step b running actor granted w).reply ≡ Refused fault → (fault ≡ out_of_memory) × (n + releases_of running ≡ 0)
  go_refused b None w n fault granted there is some was reply = cc
  go_refused false (Some r) w n fault granted there is some was reply =
      absurd (none-some r (sym (ap (λ (x : Actor). x.running)
      (get_or_past w.actors actor idle (ltb-false actor (length w.actors) there))) ∙ is))
  go_refused true (Some r) w n fault granted there is some was reply =
      turned_refused (IsLastPick r.next w.shared) n (n + releases_at r.next) fault
      (turn w.numbers.block actor granted w.shared (actor_at w actor).hand r) w
      (kind_on all n w.numbers.block actor granted w.shared (actor_at w actor).hand r r.next (subst (IsDrainOf all n) is was)) reply

  events_refused : (events : List Event) (w : World) (n : ℕ) (fault : Fault) (granted : Bool) → AreNoStarts actor events
      → IsDrainAt all n actor w → IsSome (actor_at (after w events) actor).running
      → (step (after w events) (Go actor granted)).reply ≡ Refused fault
      → (fault ≡ out_of_memory) × (n + releases actor w (events ++ Go actor granted ∷ []) ≡ 0)
  events_refused [] w n fault granted apart was some reply =
      let one = go_refused (nat_lt actor (length w.actors)) (actor_at w actor).running w n fault granted refl refl some was reply in
      let own = ap (λ (b : Bool). if b then releases_of (actor_at w actor).running else 0) (self actor) in
      let none = one.1 in
      (one.0, omega (arith, none, own))
  events_refused (e ∷ events) w n fault granted apart was some reply =
      let rest = events_refused events (step w e).world (n + releases_in actor w e) fault granted apart.1 (event_drains n w e apart.0 was)
      some reply in
      let none = rest.1 in
      (rest.0, omega (arith, none))

-- ---- a drain that has started

-- the nearest number of those that a drain may have
nearest : (count : ℕ) → 0 + (max 1 (min count DRAIN) - 1) + 1 ≡ drain_number count
nearest count = go (nat_lt count 1) (nat_lt DRAIN count) refl refl where
  go : (none many : Bool) → nat_lt count 1 ≡ none → nat_lt DRAIN count ≡ many
      → 0 + (max 1 (min count DRAIN) - 1) + 1 ≡ (if none then 1 else if many then DRAIN else count)
  go true many low high = let lt = ltb-true count 1 low in omega (arith, lt)
  go false true low high = let some = ltb-false count 1 low in let lt = ltb-true DRAIN count high in omega (arith, some, lt)
  go false false low high = let some = ltb-false count 1 low in let le = ltb-false DRAIN count high in omega (arith, some, le)

module _ (actor count : ℕ) (w : World) (is : (step w (Start actor (call.SnapshotOrCleaner (on.Drain count)))).reply ≡ Started) where
  abbrev v : World
  v = (step w (Start actor (call.SnapshotOrCleaner (on.Drain count)))).world

  abbrev all : ℕ
  all = drain_number count

  begun_drains : IsDrainAt all 0 actor v
  begun_drains =
      subst (λ (x : Actor). IsDrainOf all 0 x.running) (sym (started w actor (call.SnapshotOrCleaner (on.Drain count)) is))
      (refl, nearest count)

  -- behind none that were released before
  from_none : (n : ℕ) → 0 + n ≡ n
  from_none n = omega arith

  pub drain_told : (events : List Event) (granted : Bool) (found : Answer) → AreNoStarts actor events
      → (step (after v events) (Go actor granted)).reply ≡ Done found
      → (found ≡ answers.Count (releases actor v (events ++ Go actor granted ∷ [])))
      × ((releases actor v (events ++ Go actor granted ∷ []) ≡ all) ⊎ FindsNothing actor (after v events))
  drain_told events granted found apart reply =
      let told = told_as all actor _ (releases actor v (events ++ Go actor granted ∷ [])) (after v events) found (from_none _)
      (events_told all actor events v 0 found granted apart begun_drains reply) in
      (told.count, told.last)

  pub drain_few : (events : List Event) → AreNoStarts actor events → releases actor v events ≤ all
  drain_few events apart = subst (λ (n : ℕ). n ≤ all) (from_none _) (events_few all actor events v 0 apart begun_drains)

  pub drain_refused : (events : List Event) (granted : Bool) (fault : Fault) → AreNoStarts actor events
      → IsSome (actor_at (after v events) actor).running → (step (after v events) (Go actor granted)).reply ≡ Refused fault
      → (fault ≡ out_of_memory) × (releases actor v (events ++ Go actor granted ∷ []) ≡ 0)
  drain_refused events granted fault apart some reply =
      let is = events_refused all actor events v 0 fault granted apart begun_drains some reply in
      (is.0, subst (λ (n : ℕ). n ≡ 0) (from_none _) is.1)

-- ---- a pick that finds nothing

abbrev Goes : Going
Goes s h r = Unit {0}

abbrev PickFinds : Shared → Telling
PickFinds s x t h = (told : ℕ) → x ≡ count_told told → s.book.deferred ≡ []

pub pick_nothing : (draining : Draining) (actor told : ℕ) (granted : Bool) (s t : Shared) (h hand : HandState) (r : Running)
    → snapshot_or_cleaner_turn (Pick draining) actor granted s h r ≡ Ends (Ok (answers.Count told)) t hand → s.book.deferred ≡ []
pick_nothing draining actor told granted s t h hand r e =
    subst (After Goes (PickFinds s)) e
    (step_walk_by (Unit {0}) Goes (PickFinds s) actor s h r (Pick draining) granted (λ blocked. tt) (
      λ lacks first. any_ends
          (record { last = λ k is. tt; told = λ told is. cc; again = λ n over some. tt; picks = λ d left drains some. tt }),
      λ empty told is. empty,
      λ picked rest free is. tt,
    )) told refl
