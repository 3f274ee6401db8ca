-- What is told of the next step of a call is the machine's.
use Rattle.std.proofs.Common.{◌≡◌, ℕ, ◌<◌, ◌∙◌, Bool, true, false, List, Option, Some, None, ap, arith, filter, if◌then◌else◌, length, nat_lt, refl, subst, sym}
use Rattle.std.specs.Prelude.{◌≢◌, Ok, Err, slice_index_or}
use Rattle.std.proofs.lemmas.Bool.{lt-ltb}
use Rattle.std.proofs.lemmas.List.{get_or-map, length-map}
use Rattle.nv_alloc.specs.declared.hand.Hand.{Hand}
use Rattle.nv_calls.specs.Commit.{CommitValue}
use Rattle.nv_calls.specs.Progress.{step_of}
use Rattle.nv_calls.specs.Ready.{CellCommitValue, no_plan, plan_at}
use Rattle.nv_calls.specs.declared.progress.CommitStep.{CommitStep}
use Rattle.nv_calls.specs.declared.progress.CommitStep.TheVariants as step
use Rattle.nv_machine.specs.PlainRun.{Nothing, Numbers, PlainChange, done_on, entered, plain_change, plain_change_by, plain_change_of}
use Rattle.nv_machine.specs.Locks.{IsHeldByOther, WaitsFor, WaitsOn, commits_at}
use Rattle.nv_machine.specs.SnapshotOrCleaner.{snapshot_or_cleaner_turn}
use Rattle.nv_machine.specs.Reads.{is_written, slot_at, written_slots}
use Rattle.nv_machine.specs.Step as machine_step
use Rattle.nv_machine.specs.Step.{kind_turn, turned}
use Rattle.nv_machine.specs.StepRows.{name_of}
use Rattle.nv_machine.specs.World as machine
use Rattle.nv_machine.specs.World.{actor_at}
use Rattle.nv_machine.proofs.LocksOverEvents.{waits}
use Rattle.nv_machine.proofs.SingleEvents.{go_is_turn}
use Rattle.nv_core.specs.GhostCalls.{IsCommitOf, IsShownCallOf}
use Rattle.nv_core.specs.NextSteps.{IsAwaited, IsNext, IsOf, IsTold, TellsStep, holder_for, holder_on, name_in, number_at}
use Rattle.nv_core.specs.Shown.{ShownCall, commit_next, machine_step as step_in, next_of, shared_of, shown, shown_commit, slots_in, step_on}
use Rattle.nv_core.specs.Steps.{CanStep}
use Rattle.nv_core.specs.Turns.{CanGo}
use Rattle.nv_core.specs.Worlds.{IsWorld, Shows, ShowsActor, ShowsCall, ShowsRunning, WorldState, shown_call_of}
use Rattle.nv_core.specs.declared.next.Next.{Next}
use Rattle.nv_core.specs.declared.next.Next.TheVariants as next
use Rattle.nv_core.specs.declared.next_step.NextStep.{NextStep}
use Rattle.nv_core.specs.declared.next_step.StepName.{StepName}
use Rattle.nv_core.specs.declared.reservation.Reservation.TheVariants as reserved
use Rattle.nv_core.specs.declared.running.Running.{Running}
use Rattle.nv_core.specs.declared.world.Actor.{Actor}
use Rattle.nv_core.proofs.WorldKept.{can_go, locks_of}
use Rattle.nv_core.proofs.WorldSteps.{shows_none, shows_some}

-- ---- steps that are no commit point

-- a step on snapshots commits nothing
on_none : (m : machine.SnapshotOrCleanerStep) (t : machine.Turn) (c : ℕ) → number_at (done_on m t) c ≡ None
on_none m (machine.Moves s h r) c = refl
on_none m machine.Waits c = refl
on_none (machine.Unpin snapshot seen) (machine.Ends result s h) c = refl
on_none other (machine.Ends (Ok found) s h) c = refl
on_none other (machine.Ends (Err fault) s h) c = refl

-- an enter fixes a number, and commits nothing
pub enter_none : (t : machine.Turn) (c : ℕ) → number_at (entered t) c ≡ None
enter_none (machine.Moves s h r) c = go (commits_at r.next) where
  go : (b : Bool) → number_at (if b then Numbers else Nothing) c ≡ None
  go true = refl
  go false = refl
enter_none other c = refl

-- no step of a call whose hand is with its actor commits
pub alone_none : (n : Next) (written : List ℕ) (t : machine.Turn) (c : ℕ) → number_at (plain_change (next_of n) written t) c ≡ None
alone_none (next.SnapshotOrCleaner m) written t c = on_none (step_on m) t c
alone_none other written t c = refl

-- ---- in a commit

-- no step of a commit needs a lock that it has not
pub commit_free : (s : machine.Shared) (r : machine.Running) (k : CommitStep) (commit : CommitValue) → holder_for s r (step_in k commit) ≡ None
commit_free s r step.Append commit = refl
commit_free s r step.Open commit = refl
commit_free s r step.Publish commit = refl
commit_free s r step.Close commit = refl
commit_free s r step.Retire commit = refl
commit_free s r step.Leave commit = refl

-- as many inodes get entries as there are plans
pub many_written : (slots : List ℕ) (commit : CommitValue) (told : ShownCall) → IsCommitOf slots commit told
    → length (filter (is_written told.plan) slots) ≡ length commit.plans
many_written slots commit told is =
    ap (λ (xs : List ℕ). length xs) is.plans.written ∙ length-map commit.plans (λ (p : CellCommitValue). slot_at slots p.at)

-- the slot of a plan's inode is that of its place among those that get entries
pub slot_written : (slots : List ℕ) (commit : CommitValue) (told : ShownCall) → IsCommitOf slots commit told → (j : ℕ)
    → j < length commit.plans → slot_at slots (plan_at commit.plans j).at ≡ slot_at (filter (is_written told.plan) slots) j
slot_written slots commit told is j lt =
    sym (ap (λ (xs : List ℕ). slot_at xs j) is.plans.written
    ∙ get_or-map (λ (p : CellCommitValue). slot_at slots p.at) commit.plans j no_plan 0 lt)

-- the name of a commit's step is that of the machine's
pub name_at : (k : CommitStep) (commit : CommitValue) (told : ShownCall) (running : Running) (cpus actor : ℕ) → k ≡ step_of commit
    → name_of (step_in k commit) cpus actor (shown_commit commit told running)
    ≡ name_of (commit_next commit) cpus actor (shown_commit commit told running)
name_at k commit told running cpus actor is =
    ap (λ (x : CommitStep). name_of (step_in x commit) cpus actor (shown_commit commit told running)) is

-- what is told of a call in a commit
pub commit_told : (s : machine.Shared) (cpus actor : ℕ) (commit : CommitValue) (running : Running) (r : machine.Running) (name : StepName)
    (commits : Option ℕ) → ShowsCall (reserved.Commit commit) running r
    → ((told : ShownCall) → IsCommitOf (slots_in running.slots) commit told
    → name_in name ≡ name_of (commit_next commit) cpus actor (shown_commit commit told running))
    → ((slots : List ℕ) (t : machine.Turn) → length slots ≡ length commit.plans
    → commits ≡ number_at (plain_change (commit_next commit) slots t) commit.stamp.commit)
    → TellsStep s cpus actor r (record { name = name; commits = commits; waits_for = None })
commit_told s cpus actor commit running r name commits it names numbers =
    let told = shown_call_of r in
    let told_of : TellsStep s cpus actor (shown_commit commit told running) (record {
      name = name;
      commits = commits;
      waits_for = None;
    }) = record {
      name = names told it.plan;
      commits = λ t.
          let written = written_slots (shown_commit commit told running) in
          numbers written t (many_written (slots_in running.slots) commit told it.plan)
          ∙ ap (λ (n : ℕ). number_at (plain_change (commit_next commit) written t) n) it.plan.number;
      waits = sym (commit_free s (shown_commit commit told running) (step_of commit) commit);
    } in
    subst (λ (q : machine.Running). TellsStep s cpus actor q (record { name = name; commits = commits; waits_for = None })) it.shown told_of

-- what is told of a call whose hand is with its actor
pub alone_told : (s : machine.Shared) (cpus actor : ℕ) (hand : Hand) (running : Running) (r : machine.Running) (result : NextStep)
    → ShowsCall (reserved.Hand hand) running r
    → ((told : ShownCall) → IsShownCallOf running told
    → name_in result.name ≡ name_of (next_of running.next) cpus actor (shown told running))
    → ((told : ShownCall) → IsShownCallOf running told
    → result.waits_for ≡ holder_for s (shown told running) (next_of running.next))
    → result.commits ≡ None → TellsStep s cpus actor r result
alone_told s cpus actor hand running r result it names holders none =
    let told = shown_call_of r in
    let told_of : TellsStep s cpus actor (shown told running) result = record {
      name = names told it.request;
      commits = λ t. none ∙ sym (alone_none running.next (written_slots (shown told running)) t told.commit);
      waits = holders told it.request;
    } in
    subst (λ (q : machine.Running). TellsStep s cpus actor q result) it.shown told_of

-- ---- who waits

module _ (s : machine.Shared) (actor : ℕ) (r : machine.Running) where
  waits_on : (m : machine.SnapshotOrCleanerStep) → IsHeldByOther actor (holder_on s m) → WaitsOn s actor m
  waits_on (machine.Release draining picked) held = cc (held.1)
  waits_on (machine.PlanCleaning manner slot) held = cc (held.1)
  waits_on (machine.Fresh ino asked wanted) held = cc (held.1)
  waits_on (machine.Unlink ino) held = cc (held.1)
  waits_on (machine.Compact ino) held = cc (held.1)
  waits_on other held = held

  -- it waits where another actor holds the lock that its step needs
  waits_so : (k : machine.Next) → IsHeldByOther actor (holder_for s r k) → WaitsFor s actor r k
  waits_so (machine.Look place) held = held
  waits_so (machine.Lock place) held = held
  waits_so machine.Enter held = held
  waits_so machine.Visit held = held
  waits_so (machine.SnapshotOrCleaner m) held = waits_on m held
  waits_so other held = cc (held.1)

  held_on : (m : machine.SnapshotOrCleanerStep) → WaitsOn s actor m → IsHeldByOther actor (holder_on s m)
  held_on (machine.Release draining picked) held = absurd held
  held_on (machine.PlanCleaning manner slot) held = absurd held
  held_on (machine.Fresh ino asked wanted) held = absurd held
  held_on (machine.Unlink ino) held = absurd held
  held_on (machine.Compact ino) held = absurd held
  held_on other held = held

  held_so : (k : machine.Next) → WaitsFor s actor r k → IsHeldByOther actor (holder_for s r k)
  held_so (machine.Look place) held = held
  held_so (machine.Lock place) held = held
  held_so machine.Enter held = held
  held_so machine.Visit held = held
  held_so (machine.SnapshotOrCleaner m) held = held_on m held
  held_so other held = absurd held

  module _ (block : ℕ) (granted : Bool) (h : machine.HandState) (other : ℕ) where
    stands_on : (m : machine.SnapshotOrCleanerStep) → holder_on s m ≡ Some other → snapshot_or_cleaner_turn m actor granted s h r ≡ machine.Waits
    stands_on machine.Make held = rw held refl
    stands_on (machine.Drop snapshot) held = rw held refl
    stands_on (machine.Pin snapshot) held = rw held refl
    stands_on (machine.Show snapshot showing) held = rw held refl
    stands_on (machine.Unpin snapshot seen) held = rw held refl
    stands_on (machine.Pick draining) held = rw held refl
    stands_on (machine.LockPicked draining picked) held = rw held refl
    stands_on (machine.Release draining picked) held = cc
    stands_on (machine.LockCleaned manner ino) held = rw held refl
    stands_on (machine.PlanCleaning manner slot) held = cc
    stands_on (machine.Fresh ino asked wanted) held = cc
    stands_on (machine.Unlink ino) held = cc
    stands_on (machine.Compact ino) held = cc

    -- a lock that any actor holds makes its step wait
    stands : (k : machine.Next) → holder_for s r k ≡ Some other → kind_turn k block actor granted s h r ≡ machine.Waits
    stands (machine.Look place) held = rw held refl
    stands (machine.Lock place) held = rw held refl
    stands machine.Enter held = rw held refl
    stands machine.Visit held = rw held refl
    stands (machine.SnapshotOrCleaner m) held = stands_on m held
    stands k held = cc

-- in a world that events have led to no actor waits for itself
apart : (w : WorldState) (is : IsWorld w) (actor other : ℕ) (r : machine.Running) → actor < length w.actors
    → (actor_at is.0 actor).running ≡ Some r → holder_for is.0.shared r r.next ≡ Some other → other ≢ actor
apart w is actor other r there runs holds same =
    let m = is.0 in
    let inside : actor < length m.actors = omega (arith, there, is.2.shows.count) in
    let waiting : (machine_step.step m (machine.Go actor true)).reply ≡ machine.Waiting =
    ap (λ (x : machine_step.Step). x.reply)
    (go_is_turn (nat_lt actor (length m.actors)) (actor_at m actor).running m actor true r (lt-ltb actor (length m.actors) inside) runs)
    ∙ ap (λ (t : machine.Turn). (turned t actor m).reply)
    (stands m.shared actor r m.numbers.block true (actor_at m actor).hand other r.next holds) in
    let held = held_so m.shared actor r r.next (waits m actor true r (locks_of w m is.1 is.2) inside runs waiting).1 in
    let both : Some held.0 ≡ Some other = sym held.1 ∙ holds in
    let one : held.0 ≡ other = cc in
    held.2 (one ∙ same)

-- ---- THE LEMMA

awaited : (s : machine.Shared) (actor : ℕ) (r : machine.Running) (o : Option ℕ) → o ≡ holder_for s r r.next
    → ((other : ℕ) → o ≡ Some other → other ≢ actor) → IsAwaited s actor r o
awaited s actor r None is others = λ held. let by = held_so s actor r r.next held in let e : None ≡ Some by.0 = is ∙ by.1 in cc
awaited s actor r (Some other) is others = (waits_so s actor r r.next (other, sym is, others other refl), sym is)

module _ (w : WorldState) (m : machine.World) (shows : Shows w m) (is : IsWorld w) (actor : ℕ) (there : actor < length w.actors)
    (own d : Actor) (at : slice_index_or w.actors actor d ≡ own) (result : Option NextStep)
    (none : own.running ≡ None → result ≡ None)
    (some : (running : Running) (r : machine.Running) → own.running ≡ Some running → ShowsCall own.reserved running r
    → IsOf (TellsStep (shared_of w.shared) (length w.shared.lists.items) actor r) result) where
  own_in : (n : machine.World) → Shows w n → ShowsRunning own.reserved own.running (actor_at n actor).running
  own_in n it = (subst (λ (a : Actor). ShowsActor a (actor_at n actor)) at (it.each actor d there)).running

  module _ (running : Running) (runs : own.running ≡ Some running) (r : machine.Running)
      (has : (actor_at m actor).running ≡ Some r) (call : ShowsCall own.reserved running r) where
    cpus : length w.shared.lists.items ≡ m.numbers.cpus
    cpus =
        let can : CanStep w.shared own.reserved running actor =
        subst (λ (o : Option Running). CanGo w.shared own.reserved o actor) runs (can_go w is actor there own d at) in
        can.home.count ∙ ap (λ g. g.cpus) shows.numbers

    changes : (granted : Bool) → plain_change_of m (machine.Go actor granted)
        ≡ plain_change r.next (written_slots r) (machine_step.turn m.numbers.block actor granted m.shared (actor_at m actor).hand r)
    changes granted =
        ap (λ (b : Bool). if b then plain_change_by (actor_at m actor).running m actor granted else Nothing)
        (lt-ltb actor (length m.actors) (omega (arith, there, shows.count)))
        ∙ ap (λ (o : Option machine.Running). plain_change_by o m actor granted) has

    of_step : (told : NextStep) → result ≡ Some told → TellsStep (shared_of w.shared) (length w.shared.lists.items) actor r told
        → IsTold m actor r told
    of_step told e it = record {
      name = it.name ∙ ap (λ (n : ℕ). name_of r.next n actor r) cpus;
      commits = λ granted.
          it.commits (machine_step.turn m.numbers.block actor granted m.shared (actor_at m actor).hand r)
          ∙ ap (λ (p : PlainChange). number_at p r.commit) (sym (changes granted));
      waits =
          awaited m.shared actor r told.waits_for (it.waits ∙ ap (λ (s : machine.Shared). holder_for s r r.next) shows.shared)
          (λ other waits_for.
          let n = is.0 in
          let its = shows_some own.reserved running (actor_at n actor).running
          (subst (λ (o : Option Running). ShowsRunning own.reserved o (actor_at n actor).running) runs (own_in n is.2.shows)) in
          let same =
          subst (IsOf (TellsStep (shared_of w.shared) (length w.shared.lists.items) actor its.0)) e (some running its.0 runs its.2) in
          apart w is actor other its.0 there its.1
          (ap (λ (s : machine.Shared). holder_for s its.0 its.0.next) (sym is.2.shows.shared) ∙ sym same.waits ∙ waits_for));
      holder = it.waits ∙ ap (λ (s : machine.Shared). holder_for s r r.next) shows.shared;
    }

    of_some : IsNext m actor (Some r) result
    of_some = go result refl (some running r runs call) where
      go : (o : Option NextStep) → result ≡ o → IsOf (TellsStep (shared_of w.shared) (length w.shared.lists.items) actor r) o
          → IsNext m actor (Some r) o
      go None e it = absurd it
      go (Some told) e it = of_step told e it

  pub told_next : IsNext m actor (actor_at m actor).running result
  told_next = by own.running refl where
    by : (o : Option Running) → own.running ≡ o → IsNext m actor (actor_at m actor).running result
    by None e =
        let idle : (actor_at m actor).running ≡ None =
        shows_none own.reserved (actor_at m actor).running
        (subst (λ (o : Option Running). ShowsRunning own.reserved o (actor_at m actor).running) e (own_in m shows)) in
        subst (λ (o : Option machine.Running). IsNext m actor o result) (sym idle)
        (subst (λ (o : Option NextStep). IsNext m actor None o) (sym (none e)) tt)
    by (Some running) e =
        let call = shows_some own.reserved running (actor_at m actor).running
        (subst (λ (o : Option Running). ShowsRunning own.reserved o (actor_at m actor).running) e (own_in m shows)) in
        subst (λ (o : Option machine.Running). IsNext m actor o result) (sym call.1) (of_some running e call.0 call.1 call.2)
