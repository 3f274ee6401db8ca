-- A drain that is made alone releases what the world with numbers releases: what is yet to come holds before each step.
use Rattle.std.proofs.Common.{◌≡◌, ◌∙◌, ℕ, zero, suc, ◌+◌, ◌-◌, ◌||◌, Bool, true, false, cond, List, [], ◌∷◌, Option, Some, None, ap, arith, drop, if◌then◌else◌, length, nat_lt, refl, subst, sym, inl, inr}
use Rattle.std.specs.Prelude.{is_none, max, min, not}
use Rattle.std.proofs.Math.Nat.{le-max_left, suc-min-suc}
use Rattle.std.proofs.lemmas.Bool.{eqb-true}
use Rattle.nv_alloc.specs.Numbers.{put_by}
use Rattle.nv_base.specs.Memory.{out_of_memory}
use Rattle.nv_base.specs.declared.geometry.GeometryNumbers.{GeometryNumbers}
use Rattle.nv_base.specs.declared.limits.TheConstants.{DRAIN}
use Rattle.nv_book.specs.Listed.{unheld, without_first}
use Rattle.nv_book.specs.Records.{holder_of}
use Rattle.nv_book.specs.declared.record.Record.{Record}
use Rattle.nv_calls.specs.Retiring.{released as released_part}
use Rattle.nv_calls.specs.declared.answer.Answer.TheVariants as answers
use Rattle.nv_calls.specs.declared.call.Call.{Call}
use Rattle.nv_calls.specs.declared.call.Call.TheVariants as call
use Rattle.nv_calls.specs.declared.snapshot_or_cleaner_call.SnapshotOrCleanerCall.TheVariants as on
use Rattle.nv_epoch.specs.SnapList.{ids}
use Rattle.nv_machine.specs.Hands.{HandAt, HandOf}
use Rattle.nv_machine.specs.Kinds.{blocks_in, drained_turn, end_turn, given, grown, last_turn, over_turn, rest_turn, return_number_turn, unlocked_turn, with_erased, with_given}
use Rattle.nv_machine.specs.SnapshotOrCleaner.{if_free, is_first, lock_picked_turn, one_more, pick_turn, picked_turn, with_released}
use Rattle.nv_machine.specs.Reads.{home_from, slot_at}
use Rattle.nv_machine.specs.Sequence.{beginning, begun}
use Rattle.nv_machine.specs.Starts.{IsStart}
use Rattle.nv_machine.specs.Step.{Step, after, kind_turn, turned}
use Rattle.nv_machine.specs.World.{Actor, Done, Draining, Drains, Ending, Event, Give, HandState, LockPicked, SnapshotOrCleaner, Next, Pick, Refused, Refuses, Release, Reply, ReturnNumber, Running, Shared, Turn, Unlock, Waits, World, actor_at, cell_at, empty_hand, owner_at, with_numbers, with_owner}
use Rattle.nv_machine.proofs.AloneNeverWaits.{never_waits}
use Rattle.nv_machine.proofs.EveryWorld.{all_listed, all_numbers, reached}
use Rattle.nv_machine.proofs.SnapshotOrCleanerAlone.{none_home}
use Rattle.nv_machine.proofs.SnapshotOrCleanerWalk.{no_growth}
use Rattle.nv_machine.proofs.NextSteps.{KnowsNext}
use Rattle.nv_machine.proofs.OverEvents.{runs_inside}
use Rattle.nv_machine.proofs.SingleEvents.{goes as goes_by_turn}
use Rattle.nv_machine.proofs.StepWays.{AfterBy}
use Rattle.nv_serial.specs.Committed.{erased}
use Rattle.nv_serial.specs.Law.{IsMadeAlone, IsSerialCall}
use Rattle.nv_serial.specs.Serial.{Outcome, Serial, deferred_in}
use Rattle.nv_serial.specs.Snapshots.{drain, released}
use Rattle.nv_serial.proofs.AloneStages.{PlainState, beside_then}
use Rattle.nv_serial.proofs.AtRestLogs.{told_by}
use Rattle.nv_serial.proofs.AtRestTests.{deferred_is}
use Rattle.nv_serial.proofs.DrainErased.{IsSteady, erased_now, living_now, released_shared, tails_then}
use Rattle.nv_serial.proofs.SnapAlone.{Now, OthersRest, Tells, at_first, numbered}
use Rattle.nv_serial.proofs.SnapCalls.{is_serial, records_then, start_then, world_then}

-- where no record is deferred none is the first
none_first : (snapshots : List ℕ) (rs : List Record) → unheld snapshots rs ≡ [] → without_first snapshots rs ≡ rs
none_first snapshots [] none = refl
none_first snapshots (d ∷ rs) none = go (is_none (holder_of snapshots d)) none (none_first snapshots rs) where
  go : (b : Bool) → cond b (d ∷ unheld snapshots rs) (unheld snapshots rs) ≡ []
      → (unheld snapshots rs ≡ [] → without_first snapshots rs ≡ rs) → (if b then rs else d ∷ without_first snapshots rs) ≡ d ∷ rs
  go true none more = cc
  go false none more = ap (λ (ds : List Record). d ∷ ds) (more none)

-- another shared with the cells, the book and the commit lock of one
abbrev as_of : Shared → Shared → Shared
as_of sh other = record other { cells = sh.cells; book = sh.book; holder = sh.holder }

abbrev kept : PlainState → PlainState
kept b = record { records = b.records; plain = b.plain }

module _ (g : GeometryNumbers) (w : World) (rs : List Record) (is : IsStart g w rs) (actor count : ℕ) where
  abbrev c : Call
  c = call.SnapshotOrCleaner (on.Drain count)

  abbrev s : Serial
  s = told_by g w rs

  abbrev made : Outcome
  made = drain count s

  abbrev most : ℕ
  most = max 1 (min count DRAIN)

  abbrev pub total : ℕ
  total = min most (length (deferred_in s))

  -- ---- what is yet to come

  -- where so many may still be released, and so many are
  pub record ToGo (left done : ℕ) (b : PlainState) (sh : Shared) : Type 0 where
    pub steady : IsSteady w b sh
    pub comes : released (min left (length sh.book.deferred)) (numbered g w rs actor c b sh) ≡ released total s
    pub counts : done + min left (length sh.book.deferred) ≡ total
    pub begins : done ≡ 0 → numbered g w rs actor c b sh ≡ s

  -- and where one is picked
  pub record Picked (draining : Draining) (b : PlainState) (sh : Shared) : Type 0 where
    pub steady : IsSteady w b sh
    pub comes : released (min draining.left (length sh.book.deferred)) (erased (numbered g w rs actor c b sh)) ≡ released total s
    pub counts : draining.released + 1 + min draining.left (length sh.book.deferred) ≡ total

  abbrev pub OverBy : Ending → PlainState → Shared → Type 0
  OverBy (Drains d) b sh = ToGo d.left d.released b sh
  OverBy (Refuses fault) b sh = (fault ≡ out_of_memory) × (numbered g w rs actor c b sh ≡ s)
  OverBy other b sh = ⊥

  abbrev pub Stage : PlainState → Next → Shared → HandState → Running → Type 0
  Stage b (Unlock place) sh h r = OverBy r.ending b sh
  Stage b (Give cpu) sh h r = OverBy r.ending b sh
  Stage b ReturnNumber sh h r = OverBy r.ending b sh
  Stage b (SnapshotOrCleaner (Pick d)) sh h r = (r.slots ≡ []) × ToGo (suc d.left) d.released b sh
  Stage b (SnapshotOrCleaner (LockPicked d picked)) sh h r = (r.slots ≡ picked.ino ∷ []) × Picked d b sh
  Stage b (SnapshotOrCleaner (Release d picked)) sh h r = (r.slots ≡ picked.ino ∷ []) × Picked d b sh
  Stage b k sh h r = ⊥

  steady_as : (b : PlainState) (sh other : Shared) → IsSteady w b sh → IsSteady w (kept b) (as_of sh other)
  steady_as b sh other at = record { plain_is = at.plain_is; snaps_is = at.snaps_is; free = at.free; tails = at.tails }

  over_as : (e : Ending) (b : PlainState) (sh other : Shared) → OverBy e b sh → OverBy e (kept b) (as_of sh other)
  over_as (Drains d) b sh other at = record {
    steady = steady_as b sh other at.steady;
    comes = at.comes;
    counts = at.counts;
    begins = at.begins;
  }
  over_as (Refuses fault) b sh other at = at
  over_as other_way b sh other at = absurd at

  -- ---- the last steps

  module _ (b : PlainState) where
    abbrev Goes : Turn → Type 0
    Goes t = AfterBy ⊥ (KnowsNext (Stage b)) (Tells g w rs actor c made b) t

    drained_ok : (d : Draining) (left : ℕ) (sh : Shared) (h : HandState) (q : Running) → ToGo left d.released b sh
        → Goes (drained_turn left d.released sh h q)
    drained_ok d zero sh h q at =
        let all : d.released ≡ total = (let counts = at.counts in omega (arith, counts)) in
        let none : min 0 (length sh.book.deferred) ≡ 0 = omega arith in
        inl (
          ap (λ (n : ℕ). Done (answers.Count n)) all,
          ap (λ (n : ℕ). released n (numbered g w rs actor c b sh)) (sym none) ∙ at.comes,
        )
    drained_ok d (suc left) sh h q at = (refl, at)

    last_ok : (e : Ending) (sh : Shared) (h : HandState) (q : Running) → OverBy e b sh → Goes (last_turn e sh h q)
    last_ok (Drains d) sh h q at = drained_ok d d.left sh h q at
    last_ok (Refuses fault) sh h q at = inr (refl, ap Refused at.0, at.1)
    last_ok other sh h q at = absurd at

    rest_ok : (home number : Option ℕ) (sh : Shared) (h : HandState) (q : Running) → OverBy q.ending b sh
        → Goes (rest_turn home number sh h q)
    rest_ok (Some cpu) number sh h q at = at
    rest_ok None (Some ino) sh h q at = at
    rest_ok None None sh h q at = last_ok q.ending sh h q at

    over_ok : (e : Ending) (sh : Shared) (h : HandState) (q : Running) → q.ending ≡ e → OverBy e b sh → Goes (over_turn e sh h q)
    over_ok (Drains d) sh h q same at =
        rest_ok (home_from 0 0 sh.lists (blocks_in h)) h.ino sh h q (subst (λ (e : Ending). OverBy e b sh) (sym same) at)
    over_ok (Refuses fault) sh h q same at =
        rest_ok (home_from 0 0 sh.lists (blocks_in h)) h.ino sh h q (subst (λ (e : Ending). OverBy e b sh) (sym same) at)
    over_ok other sh h q same at = absurd at

    unlocked_ok : (more : Bool) (place : ℕ) (sh : Shared) (h : HandState) (q : Running) → OverBy q.ending b sh
        → Goes (unlocked_turn more place sh h q)
    unlocked_ok true place sh h q at = at
    unlocked_ok false place sh h q at = over_ok q.ending sh h q refl at

    returned_ok : (number : Option ℕ) (sh : Shared) (h : HandState) (q : Running)
        → ((other : Shared) → OverBy q.ending b (as_of sh other)) → Goes (return_number_turn number sh h q)
    returned_ok None sh h q at = last_ok q.ending sh h q (at sh)
    returned_ok (Some ino) sh h q at = last_ok q.ending _ _ q (at (with_numbers (put_by (λ n. n) ino sh.pool.numbers) sh))

  -- ---- each step

  module _ (events : List Event) (granted : Bool) (r : Running) (others : OthersRest g w rs actor c events)
      (runs : (actor_at (after w events) actor).running ≡ Some r) where
    abbrev v : World
    v = after w events

    abbrev sh : Shared
    sh = v.shared

    abbrev h : HandState
    h = (actor_at v actor).hand

    abbrev b : PlainState
    b = Now g w rs actor c events

    abbrev Then : Next → Turn → Type 0
    Then k t = let now = beside_then k sh h r t b in AfterBy ⊥ (KnowsNext (Stage now)) (Tells g w rs actor c made now) t

    no_wait : kind_turn r.next v.numbers.block actor granted sh h r ≡ Waits → ⊥
    no_wait is_wait =
        never_waits v actor (reached g w rs events is).locks (λ other ne. ap (λ (x : Actor). x.running) (others other ne)) granted
        (ap (λ (x : Step). x.reply) (goes_by_turn v actor granted r (runs_inside v actor r runs) runs).is_turn
        ∙ ap (λ (t : Turn). (turned t actor v).reply) is_wait)

    empty : (draining : Draining) → r.next ≡ SnapshotOrCleaner (Pick draining) → h ≡ empty_hand
    empty draining next =
        subst (λ (k : Next). HandAt g k h r) next
        (subst (λ (o : Option Running). HandOf g h o) runs ((all_numbers g w rs events is).hands actor)).0

    -- a pick
    abbrev picking : Draining → Next
    picking d = SnapshotOrCleaner (Pick d)

    pick_refused : (d : Draining) → r.next ≡ picking d → r.slots ≡ [] → ToGo (suc d.left) d.released b sh → is_first d ≡ true
        → Then (picking d) (end_turn r.slots (Refuses out_of_memory) sh h r)
    pick_refused d next none at first_is =
        let q : Running = record r { ending = Refuses out_of_memory } in
        subst (λ (slots : List ℕ). Then (picking d) (end_turn slots (Refuses out_of_memory) sh h r)) (sym none)
        (subst (λ (x : HandState). Then (picking d) (rest_turn (home_from 0 0 sh.lists (blocks_in x)) x.ino sh h q)) (sym (empty d next))
        (subst (λ (o : Option ℕ). Then (picking d) (rest_turn o None sh h q)) (sym (none_home 0 0 sh.lists))
        (inr (refl, refl, at.begins (eqb-true d.released 0 first_is)))))

    pick_by : (d : Draining) (ds : List Record) → sh.book.deferred ≡ ds → ToGo (suc d.left) d.released b sh
        → Then (picking d) (picked_turn ds d sh h r)
    pick_by d [] none at =
        let zeroth : min (suc d.left) 0 ≡ 0 = omega arith in
        let few : min (suc d.left) (length sh.book.deferred) ≡ 0 =
        ap (λ (ds : List Record). min (suc d.left) (length ds)) none ∙ zeroth in
        let all : d.released ≡ total = (let counts = at.counts in omega (arith, counts, few)) in
        let records : without_first (ids sh.book.snaps) b.records ≡ b.records =
        none_first (ids sh.book.snaps) b.records (sym (all_listed g w rs events is).list.deferred_is ∙ none) in
        let world : numbered g w rs actor c b sh ≡ released total s =
        ap (λ (n : ℕ). released n (numbered g w rs actor c b sh)) (sym few) ∙ at.comes in
        inl (
          ap (λ (n : ℕ). Done (answers.Count n)) all,
          ap (λ (l : List Record). numbered g w rs actor c (record { records = l; plain = b.plain }) sh) records ∙ world,
        )
    pick_by d (picked ∷ ds) some at =
        let cur = numbered g w rs actor c b sh in
        let left : ℕ = min d.left (length (drop 1 sh.book.deferred)) in
        let fewer : min (suc d.left) (length sh.book.deferred) ≡ suc left =
        ap (λ (l : List Record). min (suc d.left) (length l)) some ∙ suc-min-suc d.left (length ds)
        ∙ ap (λ (l : List Record). suc (min d.left (length (drop 1 l)))) (sym some) in (
          refl,
          record {
            steady = record {
              plain_is = at.steady.plain_is;
              snaps_is = at.steady.snaps_is;
              free = at.steady.free;
              tails = at.steady.tails;
            };
            comes =
                ap (λ (l : List ℕ). let x : Serial = record cur { records = without_first l b.records } in released left (erased x))
                (sym (living_now g w rs is actor c events at.steady))
                ∙ ap (λ (n : ℕ). released n cur) (sym fewer) ∙ at.comes;
            counts = let counts = at.counts in omega (arith, counts, fewer);
          },
        )

    lock_by : (d : Draining) (picked : Record) (o : Option ℕ) → owner_at sh picked.ino ≡ o
        → r.next ≡ SnapshotOrCleaner (LockPicked d picked) → r.slots ≡ picked.ino ∷ [] → Picked d b sh
        → Then (SnapshotOrCleaner (LockPicked d picked)) (lock_picked_turn o actor d picked sh h r)
    lock_by d picked (Some other) owner next slots at =
        absurd (no_wait (ap (λ (k : Next). kind_turn k v.numbers.block actor granted sh h r) next
        ∙ ap (λ (o : Option ℕ). lock_picked_turn o actor d picked sh h r) owner))
    lock_by d picked None owner next slots at = (
      slots,
      record {
        steady = steady_as b sh (with_owner picked.ino (Some actor) sh) at.steady;
        comes = at.comes;
        counts = at.counts;
      },
    )

    release_ok : (d : Draining) (picked : Record) (next : r.next ≡ SnapshotOrCleaner (Release d picked)) (at : Picked d b sh)
        → ToGo d.left (d.released + 1) (kept b) (released_shared g w rs is actor c events at.steady r others (runs_inside v actor r runs) runs d picked next)
    release_ok d picked next at =
        let there = runs_inside v actor r runs in
        record {
          steady = record {
            plain_is = at.steady.plain_is;
            snaps_is = at.steady.snaps_is;
            free = at.steady.free;
            tails = tails_then g w rs is actor c events at.steady r others there runs d picked next;
          };
          comes =
              ap (λ (x : Serial). released (min d.left (length sh.book.deferred)) x)
              (sym (erased_now g w rs is actor c events at.steady r others there runs d picked next)) ∙ at.comes;
          counts = at.counts;
          begins = λ none. absurd (omega (arith, none));
        }

    steps : (k : Next) → r.next ≡ k → Stage b k sh h r → Then k (kind_turn k v.numbers.block actor granted sh h r)
    steps (Unlock place) next at =
        unlocked_ok (kept b) (nat_lt (place + 1) (length r.slots)) place (with_owner (slot_at r.slots place) None sh) h r
        (over_as r.ending b sh (with_owner (slot_at r.slots place) None sh) at)
    steps (Give cpu) next at =
        rest_ok (kept b) (home_from (cpu + 1) 0 sh.lists (blocks_in (given cpu sh h))) h.ino (with_given cpu h sh) (given cpu sh h) r
        (over_as r.ending b sh (with_given cpu h sh) at)
    steps ReturnNumber next at = returned_ok (kept b) h.ino sh h r (λ other. over_as r.ending b sh other at)
    steps (SnapshotOrCleaner (Pick d)) next (none, at) =
        subst (λ (o : Option ℕ). Then (picking d) (if_free o (pick_turn d granted sh h r))) (sym at.steady.free)
        (go (granted || not (is_first d)) refl) where
          go : (grows : Bool) → (granted || not (is_first d)) ≡ grows
              → Then (picking d) (grown grows (picked_turn sh.book.deferred d sh h r) sh h r)
          go true e = pick_by d sh.book.deferred refl at
          go false e = pick_refused d next none at (no_growth granted (is_first d) e).1
    steps (SnapshotOrCleaner (LockPicked d picked)) next (slots, at) = lock_by d picked (owner_at sh picked.ino) refl next slots at
    steps (SnapshotOrCleaner (Release d picked)) next (slots, at) =
        let there = runs_inside v actor r runs in
        let later = released_shared g w rs is actor c events at.steady r others there runs d picked next in
        subst (λ (l : List ℕ). Then (SnapshotOrCleaner (Release d picked)) (end_turn l (Drains (one_more d)) later
        (with_erased picked.ino (released_part picked (cell_at sh picked.ino)) (with_released picked sh h)) r)) (sym slots)
        (release_ok d picked next at)
    steps other next at = absurd at

  -- ---- at first

  first_drain : Stage (at_first g w rs actor c) (begun (beginning c) w.shared c).next w.shared empty_hand (begun (beginning c) w.shared c)
  first_drain =
      let some : suc (most - 1) ≡ most = (let le = le-max_left 1 (min count DRAIN) in omega (arith, le)) in
      let all : min (suc (most - 1)) (length w.shared.book.deferred) ≡ total =
      ap (λ (n : ℕ). min n (length w.shared.book.deferred)) some
      ∙ ap (λ (ds : List Record). min most (length ds)) (sym (deferred_is g w rs is)) in (
        refl,
        record {
          steady = record { plain_is = refl; snaps_is = refl; free = is.uncommitted; tails = is.tails };
          comes = ap (λ (n : ℕ). released n s) all;
          counts = omega (arith, all);
          begins = λ none. refl;
        },
      )

-- THE LAW
pub drained_alone : (g : GeometryNumbers) (start : World) (records : List Record) (before : List Event) (actor : ℕ) (grants : List Bool)
    (last : Reply) (count : ℕ) → IsMadeAlone g start records before actor (call.SnapshotOrCleaner (on.Drain count)) grants last
    → IsSerialCall g start records before actor (call.SnapshotOrCleaner (on.Drain count)) grants last
drained_alone g start records before actor grants last count alone =
    let c = call.SnapshotOrCleaner (on.Drain count) in
    let w = world_then g start records before actor c grants last alone in
    let rs = records_then g start records before actor c grants last alone in
    let is = start_then g start records before actor c grants last alone in
    is_serial g start records before actor c grants last alone (Stage g w rs is actor count)
    (λ events granted r others runs at. steps g w rs is actor count events granted r others runs r.next refl at)
    (first_drain g w rs is actor count)
