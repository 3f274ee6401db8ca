-- Whatever events come, each inode number stands once in the pool, in a hand, or as a slot's that is in use.
use Rattle.std.proofs.Common.{◌≡◌, ◌≢◌, ℕ, ◌<◌, ◌≤◌, ◌++◌, ◌∙◌, Bool, true, false, List, [], ◌∷◌, Option, Some, None, ap, arith, if◌then◌else◌, length, nat_lt, refl, set, subst, sym}
use Rattle.std.specs.Prelude.{slice_index_or, unwrap_or}
use Rattle.std.specs.List.{AllByRecursion, flat_map}
use Rattle.std.proofs.lemmas.Bool.{le-ltb, ltb-false, ltb-true}
use Rattle.std.proofs.lemmas.Option.{none-some}
use Rattle.nv_alloc.specs.Numbers.{IsRising, has, put_by, times}
use Rattle.nv_alloc.proofs.Lists.{all_above, times-cons, times-yes}
use Rattle.nv_base.specs.declared.geometry.GeometryNumbers.{GeometryNumbers}
use Rattle.nv_calls.specs.Locked.{handles}
use Rattle.nv_calls.specs.declared.call.Call.{Call}
use Rattle.nv_machine.specs.Frame.{IsFramed, lent}
use Rattle.nv_machine.specs.Grown.{AreGrown, HasGrownBy}
use Rattle.nv_machine.specs.Hands.{AreNumbers, HandOf}
use Rattle.nv_machine.specs.Kept.{AreCleanable}
use Rattle.nv_machine.specs.Locks.{AreLocks, HoldsIts, held_at}
use Rattle.nv_machine.specs.Reads.{if_number, is_written, slots_in, slots_of, written_slots}
use Rattle.nv_machine.specs.Sequence.{Beginning, Looks, Locks, Numbers, Visits, beginning, begun, nothing_looked, started, Maintains}
use Rattle.nv_machine.specs.Step.{kind_turn, step, turned}
use Rattle.nv_machine.specs.World.{Actor, Append, ReturnNumber, Check, Close, Ends, Enter, Event, HandState, Lock, Moves, Next, Number, Open, Publish, Ready, Retire, Running, Shared, TakeBlocks, TakeLogPages, Turn, Waits, World, actor_at, cell_at, idle, owner_at, Make, SnapshotOrCleaner}
use Rattle.nv_machine.proofs.Occurrences.{set_times}
use Rattle.nv_machine.proofs.OverEvents.{begun_at, begun_in, event_by, set_one, turn_at}
use Rattle.nv_machine.proofs.StepFrames.{framed}
use Rattle.nv_machine.proofs.StepWork.{return_number_work, work, number_work}
use Rattle.nv_machine.proofs.WorkKeeps.{AfterTurn, turn_keeps}
use Rattle.nv_machine.proofs.Lists.{has_filter, has_later, self}
use Rattle.nv_machine.proofs.LocksHeld.{lent_cell, owner_is}
use Rattle.nv_machine.proofs.LocksOverEvents.{before}
use Rattle.nv_machine.proofs.Cleanable.{IsCleanable, cleanable}
use Rattle.nv_machine.proofs.CleanedCells.{cleaned_like}
use Rattle.nv_machine.proofs.BlockNumbers.{cleans_now, part_times}
use Rattle.nv_machine.proofs.PoolKnown.{HaveInodes, OnSeen, Sees, SeesOf, begun_by}
use Rattle.nv_machine.proofs.PoolSlots.{inos_of}
use Rattle.nv_machine.proofs.PoolSteps.{OnTally, turn_seen, turn_tally}
use Rattle.nv_machine.proofs.PoolTally.{loose, loose_by, loose_of, tally}
use Rattle.nv_machine.proofs.PoolTurns.{Standing}

-- ---- worlds

-- each number below so many stands once
abbrev pub StandOnce : ℕ → World → Type 0
StandOnce inodes w = (n : ℕ) → tally n w.shared (flat_map loose_by w.actors) ≡ (if nat_lt n inodes then 1 else 0)

pub record ArePooled (g : GeometryNumbers) (w : World) : Type 0 where
  pub once : StandOnce g.inodes w
  pub slots : length w.shared.cells ≡ g.inodes
  pub rising : IsRising w.shared.pool.numbers
  pub each : (actor : ℕ) → SeesOf (actor_at w actor).running w.shared (actor_at w actor).hand

-- ---- what another actor knows stays

module _ (s t : Shared) (h : HandState) (r : Running) (many : length t.cells ≡ length s.cells) where
  same_slots : r.slots ≡ slots_of s h.ino r.looked r.call → r.slots ≡ slots_of t h.ino r.looked r.call
  same_slots e = e ∙ ap (λ (n : ℕ). slots_in n (if_number h.ino ++ inos_of (handles r.looked r.call))) (sym many)

  same_inodes : (number : Option ℕ) → ((ino : ℕ) → has r.slots ino ≡ true → cell_at t ino ≡ cell_at s ino)
      → HaveInodes s number r.slots → HaveInodes t number r.slots
  same_inodes number same all ino there = rw (same ino there) (all ino there)

  their_sees : (k : Next) → ((ino : ℕ) → has (held_at k r.slots) ino ≡ true → cell_at t ino ≡ cell_at s ino) → Sees k s h r → Sees k t h r
  their_sees (Lock place) same e = same_slots e
  their_sees Check same e = same_slots e
  their_sees (TakeBlocks asked) same e = (same_inodes h.ino same e.0, e.1)
  their_sees (TakeLogPages asked) same e = (same_inodes h.ino same e.0, e.1)
  their_sees Ready same e = (same_inodes h.ino same e.0, e.1)
  their_sees Enter same e = (same_inodes h.ino same e.0, e.1, e.2)
  their_sees (Append place) same e = (same_inodes h.ino same e.0, e.1, e.2)
  their_sees Open same e = (same_inodes h.ino same e.0, e.1, e.2)
  their_sees (Publish place) same e = (same_inodes h.ino same e.0, e.1, e.2)
  their_sees Close same e = (same_inodes h.ino same e.0, e.1, e.2)
  their_sees (Retire place) same e = (
    e.0,
    λ ino there. rw (same ino (has_filter (is_written r.plan) r.slots ino (has_later place (written_slots r) ino there))) (e.1 ino there),
    e.2,
  )
  their_sees other same e = tt

-- the slots of another actor's call are not lent
their_own : (a b : ℕ) (s t : Shared) (slot : Option ℕ) (h : HandState) (running : Option Running) → b ≢ a
    → length t.cells ≡ length s.cells → ((ino : ℕ) → slot ≢ Some ino → cell_at t ino ≡ cell_at s ino)
    → ((ino : ℕ) → slot ≡ Some ino → owner_at s ino ≡ Some a) → HoldsIts s b running → SeesOf running s h → SeesOf running t h
their_own a b s t slot h None ne many cells own holds sees = tt
their_own a b s t slot h (Some r) ne many cells own holds sees =
    their_sees s t h r many r.next (λ ino there. cells ino (λ is.
    ne (same_some b a (sym (owner_is b (owner_at s ino) (holds.owners ino ∙ there)) ∙ own ino is)))) sees where
      same_some : (n m : ℕ) → Some n ≡ Some m → n ≡ m
      same_some n m e = ap (λ (o : Option ℕ). unwrap_or o 0) e

-- all actors, where one has another call
set_sees : (w : World) (actor : ℕ) (x : Actor) (t : Shared) (slot : Option ℕ) → actor < length w.actors → AreLocks w
    → length t.cells ≡ length w.shared.cells
    → ((ino : ℕ) → slot ≢ Some ino → cell_at t ino ≡ cell_at w.shared ino)
    → ((ino : ℕ) → slot ≡ Some ino → owner_at w.shared ino ≡ Some actor)
    → SeesOf x.running t x.hand → ((b : ℕ) → SeesOf (actor_at w b).running w.shared (actor_at w b).hand)
    → (b : ℕ) → SeesOf (slice_index_or (set w.actors actor x) b idle).running t (slice_index_or (set w.actors actor x) b idle).hand
set_sees w actor x t slot there locks many cells own mine all =
    set_one (λ (b : ℕ) (s : Shared) (y : Actor). SeesOf y.running s y.hand) w actor x t there mine
    (λ b ne. their_own actor b w.shared t slot (actor_at w b).hand (actor_at w b).running ne many cells own (locks.each b) (all b))

-- ---- the count of a world

pub own_loose : (w : World) (actor n : ℕ) → times n (loose_by (actor_at w actor)) ≤ times n (flat_map loose_by w.actors)
own_loose w actor n = part_times loose_by n w.actors actor idle refl

new_once : (g : GeometryNumbers) (w : World) (actor : ℕ) (x : Actor) (t : Shared) → actor < length w.actors
    → ((n : ℕ) → tally n t (loose_by x) ≡ tally n w.shared (loose_by (actor_at w actor))) → StandOnce g.inodes w
    → StandOnce g.inodes (record w { shared = t; actors = set w.actors actor x })
new_once g w actor x t there same once n =
    let e = set_times loose_by n w.actors actor x idle (λ past. absurd (omega (arith, past, there))) in
    let all : tally n t (flat_map loose_by (set w.actors actor x)) ≡ tally n w.shared (flat_map loose_by w.actors) =
    omega (arith, e, same n, own_loose w actor n) in
    all ∙ once n

few_of : (g : GeometryNumbers) (w : World) (actor n : ℕ) → StandOnce g.inodes w → tally n w.shared (loose_by (actor_at w actor)) ≤ 1
few_of g w actor n once = go (nat_lt n g.inodes) (once n) where
  go : (b : Bool) → tally n w.shared (flat_map loose_by w.actors) ≡ (if b then 1 else 0)
      → tally n w.shared (loose_by (actor_at w actor)) ≤ 1
  go true e = omega (arith, e, own_loose w actor n)
  go false e = omega (arith, e, own_loose w actor n)

pub past_of : (g : GeometryNumbers) (w : World) (actor n : ℕ) → StandOnce g.inodes w → g.inodes ≤ n
    → tally n w.shared (loose_by (actor_at w actor)) ≡ 0
past_of g w actor n once past =
    let none : nat_lt n g.inodes ≡ false = le-ltb n g.inodes past in
    let all : tally n w.shared (flat_map loose_by w.actors) ≡ 0 = once n ∙ (rw none refl) in
    omega (arith, all, own_loose w actor n)

-- ---- the pool rises

all_put : (P : ℕ → Type 0) (n : ℕ) (xs : List ℕ) → P n → AllByRecursion P xs → AllByRecursion P (put_by (λ m. m) n xs)
all_put P n [] new all = (new, tt)
all_put P n (x ∷ xs) new all = go (nat_lt n x) (all_put P n xs new all.1) where
  go : (b : Bool) → AllByRecursion P (put_by (λ m. m) n xs)
      → AllByRecursion P (if b then n ∷ x ∷ xs else x ∷ put_by (λ m. m) n xs)
  go true more = (new, all)
  go false more = (all.0, more)

rising_put : (n : ℕ) (xs : List ℕ) → times n xs ≡ 0 → IsRising xs → IsRising (put_by (λ m. m) n xs)
rising_put n [] none rising = (tt, tt)
rising_put n (x ∷ xs) none rising =
    go (nat_lt n x) refl (rising_put n xs (omega (arith, none, times-cons n x xs)) rising.1) where
      other : x ≢ n
      other is = absurd (omega (arith, none, times-yes n x xs (let e = self n in rw is e)))

      go : (b : Bool) → nat_lt n x ≡ b → IsRising (put_by (λ m. m) n xs)
          → IsRising (if b then n ∷ x ∷ xs else x ∷ put_by (λ m. m) n xs)
      go true q more =
          let low = ltb-true n x q in
          ((low, all_above n x xs (omega (arith, low)) rising.0), rising)
      go false q more =
          let high = ltb-false n x q in
          (all_put (λ m. x < m) n xs (omega (arith, high, other)) rising.0, more)

number_rising : (numbers : List ℕ) (s : Shared) (h : HandState) → s.pool.numbers ≡ numbers → IsRising s.pool.numbers
    → IsRising (number_work numbers s h).shared.pool.numbers
number_rising [] s h is rising = rising
number_rising (ino ∷ numbers) s h is rising = (subst IsRising is rising).1

back_rising : (number : Option ℕ) (s : Shared) (h : HandState) → ((n : ℕ) → number ≡ Some n → times n s.pool.numbers ≡ 0)
    → IsRising s.pool.numbers → IsRising (return_number_work number s h).shared.pool.numbers
back_rising None s h none rising = rising
back_rising (Some ino) s h none rising = rising_put ino s.pool.numbers (none ino refl) rising

work_rising : (g : GeometryNumbers) (k : Next) (block a : ℕ) (s : Shared) (h : HandState) (r : Running) → Standing g k a s h r
    → IsRising s.pool.numbers → IsRising (work k block a s h r).shared.pool.numbers
work_rising g Number block a s h r st rising = number_rising s.pool.numbers s h refl rising
work_rising g (SnapshotOrCleaner Make) block a s h r st rising = rising
work_rising g ReturnNumber block a s h r st rising = back_rising h.ino s h (λ n is.
    let few = subst (λ (o : Option ℕ). tally n s (loose ReturnNumber (written_slots r) o) ≤ 1) is (st.few n) in
    let one = times-yes n n [] (self n) in
    omega (arith, few, one)) rising
work_rising g other block a s h r st rising = rising

-- ---- a Go

pub standing : (g : GeometryNumbers) (w : World) (actor : ℕ) (r : Running) → AreLocks w → AreNumbers g w → AreGrown w → ArePooled g w
    → (actor_at w actor).running ≡ Some r → Standing g r.next actor w.shared (actor_at w actor).hand r
standing g w actor r locks all grown pooled is =
    let h = (actor_at w actor).hand in
    let own : HandOf g h (Some r) = subst (λ (o : Option Running). HandOf g h o) is (all.hands actor) in
    record {
      before = before w actor r locks is;
      hand = own.0;
      sees = subst (λ (o : Option Running). SeesOf o w.shared h) is (pooled.each actor);
      grown = subst (λ (o : Option Running). HasGrownBy o w.shared actor) is (grown.each actor);
      within = λ ino. (all.cells ino).within;
      few = λ n. subst (λ (o : Option Running). tally n w.shared (loose_of o h.ino) ≤ 1) is (few_of g w actor n pooled.once);
      past = λ n ge. subst (λ (o : Option Running). tally n w.shared (loose_of o h.ino) ≡ 0) is
          (past_of g w actor n pooled.once (omega (arith, ge, pooled.slots)));
    }

-- what is known of a turn
record IsKnownTurn (g : GeometryNumbers) (w : World) (actor : ℕ) (r : Running) (t : Turn) : Type 0 where
  seen : OnSeen (begun_by r.next (written_slots r)) t
  tallied : (n : ℕ) → OnTally n (tally n w.shared (loose_by (actor_at w actor))) t
  rising : AfterTurn (λ (s : Shared) (h : HandState). IsRising s.pool.numbers) t
  frame : IsFramed (lent r.next (length w.shared.lists) actor r) w.shared t

known : (g : GeometryNumbers) (w : World) (actor block : ℕ) (granted : Bool) (r : Running) → AreLocks w → AreNumbers g w → AreGrown w
    → ArePooled g w → (actor_at w actor).running ≡ Some r → IsCleanable r.next block w.shared (actor_at w actor).hand r
    → IsKnownTurn g w actor r (kind_turn r.next block actor granted w.shared (actor_at w actor).hand r)
known g w actor block granted r locks all grown pooled is ready =
    let s = w.shared in
    let h = (actor_at w actor).hand in
    let st = standing g w actor r locks all grown pooled is in
    record {
      seen = turn_seen g block actor granted s h r r.next st;
      tallied = λ n. subst (λ (o : Option Running). OnTally n (tally n s (loose_of o h.ino)) (kind_turn r.next block actor granted s h r))
          (sym is) (turn_tally g r.next n block actor granted s h r st
          (λ cleaning. cleaned_like _ _ _ _ (cleans_now w actor r r.next block refl locks all.tails is st.before ready cleaning)));
      rising = turn_keeps (λ (t : Shared) (x : HandState). IsRising t.pool.numbers) r.next block actor granted s h r pooled.rising
          (work_rising g r.next block actor s h r st pooled.rising);
      frame = framed r.next block actor granted s h r;
    }

turned_pooled : (g : GeometryNumbers) (w : World) (actor : ℕ) (r : Running) (t : Turn) → actor < length w.actors → AreLocks w
    → ArePooled g w
    → ((ino : ℕ) → (lent r.next (length w.shared.lists) actor r).cell ≡ Some ino → owner_at w.shared ino ≡ Some actor)
    → IsKnownTurn g w actor r t → ArePooled g (turned t actor w).world
turned_pooled g w actor r (Moves t h q) there locks pooled own k = record {
  once = new_once g w actor (record { hand = h; running = Some q }) t there k.tallied pooled.once;
  slots = k.frame.slots ∙ pooled.slots;
  rising = k.rising;
  each = set_sees w actor (record { hand = h; running = Some q }) t (lent r.next (length w.shared.lists) actor r).cell there locks
      k.frame.slots k.frame.cells own k.seen.0 pooled.each;
}
turned_pooled g w actor r Waits there locks pooled own k = pooled
turned_pooled g w actor r (Ends result t h) there locks pooled own k = record {
  once = new_once g w actor (record { hand = h; running = None }) t there k.tallied pooled.once;
  slots = k.frame.slots ∙ pooled.slots;
  rising = k.rising;
  each = set_sees w actor (record { hand = h; running = None }) t (lent r.next (length w.shared.lists) actor r).cell there locks
      k.frame.slots k.frame.cells own tt pooled.each;
}

-- ---- a Start

none_in_hand : (running : Option Running) → loose_of running None ≡ []
none_in_hand None = refl
none_in_hand (Some r) = refl

begun_sees : (b : Beginning) (s : Shared) (c : Call) (h : HandState) → h.ino ≡ None → SeesOf (Some (begun b s c)) s h
begun_sees Numbers s c h none = tt
begun_sees Looks s c h none = tt
begun_sees Visits s c h none = tt
begun_sees (Maintains what) s c h none = tt
begun_sees Locks s c h none = go (nat_lt 0 (length slots)) where
  slots : List ℕ
  slots = slots_of s None nothing_looked c

  same : slots ≡ slots_of s h.ino nothing_looked c
  same = ap (λ (o : Option ℕ). slots_of s o nothing_looked c) (sym none)

  go : (lock : Bool) → SeesOf (Some (started c (if lock then Lock 0 else Check) slots)) s h
  go true = same
  go false = same

start_pooled : (g : GeometryNumbers) (w : World) → AreLocks w → AreNumbers g w → ArePooled g w → (actor : ℕ) (c : Call) → actor < length w.actors
    → (actor_at w actor).running ≡ None → ArePooled g (begun_in w actor c)
start_pooled g w locks all pooled actor c there is =
    let h = (actor_at w actor).hand in
    let x : Actor = begun_at w actor c in
    let empty : HandOf g h None = subst (λ (o : Option Running). HandOf g h o) is (all.hands actor) in
    let none : h.ino ≡ None = ap (λ (y : HandState). y.ino) empty in
    let new = ap (loose_of x.running) none ∙ none_in_hand x.running in
    let old = ap (loose_of (actor_at w actor).running) none ∙ none_in_hand (actor_at w actor).running in
    record {
      once = new_once g w actor x w.shared there (λ n. ap (tally n w.shared) (new ∙ sym old)) pooled.once;
      slots = pooled.slots;
      rising = pooled.rising;
      each = set_sees w actor x w.shared None there locks refl (λ ino ne. refl) (λ ino here. absurd (none-some ino here))
          (begun_sees (beginning c) w.shared c h none) pooled.each;
    }

-- ---- events

pub event_pooled : (g : GeometryNumbers) (w : World) (e : Event) → AreLocks w → AreNumbers g w → AreGrown w → AreCleanable w
    → ArePooled g w → ArePooled g (step w e).world
event_pooled g w e locks all grown are pooled = event_by (ArePooled g) w pooled e (start_pooled g w locks all pooled)
    (λ actor granted r there is. turned_pooled g w actor r (turn_at w actor granted r) there locks pooled
    (λ ino here. lent_cell r.next (length w.shared.lists) actor w.shared r (before w actor r locks is) ino here)
    (known g w actor w.numbers.block granted r locks all grown pooled is (cleanable w actor r are is)))
