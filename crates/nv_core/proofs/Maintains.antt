-- What the laws of the machine say of the steps of calls on snapshots: pins are those of the shows under way, a living
-- snapshot has all its pages, a picked record's part is kept in a cell that stands still, and a cell that is to be
-- cleaned stands still too, with no killed part.
use Rattle.std.proofs.Common.{◌≡◌, ℕ, zero, suc, ◌<◌, ◌≤◌, ◌++◌, ◌∙◌, Bool, true, false, cond, List, [], ◌∷◌, Option, Some, None, IsSome, ap, arith, inl, inr, length, refl, slice_get, slice_index_or, subst, sym}
use Rattle.std.specs.Prelude.{count_by, option_and_then}
use Rattle.std.specs.List.{AllByRecursion, Contains, flat_map, list_any}
use Rattle.std.specs.Option.{ForSome, IsSomeAnd}
use Rattle.std.proofs.lemmas.Bool.{cases_lt}
use Rattle.std.proofs.lemmas.List.{get_or_past}
use Rattle.std.proofs.lemmas.List.Sums.{count_by-le-length}
use Rattle.std.proofs.lemmas.Option.{slice_get-get_or}
use Rattle.nv_base.specs.declared.geometry.GeometryNumbers.{GeometryNumbers}
use Rattle.nv_base.specs.declared.limits.TheConstants.{PINS}
use Rattle.nv_book.specs.Listed.{all_records}
use Rattle.nv_book.specs.declared.record.Record.{Record}
use Rattle.nv_calls.specs.Prepared.{IsStill}
use Rattle.nv_calls.specs.Retiring.{name_of}
use Rattle.nv_cell.proofs.Runs.{count_cons}
use Rattle.nv_cell.proofs.ValuesNow.{IsLog-take}
use Rattle.nv_cell.specs.Cell.{CellState, log_of}
use Rattle.nv_cell.specs.Marks.{is_killed, mark_at}
use Rattle.nv_cell.specs.Named.{number_named}
use Rattle.nv_cell.specs.declared.killed.KilledPart.{KilledPart}
use Rattle.nv_cell.specs.declared.mark.Mark.{Mark}
use Rattle.nv_cell.specs.declared.mark.Mark.TheVariants.{Current, Kept, Killed, Out}
use Rattle.nv_entry.specs.Log.{IsLog}
use Rattle.nv_epoch.proofs.Pins.{lives-from_pins}
use Rattle.nv_epoch.specs.SnapList.{ids, pins_of}
use Rattle.nv_machine.specs.Frame.{lent_on}
use Rattle.nv_machine.specs.Held.{killed_by_call, killed_in, killed_slots, parts_for, picked_at, picked_by_actor, picked_by_call}
use Rattle.nv_machine.specs.Reads.{written_slots}
use Rattle.nv_machine.specs.Reading.{ArePins, pins_at, pins_by_call, shows_of}
use Rattle.nv_machine.specs.Recorded.{IsOfPair, is_marked_kept, is_record_of}
use Rattle.nv_machine.specs.Starts.{IsStart}
use Rattle.nv_machine.specs.Step.{after}
use Rattle.nv_machine.specs.World.{Actor, Compact, Draining, Drop, Event, Fresh, HandState, PlanCleaning, LockCleaned, LockPicked, Make, Next, Pick, Pin, Release, Running, Show, SnapshotOrCleanerStep, SnapshotOrCleaner, Unlink, Unpin, World, actor_at, cell_at, idle, owner_at}
use Rattle.nv_machine.proofs.EachElement.{all_back}
use Rattle.nv_machine.proofs.OverEvents.{runs_inside}
use Rattle.nv_machine.proofs.FiledLists.{count, count_append}
use Rattle.nv_machine.proofs.FiledMarks.{bit_is, bit_none, is_killed_on}
use Rattle.nv_machine.proofs.Generations.{inodes_early}
use Rattle.nv_machine.proofs.Lists.{self}
use Rattle.nv_machine.proofs.LocksHeld.{lent_cell}
use Rattle.nv_machine.proofs.BlockNumbers.{lent_inside}
use Rattle.nv_cell.proofs.NamedPairs.{its_number}
use Rattle.nv_machine.proofs.PartsFor.{own_all, own_count}
use Rattle.nv_machine.proofs.Pins.{pins_of_shows}
use Rattle.nv_machine.proofs.PoolCells.{gone_inode}
use Rattle.nv_machine.proofs.PoolRuns.{standing}
use Rattle.nv_machine.proofs.PoolTurns.{Standing}
use Rattle.nv_machine.proofs.KilledByOthers.{none_locked}
use Rattle.nv_machine.proofs.EveryWorld.{all_marked, all_numbers, all_parts, all_pooled, reached}
use Rattle.nv_machine.proofs.WorldFacts.{recorded_once, recorded_pairs}
use Rattle.nv_machine.proofs.WorldSizes.{of_numbers}
use Rattle.nv_core.proofs.GivenOn.{HasCleanable, HasOn, HasPicked}
use Rattle.nv_core.proofs.HeldPages.{none_out_at}

-- ---- one of some

at_most_one : (b : Bool) → cond b 1 0 ≤ 1
at_most_one true = omega arith
at_most_one false = omega arith

-- that passes a test
some_passes : {X : Type 0} (p : X → Bool) (xs : List X) (i : ℕ) (d : X) → i < length xs → p (slice_index_or xs i d) ≡ true
    → 0 < count_by p xs
some_passes p [] i d lt e = absurd (omega (arith, lt))
some_passes p (x ∷ xs) zero d lt e = omega (arith, count_cons p x xs, ap {B = ℕ} (λ (b : Bool). cond b 1 0) e)
some_passes p (x ∷ xs) (suc i) d lt e = omega (arith, count_cons p x xs, some_passes p xs i d (omega (arith, lt)) e)

-- and one that fails it
some_fails : {X : Type 0} (p : X → Bool) (xs : List X) (i : ℕ) (d : X) → i < length xs → p (slice_index_or xs i d) ≡ false
    → count_by p xs < length xs
some_fails p [] i d lt e = absurd (omega (arith, lt))
some_fails p (x ∷ xs) zero d lt e =
    omega (arith, count_cons p x xs, ap {B = ℕ} (λ (b : Bool). cond b 1 0) e, count_by-le-length p xs)
some_fails p (x ∷ xs) (suc i) d lt e =
    omega (arith, count_cons p x xs, at_most_one (p x), some_fails p xs i d (omega (arith, lt)) e)

-- ---- marks

-- what is marked kept is a part
kept_there : (marks : List Mark) (n : ℕ) → is_marked_kept (mark_at marks n) ≡ true → slice_get marks n ≡ Some Kept
kept_there marks n kept = elim (cases_lt n (length marks)) [
  | inl lt ↦ slice_get-get_or marks n Out lt ∙ ap (λ (m : Mark). Some m) (go (mark_at marks n) kept)
  | inr ge ↦ absurd (out (sym (ap is_marked_kept (get_or_past marks n Out ge)) ∙ kept))
] where
  out : false ≡ true → ⊥
  out e = cc

  go : (m : Mark) → is_marked_kept m ≡ true → m ≡ Kept
  go Kept e = refl
  go Current e = cc
  go Killed e = cc
  go Out e = cc

-- where no mark is that of a killed part
none_marked : (marks : List Mark) → ((n : ℕ) → is_killed (mark_at marks n) ≡ false) → list_any is_killed marks ≡ false
none_marked [] none = refl
none_marked (mark ∷ marks) none = rw (none 0, none_marked marks (λ n. none (suc n))) refl

-- ---- a world that events lead to

module _ (g : GeometryNumbers) (start : World) (records : List Record) (events : List Event) (is_start : IsStart g start records) where
  abbrev w : World
  w = after start events

  abbrev cell : ℕ → CellState
  cell ino = cell_at w.shared ino

  -- ---- pins

  module _ (actor : ℕ) (q : Running) (is : (actor_at w actor).running ≡ Some q) (snapshot : ℕ) where
    its_pins : (b : Bool) → pins_at snapshot q.next ≡ b → pins_by_call snapshot (actor_at w actor).running ≡ b
    its_pins b e = ap (pins_by_call snapshot) is ∙ e

    some_show : pins_at snapshot q.next ≡ true → 0 < shows_of snapshot w
    some_show e =
        some_passes (λ (a : Actor). pins_by_call snapshot a.running) w.actors actor idle (runs_inside w actor q is) (its_pins true e)

    pin_fewer : pins_at snapshot q.next ≡ false → ForSome (pins_of w.shared.book.snaps snapshot) (λ pins. pins < PINS)
    pin_fewer e pins has_it =
        let are : pins ≡ shows_of snapshot w =
        subst (ArePins (shows_of snapshot w)) has_it (pins_of_shows g start records events snapshot is_start) in
        let fewer = some_fails (λ (a : Actor). pins_by_call snapshot a.running) w.actors actor idle (runs_inside w actor q is)
        (its_pins false e) in
        let many = (of_numbers g start records events is_start).actors in
        let fit = is_start.limits.actors_fit in
        omega (arith, are, fewer, many, fit)

    has_pin : pins_at snapshot q.next ≡ true → IsSomeAnd (pins_of w.shared.book.snaps snapshot) (λ pins. 0 < pins)
    has_pin e = go (pins_of w.shared.book.snaps snapshot) (pins_of_shows g start records events snapshot is_start) where
      go : (o : Option ℕ) → ArePins (shows_of snapshot w) o → IsSomeAnd o (λ pins. 0 < pins)
      go None are = absurd (omega (arith, are, some_show e))
      go (Some pins) are = omega (arith, are, some_show e)

    lives : pins_at snapshot q.next ≡ true → Contains (ids w.shared.book.snaps) snapshot
    lives e = lives-from_pins w.shared.book.snaps.living snapshot (go (pins_of w.shared.book.snaps snapshot) (has_pin e)) where
      go : (o : Option ℕ) → IsSomeAnd o (λ pins. 0 < pins) → IsSome o
      go None some = absurd some
      go (Some pins) some = refl

  log_is : (ino : ℕ) → IsLog (log_of (cell ino))
  log_is ino = IsLog-take (cell ino).chain.tail (cell ino).chain.entries ((reached g start records events is_start).order.logs ino).ordered

  -- ---- the cell that a step is lent

  module _ (actor : ℕ) (q : Running) (is : (actor_at w actor).running ≡ Some q) (step : SnapshotOrCleanerStep)
      (e : q.next ≡ SnapshotOrCleaner step) (ino : ℕ) (its : (lent_on step (length w.shared.lists) actor).cell ≡ Some ino) where
    abbrev h : HandState
    h = (actor_at w actor).hand

    stands : Standing g (SnapshotOrCleaner step) actor w.shared h q
    stands =
        let known = reached g start records events is_start in
        subst (λ (k : Next). Standing g k actor w.shared h q) e
        (standing g w actor q known.locks (all_numbers g start records events is_start) known.grown
        (all_pooled g start records events is_start) is)

    low : ino < length w.shared.cells
    low = lent_inside (SnapshotOrCleaner step) actor w.shared q stands.before ino its

    owned : owner_at w.shared ino ≡ Some actor
    owned = lent_cell (SnapshotOrCleaner step) (length w.shared.lists) actor w.shared q stands.before ino its

    still : IsStill g.block (cell ino)
    still = record {
      size = (all_parts g start records events is_start ino low).size;
      settled = stands.grown.tails ino owned refl;
    }

    -- its call has no killed parts, and no other call has any of this slot
    none : killed_in w ino ≡ []
    none =
        none_locked w actor ino (reached g start records events is_start).locks owned
        (ap (λ (o : Option Running). killed_by_call o h ino) is
        ∙ ap (λ (k : Next). parts_for (killed_slots k (written_slots q)) h.killed ino) e)

    none_at : (n : ℕ) → is_killed (mark_at (cell ino).marks n) ≡ false
    none_at n =
        let marked = (all_marked g start records events is_start).cells ino in
        bit_none (is_killed (mark_at (cell ino).marks n))
        (sym (marked.killed_are n) ∙ ap (λ (ks : List KilledPart). count (is_killed_on (log_of (cell ino)) n) ks) none)

    has_cleanable : HasCleanable g w.shared ino
    has_cleanable = record {
      still = still;
      retired = none_marked (cell ino).marks none_at;
    }

  -- ---- a picked record

  module _ (actor : ℕ) (q : Running) (is : (actor_at w actor).running ≡ Some q) (draining : Draining) (picked : Record)
      (e : q.next ≡ SnapshotOrCleaner (Release draining picked)) where
    has_it : picked_by_actor (actor_at w actor) ≡ picked ∷ []
    has_it = ap picked_by_call is ∙ ap picked_at e

    -- the pair of the record
    of_pair : IsOfPair w picked
    of_pair =
        let book = w.shared.book in
        let rest = all_back (IsOfPair w) (all_records book.manifests) _ (recorded_pairs g start records events is_start) in
        let all = all_back (IsOfPair w) book.deferred (flat_map picked_by_actor w.actors) rest in
        (subst (AllByRecursion (IsOfPair w)) has_it
        (own_all picked_by_actor (IsOfPair w) w.actors actor (runs_inside w actor q is) all)).0

    number_is : number_named (log_of (cell picked.ino)) (name_of picked) ≡ Some of_pair.n
    number_is =
        ap (number_named (log_of (cell picked.ino))) (sym of_pair.name)
        ∙ its_number (cell picked.ino).block (log_of (cell picked.ino)) (log_is picked.ino) of_pair.n of_pair.pair of_pair.is

    own_record : is_record_of (cell picked.ino) picked.ino of_pair.n picked ≡ true
    own_record = rw (self picked.ino, number_is) (self of_pair.n)

    -- it is one of the records of its part
    recorded : is_marked_kept (mark_at (cell picked.ino).marks of_pair.n) ≡ true
    recorded =
        let book = w.shared.book in
        let p : Record → Bool = is_record_of (cell picked.ino) picked.ino of_pair.n in
        let own : count p (picked_by_actor (actor_at w actor)) ≡ 1 =
        ap (λ (ds : List Record). count p ds) has_it ∙ ap (λ (b : Bool). length (cond b (picked ∷ []) [])) own_record in
        bit_is (is_marked_kept (mark_at (cell picked.ino).marks of_pair.n)) (omega (
          arith,
          own,
          own_count picked_by_actor p w.actors actor (runs_inside w actor q is),
          count_append p (all_records book.manifests) (book.deferred ++ flat_map picked_by_actor w.actors),
          count_append p book.deferred (flat_map picked_by_actor w.actors),
          recorded_once g start records events is_start picked.ino of_pair.n,
        ))

    has_picked : HasPicked g w.shared picked
    has_picked = record {
      kept = ap (option_and_then (λ n. slice_get (cell picked.ino).marks n)) number_is
          ∙ kept_there (cell picked.ino).marks of_pair.n recorded;
      still = still actor q is (Release draining picked) e picked.ino refl;
      generation = λ gone. inodes_early g start records events picked.ino is_start (gone_inode (cell picked.ino) gone);
    }

  -- ---- every kind

  pub maintain : (actor : ℕ) (q : Running) → (actor_at w actor).running ≡ Some q → (step : SnapshotOrCleanerStep) → q.next ≡ SnapshotOrCleaner step
      → HasOn g w.shared step
  maintain actor q is Make e = tt
  maintain actor q is (Drop snapshot) e = tt
  maintain actor q is (Pin snapshot) e = pin_fewer actor q is snapshot (ap (pins_at snapshot) e)
  maintain actor q is (Show snapshot showing) e =
      none_out_at g start records events is_start snapshot (lives actor q is snapshot (ap (pins_at snapshot) e ∙ self snapshot))
  maintain actor q is (Unpin snapshot seen) e = has_pin actor q is snapshot (ap (pins_at snapshot) e ∙ self snapshot)
  maintain actor q is (Pick draining) e = tt
  maintain actor q is (LockPicked draining picked) e = tt
  maintain actor q is (LockCleaned manner ino) e = tt
  maintain actor q is (PlanCleaning manner slot) e = tt
  maintain actor q is (Fresh ino asked wanted) e = tt
  maintain actor q is (Release draining picked) e = has_picked actor q is draining picked e
  maintain actor q is (Unlink ino) e = has_cleanable actor q is (Unlink ino) e ino refl
  maintain actor q is (Compact ino) e = has_cleanable actor q is (Compact ino) e ino refl
