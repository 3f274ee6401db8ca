-- What holds of the numbers of each world, over events.
use Rattle.std.proofs.Common.{Bool, List, None, Option, Some, [], ap, arith, false, get_or, get_or-set_other, get_or-set_same, if◌then◌else◌, inl, inr, length, nat_lt, refl, set, subst, suc, sym, true, zero, ℕ, ◌+◌, ◌<◌, ◌==◌, ◌∙◌, ◌∷◌, ◌≡◌, ◌≢◌, ◌≤◌, ◌⊎◌}
use Rattle.std.specs.Prelude.{slice_index_or, unwrap_or}
use Rattle.std.specs.List.{flat_map}
use Rattle.std.proofs.lemmas.Bool.{cases_lt, eqb-false, eqb-true, false≢true, le-ltb}
use Rattle.std.proofs.lemmas.Option.{none-some}
use Rattle.nv_alloc.specs.Block.{BlockValue, numbers_of}
use Rattle.nv_alloc.specs.Numbers.{IsEachOnce, has, times}
use Rattle.nv_alloc.proofs.Lists.{times-append, times-cons, times-yes}
use Rattle.nv_base.specs.declared.geometry.GeometryNumbers.{GeometryNumbers}
use Rattle.nv_log.specs.Chain.{ChainState}
use Rattle.nv_machine.specs.Frame.{lent}
use Rattle.nv_machine.specs.Hands.{AreNumbers, AreTailsLast, IsParted, unpublished_at, unpublished_by}
use Rattle.nv_machine.specs.Kinds.{blocks_in}
use Rattle.nv_machine.specs.Locks.{AreLocks}
use Rattle.nv_machine.specs.Numbers.{all_blocks, free_of, held_by_actor, used_blocks}
use Rattle.nv_machine.specs.Reads.{written_slots}
use Rattle.nv_machine.specs.World.{Actor, Give, HandState, Next, Running, Shared, World, actor_at, cell_at, idle, no_list, owner_at}
use Rattle.nv_machine.proofs.Cleanable.{IsCleanable}
use Rattle.nv_machine.proofs.CleanedCells.{Cleans, cleaned_numbers, cleaned_parted}
use Rattle.nv_machine.proofs.CleanSteps.{clean_sized, cleans_own, cleans_published, stays_at}
use Rattle.nv_cell.specs.Retained.{retention_by_marks}
use Rattle.nv_cell.specs.Cell.{stored_in, of_part}
use Rattle.nv_machine.proofs.BlockCounts.{CanCount, LeavesNone, count}
use Rattle.nv_machine.proofs.Occurrences.{set_times}
use Rattle.nv_machine.proofs.OverEvents.{set_one}
use Rattle.nv_machine.proofs.HandsAfterSteps.{GoesHome}
use Rattle.nv_machine.proofs.HandsInCommits.{CanGive}
use Rattle.nv_machine.proofs.Homes.{AreBelow}
use Rattle.nv_machine.proofs.Lists.{self}
use Rattle.nv_machine.proofs.LocksHeld.{Before, lent_cell}
use Rattle.nv_machine.proofs.SoundWorlds.{IsSound, all_sized}
use Rattle.nv_machine.proofs.LogTails.{IsTailLast, erased_none, others_published}
use Rattle.nv_machine.proofs.CellChanges.{clean_cell, clean_slot, is_clean, lent_clean, is_removal, is_removed, lent_inside_own, lent_removal, removal, removes_published}

-- ---- how often a number stands

-- in one part of all
pub part_times : {X : Type 0} (f : X → List ℕ) (n : ℕ) (xs : List X) (i : ℕ) (d : X) → times n (f d) ≡ 0
    → times n (f (get_or xs i d)) ≤ times n (flat_map f xs)
part_times f n [] i d none = omega (arith, none)
part_times f n (x ∷ xs) zero d none = omega (arith, times-append n (f x) (flat_map f xs))
part_times f n (x ∷ xs) (suc i) d none = omega (arith, times-append n (f x) (flat_map f xs), part_times f n xs i d none)

pub all_times : (n : ℕ) (w : World)
    → times n (all_blocks w) ≡ times n (flat_map free_of w.shared.lists) + times n (flat_map stored_in w.shared.cells)
    + times n (flat_map held_by_actor w.actors)
all_times n w = omega (
  arith,
  times-append n (flat_map free_of w.shared.lists) (used_blocks w),
  times-append n (flat_map stored_in w.shared.cells) (flat_map held_by_actor w.actors),
)

-- in what is shared and one hand
count_few : (n : ℕ) (w : World) (actor : ℕ) → count n w.shared (actor_at w actor).hand ≤ times n (all_blocks w)
count_few n w actor = omega (arith, all_times n w, part_times held_by_actor n w.actors actor idle refl)

-- where each number below some stands once, what stands at all is below
pub each_below : (many : ℕ) (bs : List BlockValue) → ((n : ℕ) → many ≤ n → times n (numbers_of bs) ≡ 0) → AreBelow many bs
each_below many [] h = tt
each_below many (b ∷ bs) h = (
  elim (cases_lt b.number many) [
    | inl lt ↦ lt
    | inr ge ↦ absurd (omega (arith, h b.number ge, times-yes b.number b.number (numbers_of bs) (self b.number)))
  ],
  each_below many bs (λ n le. omega (arith, h n le, times-cons n b.number (numbers_of bs))),
)

pub once_below : (g : GeometryNumbers) (w : World) (n : ℕ) → IsEachOnce g.blocks (all_blocks w) → g.blocks ≤ n → times n (all_blocks w) ≡ 0
once_below g w n once le = once n ∙ (let e : nat_lt n g.blocks ≡ false = le-ltb n g.blocks le in rw e refl)

once_few : (g : GeometryNumbers) (w : World) (n : ℕ) → IsEachOnce g.blocks (all_blocks w) → times n (all_blocks w) ≤ 1
once_few g w n once = go (nat_lt n g.blocks) (once n) where
  go : (b : Bool) → times n (all_blocks w) ≡ (if b then 1 else 0) → times n (all_blocks w) ≤ 1
  go true e = omega (arith, e)
  go false e = omega (arith, e)

-- ---- what a turn needs

-- the cell that an actor is lent, and that no other has appended to its log
pub lent_inside : (k : Next) (a : ℕ) (s : Shared) (r : Running) → Before a s k r → (ino : ℕ) → (lent k (length s.lists) a r).cell ≡ Some ino
    → ino < length s.cells
lent_inside k a s r b ino is = (lent_inside_own k a s r b ino is).0

same_actor : (a b : ℕ) (P : ℕ → Type 0) → P a → (b ≢ a → P b) → P b
same_actor a b P own other = go (a == b) refl where
  go : (c : Bool) → (a == b) ≡ c → P b
  go true e = subst P (eqb-true a b e) own
  go false e = other (λ is. eqb-false a b e (sym is))

-- of the slot that is lent all others have published, and so it is settled where its own actor has
pub lent_settled : (w : World) (actor ino : ℕ) → AreLocks w → AreTailsLast w → owner_at w.shared ino ≡ Some actor
    → has (unpublished_by (actor_at w actor).running) ino ≡ false → IsTailLast (cell_at w.shared ino)
lent_settled w actor ino locks tails own mine =
    tails ino (λ b. same_actor actor b (λ c. has (unpublished_by (actor_at w c).running) ino ≡ false) mine
    (λ ne. others_published actor b ino w.shared (actor_at w b).running ne own (locks.each b)))

-- a step that cleans is lent a cell that ends at its tail
module _ (w : World) (actor : ℕ) (r : Running) (k : Next) (block : ℕ) (next : r.next ≡ k) (locks : AreLocks w) (tails : AreTailsLast w)
    (is : (actor_at w actor).running ≡ Some r) (b : Before actor w.shared k r) where
  abbrev slot : ℕ
  slot = clean_slot k

  clean_lent : is_clean k ≡ true → (slot < length w.shared.cells) × (owner_at w.shared slot ≡ Some actor)
  clean_lent cleaning = lent_inside_own k actor w.shared r b slot (lent_clean k (length w.shared.lists) actor r cleaning)

  pub clean_settled : is_clean k ≡ true → IsTailLast (cell_at w.shared slot)
  clean_settled cleaning =
      lent_settled w actor slot locks tails (clean_lent cleaning).1
      (ap (λ (o : Option Running). has (unpublished_by o) slot) is
      ∙ ap (λ (k : Next). has (unpublished_at k (written_slots r)) slot) next
      ∙ ap (λ (l : List ℕ). has l slot) (cleans_published k (written_slots r) cleaning))

  pub cleans_now : IsCleanable k block w.shared (actor_at w actor).hand r → is_clean k ≡ true
      → Cleans (retention_by_marks (cell_at w.shared slot)) (stays_at k w.shared) (cell_at w.shared slot)
      (clean_cell k w.shared (actor_at w actor).hand)
  cleans_now ready cleaning =
      cleans_own k block w.shared (actor_at w actor).hand r cleaning (clean_lent cleaning).0 (clean_settled cleaning) ready

-- so it keeps a place for each part, and blocks of one size
pub clean_parted : (g : GeometryNumbers) (w : World) (actor : ℕ) (r : Running) (k : Next) → r.next ≡ k → AreLocks w
    → AreNumbers g w → (actor_at w actor).running ≡ Some r → Before actor w.shared k r
    → IsCleanable k g.block w.shared (actor_at w actor).hand r → is_clean k ≡ true
    → IsParted g.block (clean_cell k w.shared (actor_at w actor).hand)
clean_parted g w actor r k next locks all is b ready cleaning =
    let s = w.shared in
    let h = (actor_at w actor).hand in
    let was = all.cells (clean_slot k) in
    cleaned_parted _ (stays_at k s) (cell_at s (clean_slot k)) (clean_cell k s h)
    (cleans_now w actor r k g.block next locks all.tails is b ready cleaning) g.block was
    (clean_sized k g.block s h cleaning was.pages (all_sized g.block h (all.sized actor)).pages)

pub can_count : (g : GeometryNumbers) (w : World) (actor : ℕ) (r : Running) (k : Next) → r.next ≡ k → AreLocks w → AreNumbers g w
    → (actor_at w actor).running ≡ Some r → Before actor w.shared k r → IsCleanable k g.block w.shared (actor_at w actor).hand r
    → CanCount actor k w.shared (actor_at w actor).hand r
can_count g w actor r k next locks all is b ready = record {
  inside = lent_inside k actor w.shared r b;
  none = none;
  cleans = cleans;
} where
  s : Shared
  s = w.shared

  h : HandState
  h = (actor_at w actor).hand

  cleans : is_clean k ≡ true → flat_map of_part (clean_cell k s h).blocks ≡ flat_map of_part (cell_at s (clean_slot k)).blocks
  cleans cleaning =
      cleaned_numbers _ (stays_at k s) (cell_at s (clean_slot k)) (clean_cell k s h)
      (cleans_now w actor r k g.block next locks all.tails is b ready cleaning)

  none : is_removal k ≡ true → LeavesNone (removal k s h r)
  none removes =
      let x = removal k s h r in
      let left = is_removed k s h r removes in
      let own = lent_cell k (length s.lists) actor s r b x.slot (lent_removal k (length s.lists) actor s h r removes) in
      let published : has (unpublished_by (actor_at w actor).running) x.slot ≡ false =
      ap (λ (o : Option Running). has (unpublished_by o) x.slot) is
      ∙ ap (λ (k : Next). has (unpublished_at k (written_slots r)) x.slot) next
      ∙ ap (λ (l : List ℕ). has l x.slot) (removes_published k (written_slots r) removes) in
      let settled = lent_settled w actor x.slot locks all.tails own published in
      erased_none g.block x.cell (left.parted g.block (all.cells x.slot))
      (subst (λ (c : ChainState). c.tail ≡ length c.entries) (sym left.keeps.chain) settled)

pub can_give : (g : GeometryNumbers) (w : World) (actor : ℕ) (k : Next) → AreNumbers g w → CanGive g k w.shared (actor_at w actor).hand
can_give g w actor (Give cpu) all = (
  all.sized actor,
  λ n. omega (arith, once_few g w n all.once, count_few n w actor, part_times free_of n w.shared.lists cpu no_list refl),
)
can_give g w actor other all = tt

-- ---- what a turn leaves

-- what is shared and the hand are sound, and each number stands as often as it did
pub record IsKept (g : GeometryNumbers) (w : World) (actor : ℕ) (t : Shared) (h : HandState) : Type 0 where
  pub sound : IsSound g t h
  pub same : (n : ℕ) → count n t h ≡ count n w.shared (actor_at w actor).hand

pub was_kept : (g : GeometryNumbers) (w : World) (actor : ℕ) → AreNumbers g w → IsKept g w actor w.shared (actor_at w actor).hand
was_kept g w actor all = record {
  sound = record { lists = all.lists; cells = all.cells; sized = all.sized actor };
  same = λ n. refl;
}

pub goes_home : (g : GeometryNumbers) (w : World) (actor : ℕ) (t : Shared) (h : HandState) → 0 < g.cpus → AreNumbers g w
    → IsKept g w actor t h → GoesHome g t h
goes_home g w actor t h some all kept = record {
  some = some;
  lists = kept.sound.lists;
  below = each_below g.blocks (blocks_in h)
      (λ n le. omega (arith, kept.same n, count_few n w actor, once_below g w n all.once le));
}

-- ---- all actors, where one is another

pub set_actor : (P : Actor → Type 0) (w : World) (actor : ℕ) (x : Actor) → actor < length w.actors → P x
    → ((b : ℕ) → P (actor_at w b)) → (b : ℕ) → P (slice_index_or (set w.actors actor x) b idle)
set_actor P w actor x there own all =
    set_one (λ (b : ℕ) (s : Shared) (y : Actor). P y) w actor x w.shared there own (λ b ne. all b)

pub new_times : (g : GeometryNumbers) (w : World) (actor : ℕ) (x : Actor) (t : Shared) (n : ℕ) → actor < length w.actors
    → count n t x.hand ≡ count n w.shared (actor_at w actor).hand
    → times n (all_blocks (record w { shared = t; actors = set w.actors actor x })) ≡ times n (all_blocks w)
new_times g w actor x t n there same =
    let e = set_times held_by_actor n w.actors actor x idle (λ past. absurd (omega (arith, past, there))) in
    omega (arith, e, same, all_times n w, all_times n (record w { shared = t; actors = set w.actors actor x }))

-- a cell of the world after a turn, by the turn's own
pub tails_after : (w : World) (actor : ℕ) (x : Actor) (t : Shared) (there : actor < length w.actors) → AreLocks w → AreTailsLast w
    → (lent_slot : Option ℕ) → ((ino : ℕ) → lent_slot ≢ Some ino → cell_at t ino ≡ cell_at w.shared ino)
    → ((ino : ℕ) → lent_slot ≡ Some ino → owner_at w.shared ino ≡ Some actor)
    → ((ino : ℕ) → lent_slot ≢ Some ino → has (unpublished_by (actor_at w actor).running) ino ≡ true
    → has (unpublished_by x.running) ino ≡ true)
    → ((ino : ℕ) → lent_slot ≡ Some ino → (has (unpublished_by (actor_at w actor).running) ino ≡ false → IsTailLast (cell_at w.shared ino))
    → (has (unpublished_by x.running) ino ≡ true) ⊎ IsTailLast (cell_at t ino))
    → AreTailsLast (record w { shared = t; actors = set w.actors actor x })
tails_after w actor x t there locks tails slot cells owned left lent_left ino none = go slot refl where
  own_none : has (unpublished_by x.running) ino ≡ false
  own_none = ap (λ (y : Actor). has (unpublished_by y.running) ino) (sym (get_or-set_same w.actors actor x idle there)) ∙ none actor

  none_true : (b : Bool) → (b ≡ true → ⊥) → b ≡ false
  none_true true h = absurd (h refl)
  none_true false h = refl

  not_lent : slot ≢ Some ino → IsTailLast (cell_at t ino)
  not_lent ne =
      subst IsTailLast (sym (cells ino ne)) (tails ino (λ b.
      same_actor actor b (λ c. has (unpublished_by (actor_at w c).running) ino ≡ false)
      (none_true (has (unpublished_by (actor_at w actor).running) ino) (λ h. false≢true (sym own_none ∙ left ino ne h)))
      (λ ne. ap (λ (y : Actor). has (unpublished_by y.running) ino) (sym (get_or-set_other w.actors actor b x idle ne)) ∙ none b)))

  is_lent : slot ≡ Some ino → IsTailLast (cell_at t ino)
  is_lent is = elim (lent_left ino is (λ mine. lent_settled w actor ino locks tails (owned ino is) mine)) [
    | inl there ↦ absurd (false≢true (sym own_none ∙ there))
    | inr last ↦ last
  ]

  at_slot : (n : ℕ) → slot ≡ Some n → (b : Bool) → (n == ino) ≡ b → IsTailLast (cell_at t ino)
  at_slot n is true q = is_lent (is ∙ ap (λ (m : ℕ). Some m) (eqb-true n ino q))
  at_slot n is false q = not_lent (λ e. eqb-false n ino q (ap (λ (o : Option ℕ). unwrap_or o 0) (sym is ∙ e)))

  go : (o : Option ℕ) → slot ≡ o → IsTailLast (cell_at t ino)
  go None is = not_lent (λ e. none-some ino (sym is ∙ e))
  go (Some n) is = at_slot n is (n == ino) refl
