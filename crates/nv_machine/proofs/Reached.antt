-- What the laws of nodes ask of a world: no two of its blocks have one number.
use Rattle.std.proofs.Common.{◌≡◌, ℕ, zero, suc, ◌^◌, ◌<◌, ◌≤◌, ◌++◌, ◌∙◌, Bool, true, false, List, [], ◌∷◌, Option, Some, None, ap, arith, if◌then◌else◌, inl, inr, length, nat_lt, refl, subst, sym}
use Rattle.std.specs.Prelude.{is_none, slice_index_or}
use Rattle.std.specs.List.{AllByRecursion, flat_map}
use Rattle.std.proofs.lemmas.Bool.{cases_lt, eq-eqb, ltb-true, true≢false}
use Rattle.std.proofs.lemmas.List.{get_or_past}
use Rattle.nv_alloc.specs.Block.{BlockValue, numbers_of}
use Rattle.nv_alloc.specs.Numbers.{IsEachOnce, times}
use Rattle.nv_alloc.proofs.GivingLemmas.{times-blocks}
use Rattle.nv_alloc.proofs.Lists.{times-append, times-cons, times-yes}
use Rattle.nv_base.specs.declared.geometry.GeometryNumbers.{GeometryNumbers}
use Rattle.nv_cell.specs.Cell.{CellState, of_part, stored_in}
use Rattle.nv_machine.specs.Hands.{AreNumbers}
use Rattle.nv_machine.specs.Kept.{AreApart, AreBlocksApart, AreCleanable, IsReleaseCoveredBy}
use Rattle.nv_machine.specs.Locks.{AreLocks}
use Rattle.nv_machine.specs.Numbers.{all_blocks, free_of, held_by_actor, held_in, used_blocks}
use Rattle.nv_machine.specs.PlainRun.{plain_change_of, keeps_nodes}
use Rattle.nv_machine.specs.Reached.{IsReached}
use Rattle.nv_machine.specs.Settled.{settled_nodes}
use Rattle.nv_machine.specs.Step.{step}
use Rattle.nv_machine.specs.World.{Actor, Event, World, actor_at, cell_at, idle, no_cell}
use Rattle.nv_base.specs.declared.numbers.Handle.{Handle}
use Rattle.nv_machine.proofs.FromScratch.{has_nothing}
use Rattle.nv_machine.proofs.LogsKeptRuns.{nodes_stay}

-- ---- how often a number stands in a part of all

none_some : (b : BlockValue) → None ≡ Some b → ⊥
none_some b e = true≢false (ap (λ (o : Option BlockValue). is_none o) e)

part_once : (k : ℕ) (part : Option BlockValue) (b : BlockValue) → part ≡ Some b → b.number ≡ k → times k (of_part part) ≡ 1
part_once k part b e is =
    ap (λ (p : Option BlockValue). times k (of_part p)) e ∙ times-yes k b.number [] (eq-eqb b.number k is)

once : (k : ℕ) (slots : List (Option BlockValue)) (n : ℕ) (b : BlockValue) → slice_index_or slots n None ≡ Some b → b.number ≡ k
    → 1 ≤ times k (flat_map of_part slots)
once k [] n b e is = absurd (none_some b e)
once k (part ∷ slots) zero b e is =
    omega (arith, part_once k part b e is, times-append k (of_part part) (flat_map of_part slots))
once k (part ∷ slots) (suc n) b e is =
    omega (arith, once k slots n b e is, times-append k (of_part part) (flat_map of_part slots))

pub twice : (k : ℕ) (slots : List (Option BlockValue)) (n m : ℕ) (b c : BlockValue) → n < m → slice_index_or slots n None ≡ Some b
    → slice_index_or slots m None ≡ Some c → b.number ≡ k → c.number ≡ k → 2 ≤ times k (flat_map of_part slots)
twice k [] n m b c lt e f is also = absurd (none_some b e)
twice k (part ∷ slots) n zero b c lt e f is also = absurd (omega (arith, lt))
twice k (part ∷ slots) zero (suc m) b c lt e f is also =
    omega (arith, part_once k part b e is, once k slots m c f also, times-append k (of_part part) (flat_map of_part slots))
twice k (part ∷ slots) (suc n) (suc m) b c lt e f is also =
    omega (arith, twice k slots n m b c (omega (arith, lt)) e f is also, times-append k (of_part part) (flat_map of_part slots))

one_of : {X : Type 0} (f : X → List ℕ) (k : ℕ) (xs : List X) (i : ℕ) (d : X) → i < length xs
    → times k (f (slice_index_or xs i d)) ≤ times k (flat_map f xs)
one_of f k [] i d lt = absurd (omega (arith, lt))
one_of f k (x ∷ xs) zero d lt = omega (arith, times-append k (f x) (flat_map f xs))
one_of f k (x ∷ xs) (suc i) d lt = omega (arith, one_of f k xs i d (omega (arith, lt)), times-append k (f x) (flat_map f xs))

-- ---- no number stands twice

pub most_once : (many : ℕ) (numbers : List ℕ) → IsEachOnce many numbers → (k : ℕ) → times k numbers ≤ 1
most_once many numbers each k = go (nat_lt k many) (each k) where
  go : (b : Bool) → times k numbers ≡ (if b then 1 else 0) → times k numbers ≤ 1
  go true e = omega (arith, e)
  go false e = omega (arith, e)

some_small : (many : ℕ) (numbers : List ℕ) → IsEachOnce many numbers → (k : ℕ) → 1 ≤ times k numbers → k < many
some_small many numbers each k some = go (nat_lt k many) refl (each k) where
  go : (b : Bool) → nat_lt k many ≡ b → times k numbers ≡ (if b then 1 else 0) → k < many
  go true q e = ltb-true k many q
  go false q e = absurd (omega (arith, e, some))

stored_most : (w : World) (k ino : ℕ) → ino < length w.shared.cells → times k (stored_in (cell_at w.shared ino)) ≤ times k (all_blocks w)
stored_most w k ino lt =
    omega (
      arith,
      one_of stored_in k w.shared.cells ino no_cell lt,
      times-append k (flat_map stored_in w.shared.cells) (flat_map held_by_actor w.actors),
      times-append k (flat_map free_of w.shared.lists) (used_blocks w),
    )

held_most : (w : World) (k actor : ℕ) → actor < length w.actors → times k (held_in (actor_at w actor).hand) ≤ times k (all_blocks w)
held_most w k actor lt =
    omega (
      arith,
      one_of held_by_actor k w.actors actor idle lt,
      times-append k (flat_map stored_in w.shared.cells) (flat_map held_by_actor w.actors),
      times-append k (flat_map free_of w.shared.lists) (used_blocks w),
    )

pub cells_apart : (many : ℕ) (w : World) → IsEachOnce many (all_blocks w) → (ino : ℕ) → AreApart (cell_at w.shared ino).blocks
cells_apart many w each ino n m b c e f same = elim (cases_lt ino (length w.shared.cells)) [
  | inl lt ↦ within lt
  | inr ge ↦ absurd (none ge)
] where
  cell : CellState
  cell = cell_at w.shared ino

  few : ino < length w.shared.cells → times b.number (flat_map of_part cell.blocks) ≤ 1
  few lt = omega (
    arith,
    stored_most w b.number ino lt,
    most_once many (all_blocks w) each b.number,
    times-append b.number (numbers_of cell.chain.blocks) (flat_map of_part cell.blocks),
  )

  within : ino < length w.shared.cells → n ≡ m
  within lt = elim (cases_lt n m) [
    | inl below ↦ let two = twice b.number cell.blocks n m b c below e f refl (sym same) in absurd (omega (arith, two, few lt))
    | inr above ↦ elim (cases_lt m n) [
      | inl below ↦ let two = twice b.number cell.blocks m n c b below f e (sym same) refl in absurd (omega (arith, two, few lt))
      | inr below ↦ omega (arith, above, below)
    ]
  ]

  none : length w.shared.cells ≤ ino → ⊥
  none ge =
      none_some b (subst (λ (x : CellState). slice_index_or x.blocks n None ≡ Some b) (get_or_past w.shared.cells ino no_cell ge) e)

all_small : (bs : List BlockValue) → ((k : ℕ) → 1 ≤ times k (numbers_of bs) → k < 2 ^ 32)
    → AllByRecursion (λ (b : BlockValue). b.number < 2 ^ 32) bs
all_small [] small = tt
all_small (b ∷ bs) small = (
  small b.number (omega (arith, times-yes b.number b.number (numbers_of bs) (eq-eqb b.number b.number refl))),
  all_small bs (λ k some. small k (omega (arith, some, times-cons k b.number (numbers_of bs)))),
)

hands_small : (many : ℕ) (w : World) → many ≤ 2 ^ 32 → IsEachOnce many (all_blocks w) → (actor : ℕ)
    → AllByRecursion (λ (b : BlockValue). b.number < 2 ^ 32) (actor_at w actor).hand.blocks
hands_small many w fits each actor = elim (cases_lt actor (length w.actors)) [
  | inl lt ↦ all_small (actor_at w actor).hand.blocks (λ k some. below lt k some)
  | inr ge ↦ subst (λ (a : Actor). AllByRecursion (λ (b : BlockValue). b.number < 2 ^ 32) a.hand.blocks)
      (sym (get_or_past w.actors actor idle ge)) tt
] where
  below : actor < length w.actors → (k : ℕ) → 1 ≤ times k (numbers_of (actor_at w actor).hand.blocks) → k < 2 ^ 32
  below lt k some =
      let h = (actor_at w actor).hand in
      let all = held_most w k actor lt in
      let joined = times-blocks k (h.blocks ++ h.pages) h.chain in
      let front = times-blocks k h.blocks h.pages in
      omega (arith, fits, some_small many (all_blocks w) each k (omega (arith, all, joined, front, some)))

-- ---- of each world

pub blocks_apart : (g : GeometryNumbers) (w : World) → g.blocks ≤ 2 ^ 32 → AreLocks w → AreNumbers g w
    → ((actor : ℕ) → IsReleaseCoveredBy w.shared (actor_at w actor).running) → AreCleanable w → AreBlocksApart w
blocks_apart g w fits locks all releases cleanable = record {
  cells = cells_apart g.blocks w all.once;
  small = hands_small g.blocks w fits all.once;
  idle = λ actor is. (has_nothing g w locks all actor is).hand;
  releases = releases;
  tails = all.tails;
  cleanable = cleanable;
}

pub reached_nodes : (w : World) (e : Event) → IsReached w → keeps_nodes (plain_change_of w e) ≡ true
    → (handle : Handle) → settled_nodes (step w e).world.shared handle ≡ settled_nodes w.shared handle
reached_nodes w e is keeps = nodes_stay w e is.locks is.order is.kept is.apart keeps
