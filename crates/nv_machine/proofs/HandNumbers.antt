-- The blocks of hands and cells are of the device, those of a hand in no list; and the number in it is that of a slot
-- and not in the pool.
use Rattle.std.proofs.Common.{◌≡◌, ℕ, ◌+◌, ◌<◌, ◌≤◌, false, Some, None, arith, inl, inr, refl, slice_index_or}
use Rattle.std.specs.List.{AllByRecursion, flat_map}
use Rattle.std.proofs.lemmas.Bool.{cases_lt}
use Rattle.nv_alloc.specs.Block.{BlockValue, numbers_of}
use Rattle.nv_alloc.specs.Numbers.{has, times}
use Rattle.nv_alloc.proofs.Lists.{times-append}
use Rattle.nv_base.specs.declared.geometry.GeometryNumbers.{GeometryNumbers}
use Rattle.nv_machine.specs.Grown.{AreGrown}
use Rattle.nv_machine.specs.Hands.{AreNumbers}
use Rattle.nv_machine.specs.Kinds.{blocks_in}
use Rattle.nv_machine.specs.Locks.{AreLocks}
use Rattle.nv_machine.specs.Numbers.{all_blocks}
use Rattle.nv_machine.specs.World.{Give, World, actor_at, cell_at, list_at, no_cell}
use Rattle.nv_machine.proofs.ErasedCells.{block_times}
use Rattle.nv_machine.proofs.FromScratch.{counted, none_true}
use Rattle.nv_machine.proofs.BlockNumbers.{all_times, can_give, each_below, goes_home, once_below, part_times, was_kept}
use Rattle.nv_machine.proofs.PoolCells.{with_inode}
use Rattle.nv_machine.proofs.PoolHands.{counts, once}
use Rattle.nv_machine.proofs.PoolRuns.{ArePooled, own_loose, past_of}
use Rattle.nv_cell.specs.Cell.{of_part, stored_in}
use Rattle.nv_machine.proofs.PoolSlots.{inode_inside}

-- ---- blocks

pub hands_below : (g : GeometryNumbers) (w : World) (actor : ℕ) → 0 < g.cpus → AreNumbers g w
    → AllByRecursion (λ (b : BlockValue). b.number < g.blocks) (blocks_in (actor_at w actor).hand)
hands_below g w actor some all = (goes_home g w actor w.shared (actor_at w actor).hand some all (was_kept g w actor all)).below

pub hand_or_list : (g : GeometryNumbers) (w : World) (actor cpu n : ℕ) → AreNumbers g w
    → times n (numbers_of (blocks_in (actor_at w actor).hand)) + times n (numbers_of (list_at w.shared cpu).blocks) ≤ 1
hand_or_list g w actor cpu n all = (can_give g w actor (Give cpu) all).1 n

-- what a cell has counts among all blocks
cell_few : (g : GeometryNumbers) (w : World) (ino n : ℕ)
    → times n (numbers_of (cell_at w.shared ino).chain.blocks) + times n (flat_map of_part (cell_at w.shared ino).blocks)
    ≤ times n (all_blocks w)
cell_few g w ino n =
    let cell = cell_at w.shared ino in
    omega (
      arith,
      times-append n (numbers_of cell.chain.blocks) (flat_map of_part cell.blocks),
      part_times stored_in n w.shared.cells ino no_cell refl,
      all_times n w,
    )

pub chains_below : (g : GeometryNumbers) (w : World) (ino : ℕ) → AreNumbers g w
    → AllByRecursion (λ (b : BlockValue). b.number < g.blocks) (cell_at w.shared ino).chain.blocks
chains_below g w ino all =
    each_below g.blocks (cell_at w.shared ino).chain.blocks
    (λ n le. omega (arith, cell_few g w ino n, once_below g w n all.once le))

pub parts_below : (g : GeometryNumbers) (w : World) (ino n : ℕ) (b : BlockValue) → AreNumbers g w
    → slice_index_or (cell_at w.shared ino).blocks n None ≡ Some b → b.number < g.blocks
parts_below g w ino n b all is = elim (cases_lt b.number g.blocks) [
  | inl lt ↦ lt
  | inr ge ↦
      absurd (omega (
        arith,
        block_times (cell_at w.shared ino).blocks n b is,
        cell_few g w ino b.number,
        once_below g w b.number all.once ge,
      ))
]

-- ---- numbers of inodes

module _ (g : GeometryNumbers) (w : World) (locks : AreLocks w) (all : AreNumbers g w) (grown : AreGrown w) (pooled : ArePooled g w) where
  -- the slot of a number in a hand is one of all, and the number is not in the pool
  pub hands_number : (actor n : ℕ) → (actor_at w actor).hand.ino ≡ Some n → (n < g.inodes) × (has w.shared.pool.numbers n ≡ false)
  hands_number actor n is = elim (counts g w locks all grown pooled actor n is) [
    | inl one ↦ (
      elim (cases_lt n g.inodes) [
        | inl lt ↦ lt
        | inr ge ↦ absurd (omega (arith, one, past_of g w actor n pooled.once ge))
      ],
      none_true (has w.shared.pool.numbers n) (λ there.
          omega (arith, one, counted n w.shared.pool.numbers there, own_loose w actor n, once g w locks all grown pooled n)),
    )
    | inr begun ↦ (
      omega (arith, inode_inside w.shared n begun.inode, pooled.slots),
      none_true (has w.shared.pool.numbers n) (λ there.
          omega (
            arith,
            counted n w.shared.pool.numbers there,
            with_inode (cell_at w.shared n) begun.inode,
            once g w locks all grown pooled n,
          )),
    )
  ]
