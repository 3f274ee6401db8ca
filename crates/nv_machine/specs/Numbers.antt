-- Where each block number stands, and that each stands once.
use Rattle.std.specs.Prelude.{◌≡◌, ℕ, ◌+◌, ◌-◌, false, List, ◌++◌, None}
use Rattle.std.specs.List.{flat_map}
use Rattle.nv_alloc.specs.Block.{numbers_of}
use Rattle.nv_alloc.specs.FreeList.{FreeBlocks}
use Rattle.nv_alloc.specs.Numbers.{has, unused}
use Rattle.nv_base.specs.Homes.{home_start}
use Rattle.nv_base.specs.declared.geometry.GeometryNumbers.{GeometryNumbers}
use Rattle.nv_cell.specs.Cell.{stored_in}
use Rattle.nv_machine.specs.Kinds.{blocks_in}
use Rattle.nv_machine.specs.Locks.{is_owner}
use Rattle.nv_machine.specs.World.{Actor, HandState, World, actor_at, empty_hand, owner_at}

-- ---- where blocks are

-- the blocks of a free list, by number
abbrev pub free_of : FreeBlocks → List ℕ
free_of list = numbers_of list.blocks

-- the numbers of all blocks of a hand
abbrev pub held_in : HandState → List ℕ
held_in hand = numbers_of (blocks_in hand)

-- the numbers of all blocks that an actor's hand has
abbrev pub held_by_actor : Actor → List ℕ
held_by_actor actor = held_in actor.hand

-- the numbers of all blocks that cells and hands have
abbrev pub used_blocks : World → List ℕ
used_blocks w = flat_map stored_in w.shared.cells ++ flat_map held_by_actor w.actors

-- EVERY BLOCK, as often as its number stands in a free list, in a cell or in a hand. A cell has
-- the log pages of its chain, and the blocks of its parts. Example, with 16 blocks: a write over a
-- present page of the only file has made four steps, `lock`, `check`, `take` and `ready`. Then 12
-- blocks are free, 2 are log pages, 1 has the old page, and 1 is in the hand.
abbrev pub all_blocks : World → List ℕ
all_blocks w = flat_map free_of w.shared.lists ++ used_blocks w

-- AN IDLE ACTOR has nothing
pub record HoldsNothing (w : World) (actor : ℕ) : Type 0 where
  -- its hand is empty
  pub hand : (actor_at w actor).hand ≡ empty_hand
  -- it has the lock of no slot
  pub locks : (ino : ℕ) → is_owner actor (owner_at w.shared ino) ≡ false
  -- it has not the commit lock
  pub commit_lock : is_owner actor w.shared.holder ≡ false

-- an actor without a call has an empty hand and no lock
abbrev pub IdleHaveNothing : World → Type 0
IdleHaveNothing w = (actor : ℕ) → (actor_at w actor).running ≡ None → HoldsNothing w actor

-- ---- from scratch

-- the numbers of the home range of a CPU that no cell and no hand has
abbrev pub free_from_scratch : GeometryNumbers → World → ℕ → List ℕ
free_from_scratch g w cpu =
    unused (has (used_blocks w)) (home_start g.blocks g.cpus cpu)
    (home_start g.blocks g.cpus (cpu + 1) - home_start g.blocks g.cpus cpu)
