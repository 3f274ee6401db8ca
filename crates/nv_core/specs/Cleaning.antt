-- What of a cleaner the machine does not tell: its call, the walk that its planning made, and the
-- room in its hand for the log pages that move.
use Rattle.std.specs.Prelude.{◌≡◌, ℕ, ◌+◌, ◌<◌, ◌≤◌, ◌==◌, Bool, true, false, length}
use Rattle.std.specs.List.{AllByRecursion}
use Rattle.nv_alloc.specs.Block.{BlockValue}
use Rattle.nv_alloc.specs.declared.hand.Hand.{Hand}
use Rattle.nv_calls.specs.Prepared.{IsStill}
use Rattle.nv_cell.specs.Cell.{CellState}
use Rattle.nv_cell.specs.Readers.{has_killed}
use Rattle.nv_clean.specs.Plans.{unlinkable_of, wanted_of}
use Rattle.nv_machine.specs.World.{cell_at}
use Rattle.nv_core.specs.Shown.{shared_of}
use Rattle.nv_core.specs.GhostCalls.{IsLookAt, IsSnapshotOrCleaner}
use Rattle.nv_core.specs.declared.next.Ending.TheVariants as ending
use Rattle.nv_core.specs.declared.next.CompactPlan.{CompactPlan}
use Rattle.nv_core.specs.declared.next.FreshPages.{FreshPages}
use Rattle.nv_core.specs.declared.next.UnlinkPlan.{UnlinkPlan}
use Rattle.nv_core.specs.declared.running.Running.{Running}
use Rattle.nv_core.specs.declared.shared.Shared.{Shared}

-- a running call has steps of its own, whatever its next one is
pub record IsMaintaining (running : Running) : Type 0 where
  -- it is a call on snapshots, or a cleaner
  pub request : IsSnapshotOrCleaner running.request
  -- its names are never bound anew, since it looks none up
  pub overtaken : running.ending ≡ ending.BoundAnew → IsLookAt 0 running.request

-- ---- the steps behind it

-- a plan to compact is of the cell as it stands
pub record IsMove (shared : Shared) (plan : CompactPlan) : Type 0 where
  -- what it leaves is what a walk of the log leaves
  pub walk : plan.walk ≡ wanted_of (cell_at (shared_of shared) plan.ino)
  -- some entry goes
  pub some : (plan.walk.dropped == 0) ≡ false

-- a cleaner takes fresh log pages, from the list that is asked next
pub record TakesFresh (shared : Shared) (hand : Hand) (fresh : FreshPages) : Type 0 where
  -- its plan is of the cell as it stands
  pub move : IsMove shared fresh.plan
  -- those in the hand and those still wanted are as many as the entries that stay fill
  pub count : length hand.pages.blocks + fresh.left ≡ fresh.plan.walk.pages
  -- there is room for those still wanted
  pub room : fresh.left ≤ hand.pages.room
  -- the list that is asked next is there
  pub list : fresh.asked < length shared.lists.items

-- a cleaner has its fresh log pages
pub record CanCompact (shared : Shared) (hand : Hand) (plan : CompactPlan) : Type 0 where
  -- its plan is of the cell as it stands
  pub move : IsMove shared plan
  -- the hand has as many as the entries that stay fill
  pub count : length hand.pages.blocks ≡ plan.walk.pages

-- a cleaner can unlink log pages
pub record CanUnlink (shared : Shared) (hand : Hand) (plan : UnlinkPlan) : Type 0 where
  -- its plan is what a walk by whole pages finds in the cell as it stands
  pub walk : plan.walk ≡ unlinkable_of (cell_at (shared_of shared) plan.ino)
  -- the hand has room for the log pages that go
  pub room : plan.walk.pages ≤ hand.pages.room

-- what a cleaner is given before it changes a cell
pub record CanClean (shared : Shared) (ino : ℕ) : Type 0 where
  -- the slot has a cell
  pub slot : ino < length shared.cells.items
  -- it has blocks of the device's size, and no entry past the tail
  pub still : IsStill shared.geometry.numbers.block (cell_at (shared_of shared) ino)
  -- no part of it is killed and not yet retired
  pub retired : has_killed (cell_at (shared_of shared) ino) ≡ false
