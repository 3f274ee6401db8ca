-- WHAT A CLEANING NEEDS of the world that it begins in: each slot has a cell, and a compact has as
-- many pages in its hand as it fills.
use Rattle.std.proofs.Common.{◌≡◌, ℕ, ◌<◌, Option, Some, length, subst}
use Rattle.nv_cell.specs.Cell.{IsCell}
use Rattle.nv_machine.specs.Kept.{AreCleanable}
use Rattle.nv_machine.specs.Pages.{HasLogPages, PagesOf}
use Rattle.nv_machine.specs.World.{HandState, Next, Running, Shared, World, actor_at, cell_at}

pub record IsCleanable (k : Next) (block : ℕ) (s : Shared) (h : HandState) (r : Running)
    : Type 0 where
  pub cells : (ino : ℕ) → ino < length s.cells → IsCell (cell_at s ino)
  pub pages : HasLogPages k block s h r

-- of each step of a world's calls
pub cleanable : (w : World) (actor : ℕ) (r : Running) → AreCleanable w
    → (actor_at w actor).running ≡ Some r
    → IsCleanable r.next w.numbers.block w.shared (actor_at w actor).hand r
cleanable w actor r are is = record {
  cells = are.cells;
  pages =
      subst (λ (o : Option Running). PagesOf o w.numbers.block w.shared (actor_at w actor).hand) is
      (are.pages actor);
}
