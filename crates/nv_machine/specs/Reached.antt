-- What laws ask of a world, and what holds of each world that events lead to from a new one.
use Rattle.nv_machine.specs.Grown.{AreGrown}
use Rattle.nv_machine.specs.Kept.{AreBlocksApart, IsKept}
use Rattle.nv_machine.specs.Locks.{AreLocks}
use Rattle.nv_machine.specs.Order.{IsInOrder}
use Rattle.nv_machine.specs.World.{World}

-- REACHED: what holds in every world that events lead to from a start
pub record IsReached (w : World) : Type 0 where
  -- actors hold exactly the locks of their calls
  pub locks : AreLocks w
  -- along every log ids rise and epochs never fall
  pub order : IsInOrder w
  -- settled logs have their blocks, and calls know what they rely on
  pub kept : IsKept w
  -- past the settled logs stand the entries of the commit under way alone
  pub grown : AreGrown w
  -- no two blocks of one cell have one number
  pub apart : AreBlocksApart w
