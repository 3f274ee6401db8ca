-- What a service leaves of a world.
use Rattle.std.specs.Prelude.{◌≡◌, ◌≤◌}
use Rattle.nv_base.specs.declared.fault.Fault.{Fault}
use Rattle.nv_base.specs.declared.fault.Fault.TheVariants as fault
use Rattle.nv_core.specs.Worlds.{WorldState}

-- a world that a service has left of the first
pub record IsLeftOf (first left : WorldState) : Type 0 where
  -- it has the same device
  pub device : left.shared.geometry ≡ first.shared.geometry
  -- no commit of the first is lost: the last one has no lower number
  pub commits : first.shared.book.state.commit ≤ left.shared.book.state.commit

-- why a service does not close, so that no world is left
abbrev pub LosesWorld : Fault → Type 0
LosesWorld (fault.OutOfMemory witness) = Unit {0}
LosesWorld (fault.Mismatch part) = Unit {0}
LosesWorld fault.SeatsOut = Unit {0}
LosesWorld _ = ⊥
