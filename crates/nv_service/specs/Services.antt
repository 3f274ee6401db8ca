-- What contracts see of a service.
use Rattle.std.specs.Prelude.{ℕ}
use Rattle.nv_base.specs.declared.geometry.Geometry.{Geometry}
use Rattle.nv_service.specs.Judging.{JudgeValue}

-- the seats of a service
pub record SeatingValue : Type 0 where
  -- how many were given out
  pub given : ℕ

-- what contracts see of a service
pub record ServiceValue : Type 0 where
  -- the numbers of its device
  pub geometry : Geometry
  -- its seats
  pub seating : SeatingValue
  -- how many blocks its parts have, all together
  pub blocks : ℕ
  -- who judges its parts
  pub judge : JudgeValue
