-- The places of a commit's entries, inode by inode.
use Rattle.std.specs.Prelude.{◌≡◌, ℕ, true, List}
use Rattle.nv_alloc.specs.Numbers.{has}
use Rattle.nv_calls.specs.Slots.{ArePlaced}
use Rattle.nv_calls.specs.declared.plan.InodePlan.{InodePlan}
use Rattle.nv_machine.specs.Reads.{is_written}
use Rattle.nv_core.specs.declared.reservation.Reservation.{Reservation}
use Rattle.nv_core.specs.declared.reservation.Reservation.TheVariants as reserved
use Rattle.nv_core.specs.Shown.{ShownCall}
use Rattle.nv_core.specs.GhostCalls.{IsPlaceOf}

-- a plan is of a call with these slots
pub record IsPlanOf (slots : List ℕ) (plan : List InodePlan) : Type 0 where
  -- the places of its entries, slot by slot, are the numbers from 0 on
  pub placed : ArePlaced plan
  -- it has entries for these slots alone
  pub within : (ino : ℕ) → is_written plan ino ≡ true → has slots ino ≡ true

-- a plan that is ready or on its way is of the call's slots, and the next entries of a commit have
-- their places
abbrev pub IsPlacedBy : List ℕ → Reservation → ShownCall → Type 0
IsPlacedBy slots (reserved.Hand hand) told = Unit {0}
IsPlacedBy slots (reserved.Ready ready) told = IsPlanOf slots told.plan
IsPlacedBy slots (reserved.Commit commit) told = IsPlanOf slots told.plan × IsPlaceOf slots commit told
