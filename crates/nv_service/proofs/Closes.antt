-- What a service that closes tells of its world, and why it does not close.
use Rattle.std.proofs.Common.{◌≡◌, ◌∙◌, ◌⊎◌, ℕ, List, All, ap, length, map, slice_index_or, subst, sym, ⊎_elim}
use Rattle.nv_base.specs.Memory.{out_of_memory}
use Rattle.nv_base.specs.declared.fault.Fault.{Fault}
use Rattle.nv_base.specs.declared.fault.Fault.TheVariants.{Mismatch, SeatsOut}
use Rattle.nv_base.specs.declared.fault.MismatchPart.TheVariants.{Lists}
use Rattle.nv_base.specs.declared.geometry.Geometry.{Geometry}
use Rattle.nv_cell.specs.Cell.{CellValue}
use Rattle.nv_parts.specs.AtRest.{IsMismatchOf}
use Rattle.nv_parts.specs.declared.parts.Parts.{Parts}
use Rattle.nv_service.specs.Closing.{AreBeside, IsDifference, IsNotOlder}
use Rattle.nv_sessions.specs.UnlockedParts.{AreAllSlots, AreInPlace, BesideCellValue, IsKnown, rest_told, cell_told}
use Rattle.nv_sessions.specs.Sessions.{SessionValue}
use Rattle.nv_service.proofs.NotOlder.{not_older}

-- no cell is older than a session has seen it
pub none_older : (opened : List ℕ) (sessions : List SessionValue) (rests : List BesideCellValue) (cells : List CellValue)
    → map rest_told rests ≡ map cell_told cells → AreInPlace rests
    → All (λ (s : SessionValue). All (IsKnown opened s.seen) rests) sessions
    → All (λ (s : SessionValue). IsNotOlder opened s.seen cells) sessions
none_older opened sessions rests cells fit placed known =
    λ k d lt. not_older opened (slice_index_or sessions k d).seen rests cells fit placed (known k d lt)

-- the seats are not why parts differ
pub not_seats : (parts : Parts) (cells : List BesideCellValue) (fault : Fault)
    → (fault ≡ out_of_memory) ⊎ IsDifference parts cells fault → fault ≡ SeatsOut → ⊥
not_seats parts cells fault why is =
    ⊎_elim
    (λ (m : fault ≡ out_of_memory). let same : out_of_memory ≡ SeatsOut = sym m ∙ is in cc)
    (λ (d : IsDifference parts cells fault). ⊎_elim
    (λ (m : IsMismatchOf parts fault). subst (IsMismatchOf parts) is m)
    (λ (t : (fault ≡ Mismatch Lists) × (¬ AreInPlace cells)). let same : Mismatch Lists ≡ SeatsOut = sym t.0 ∙ is in cc)
    d)
    why
