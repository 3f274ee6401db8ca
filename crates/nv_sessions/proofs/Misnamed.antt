-- What a check says of a name that leads to no inode.
use Rattle.std.proofs.Common.{◌≡◌, ◌⊎◌, inl, inr, ◌∙◌, Bool, true, false, refl, sym}
use Rattle.nv_base.specs.declared.fault.Fault.{Fault}
use Rattle.nv_base.specs.declared.fault.Fault.TheVariants as fault
use Rattle.nv_base.specs.declared.fault.MismatchPart.TheVariants as part
use Rattle.nv_calls.specs.declared.check_end.CheckEnd.{CheckEnd}
use Rattle.nv_calls.specs.declared.check_end.CheckEnd.TheVariants as ends
use Rattle.nv_sessions.specs.Changing.{misnamed}

pub misnamed_else : (there : Bool) (told : CheckEnd)
    → (misnamed there told ≡ told)
    ⊎ ((told ≡ ends.Refuses fault.Stale) × (misnamed there told ≡ ends.Refuses (fault.Mismatch part.Names)))
misnamed_else false told = inl refl
misnamed_else true (ends.Refuses fault.Stale) = inr (refl, refl)
misnamed_else true (ends.Refuses other) = inl refl
misnamed_else true ends.BoundAnew = inl refl
misnamed_else true ends.Answers = inl refl

-- an end that is no refusal is told as it is
pub told_as_it_is : (there : Bool) (told end : CheckEnd) → end ≡ misnamed there told → ((why : Fault) → end ≡ ends.Refuses why → told ≡ end)
    → told ≡ end
told_as_it_is there told end is else = elim (misnamed_else there told) [
  | inl same ↦ sym same ∙ sym is
  | inr named ↦ else (fault.Mismatch part.Names) (is ∙ named.1)
]
