-- The last step of a call that is no drain.
use Rattle.std.proofs.Common.{◌≡◌, ◌⊎◌, inl, inr, refl, subst, sym}
use Rattle.std.specs.Prelude.{Result}
use Rattle.nv_base.specs.declared.fault.Fault.{Fault}
use Rattle.nv_calls.specs.declared.answer.Answer.{Answer}
use Rattle.nv_clean.specs.declared.cleaned.Cleaned.{Cleaned}
use Rattle.nv_machine.specs.Kinds.{last_turn, result_by}
use Rattle.nv_machine.specs.World as machine
use Rattle.nv_core.specs.Shown.{ending_of}
use Rattle.nv_core.specs.declared.next.Ending.{Ending}
use Rattle.nv_core.specs.declared.next.Ending.TheVariants as ending

-- it is to be answered, refused, was overtaken, or has cleaned
abbrev pub IsPlain : Ending → Type 0
IsPlain e = (e ≡ ending.Answers) ⊎ (((fault : Fault) × (e ≡ ending.Refuses fault)) ⊎ ((e ≡ ending.BoundAnew) ⊎
    ((cleaned : Cleaned) × (e ≡ ending.Cleans cleaned))))

plain_ends : (e : Ending) (r : machine.Running) (s : machine.Shared) (h : machine.HandState) → IsPlain e
    → last_turn (ending_of e) s h r ≡ machine.Ends (result_by (ending_of e) r) s h
plain_ends e r s h (inl is) = rw is refl
plain_ends e r s h (inr (inl is)) = rw is.1 refl
plain_ends e r s h (inr (inr (inl is))) = rw is refl
plain_ends e r s h (inr (inr (inr is))) = rw is.1 refl

pub last_ends : (e : Ending) (r : machine.Running) (s : machine.Shared) (h : machine.HandState) (result : Result Answer Fault) → IsPlain e
    → result ≡ result_by (ending_of e) r → last_turn (ending_of e) s h r ≡ machine.Ends result s h
last_ends e r s h result plain is =
    subst (λ (x : Result Answer Fault). last_turn (ending_of e) s h r ≡ machine.Ends x s h) (sym is) (plain_ends e r s h plain)
