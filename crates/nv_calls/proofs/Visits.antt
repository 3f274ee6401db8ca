-- What a call that only reads comes to.
use Rattle.std.proofs.Common.{◌≡◌, Bool, true, inl, inr}
use Rattle.std.specs.Prelude.{IfOk, MatchResult, Result, Ok, Err}
use Rattle.nv_base.specs.Refusals.{FailsAsChecked}
use Rattle.nv_base.specs.declared.fault.Fault.{Fault}
use Rattle.nv_calls.specs.Refusals.{Check}
use Rattle.nv_calls.specs.Views.{IsVisitRefusal}

-- what was read is a view, or refused as the check says
pub view_match : {V : Type 0} (result : Result V Fault) (P : V → Type 0) (check : Check) (grows : Bool) → IfOk result P
    → FailsAsChecked check result → grows ≡ true → MatchResult result P (IsVisitRefusal check grows)
view_match (Ok view) P check grows ok err is = ok
view_match (Err fault) P check grows ok (inl refused) is = inl refused
view_match (Err fault) P check grows ok (inr want) is = inr (want.0, want.1, is)
