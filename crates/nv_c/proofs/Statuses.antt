-- What a status tells, by the outcome that it stands for.
use Rattle.std.proofs.Common.{◌≡◌, ℕ, Result, Ok, Err, inl, inr, refl, subst}
use Rattle.nv_base.specs.declared.fault.Fault.{Fault}
use Rattle.nv_calls.specs.declared.answer.Answer.{Answer}
use Rattle.nv_calls.specs.declared.call.Call.{Call}
use Rattle.nv_core.specs.Worlds.{WorldState}
use Rattle.nv_files.specs.Stands.{Leads}
use Rattle.nv_files.specs.Told.{IsTold, IsToldOrStarved}
use Rattle.nv_serial.specs.OneCall.{serial_call}
use Rattle.nv_serial.specs.Serial.{told}
use Rattle.nv_c.specs.Status.{Tells, TellsOrStarved, number_of}

module _ {T : Type 0} (outcome : Result T Fault) (c : Call) (says : T → Answer) (answer : Answer) (old new : WorldState) where
  -- a call that is done
  pub tells_ok : (value : T) → outcome ≡ Ok value → says value ≡ answer
      → Leads (IsTold c outcome says) old new → Leads (Tells c 0 answer) old new
  tells_ok value is e leads = λ s stands.
      let l = subst (λ (o : Result T Fault). Leads (IsTold c o says) old new) is leads s stands in
      (l.0, inl (refl, subst (λ (a : Answer). serial_call s 0 c ≡ told a l.0) e l.1), l.2)

  pub starved_ok : (value : T) → outcome ≡ Ok value → says value ≡ answer
      → Leads (IsToldOrStarved c outcome says) old new → Leads (TellsOrStarved c 0 answer) old new
  starved_ok value is e leads = λ s stands.
      let l = subst (λ (o : Result T Fault). Leads (IsToldOrStarved c o says) old new) is leads s stands in
      (l.0, inl (refl, subst (λ (a : Answer). serial_call s 0 c ≡ told a l.0) e l.1), l.2)

  -- a call that is refused
  pub tells_err : (why : Fault) (status : ℕ) → outcome ≡ Err why → status ≡ number_of why
      → Leads (IsTold c outcome says) old new → Leads (Tells c status answer) old new
  tells_err why status is e leads = λ s stands.
      let l = subst (λ (o : Result T Fault). Leads (IsTold c o says) old new) is leads s stands in
      (l.0, inr (why, e, l.1), l.2)

  pub starved_err : (why : Fault) (status : ℕ) → outcome ≡ Err why → status ≡ number_of why
      → Leads (IsToldOrStarved c outcome says) old new → Leads (TellsOrStarved c status answer) old new
  starved_err why status is e leads = λ s stands.
      let l = subst (λ (o : Result T Fault). Leads (IsToldOrStarved c o says) old new) is leads s stands in
      (l.0, inr (why, e, l.1), l.2)
