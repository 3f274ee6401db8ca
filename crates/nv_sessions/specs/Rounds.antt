-- The rounds of a call that changes nodes.
use Rattle.std.specs.Prelude.{◌≡◌, ℕ, true, false, Result, Ok, Err}
use Rattle.nv_calls.specs.AllCalls.{is_nothing}
use Rattle.nv_calls.specs.Commit.{ReceiptValue}
use Rattle.nv_calls.specs.Updates.{blank_call}
use Rattle.nv_calls.specs.declared.update.Update.{Update}
use Rattle.nv_sessions.specs.Changing.{IsOfCall}
use Rattle.nv_sessions.specs.Refusing.{MayEnd, looks_up}
use Rattle.nv_sessions.specs.Sessions.{HasReceipt, IsChangedBy, SessionValue}
use Rattle.nv_sessions.specs.declared.change.ChangeEnd.{ChangeEnd}
use Rattle.nv_sessions.specs.declared.rounds.RoundEnd.{RoundEnd}
use Rattle.nv_sessions.specs.declared.rounds.RoundEnd.TheVariants.{Ends, BoundAnew}

-- a change over held cells ends by its receipt, or with the session as it was
abbrev pub IsEndedBy : ℕ → SessionValue → SessionValue → Update → Result ReceiptValue ChangeEnd → Type 0
IsEndedBy opening before after u (Ok receipt) = (is_nothing (blank_call u) ≡ false) × HasReceipt opening before after u receipt
IsEndedBy opening before after u (Err end) = (after ≡ before) × IsOfCall u end

-- a round ends as the call does, or with session and call as they were
abbrev pub IsRoundOf : ℕ → SessionValue → SessionValue → Update → RoundEnd → Type 0
IsRoundOf opening before after u (Ends (Ok seen)) = IsChangedBy opening before after u seen
IsRoundOf opening before after u (Ends (Err fault)) = (after ≡ before) × MayEnd u fault
IsRoundOf opening before after u (BoundAnew back) = (after ≡ before) × (back ≡ u) × (looks_up u ≡ true)
