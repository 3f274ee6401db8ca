-- A call that changes nodes leaves of a session what it leaves of its seat: the makings and drops of snapshots stay, and what the
-- hand holds is told apart.
use Rattle.std.proofs.Common.{◌≡◌, ◌∙◌, ℕ, ap, refl, sym}
use Rattle.std.specs.Prelude.{IfOk, Result, Ok, Err}
use Rattle.nv_base.specs.Refusals.{KeepsOnErr}
use Rattle.nv_base.specs.declared.fault.Fault.{Fault}
use Rattle.nv_calls.specs.Commit.{ReceiptValue}
use Rattle.nv_calls.specs.declared.update.Update.{Update}
use Rattle.nv_sessions.specs.Sessions.{HasReceipt, HeldValue, IsChangedBy, SessionValue, with_held}
use Rattle.nv_sessions.specs.declared.seen.Seen.{Seen}
use Rattle.nv_sessions.specs.declared.seen.Seen.TheVariants as seen

-- the session with so many makings and drops, and a hand that holds that
abbrev pub counting : ℕ → HeldValue → SessionValue → SessionValue
counting snapped held session = record session { snapped = snapped; held = held }

module _ (opening snapped : ℕ) (held left : HeldValue) (before after : SessionValue) (u : Update) where
  receipt_counting : (receipt : ReceiptValue) → HasReceipt opening before after u receipt
      → HasReceipt opening (counting snapped held before) (counting snapped left after) u receipt
  receipt_counting receipt has = record {
    call = has.call;
    made = has.made;
    counted = has.counted;
    number = has.number;
    higher = has.higher;
    kept = has.kept;
    snapped = refl;
    seat = has.seat;
  }

  seen_counting : (s : Seen) → IsChangedBy opening before after u s
      → IsChangedBy opening (counting snapped held before) (counting snapped left after) u s
  seen_counting (seen.Viewed view) is = is
  seen_counting (seen.Committed receipt) is = (is.0, receipt_counting receipt is.1)
  seen_counting (seen.Other answer) is = (is.0, is.1, ap (counting snapped left) is.2)

  pub changed_counting : (result : Result Seen Fault) → IfOk result (IsChangedBy opening before after u)
      → IfOk result (IsChangedBy opening (counting snapped held before) (counting snapped left after) u)
  changed_counting (Ok s) is = seen_counting s is
  changed_counting (Err why) is = tt

pub kept_counting : (snapped : ℕ) (left : HeldValue) (before after : SessionValue) (result : Result Seen Fault)
    → KeepsOnErr result before after → KeepsOnErr result (counting snapped left before) (counting snapped left after)
kept_counting snapped left before after (Ok s) is = tt
kept_counting snapped left before after (Err why) is = ap (counting snapped left) is

-- a session that is as it was is so beside what its hand holds
pub held_alike : (before after : SessionValue) → after ≡ before → after ≡ with_held after.held before
held_alike before after same = same ∙ ap (λ (h : HeldValue). with_held h before) (sym (ap (λ (s : SessionValue). s.held) same))

pub held_kept : (before after : SessionValue) (result : Result Seen Fault) → KeepsOnErr result before after
    → KeepsOnErr result (with_held after.held before) after
held_kept before after (Ok s) is = tt
held_kept before after (Err why) is = held_alike before after is

pub held_same : (before after : SessionValue) (result : Result Seen Fault) → after ≡ before
    → KeepsOnErr result (with_held after.held before) after
held_same before after (Ok s) is = tt
held_same before after (Err why) is = held_alike before after is
