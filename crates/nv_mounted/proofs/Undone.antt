-- Dialogues that are undone where they are refused.
use Rattle.std.proofs.Common.{◌≡◌, inl, inr, Result, Ok, Err, ap, subst, sym}
use Rattle.nv_base.specs.declared.fault.Fault.{Fault}
use Rattle.nv_calls.specs.declared.answer.Answer.{Answer}
use Rattle.nv_calls.specs.declared.call.Call.{Call}
use Rattle.nv_mount_beside.specs.Memory.{no_memory}
use Rattle.nv_mount_beside.specs.declared.refusal.Refusal.{Refusal}
use Rattle.nv_mounted.specs.Dialogues.{Asks, Dialogue, Ends, Grows, GrowsOr, IsHad, undo, undoing}
use Rattle.nv_mounted.proofs.Dialogues.{IsValue, refusal_of}

-- where it ends with a value, nothing is undone
pub not_undone : {W A : Type 0} (Tells : W → Call → Result Answer Fault → W → Type 0)
    (undone : Dialogue (Unit {0})) (d : Dialogue A) (old new : W) (a : A)
    → IsHad Tells d old (Ok a) new → IsHad Tells (undoing undone d) old (Ok a) new
unfolding undoing
not_undone Tells undone (Ends (Ok b)) old new a had = had
not_undone Tells undone (Ends (Err refusal)) old new a had = absurd (subst IsValue had.0 tt)
not_undone Tells undone (Grows rest) old new a (inl had) = absurd (subst IsValue had.0 tt)
not_undone Tells undone (Grows rest) old new a (inr had) =
    inr (not_undone Tells undone rest old new a had)
not_undone Tells undone (GrowsOr refused rest) old new a (inl had) =
    inl (not_undone Tells undone refused old new a had)
not_undone Tells undone (GrowsOr refused rest) old new a (inr had) =
    inr (not_undone Tells undone rest old new a had)
not_undone Tells undone (Asks call rest) old new a had =
    (had.0, had.1, had.2, not_undone Tells undone (rest had.0) had.1 new a had.3)

-- the same is undone behind the same refusal
undone_so : {W A : Type 0} (Tells : W → Call → Result Answer Fault → W → Type 0)
    (undone : Dialogue (Unit {0})) (old between new : W) (refusal other : Refusal)
    (end : Result A Refusal) → refusal ≡ other → between ≡ old
    → IsHad Tells (undo undone refusal) between end new
    → IsHad Tells (undo undone other) old end new
undone_so {W} {A} Tells undone old between new refusal other end same at then =
    let there = subst (λ (r : Refusal). IsHad Tells (undo {A = A} undone r) between end new) same then in
    subst (λ (w : W). IsHad Tells (undo {A = A} undone other) w end new) at there

-- where it is refused, the other dialogue is had behind it
pub is_undone : {W A : Type 0} (Tells : W → Call → Result Answer Fault → W → Type 0)
    (undone : Dialogue (Unit {0})) (d : Dialogue A) (old between new : W) (refusal : Refusal)
    (end : Result A Refusal)
    → IsHad Tells d old (Err refusal) between → IsHad Tells (undo undone refusal) between end new
    → IsHad Tells (undoing undone d) old end new
unfolding undoing
is_undone Tells undone (Ends (Ok b)) old between new refusal end first then =
    absurd (subst IsValue (sym first.0) tt)
is_undone Tells undone (Ends (Err other)) old between new refusal end first then =
    undone_so Tells undone old between new refusal other end (ap (refusal_of refusal) first.0)
    first.1 then
is_undone Tells undone (Grows rest) old between new refusal end (inl first) then =
    inl (undone_so Tells undone old between new refusal no_memory end
    (ap (refusal_of refusal) first.0) first.1 then)
is_undone Tells undone (Grows rest) old between new refusal end (inr first) then =
    inr (is_undone Tells undone rest old between new refusal end first then)
is_undone Tells undone (GrowsOr refused rest) old between new refusal end (inl first) then =
    inl (is_undone Tells undone refused old between new refusal end first then)
is_undone Tells undone (GrowsOr refused rest) old between new refusal end (inr first) then =
    inr (is_undone Tells undone rest old between new refusal end first then)
is_undone Tells undone (Asks call rest) old between new refusal end first then =
    let later = is_undone Tells undone (rest first.0) first.1 between new refusal end first.3 then in
    (first.0, first.1, first.2, later)
