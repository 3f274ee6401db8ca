-- Dialogues one behind the other.
use Rattle.std.proofs.Common.{◌≡◌, inl, inr, Result, Ok, Err, refl, ap, subst, sym}
use Rattle.nv_base.specs.declared.fault.Fault.{Fault}
use Rattle.nv_calls.specs.declared.answer.Answer.{Answer}
use Rattle.nv_calls.specs.declared.call.Call.{Call}
use Rattle.nv_mount_beside.specs.Memory.{IsOrNoMemory}
use Rattle.nv_mount_beside.specs.declared.refusal.Refusal.{Refusal}
use Rattle.nv_mounted.specs.Side.{Does}
use Rattle.nv_mounted.specs.declared.side.Side.{Side}
use Rattle.nv_mounted.specs.Dialogues.{Asks, Dialogue, Ends, Grows, GrowsOr, IsHad, ◌>>=◌}

-- the value of a result, or another one where it is a refusal
abbrev value_of : {A : Type 0} → A → Result A Refusal → A
value_of other (Ok a) = a
value_of other (Err refusal) = other

-- the refusal of a result, or another one where it is a value
abbrev pub refusal_of : {A : Type 0} → Refusal → Result A Refusal → Refusal
refusal_of other (Ok a) = other
refusal_of other (Err refusal) = refusal

abbrev pub IsValue : {A : Type 0} → Result A Refusal → Type 0
IsValue (Ok a) = Unit {0}
IsValue (Err refusal) = ⊥

-- a dialogue that ended with a value goes on with the next
pub goes_on : {W A B : Type 0} (Tells : W → Call → Result Answer Fault → W → Type 0)
    (d : Dialogue A) (next : A → Dialogue B) (old between new : W) (a : A) (end : Result B Refusal)
    → IsHad Tells d old (Ok a) between → IsHad Tells (next a) between end new
    → IsHad Tells (d >>= next) old end new
unfolding ◌>>=◌
goes_on Tells (Ends (Ok b)) next old between new a end first then =
    let at_b = subst (λ x. IsHad Tells (next x) between end new) (ap (value_of b) first.0) then in
    subst (λ w. IsHad Tells (next b) w end new) first.1 at_b
goes_on Tells (Ends (Err refusal)) next old between new a end first then =
    absurd (subst IsValue first.0 tt)
goes_on Tells (Grows rest) next old between new a end (inl first) then =
    absurd (subst IsValue first.0 tt)
goes_on Tells (Grows rest) next old between new a end (inr first) then =
    inr (goes_on Tells rest next old between new a end first then)
goes_on Tells (GrowsOr refused rest) next old between new a end (inl first) then =
    inl (goes_on Tells refused next old between new a end first then)
goes_on Tells (GrowsOr refused rest) next old between new a end (inr first) then =
    inr (goes_on Tells rest next old between new a end first then)
goes_on Tells (Asks call rest) next old between new a end first then =
    let later = goes_on Tells (rest first.0) next first.1 between new a end first.3 then in
    (first.0, first.1, first.2, later)

-- a dialogue that was refused ends both
pub stops : {W A B : Type 0} (Tells : W → Call → Result Answer Fault → W → Type 0)
    (d : Dialogue A) (next : A → Dialogue B) (old new : W) (refusal : Refusal)
    → IsHad Tells d old (Err refusal) new → IsHad Tells (d >>= next) old (Err refusal) new
unfolding ◌>>=◌
stops Tells (Ends (Ok b)) next old new refusal first = absurd (subst IsValue (sym first.0) tt)
stops Tells (Ends (Err other)) next old new refusal first =
    (ap (λ r. Err (refusal_of refusal r)) first.0, first.1)
stops Tells (Grows rest) next old new refusal (inl first) =
    inl (ap (λ r. Err (refusal_of refusal r)) first.0, first.1)
stops Tells (Grows rest) next old new refusal (inr first) =
    inr (stops Tells rest next old new refusal first)
stops Tells (GrowsOr refused rest) next old new refusal (inl first) =
    inl (stops Tells refused next old new refusal first)
stops Tells (GrowsOr refused rest) next old new refusal (inr first) =
    inr (stops Tells rest next old new refusal first)
stops Tells (Asks call rest) next old new refusal first =
    (first.0, first.1, first.2, stops Tells (rest first.0) next first.1 new refusal first.3)

-- what was told after asking for memory
pub grown : {W A : Type 0} (Tells : W → Call → Result Answer Fault → W → Type 0) (old : W)
    (told result : Result A Refusal)
    → IsOrNoMemory result told → IsHad Tells (Grows (Ends told)) old result old
grown Tells old told result (inl is) = inr (is, refl)
grown Tells old told result (inr is) = inl (is, refl)

-- what a dialogue tells beside which nothing changes
pub unchanged : {W : Type 0} (Tells : W → Call → Result Answer Fault → W → Type 0)
    (d : Dialogue (Unit {0})) (side : Side) (old new : W) (result : Result (Unit {0}) Refusal)
    → IsHad Tells d old result new
    → Does Tells (d >>= λ done. Ends (Ok (tt, side))) old side result new side
unchanged Tells d side old new (Ok done) had = record {
  had =
      goes_on Tells d (λ done. Ends (Ok (tt, side))) old new new done (Ok (tt, side)) had
      (refl, refl);
  same = tt;
}
unchanged Tells d side old new (Err refusal) had = record {
  had = stops Tells d (λ done. Ends (Ok (tt, side))) old new refusal had;
  same = refl;
}

-- two results that are told alike are equal
pub same_told : {A : Type 0} (told : Result A Refusal) (a b : A)
    → IsOrNoMemory (Ok a) told → IsOrNoMemory (Ok b) told → a ≡ b
same_told told a b (inl first) (inl second) = cc
same_told told a b (inl first) (inr second) = cc
same_told told a b (inr first) second = cc

-- what is told is one value
pub told_is : {A : Type 0} (told : Result A Refusal) (a b : A) → Ok a ≡ told → Ok b ≡ told → a ≡ b
told_is told a b first second = cc
