-- What is asked of each item of a list, from a place on.
use Rattle.std.proofs.Common.{◌≡◌, List, [], ◌∷◌, ◌++◌, append_assoc, inl, inr, Result, Ok, Err, ap, refl, sym, subst}
use Rattle.std.proofs.lemmas.List.{append-nil}
use Rattle.nv_base.specs.declared.fault.Fault.{Fault}
use Rattle.nv_calls.specs.declared.answer.Answer.{Answer}
use Rattle.nv_calls.specs.declared.call.Call.{Call}
use Rattle.nv_mount_beside.specs.declared.refusal.Refusal.{Refusal}
use Rattle.nv_mounted.specs.Dialogues.{Asks, Dialogue, Ends, Grows, GrowsOr, IsHad, ask_each, ◌>>=◌}
use Rattle.nv_mounted.proofs.Dialogues.{goes_on, stops}
use Rattle.nv_mounted.proofs.Each.{grouped}

-- what is asked of the items that are left, behind what was told of those before
abbrev pub ask_left : {A B : Type 0} → (A → Dialogue B) → List B → List A → Dialogue (List B)
ask_left asked told left = ask_each asked left >>= λ rest. Ends (Ok (told ++ rest))

-- a dialogue whose end is told as it is
pub told_same : {W A : Type 0} (Tells : W → Call → Result Answer Fault → W → Type 0)
    (d : Dialogue A) (old new : W) (end : Result A Refusal)
    → IsHad Tells (d >>= λ a. Ends (Ok a)) old end new → IsHad Tells d old end new
unfolding ◌>>=◌
told_same Tells (Ends (Ok a)) old new end had = had
told_same Tells (Ends (Err refusal)) old new end had = had
told_same Tells (Grows rest) old new end (inl had) = inl had
told_same Tells (Grows rest) old new end (inr had) = inr (told_same Tells rest old new end had)
told_same Tells (GrowsOr refused rest) old new end (inl had) =
    inl (told_same Tells refused old new end had)
told_same Tells (GrowsOr refused rest) old new end (inr had) =
    inr (told_same Tells rest old new end had)
told_same Tells (Asks call rest) old new end had =
    (had.0, had.1, had.2, told_same Tells (rest had.0) had.1 new end had.3)

-- one more item was asked of
pub left_more : {W A B : Type 0} (Tells : W → Call → Result Answer Fault → W → Type 0)
    (asked : A → Dialogue B) (told : List B) (a : A) (left : List A) (old between new : W) (b : B)
    (end : Result (List B) Refusal)
    → IsHad Tells (asked a) old (Ok b) between
    → IsHad Tells (ask_left asked (told ++ b ∷ []) left) between end new
    → IsHad Tells (ask_left asked told (a ∷ left)) old end new
unfolding ◌>>=◌
left_more {W} {A} {B} Tells asked told a left old between new b end first then =
    let next = λ (one : B). ask_each asked left >>= λ others. Ends (Ok (one ∷ others)) in
    let last = λ (all : List B). Ends (Ok (told ++ all)) in
    let same : (λ (others : List B). Ends (Ok ((told ++ b ∷ []) ++ others))) ≡ (λ (others : List B). Ends (Ok (told ++ (b ∷ others)))) =
    λ i others. Ends (Ok (append_assoc told (b ∷ []) others i)) in
    let here = subst (λ (f : List B → Dialogue (List B)). IsHad Tells (ask_each asked left >>= f) between end new) same then in
    grouped Tells (asked a) next last old new end
    (goes_on Tells (asked a) (λ (one : B). next one >>= last) old between new b end first
    (grouped Tells (ask_each asked left) (λ others. Ends (Ok (b ∷ others))) last between new end here))

-- it was refused
pub left_stops : {W A B : Type 0} (Tells : W → Call → Result Answer Fault → W → Type 0)
    (asked : A → Dialogue B) (told : List B) (a : A) (left : List A) (old new : W)
    (refusal : Refusal)
    → IsHad Tells (asked a) old (Err refusal) new
    → IsHad Tells (ask_left asked told (a ∷ left)) old (Err refusal) new
left_stops {W} {A} {B} Tells asked told a left old new refusal first =
    stops Tells (ask_each asked (a ∷ left)) (λ (all : List B). Ends (Ok (told ++ all))) old new refusal
    (stops Tells (asked a) (λ (one : B). ask_each asked left >>= λ others. Ends (Ok (one ∷ others))) old new refusal first)

-- no item is left
pub left_none : {W A B : Type 0} (Tells : W → Call → Result Answer Fault → W → Type 0)
    (asked : A → Dialogue B) (told : List B) (old : W)
    → IsHad Tells (ask_left asked told []) old (Ok told) old
unfolding ◌>>=◌
left_none Tells asked told old = (ap Ok (sym (append-nil told)), refl)
