-- Steps of dialogues: choices, refusals for want of memory, and lists that are cut at a place.
use Rattle.std.proofs.Common.{◌≡◌, ℕ, ◌+◌, ◌<◌, ◌≤◌, Bool, true, false, if◌then◌else◌, cond, drop, filter, get_or, length, List, [], ◌∷◌, Result, Ok, Err, OnErr, inl, inr, not, refl, sym, ap, ◌∙◌}
use Rattle.std.proofs.lemmas.List.{drop_all, drop_more}
use Rattle.nv_base.specs.declared.fault.Fault.{Fault}
use Rattle.nv_calls.specs.declared.answer.Answer.{Answer}
use Rattle.nv_calls.specs.declared.call.Call.{Call}
use Rattle.nv_mount_beside.specs.Memory.{IsOrNoMemory, no_memory}
use Rattle.nv_mount_beside.specs.declared.refusal.Refusal.{Refusal}
use Rattle.nv_mounted.specs.Dialogues.{Dialogue, Ends, Grows, IsHad}
use Rattle.nv_mounted.specs.Side.{with_side}

-- the dialogue that a test chooses
pub first_of_two : {W A : Type 0} (Tells : W → Call → Result Answer Fault → W → Type 0) (b : Bool)
    (x y : Dialogue A) (old new : W) (end : Result A Refusal) → b ≡ true
    → IsHad Tells x old end new → IsHad Tells (if b then x else y) old end new
first_of_two Tells true x y old new end e had = had
first_of_two Tells false x y old new end e had = let no : ⊥ = cc in absurd no

pub second_of_two : {W A : Type 0} (Tells : W → Call → Result Answer Fault → W → Type 0) (b : Bool)
    (x y : Dialogue A) (old new : W) (end : Result A Refusal) → b ≡ false
    → IsHad Tells y old end new → IsHad Tells (if b then x else y) old end new
second_of_two Tells true x y old new end e had = let no : ⊥ = cc in absurd no
second_of_two Tells false x y old new end e had = had

-- where a value was told, the refusal is for want of memory
pub only_memory : {A : Type 0} (refusal : Refusal) (a : A) → IsOrNoMemory (Err refusal) (Ok a) → refusal ≡ no_memory
only_memory refusal a (inl e) = let no : ⊥ = cc in absurd no
only_memory refusal a (inr e) = cc

-- a value is the one that was told
pub told_value : {A : Type 0} (a b : A) → IsOrNoMemory (Ok a) (Ok b) → a ≡ b
told_value a b (inl e) = cc
told_value a b (inr e) = let no : ⊥ = cc in absurd no

kept_front : {X : Type 0} (b : Bool) (x : X) (xs : List X) → b ≡ true → cond b (x ∷ xs) xs ≡ x ∷ xs
kept_front true x xs e = refl
kept_front false x xs e = let no : ⊥ = cc in absurd no

left_front : {X : Type 0} (b : Bool) (x : X) (xs : List X) → b ≡ false → cond b (x ∷ xs) xs ≡ xs
left_front true x xs e = let no : ⊥ = cc in absurd no
left_front false x xs e = refl

-- the element at a place passes, or does not
pub filter_keeps : {X : Type 0} (test : X → Bool) (xs : List X) (i : ℕ) (x : X) → i < length xs
    → x ≡ get_or xs i x → test x ≡ true
    → filter test (drop i xs) ≡ x ∷ filter test (drop (i + 1) xs)
filter_keeps test xs i x below here passes =
    ap (filter test) (drop_more xs i x below)
    ∙ ap (λ y. filter test (y ∷ drop (i + 1) xs)) (sym here)
    ∙ kept_front (test x) x (filter test (drop (i + 1) xs)) passes

pub filter_leaves : {X : Type 0} (test : X → Bool) (xs : List X) (i : ℕ) (x : X) → i < length xs
    → x ≡ get_or xs i x → test x ≡ false
    → filter test (drop i xs) ≡ filter test (drop (i + 1) xs)
filter_leaves test xs i x below here fails =
    ap (filter test) (drop_more xs i x below)
    ∙ ap (λ y. filter test (y ∷ drop (i + 1) xs)) (sym here)
    ∙ left_front (test x) x (filter test (drop (i + 1) xs)) fails

pub filter_ends : {X : Type 0} (test : X → Bool) (xs : List X) (i : ℕ) → length xs ≤ i → filter test (drop i xs) ≡ []
filter_ends test xs i past = ap (filter test) (drop_all i xs past)

pub not_false : (b : Bool) → false ≡ not b → b ≡ true
not_false true e = refl
not_false false e = let no : ⊥ = cc in absurd no

pub not_true : (b : Bool) → true ≡ not b → b ≡ false
not_true true e = let no : ⊥ = cc in absurd no
not_true false e = refl

-- a value was told after asking for memory, beside which nothing changes
pub grown_beside : {W S A : Type 0} (Tells : W → Call → Result Answer Fault → W → Type 0)
    (result : Result A Refusal) (a : A) (side : S) (old : W) → IsOrNoMemory result (Ok a)
    → IsHad Tells (Grows (Ends (Ok (a, side)))) old (with_side side result) old
grown_beside Tells (Ok b) a side old (inl e) =
    let same : b ≡ a = cc in inr (ap (λ x. Ok (x, side)) same, refl)
grown_beside Tells (Ok b) a side old (inr e) = let no : ⊥ = cc in absurd no
grown_beside Tells (Err refusal) a side old (inl e) = let no : ⊥ = cc in absurd no
grown_beside Tells (Err refusal) a side old (inr e) =
    let same : refusal ≡ no_memory = cc in inl (ap Err same, refl)

pub stays : {S A : Type 0} (result : Result A Refusal) (side : S) → OnErr result (side ≡ side)
stays (Ok a) side = tt
stays (Err refusal) side = refl
