-- Lists to whose ends items are put in a loop.
use Rattle.std.proofs.Common.{◌≡◌, ℕ, ◌+◌, ◌<◌, List, ◌∷◌, ◌++◌, length, drop, get_or, ap, sym, ◌∙◌}
use Rattle.std.proofs.lemmas.List.{append_assoc, drop_more}

more : {X : Type 0} (xs : List X) (i : ℕ) (x : X) → i < length xs → x ≡ get_or xs i x → drop i xs ≡ x ∷ drop (i + 1) xs
more xs i x lt is = drop_more xs i x lt ∙ ap (λ y. y ∷ drop (i + 1) xs) (sym is)

-- what F gives of the items to come, where what it gives of the next one is put to the end
pub step : {X Y : Type 0} (F : List X → List Y) (f : X → List X → List Y) → ((x : X) (xs : List X) → F (x ∷ xs) ≡ f x xs ++ F xs)
    → (xs : List X) (i : ℕ) (x : X) → i < length xs → x ≡ get_or xs i x
    → (old new whole : List Y) → new ≡ old ++ f x (drop (i + 1) xs) → old ++ F (drop i xs) ≡ whole → new ++ F (drop (i + 1) xs) ≡ whole
step F f cons xs i x lt is old new whole h inv =
    let rest = drop (i + 1) xs in
    ap (λ ys. ys ++ F rest) h ∙ append_assoc old (f x rest) (F rest) ∙ ap (λ ys. old ++ ys) (sym (cons x rest))
    ∙ ap (λ zs. old ++ F zs) (sym (more xs i x lt is)) ∙ inv

-- the same where what F gives depends on the place too
pub step_at : {X Y : Type 0} (F : ℕ → List X → List Y) (f : ℕ → X → List Y)
    → ((n : ℕ) (x : X) (xs : List X) → F n (x ∷ xs) ≡ f n x ++ F (n + 1) xs)
    → (xs : List X) (i : ℕ) (x : X) → i < length xs → x ≡ get_or xs i x
    → (old new whole : List Y) → new ≡ old ++ f i x → old ++ F i (drop i xs) ≡ whole → new ++ F (i + 1) (drop (i + 1) xs) ≡ whole
step_at F f cons xs i x lt is old new whole h inv =
    let rest = drop (i + 1) xs in
    ap (λ ys. ys ++ F (i + 1) rest) h ∙ append_assoc old (f i x) (F (i + 1) rest) ∙ ap (λ ys. old ++ ys) (sym (cons i x rest))
    ∙ ap (λ zs. old ++ F i zs) (sym (more xs i x lt is)) ∙ inv
