-- What lists are after one append behind another.
use Rattle.std.proofs.Common.{◌≡◌, ℕ, ◌+◌, ◌<◌, ◌≤◌, List, ◌++◌, length, get_or, drop, sym, ap, ◌∙◌, append_assoc}
use Rattle.std.proofs.lemmas.List.{append-nil, drop_all, drop_more}
use Rattle.std.specs.List.{flat_map}

-- two appends
pub twice : (old one two a b : List ℕ) → one ≡ old ++ a → two ≡ one ++ b → two ≡ old ++ (a ++ b)
twice old one two a b first second = second ∙ ap (λ (xs : List ℕ). xs ++ b) first ∙ append_assoc old a b

-- three appends
pub thrice : (old one two three a b c : List ℕ) → one ≡ old ++ a → two ≡ one ++ b → three ≡ two ++ c → three ≡ old ++ (a ++ (b ++ c))
thrice old one two three a b c first second third =
    twice one two three b c second third ∙ ap (λ (xs : List ℕ). xs ++ (b ++ c)) first ∙ append_assoc old a (b ++ c)

-- one more item of a list has been appended
pub more : {X : Type 0} (f : X → List ℕ) (items : List X) (i : ℕ) (d : X) (out new all : List ℕ) → i < length items
    → new ≡ out ++ f (get_or items i d) → out ++ flat_map f (drop i items) ≡ all
    → new ++ flat_map f (drop (i + 1) items) ≡ all
more {X} f items i d out new all below put before =
    let own = f (get_or items i d) in
    let later = flat_map f (drop (i + 1) items) in
    let here : flat_map f (drop i items) ≡ own ++ later = ap (flat_map f) (drop_more items i d below) in
    ap (λ (xs : List ℕ). xs ++ later) put ∙ append_assoc out own later ∙ ap (λ (xs : List ℕ). out ++ xs) (sym here) ∙ before

-- all items of a list have been appended
pub all_put : {X : Type 0} (f : X → List ℕ) (items : List X) (i : ℕ) (out all : List ℕ) → length items ≤ i
    → out ++ flat_map f (drop i items) ≡ all → out ≡ all
all_put {X} f items i out all past before =
    sym (append-nil out) ∙ ap (λ (xs : List X). out ++ flat_map f xs) (sym (drop_all i items past)) ∙ before
