-- The first place of a list at which a test passes.
use Rattle.std.proofs.Common.{◌≡◌, ℕ, ◌<◌, Bool, true, false, List, get_or, length, nat_lt, Some, None, refl, arith}
use Rattle.std.proofs.lemmas.Bool.Decides.{nat_tests}
use Rattle.std.proofs.lemmas.List.Sums.{position_or_len_is}
use Rattle.std.specs.List.{position, position_or_len}

-- it passes here, and nowhere before
pub position_here : {X : Type 0} (p : X → Bool) (xs : List X) (i : ℕ) (d : X) → i < length xs
    → ((k : ℕ) → k < i → p (get_or xs k d) ≡ false) → p (get_or xs i d) ≡ true → position p xs ≡ Some i
position_here p xs i d within before here =
    let first : position_or_len p xs ≡ i = position_or_len_is p xs i d (omega arith) before (λ below. here) in
    let test : nat_lt i (length xs) ≡ true = grind (arith, nat_tests) in
    rw (first, test) refl

-- it passes nowhere
pub position_nowhere : {X : Type 0} (p : X → Bool) (xs : List X) (d : X)
    → ((k : ℕ) → k < length xs → p (get_or xs k d) ≡ false) → position p xs ≡ None
position_nowhere p xs d nowhere =
    let first : position_or_len p xs ≡ length xs =
    position_or_len_is p xs (length xs) d (omega arith) nowhere (λ (below : length xs < length xs). absurd (omega arith)) in
    let test : nat_lt (length xs) (length xs) ≡ false = grind (arith, nat_tests) in
    rw (first, test) refl
