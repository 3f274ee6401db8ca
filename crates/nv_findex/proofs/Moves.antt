-- Lists of which one item goes on from place to place.
use Rattle.std.proofs.Common.{◌≡◌, ℕ, ◌+◌, ◌-◌, ◌<◌, ◌≤◌, List, [], ◌∷◌, ◌++◌, length, take, drop, set, replicate, ap, sym, ◌∙◌, arith}
use Rattle.std.specs.List.{insert}
use Rattle.std.proofs.lemmas.List.{append-nil, append_assoc, drop_more, length-replicate, replicate_more, set-append_right, drop_all, drop_at, length-take, length_push, take-take, take_at}

-- an item put behind the first ones, and the last item of a list put back there
pub insert_cut : {A : Type 0} (xs : List A) (n : ℕ) (r : A) → n ≤ length xs → insert (take n xs) n r ≡ take n xs ++ r ∷ []
insert_cut xs n r le =
    ap (λ p. p ++ r ∷ drop n (take n xs)) (take-take n n xs (omega arith))
    ∙ ap (λ q. take n xs ++ r ∷ q) (drop_all n (take n xs) (omega (arith, length-take n xs)))

pub take_insert : {A : Type 0} (xs : List A) (i : ℕ) (y : A) → i ≤ length xs → take (i + 1) (insert xs i y) ≡ take i xs ++ y ∷ []
take_insert xs i y le =
    let len : length (take i xs ++ y ∷ []) ≡ i + 1 = omega (arith, length_push (take i xs) y, length-take i xs) in
    ap (λ l. take (i + 1) l) (sym (append_assoc (take i xs) (y ∷ []) (drop i xs))) ∙ take_at (take i xs ++ y ∷ []) (drop i xs) (i + 1) len

pub drop_insert : {A : Type 0} (xs : List A) (i n : ℕ) (y : A) → i ≤ length xs → n ≡ i + 1 → drop n (insert xs i y) ≡ drop i xs
drop_insert xs i n y le e =
    let len : length (take i xs ++ y ∷ []) ≡ n = omega (arith, length_push (take i xs) y, length-take i xs) in
    ap (λ l. drop n l) (sym (append_assoc (take i xs) (y ∷ []) (drop i xs))) ∙ drop_at (take i xs ++ y ∷ []) (drop i xs) n len

-- one item, or two with others between them, put in place of others
pub one_put : {A : Type 0} (xs ys new es : List A) (i j k : ℕ) (y : A) → new ≡ take (i + 1) ys ++ (es ++ drop j ys) → take (i + 1) ys ≡ take i xs ++ y ∷ []
    → drop j ys ≡ drop k xs → new ≡ take i xs ++ ((y ∷ es ++ []) ++ drop k xs)
one_put xs ys new es i j k y e front back =
    e ∙ ap (λ l. l ++ (es ++ drop j ys)) front ∙ ap (λ l. (take i xs ++ y ∷ []) ++ (es ++ l)) back ∙ append_assoc (take i xs) (y ∷ []) (es ++ drop k xs)
    ∙ ap (λ l. take i xs ++ (y ∷ (l ++ drop k xs))) (sym (append-nil es))

pub two_put : {A : Type 0} (xs ys zs new es : List A) (i j l k : ℕ) (y z : A) → new ≡ take (i + 1) zs ++ (es ++ drop l zs)
    → take (i + 1) ys ≡ take i xs ++ y ∷ [] → drop j ys ≡ drop k xs → take l zs ≡ take l ys → drop l zs ≡ z ∷ drop j ys → i + 1 ≤ l
    → new ≡ take i xs ++ ((y ∷ es ++ z ∷ []) ++ drop k xs)
two_put xs ys zs new es i j l k y z e front back same last le =
    let first : take (i + 1) zs ≡ take i xs ++ y ∷ [] =
    sym (take-take (i + 1) l zs le) ∙ ap (take (i + 1)) same ∙ take-take (i + 1) l ys le ∙ front in
    e ∙ ap (λ p. p ++ (es ++ drop l zs)) first ∙ ap (λ q. (take i xs ++ y ∷ []) ++ (es ++ q)) (last ∙ ap (λ q. z ∷ q) back)
    ∙ append_assoc (take i xs) (y ∷ []) (es ++ z ∷ drop k xs) ∙ ap (λ q. take i xs ++ y ∷ q) (sym (append_assoc es (z ∷ []) (drop k xs)))

-- items of a list that become one, from place i on
pub set_next : {A : Type 0} (xs ys : List A) (i k : ℕ) (e : A) → ys ≡ take i xs ++ (replicate (k - i) e ++ drop k xs) → i ≤ k → k < length xs
    → set ys k e ≡ take i xs ++ (replicate (k + 1 - i) e ++ drop (k + 1) xs)
set_next xs ys i k e is le lt =
    let more : k + 1 - i ≡ k - i + 1 = omega arith in
    let none : k - i - (k - i) ≡ 0 = omega arith in
    ap (λ l. set l k e) is
    ∙ set-append_right (take i xs) _ i k e (omega (arith, length-take i xs)) le
    ∙ ap (λ l. take i xs ++ l) (set-append_right (replicate (k - i) e) (drop k xs) (k - i) (k - i) e (length-replicate (k - i) e) (omega arith)
    ∙ rw (none, drop_more xs k e lt, more, sym (replicate_more (k - i) e)) (sym (append_assoc (replicate (k - i) e) (e ∷ []) (drop (k + 1) xs))))
