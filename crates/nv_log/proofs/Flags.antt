-- What flags leave of a list and what goes: one more item, how many, and flags of parts as flags of their items.
use Rattle.std.proofs.Common.{◌≡◌, ℕ, zero, suc, ◌+◌, ◌-◌, ◌<◌, ◌≤◌, Bool, true, false, not, cond, List, [], ◌∷◌, ◌++◌, length, take, drop, get_or, replicate, length-drop, arith, refl, ap, sym, ◌∙◌, add-one}
use Rattle.std.proofs.lemmas.List.{append-nil, length-take, nil_from_length, take_min}
use Rattle.std.proofs.lemmas.List.Sums.{sum_by-cons}
use Rattle.std.specs.List.{AllByRecursion, count_by}
use Rattle.nv_entry.specs.Clean.{select}
use Rattle.nv_log.specs.Chain.{AreEnds, gone_of, joined, left_of, parts_from}
use Rattle.nv_log.proofs.Parts.{from_le_len, joined-parts}

pub left_of-none : (X : Type 0) (stays : List Bool) → left_of {X = X} stays [] ≡ []
left_of-none X [] = refl
left_of-none X (b ∷ stays) = refl

-- one more item
left_of-more : {X : Type 0} (stays : List Bool) (xs : List X) (i : ℕ) (d : X) → i < length xs
    → left_of stays (take (suc i) xs) ≡ left_of stays (take i xs) ++ cond (get_or stays i true) (get_or xs i d ∷ []) []
left_of-more stays [] i d lt = absurd (omega arith)
left_of-more [] (x ∷ xs) zero d lt = refl
left_of-more {X = X} (true ∷ stays) (x ∷ xs) zero d lt = ap (λ ys. x ∷ ys) (left_of-none X stays)
left_of-more {X = X} (false ∷ stays) (x ∷ xs) zero d lt = left_of-none X stays
left_of-more [] (x ∷ xs) (suc i) d lt = ap (λ ys. x ∷ ys) (left_of-more [] xs i d (omega arith))
left_of-more (true ∷ stays) (x ∷ xs) (suc i) d lt = ap (λ ys. x ∷ ys) (left_of-more stays xs i d (omega arith))
left_of-more (false ∷ stays) (x ∷ xs) (suc i) d lt = left_of-more stays xs i d (omega arith)

pub left_of-goes : {X : Type 0} (stays : List Bool) (xs : List X) (i : ℕ) (d : X) → i < length xs → get_or stays i true ≡ false
    → left_of stays (take (i + 1) xs) ≡ left_of stays (take i xs)
left_of-goes stays xs i d lt flag =
    rw add-one (left_of-more stays xs i d lt ∙ ap (λ b. left_of stays (take i xs) ++ cond b (get_or xs i d ∷ []) []) flag
    ∙ append-nil (left_of stays (take i xs)))

pub left_of-stays : {X : Type 0} (stays : List Bool) (xs : List X) (i : ℕ) (d : X) → i < length xs → get_or stays i true ≡ true
    → left_of stays (take (i + 1) xs) ≡ left_of stays (take i xs) ++ get_or xs i d ∷ []
left_of-stays stays xs i d lt flag =
    rw add-one (left_of-more stays xs i d lt ∙ ap (λ b. left_of stays (take i xs) ++ cond b (get_or xs i d ∷ []) []) flag)

pub gone_of-none : (X : Type 0) (stays : List Bool) → gone_of {X = X} stays [] ≡ []
gone_of-none X [] = refl
gone_of-none X (b ∷ stays) = refl

gone_of-more : {X : Type 0} (stays : List Bool) (xs : List X) (i : ℕ) (d : X) → i < length xs
    → gone_of stays (take (suc i) xs) ≡ gone_of stays (take i xs) ++ cond (get_or stays i true) [] (get_or xs i d ∷ [])
gone_of-more [] xs i d lt = refl
gone_of-more (b ∷ stays) [] i d lt = absurd (omega arith)
gone_of-more {X = X} (true ∷ stays) (x ∷ xs) zero d lt = gone_of-none X stays
gone_of-more {X = X} (false ∷ stays) (x ∷ xs) zero d lt = ap (λ ys. x ∷ ys) (gone_of-none X stays)
gone_of-more (true ∷ stays) (x ∷ xs) (suc i) d lt = gone_of-more stays xs i d (omega arith)
gone_of-more (false ∷ stays) (x ∷ xs) (suc i) d lt = ap (λ ys. x ∷ ys) (gone_of-more stays xs i d (omega arith))

pub gone_of-goes : {X : Type 0} (stays : List Bool) (xs : List X) (i : ℕ) (x : X) → i < length xs → get_or stays i true ≡ false
    → x ≡ get_or xs i x → gone_of stays (take (i + 1) xs) ≡ gone_of stays (take i xs) ++ x ∷ []
gone_of-goes stays xs i x lt flag read =
    rw add-one (gone_of-more stays xs i x lt ∙ ap (λ b. gone_of stays (take i xs) ++ cond b [] (get_or xs i x ∷ [])) flag
    ∙ ap (λ y. gone_of stays (take i xs) ++ y ∷ []) (sym read))

pub gone_of-stays : {X : Type 0} (stays : List Bool) (xs : List X) (i : ℕ) (d : X) → i < length xs → get_or stays i true ≡ true
    → gone_of stays (take (i + 1) xs) ≡ gone_of stays (take i xs)
gone_of-stays stays xs i d lt flag =
    rw add-one (gone_of-more stays xs i d lt ∙ ap (λ b. gone_of stays (take i xs) ++ cond b [] (get_or xs i d ∷ [])) flag
    ∙ append-nil (gone_of stays (take i xs)))

-- what holds of each item holds of each that is left
pub all_left : {X : Type 0} (P : X → Type 0) (stays : List Bool) (xs : List X) → AllByRecursion P xs → AllByRecursion P (left_of stays xs)
all_left P [] xs all = all
all_left P (b ∷ stays) [] all = tt
all_left P (true ∷ stays) (x ∷ xs) all = (all.0, all_left P stays xs all.1)
all_left P (false ∷ stays) (x ∷ xs) all = all_left P stays xs all.1

-- what holds of each item that goes holds of the one at a place
pub gone_at : {X : Type 0} (P : X → Type 0) (stays : List Bool) (xs : List X) (i : ℕ) (d : X) → AllByRecursion P (gone_of stays xs)
    → i < length xs → get_or stays i true ≡ false → P (get_or xs i d)
gone_at P [] xs i d all lt flag = cc
gone_at P (b ∷ stays) [] i d all lt flag = absurd (omega arith)
gone_at P (true ∷ stays) (x ∷ xs) zero d all lt flag = cc
gone_at P (false ∷ stays) (x ∷ xs) zero d all lt flag = all.0
gone_at P (true ∷ stays) (x ∷ xs) (suc i) d all lt flag = gone_at P stays xs i d all (omega arith) flag
gone_at P (false ∷ stays) (x ∷ xs) (suc i) d all lt flag = gone_at P stays xs i d all.1 (omega arith) flag

-- and what holds of each item holds of each that goes
pub all_gone : {X : Type 0} (P : X → Type 0) (stays : List Bool) (xs : List X) → AllByRecursion P xs → AllByRecursion P (gone_of stays xs)
all_gone P [] xs all = tt
all_gone P (b ∷ stays) [] all = tt
all_gone P (true ∷ stays) (x ∷ xs) all = all_gone P stays xs all.1
all_gone P (false ∷ stays) (x ∷ xs) all = (all.0, all_gone P stays xs all.1)

-- how many are left, by how many go
pub length-left_of : {X : Type 0} (stays : List Bool) (xs : List X) → length (left_of stays xs) + length (gone_of stays xs) ≡ length xs
length-left_of [] xs = omega arith
length-left_of (b ∷ stays) [] = refl
length-left_of (true ∷ stays) (x ∷ xs) = omega (arith, length-left_of stays xs)
length-left_of (false ∷ stays) (x ∷ xs) = omega (arith, length-left_of stays xs)

-- and by the flags, where each is that of an item
pub length-left_of-flags : {X : Type 0} (stays : List Bool) (xs : List X) → length stays ≤ length xs
    → length (left_of stays xs) ≡ count_by (λ b. b) stays + (length xs - length stays)
length-left_of-flags [] xs le = omega arith
length-left_of-flags (b ∷ stays) [] le = absurd (omega arith)
length-left_of-flags (true ∷ stays) (x ∷ xs) le =
    omega (arith, length-left_of-flags stays xs (omega arith), sum_by-cons (λ b. cond b 1 0) true stays)
length-left_of-flags (false ∷ stays) (x ∷ xs) le =
    omega (arith, length-left_of-flags stays xs (omega arith), sum_by-cons (λ b. cond b 1 0) false stays)

-- no more go than flags say
pub gone_of-le-flags : {X : Type 0} (stays : List Bool) (xs : List X) → length (gone_of stays xs) ≤ count_by not stays
gone_of-le-flags [] xs = omega arith
gone_of-le-flags (b ∷ stays) [] = omega arith
gone_of-le-flags (true ∷ stays) (x ∷ xs) = omega (arith, gone_of-le-flags stays xs, sum_by-cons (λ b. cond (not b) 1 0) true stays)
gone_of-le-flags (false ∷ stays) (x ∷ xs) = omega (arith, gone_of-le-flags stays xs, sum_by-cons (λ b. cond (not b) 1 0) false stays)

-- of a shorter list no more is left
pub length-left_of-le : {X Y : Type 0} (stays : List Bool) (xs : List X) (ys : List Y) → length xs ≤ length ys
    → length (left_of stays xs) ≤ length (left_of stays ys)
length-left_of-le [] xs ys le = le
length-left_of-le (b ∷ stays) [] ys le = omega arith
length-left_of-le (b ∷ stays) (x ∷ xs) [] le = absurd (omega arith)
length-left_of-le (true ∷ stays) (x ∷ xs) (y ∷ ys) le = omega (arith, length-left_of-le stays xs ys (omega arith))
length-left_of-le (false ∷ stays) (x ∷ xs) (y ∷ ys) le = length-left_of-le stays xs ys (omega arith)

-- where each item has a flag, those are left that the flags mark as staying
pub left_of-select : {X : Type 0} (stays : List Bool) (xs : List X) → length stays ≡ length xs → left_of stays xs ≡ select stays xs
left_of-select [] xs size = nil_from_length xs (omega (arith, size))
left_of-select (b ∷ stays) [] size = absurd (omega (arith, size))
left_of-select (true ∷ stays) (x ∷ xs) size = ap (λ ys. x ∷ ys) (left_of-select stays xs (omega (arith, size)))
left_of-select (false ∷ stays) (x ∷ xs) size = left_of-select stays xs (omega (arith, size))

-- what is left of the front of a list stands in front of what is left of the list
pub take-left_of : {X : Type 0} (stays : List Bool) (n : ℕ) (xs : List X)
    → take (length (left_of stays (take n xs))) (left_of stays xs) ≡ left_of stays (take n xs)
take-left_of [] n xs = rw length-take (take_min n xs)
take-left_of (b ∷ stays) zero xs = refl
take-left_of (b ∷ stays) (suc n) [] = refl
take-left_of (true ∷ stays) (suc n) (x ∷ xs) = ap (λ ys. x ∷ ys) (take-left_of stays n xs)
take-left_of (false ∷ stays) (suc n) (x ∷ xs) = take-left_of stays n xs

-- flags of parts as flags of their items
abbrev pub spread : ℕ → List Bool → List ℕ → List Bool
spread from stays [] = []
spread from [] (e ∷ ends) = []
spread from (b ∷ stays) (e ∷ ends) = replicate (e - from) b ++ spread e stays ends

left_of-all_go : {X : Type 0} (n : ℕ) (stays : List Bool) (xs : List X)
    → left_of (replicate n false ++ stays) xs ≡ left_of stays (drop n xs)
left_of-all_go zero stays xs = refl
left_of-all_go (suc n) [] [] = refl
left_of-all_go (suc n) (b ∷ stays) [] = refl
left_of-all_go (suc n) stays (x ∷ xs) = left_of-all_go n stays xs

left_of-all_stay : {X : Type 0} (n : ℕ) (stays : List Bool) (xs : List X)
    → left_of (replicate n true ++ stays) xs ≡ take n xs ++ left_of stays (drop n xs)
left_of-all_stay zero stays xs = refl
left_of-all_stay (suc n) [] [] = refl
left_of-all_stay (suc n) (b ∷ stays) [] = refl
left_of-all_stay (suc n) stays (x ∷ xs) = ap (λ ys. x ∷ ys) (left_of-all_stay n stays xs)

-- the parts that are left, joined, are what is left of the list
pub joined-left_of : {X : Type 0} (most from : ℕ) (stays : List Bool) (ends : List ℕ) (len : ℕ) (xs : List X)
    → AreEnds most from ends len → from + length xs ≤ len
    → joined (left_of stays (parts_from from ends xs)) ≡ left_of (spread from stays ends) xs
joined-left_of most from [] [] len xs are le = joined-parts most from [] len xs are le
joined-left_of most from (b ∷ stays) [] len xs are le = joined-parts most from [] len xs are le
joined-left_of most from [] (e ∷ ends) len xs are le = joined-parts most from (e ∷ ends) len xs are le
joined-left_of most from (true ∷ stays) (e ∷ ends) len xs are le =
    let n = e - from in
    ap (λ ys. take n xs ++ ys) (joined-left_of most e stays ends len (drop n xs) are.2 (omega (
      arith,
      length-drop n xs,
      are.0,
      from_le_len most e ends len are.2,
    ))) ∙ sym (left_of-all_stay n (spread e stays ends) xs)
joined-left_of most from (false ∷ stays) (e ∷ ends) len xs are le =
    let n = e - from in
    joined-left_of most e stays ends len (drop n xs) are.2 (omega (arith, length-drop n xs, are.0, from_le_len most e ends len are.2))
    ∙ sym (left_of-all_go n (spread e stays ends) xs)

-- the log that is left stands in front of the entries that are left
pub take-joined_left : {X : Type 0} (most : ℕ) (stays : List Bool) (ends : List ℕ) (tail : ℕ) (xs : List X)
    → AreEnds most 0 ends (length xs)
    → take (length (joined (left_of stays (parts_from 0 ends (take tail xs))))) (joined (left_of stays (parts_from 0 ends xs)))
    ≡ joined (left_of stays (parts_from 0 ends (take tail xs)))
take-joined_left most stays ends tail xs are =
    rw (
      joined-left_of most 0 stays ends (length xs) xs are (omega arith),
      joined-left_of most 0 stays ends (length xs) (take tail xs) are (omega (arith, length-take tail xs)),
    )
    (take-left_of (spread 0 stays ends) tail xs)
