-- Lists of cells of which one changes.
use Rattle.std.proofs.Common.{◌≡◌, ℕ, zero, suc, ◌-◌, ◌<◌, List, [], ◌∷◌, length, arith, refl, ap, ap₂, sym, ◌∙◌}
use Rattle.std.proofs.lemmas.List.{get_or-set_other}
use Rattle.nv_cell.specs.Cell.{CellRoom, CellState, CellValue}
use Rattle.nv_calls.specs.Cells.{OnlyAt, ino_at, no_cell, value_at, with_value}

pub value_with : (cells : List (ℕ × CellValue)) (k : ℕ) (v : CellValue) → k < length cells → value_at (with_value cells k v) k ≡ v
value_with [] k v lt = absurd (omega (arith, lt))
value_with (x ∷ xs) zero v lt = refl
value_with (x ∷ xs) (suc k) v lt = value_with xs k v (omega (arith, lt))

pub value_given : (cells now : List (ℕ × CellValue)) (k : ℕ) (v : CellValue) → k < length cells → now ≡ with_value cells k v
    → value_at now k ≡ v
value_given cells now k v lt is = ap (λ (cs : List (ℕ × CellValue)). value_at cs k) is ∙ value_with cells k v lt

pub with_twice : (cells : List (ℕ × CellValue)) (k : ℕ) (v w : CellValue) → with_value (with_value cells k v) k w ≡ with_value cells k w
with_twice [] k v w = refl
with_twice (x ∷ xs) zero v w = refl
with_twice (x ∷ xs) (suc k) v w = ap (λ (ys : List (ℕ × CellValue)). x ∷ ys) (with_twice xs k v w)

pub with_same : (cells : List (ℕ × CellValue)) (k : ℕ) → with_value cells k (value_at cells k) ≡ cells
with_same [] k = refl
with_same (x ∷ xs) zero = refl
with_same (x ∷ xs) (suc k) = ap (λ (ys : List (ℕ × CellValue)). x ∷ ys) (with_same xs k)

pub length-with : (cells : List (ℕ × CellValue)) (k : ℕ) (v : CellValue) → length (with_value cells k v) ≡ length cells
length-with [] k v = refl
length-with (x ∷ xs) zero v = refl
length-with (x ∷ xs) (suc k) v = ap (λ (n : ℕ). suc n) (length-with xs k v)

-- a cell by its state and its room
pub value_is : (v : CellValue) (s : CellState) (r : CellRoom) → v.state ≡ s → v.room ≡ r
    → v ≡ (let w : CellValue = record { state = s; room = r } in w)
value_is v s r state room = ap₂ (λ (x : CellState) (y : CellRoom). let w : CellValue = record { state = x; room = y } in w) state room

-- the cell at a place is changed once more
pub only_again : (cells now new : List (ℕ × CellValue)) (k : ℕ) (v w : CellValue) → now ≡ with_value cells k v → OnlyAt k now new
    → value_at new k ≡ w → new ≡ with_value cells k w
only_again cells now new k v w is only value =
    only ∙ ap (with_value now k) value ∙ ap (λ (xs : List (ℕ × CellValue)). with_value xs k w) is ∙ with_twice cells k v w

pub only_along : (cells now new : List (ℕ × CellValue)) (k : ℕ) → OnlyAt k cells now → OnlyAt k now new → OnlyAt k cells new
only_along cells now new k first second = only_again cells now new k (value_at now k) (value_at new k) first second refl

-- the other cells stay, and all numbers
pub value_other : (cells : List (ℕ × CellValue)) (k other : ℕ) (v : CellValue) → (other ≡ k → ⊥)
    → value_at (with_value cells k v) other ≡ value_at cells other
value_other cells k other v apart = ap (λ (c : ℕ × CellValue). c.1) (get_or-set_other cells k other (ino_at cells k, v) no_cell apart)

pub ino_stays : (cells : List (ℕ × CellValue)) (k other : ℕ) (v : CellValue) → ino_at (with_value cells k v) other ≡ ino_at cells other
ino_stays [] k other v = refl
ino_stays (x ∷ xs) zero zero v = refl
ino_stays (x ∷ xs) zero (suc other) v = refl
ino_stays (x ∷ xs) (suc k) zero v = refl
ino_stays (x ∷ xs) (suc k) (suc other) v = ino_stays xs k other v

pub other-only : (cells now : List (ℕ × CellValue)) (k other : ℕ) → OnlyAt k cells now → (other ≡ k → ⊥)
    → value_at now other ≡ value_at cells other
other-only cells now k other only apart =
    ap (λ (cs : List (ℕ × CellValue)). value_at cs other) only ∙ value_other cells k other (value_at now k) apart

pub ino-only : (cells now : List (ℕ × CellValue)) (k other : ℕ) → OnlyAt k cells now → ino_at now other ≡ ino_at cells other
ino-only cells now k other only =
    ap (λ (cs : List (ℕ × CellValue)). ino_at cs other) only ∙ ino_stays cells k other (value_at now k)

-- a cell that has a new value is all that changes
pub only_value : (cells now : List (ℕ × CellValue)) (k : ℕ) (v : CellValue) → k < length cells → now ≡ with_value cells k v
    → OnlyAt k cells now
only_value cells now k v lt is =
    is ∙ ap (with_value cells k) (sym (value_given cells now k v lt is))

pub length-only : (cells now : List (ℕ × CellValue)) (k : ℕ) → OnlyAt k cells now → length now ≡ length cells
length-only cells now k only = ap length only ∙ length-with cells k (value_at now k)

-- the cell in front, and one behind it
pub value_first : (i : ℕ) (v : CellValue) (k : ℕ) → k < 1 → value_at ((i, v) ∷ []) k ≡ v
value_first i v zero lt = refl
value_first i v (suc k) lt = absurd (omega (arith, lt))

pub value_front : (c : ℕ × CellValue) (cells : List (ℕ × CellValue)) (k : ℕ) → k ≡ 0 → value_at (c ∷ cells) k ≡ c.1
value_front c cells zero is = refl
value_front c cells (suc k) is = absurd (omega (arith, is))

pub value_behind : (c : ℕ × CellValue) (cells : List (ℕ × CellValue)) (k : ℕ) → (k ≡ 0 → ⊥)
    → value_at (c ∷ cells) k ≡ value_at cells (k - 1)
value_behind c cells zero other = absurd (other refl)
value_behind c cells (suc k) other = let e : k ≡ suc k - 1 = omega arith in ap (λ (n : ℕ). value_at cells n) e
