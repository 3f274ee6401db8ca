-- Slots in falling order, as cells come out of their locks.
use Rattle.std.proofs.Common.{◌≡◌, ◌∙◌, ◌+◌, ◌++◌, ℕ, suc, List, [], ◌∷◌, ap, arith, map, reverse, sym}
use Rattle.std.specs.List.{range_with_len}
use Rattle.std.proofs.lemmas.List.{map-append, reverse-append, reverse-reverse, same_from_push}
use Rattle.nv_sessions.specs.UnlockedParts.{BesideCellValue, slot_of}
use Rattle.nv_sessions.proofs.Turning.{map-reversed}

-- so many slots from the last down to that one
abbrev pub falling : ℕ → ℕ → List ℕ
falling low count = reverse (range_with_len low count)

-- one slot more stands behind the others
pub falling-more : (low count : ℕ) → falling low (count + 1) ≡ falling (low + 1) count ++ low ∷ []
falling-more low count =
    let one : count + 1 ≡ suc count = omega arith in
    ap (falling low) one ∙ reverse-append (low ∷ []) (range_with_len (low + 1) count)

-- the lowest slot joins the others
pub joined : (rests new : List BesideCellValue) (rest : BesideCellValue) (low count : ℕ)
    → map slot_of rests ≡ falling (low + 1) count → new ≡ rests ++ rest ∷ [] → rest.slot ≡ low
    → map slot_of new ≡ falling low (count + 1)
joined rests new rest low count before is at =
    ap (map slot_of) is ∙ map-append slot_of rests (rest ∷ [])
    ∙ ap (λ (xs : List ℕ). xs ++ rest.slot ∷ []) before
    ∙ ap (λ (n : ℕ). falling (low + 1) count ++ n ∷ []) at ∙ sym (falling-more low count)

-- and leaves them
pub left : (rests front : List BesideCellValue) (rest : BesideCellValue) (low count : ℕ)
    → map slot_of rests ≡ falling low (count + 1) → rests ≡ front ++ rest ∷ []
    → (map slot_of front ≡ falling (low + 1) count) × (rest.slot ≡ low)
left rests front rest low count before is =
    same_from_push (map slot_of front) (falling (low + 1) count) rest.slot low
    (sym (ap (map slot_of) is ∙ map-append slot_of front (rest ∷ [])) ∙ before ∙ falling-more low count)

-- turned round they rise, and fall again
pub risen : (rests new : List BesideCellValue) (count : ℕ) → map slot_of rests ≡ falling 0 count → new ≡ reverse rests
    → map slot_of new ≡ range_with_len 0 count
risen rests new count fall is =
    ap (map slot_of) is ∙ sym (map-reversed slot_of rests) ∙ ap reverse fall ∙ reverse-reverse (range_with_len 0 count)

pub fallen : (rests new : List BesideCellValue) (count : ℕ) → map slot_of rests ≡ range_with_len 0 count → new ≡ reverse rests
    → map slot_of new ≡ falling 0 count
fallen rests new count rise is = ap (map slot_of) is ∙ sym (map-reversed slot_of rests) ∙ ap reverse rise
