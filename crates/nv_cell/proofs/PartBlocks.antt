-- The blocks of a log's parts are those of its slots.
use Rattle.std.proofs.Common.{◌≡◌, ℕ, zero, suc, ◌-◌, List, [], ◌∷◌, ◌++◌, length, take, drop, Option, None, arith, refl, ap, sym, ◌∙◌, flat_map, length-drop}
use Rattle.std.specs.Prelude.{option_to_list}
use Rattle.std.proofs.lemmas.Grind.{flat_map-append}
use Rattle.std.proofs.lemmas.List.{map-append, take-append-drop}
use Rattle.nv_alloc.specs.Block.{BlockValue, number_of, numbers_of}
use Rattle.nv_entry.specs.declared.item.Entry.{Entry}
use Rattle.nv_entry.specs.Covered.{part_count}
use Rattle.nv_cell.specs.Cell.{of_part}
use Rattle.nv_cell.specs.Slots.{by_part, slot_count, slot_total}

abbrev there : List (Option BlockValue) → List BlockValue
there slots = flat_map option_to_list slots

-- the first part of an entry has no block
cut : (n : ℕ) (slots : List (Option BlockValue)) → there (take n (None ∷ slots)) ++ there (drop (n - 1) slots) ≡ there slots
cut zero slots = refl
cut (suc k) slots =
    let z : suc k - 1 ≡ k = omega arith in
    rw z (sym (flat_map-append option_to_list (take k slots) (drop k slots)) ∙ ap there (take-append-drop k slots))

pub there_by_part : (es : List Entry) (slots : List (Option BlockValue)) → length slots ≡ slot_total es
    → there (by_part es slots) ≡ there slots
there_by_part [] [] len = refl
there_by_part [] (x ∷ slots) len = absurd (omega (arith, len))
there_by_part (e ∷ es) slots len =
    flat_map-append option_to_list (take (part_count e) (None ∷ slots)) (by_part es (drop (slot_count e) slots))
    ∙ ap (λ bs. there (take (part_count e) (None ∷ slots)) ++ bs)
    (there_by_part es (drop (slot_count e) slots) (omega (arith, len, length-drop (slot_count e) slots)))
    ∙ cut (part_count e) slots

-- and so are their numbers
numbers_there : (slots : List (Option BlockValue)) → flat_map of_part slots ≡ numbers_of (there slots)
numbers_there [] = refl
numbers_there (slot ∷ slots) =
    ap (λ ns. of_part slot ++ ns) (numbers_there slots) ∙ sym (map-append number_of (option_to_list slot) (there slots))

pub numbers_by_part : (es : List Entry) (slots : List (Option BlockValue)) → length slots ≡ slot_total es
    → flat_map of_part (by_part es slots) ≡ flat_map of_part slots
numbers_by_part es slots len =
    numbers_there (by_part es slots) ∙ ap numbers_of (there_by_part es slots len) ∙ sym (numbers_there slots)
