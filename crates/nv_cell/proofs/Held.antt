-- How many blocks the parts of a cell have.
use Rattle.std.proofs.Common.{◌≡◌, ℕ, zero, suc, ◌+◌, ◌-◌, ◌≤◌, ◌++◌, Bool, true, false, cond, List, [], ◌∷◌, length, length-drop, take, drop, replicate, map, Option, Some, None, arith, refl, ap, sym, ◌∙◌, slice_set, slice_index_or}
use Rattle.std.specs.Prelude.{is_some, option_to_list}
use Rattle.std.specs.Int.{from_bool}
use Rattle.std.specs.List.{AllByRecursion}
use Rattle.std.proofs.lemmas.List.{take-append-drop}
use Rattle.std.proofs.lemmas.List.Sums.{count_by-le-length, sum_by-append}
use Rattle.std.proofs.lemmas.List.FromFn.{length-range_with_len}
use Rattle.std.proofs.Math.ListN.{length-map}
use Rattle.nv_alloc.specs.Block.{BlockValue, number_of, numbers_of}
use Rattle.nv_entry.specs.declared.item.Entry.{Entry}
use Rattle.nv_entry.specs.declared.item.Item.{Item}
use Rattle.nv_entry.specs.declared.item.Item.TheVariants.{Init, Write, SetSize, SetMode, Bind, Unbind, Gone}
use Rattle.nv_entry.specs.Blocks.{item_blocks}
use Rattle.nv_entry.specs.Covered.{part_count}
use Rattle.nv_entry.specs.Keys.{parts_of}
use Rattle.nv_log.specs.Chain.{gone_of, left_of}
use Rattle.nv_cell.specs.Append.{appended, part_blocks}
use Rattle.nv_cell.specs.Cell.{CellState, block_total, held_count, without_part}
use Rattle.nv_cell.specs.Weights.{pages_added}
use Rattle.nv_cell.specs.Slots.{by_part, slot_count, slot_total}
use Rattle.nv_cell.proofs.Runs.{count_cons}

abbrev bit : Option BlockValue → ℕ
bit o = cond (is_some o) 1 0

pub held_append : (xs ys : List (Option BlockValue)) → held_count (xs ++ ys) ≡ held_count xs + held_count ys
held_append xs ys = sum_by-append bit xs ys

-- ---- parts and slots

-- the first part of an entry has no block
cut : (n : ℕ) (slots : List (Option BlockValue))
    → held_count (take n (None ∷ slots)) + held_count (drop (n - 1) slots) ≡ held_count slots
cut zero slots = omega arith
cut (suc k) slots =
    let z : suc k - 1 ≡ k = omega arith in
    rw z (omega (
      arith,
      count_cons is_some None (take k slots),
      held_append (take k slots) (drop k slots),
      ap held_count (take-append-drop k slots),
    ))

pub held_by_part : (es : List Entry) (slots : List (Option BlockValue)) → length slots ≡ slot_total es
    → held_count (by_part es slots) ≡ held_count slots
held_by_part [] [] len = refl
held_by_part [] (x ∷ slots) len = absurd (omega (arith, len))
held_by_part (e ∷ es) slots len =
    omega (
      arith,
      held_append (take (part_count e) (None ∷ slots)) (by_part es (drop (slot_count e) slots)),
      cut (part_count e) slots,
      held_by_part es (drop (slot_count e) slots) (omega (arith, len, length-drop (slot_count e) slots)),
    )

pub held_within : (es : List Entry) (slots : List (Option BlockValue)) → length slots ≡ slot_total es
    → held_count (by_part es slots) ≤ length slots
held_within es slots len = omega (arith, held_by_part es slots len, count_by-le-length is_some slots)

-- ---- an entry more

held_all : (bs : List BlockValue) → held_count (map Some bs) ≡ length bs
held_all [] = refl
held_all (b ∷ bs) = omega (arith, count_cons is_some (Some b) (map Some bs), held_all bs)

held_none : (n : ℕ) → held_count (replicate n None) ≡ 0
held_none zero = refl
held_none (suc n) = omega (arith, count_cons {X = Option BlockValue} is_some None (replicate n None), held_none n)

pub held_parts : (item : Item) (bs : List BlockValue) → length bs ≡ length (item_blocks item)
    → held_count (part_blocks item bs) ≡ length bs
held_parts (Write first run size) bs len = omega (arith, count_cons is_some None (map Some bs), held_all bs)
held_parts (Init kind mode) bs len = omega (arith, len, held_none (length (parts_of (Init kind mode))))
held_parts (SetSize size) bs len = omega (arith, len, held_none (length (parts_of (SetSize size))))
held_parts (SetMode mode) bs len = omega (arith, len, held_none (length (parts_of (SetMode mode))))
held_parts (Bind name to) bs len = omega (arith, len, held_none (length (parts_of (Bind name to))))
held_parts (Unbind name) bs len = omega (arith, len, held_none (length (parts_of (Unbind name))))
held_parts Gone bs len = omega (arith, len, held_none (length (parts_of Gone)))

pages_are : (item : Item) → pages_added item ≡ length (item_blocks item)
pages_are (Write first run size) = sym (length-range_with_len run.start run.len)
pages_are (Init kind mode) = refl
pages_are (SetSize size) = refl
pages_are (SetMode mode) = refl
pages_are (Bind name to) = refl
pages_are (Unbind name) = refl
pages_are Gone = refl

-- the running count goes up by the pages of the item
pub held_more : (es : List Entry) (slots next : List (Option BlockValue)) (e : Entry) (bs : List BlockValue) {held pages : ℕ}
    → held ≡ held_count (by_part es slots) → pages ≡ pages_added e.item → numbers_of bs ≡ item_blocks e.item
    → by_part (es ++ e ∷ []) next ≡ by_part es slots ++ part_blocks e.item bs
    → held + pages ≡ held_count (by_part (es ++ e ∷ []) next)
held_more es slots next e bs held pages nums spread =
    let len : length bs ≡ length (item_blocks e.item) = sym (length-map bs number_of) ∙ ap length nums in
    omega (
      arith,
      held,
      pages,
      pages_are e.item,
      len,
      ap held_count spread,
      held_append (by_part es slots) (part_blocks e.item bs),
      held_parts e.item bs len,
    )

pub count_appended : (e : Entry) (bs : List BlockValue) (cell : CellState) → length bs ≡ length (item_blocks e.item)
    → block_total (appended e bs cell) ≡ block_total cell + length bs
count_appended e bs cell len = omega (arith, held_append cell.blocks (part_blocks e.item bs), held_parts e.item bs len)

-- ---- a part that goes out

one : (o : Option BlockValue) → length (option_to_list o) ≡ bit o
one None = refl
one (Some b) = refl

-- the running count goes down by one where there is a block
pub told_out : {o other : Option BlockValue} {told : Bool} {k : ℕ} → o ≡ other → told ≡ is_some o → k ≡ from_bool told
    → k ≡ length (option_to_list other)
told_out {other = other} is told count = count ∙ ap from_bool (told ∙ ap is_some is) ∙ go other where
  go : (o : Option BlockValue) → from_bool (is_some o) ≡ length (option_to_list o)
  go None = refl
  go (Some b) = refl

pub held_out : (xs : List (Option BlockValue)) (n : ℕ)
    → held_count (slice_set xs n None) + length (option_to_list (slice_index_or xs n None)) ≡ held_count xs
held_out [] n = refl
held_out (x ∷ xs) zero = omega (arith, count_cons is_some None xs, count_cons is_some x xs, one x)
held_out (x ∷ xs) (suc n) =
    omega (arith, held_out xs n, count_cons is_some x (slice_set xs n None), count_cons is_some x xs)

pub count_out : (cell : CellState) (n : ℕ)
    → block_total (without_part cell n) + length (option_to_list (slice_index_or cell.blocks n None)) ≡ block_total cell
count_out cell n = omega (arith, held_out cell.blocks n)

-- ---- parts that are taken out of the log

pub held_left : (flags : List Bool) (xs : List (Option BlockValue)) → AllByRecursion (λ o. o ≡ None) (gone_of flags xs)
    → held_count (left_of flags xs) ≡ held_count xs
held_left [] xs none = refl
held_left (b ∷ flags) [] none = refl
held_left (true ∷ flags) (x ∷ xs) none =
    omega (arith, held_left flags xs none, count_cons is_some x (left_of flags xs), count_cons is_some x xs)
held_left (false ∷ flags) (x ∷ xs) none =
    omega (arith, held_left flags xs none.1, count_cons is_some x xs, ap bit none.0)

-- ---- a cell that is erased

pub held_nothing : (xs : List (Option BlockValue)) → ((n : ℕ) → slice_index_or xs n None ≡ None) → held_count xs ≡ 0
held_nothing [] none = refl
held_nothing (x ∷ xs) none =
    omega (arith, count_cons is_some x xs, ap bit (none 0), held_nothing xs (λ n. none (suc n)))
