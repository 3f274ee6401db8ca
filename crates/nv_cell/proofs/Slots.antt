-- The slots of a log's parts as the blocks of its parts by number.
use Rattle.std.proofs.Common.{◌≡◌, ℕ, zero, suc, ◌+◌, ◌-◌, ◌<◌, ◌≤◌, Bool, true, false, cond, nat_lt, List, [], ◌∷◌, ◌++◌, length, take, drop, replicate, append_assoc, length-append, map, Option, Some, None, arith, refl, ap, sym, ◌∙◌, subst, slice_index_or, slice_set}
use Rattle.std.specs.List.{AllByRecursion}
use Rattle.std.proofs.lemmas.Bool.{ltb-false, ltb-true}
use Rattle.std.proofs.lemmas.List.{append-nil, drop-append-le, drop-set-add, drop-set-lt, get_or-append_right, get_or-drop, get_or-take, get_or_append_left, length-drop, length-take-le, set-append_left, set-append_right, take-append-le, take-set-le, take-take}
use Rattle.std.proofs.Math.Seq.{drop-append_seam, take-append_seam, take-length, take-set-lt}
use Rattle.nv_alloc.specs.Block.{BlockValue, numbers_of}
use Rattle.nv_entry.specs.declared.item.Entry.{Entry}
use Rattle.nv_entry.specs.declared.item.Item.{Item}
use Rattle.nv_entry.specs.declared.item.Item.TheVariants.{Init, Write, SetSize, SetMode, Bind, Unbind, Gone}
use Rattle.nv_entry.specs.Blocks.{item_blocks}
use Rattle.nv_entry.specs.Covered.{part_count}
use Rattle.nv_entry.specs.Keys.{parts_of}
use Rattle.nv_log.specs.Chain.{gone_of, left_of}
use Rattle.nv_cell.specs.Append.{IsWithinFile, part_blocks}
use Rattle.nv_cell.specs.Numbers.{part_base}
use Rattle.nv_cell.specs.Removal.{part_flags, slot_flags}
use Rattle.nv_cell.specs.Slots.{by_part, slot_base, slot_count, slot_total}
use Rattle.nv_cell.proofs.Appending.{length_part_blocks}
use Rattle.nv_cell.proofs.RunFlags.{all_append, gone_of-run, left_of-goes, left_of-stays, rest_gone, run_gone}

-- ---- the parts of one entry

-- the blocks of an entry's parts, in front of a list of slots
abbrev own : Entry → List (Option BlockValue) → List (Option BlockValue)
own e slots = take (part_count e) (None ∷ slots)

own_length : (e : Entry) (slots : List (Option BlockValue)) → slot_count e ≤ length slots → length (own e slots) ≡ part_count e
own_length e slots le = length-take-le (part_count e) (None ∷ slots) (omega (arith, le))

own_taken : (e : Entry) (slots later : List (Option BlockValue)) → slot_count e ≤ length slots
    → take (part_count e) (own e slots ++ later) ≡ own e slots
own_taken e slots later le =
    subst (λ (n : ℕ). take n (own e slots ++ later) ≡ own e slots) (own_length e slots le) (take-append_seam (own e slots) later)

own_dropped : (e : Entry) (slots later : List (Option BlockValue)) → slot_count e ≤ length slots
    → drop (part_count e) (own e slots ++ later) ≡ later
own_dropped e slots later le =
    subst (λ (n : ℕ). drop n (own e slots ++ later) ≡ later) (own_length e slots le) (drop-append_seam (own e slots) later)

-- ---- an entry more

pub by_part_append : (xs ys : List Entry) (a b : List (Option BlockValue)) → length a ≡ slot_total xs
    → by_part (xs ++ ys) (a ++ b) ≡ by_part xs a ++ by_part ys b
by_part_append [] ys [] b len = refl
by_part_append [] ys (x ∷ a) b len = absurd (omega (arith, len))
by_part_append (e ∷ xs) ys a b len =
    let fits : slot_count e ≤ length a = omega (arith, len) in
    let front : own e (a ++ b) ≡ own e a = take-append-le (part_count e) (None ∷ a) b (omega (arith, fits)) in
    let rest : length (drop (slot_count e) a) ≡ slot_total xs = omega (arith, length-drop (slot_count e) a, len) in
    rw (front, drop-append-le (slot_count e) a b fits, by_part_append xs ys (drop (slot_count e) a) b rest)
    (sym (append_assoc (own e a) (by_part xs (drop (slot_count e) a)) (by_part ys b)))

pub slot_total-append : (xs ys : List Entry) → slot_total (xs ++ ys) ≡ slot_total xs + slot_total ys
slot_total-append [] ys = omega arith
slot_total-append (x ∷ xs) ys = omega (arith, slot_total-append xs ys)

-- the blocks of an item's parts are those behind the first, which has none
behind_first : (item : Item) (bs : List BlockValue) → IsWithinFile item → numbers_of bs ≡ item_blocks item
    → take (length (parts_of item)) (None ∷ drop 1 (part_blocks item bs)) ≡ part_blocks item bs
behind_first (Write first run size) bs within nums =
    subst (λ (n : ℕ). take n (None ∷ map Some bs) ≡ None ∷ map Some bs) (length_part_blocks (Write first run size) bs within nums)
    (take-length (None ∷ map Some bs))
behind_first (Init kind mode) bs within nums = refl
behind_first (SetSize size) bs within nums = refl
behind_first (SetMode mode) bs within nums = refl
behind_first (Bind name to) bs within nums = refl
behind_first (Unbind name) bs within nums = refl
behind_first Gone bs within nums = refl

-- the blocks of all parts, and the number of slots, with one more entry
pub slots_append : (es : List Entry) (slots new : List (Option BlockValue)) (e : Entry) (bs : List BlockValue)
    → length slots ≡ slot_total es → IsWithinFile e.item → numbers_of bs ≡ item_blocks e.item
    → new ≡ slots ++ drop 1 (part_blocks e.item bs)
    → (by_part (es ++ e ∷ []) new ≡ by_part es slots ++ part_blocks e.item bs) × (length new ≡ slot_total (es ++ e ∷ []))
slots_append es slots new e bs len within nums is =
    let more = drop 1 (part_blocks e.item bs) in (
      ap (by_part (es ++ e ∷ [])) is ∙ by_part_append es (e ∷ []) slots more len
          ∙ ap (λ ys. by_part es slots ++ ys) (append-nil (own e more) ∙ behind_first e.item bs within nums),
      omega (
        arith,
        ap length is,
        length-append slots more,
        length-drop 1 (part_blocks e.item bs),
        length_part_blocks e.item bs within nums,
        slot_total-append es (e ∷ []),
        len,
      ),
    )

-- ---- the block of a part by its slot

-- what a part's block is by the slots from one on: the first part has none
abbrev pub block_in_slot : List (Option BlockValue) → ℕ → ℕ → Option BlockValue
block_in_slot slots base zero = None
block_in_slot slots base (suc place) = slice_index_or slots (base + place) None

own_at : (e : Entry) (slots : List (Option BlockValue)) (p : ℕ) → p < part_count e
    → slice_index_or (own e slots) p None ≡ block_in_slot slots 0 p
own_at e slots zero lt = get_or-take (part_count e) (None ∷ slots) 0 None lt
own_at e slots (suc p) lt =
    let z : 0 + p ≡ p = omega arith in
    rw z (get_or-take (part_count e) (None ∷ slots) (suc p) None lt)

slot_later : (slots : List (Option BlockValue)) (count base p : ℕ)
    → block_in_slot (drop count slots) base p ≡ block_in_slot slots (count + base) p
slot_later slots count base zero = refl
slot_later slots count base (suc p) =
    let z : count + (base + p) ≡ count + base + p = omega arith in
    get_or-drop count slots (base + p) None ∙ ap (λ n. slice_index_or slots n None) z

-- the block of a part, by its entry and its place there
pub block_at_slot : (es : List Entry) (slots : List (Option BlockValue)) (i p : ℕ) (e : Entry) → i < length es
    → e ≡ slice_index_or es i e → p < part_count e → slot_total es ≤ length slots
    → slice_index_or (by_part es slots) (part_base es i + p) None ≡ block_in_slot slots (slot_base es i) p
block_at_slot [] slots i p e lt is within fits = absurd (omega (arith, lt))
block_at_slot (x ∷ es) slots zero p e lt is within fits =
    let len = own_length x slots (omega (arith, fits)) in
    let same : part_count e ≡ part_count x = ap part_count is in
    let low : p < length (own x slots) = omega (arith, len, within, same) in
    let z : 0 + p ≡ p = omega arith in
    rw z (get_or_append_left (own x slots) (by_part es (drop (slot_count x) slots)) None p low
    ∙ own_at x slots p (omega (arith, within, same)))
block_at_slot (x ∷ es) slots (suc i) p e lt is within fits =
    let len = own_length x slots (omega (arith, fits)) in
    let rest : slot_total es ≤ length (drop (slot_count x) slots) = omega (arith, length-drop (slot_count x) slots, fits) in
    let back : part_count x + part_base es i + p - part_count x ≡ part_base es i + p = omega arith in
    get_or-append_right (own x slots) (by_part es (drop (slot_count x) slots)) (part_count x) (part_count x + part_base es i + p) None len
    (omega arith)
    ∙ ap (λ n. slice_index_or (by_part es (drop (slot_count x) slots)) n None) back
    ∙ block_at_slot es (drop (slot_count x) slots) i p e (omega (arith, lt)) is within rest
    ∙ slot_later slots (slot_count x) (slot_base es i) p

-- a slot of an entry's part is one of the log's
pub slot_within : (es : List Entry) (i p : ℕ) (e : Entry) → i < length es → e ≡ slice_index_or es i e → suc p < part_count e
    → slot_base es i + p < slot_total es
slot_within [] i p e lt is within = absurd (omega (arith, lt))
slot_within (x ∷ es) zero p e lt is within = let same : part_count e ≡ part_count x = ap part_count is in omega (arith, within, same)
slot_within (x ∷ es) (suc i) p e lt is within = omega (arith, slot_within es i p e (omega (arith, lt)) is within)

-- ---- a slot is emptied

pub slot_leaves : (es : List Entry) (slots : List (Option BlockValue)) (i p : ℕ) (e : Entry) (b : Option BlockValue) → i < length es
    → e ≡ slice_index_or es i e → suc p < part_count e → slot_total es ≤ length slots
    → by_part es (slice_set slots (slot_base es i + p) b) ≡ slice_set (by_part es slots) (part_base es i + suc p) b
slot_leaves [] slots i p e b lt is within fits = absurd (omega (arith, lt))
slot_leaves (x ∷ es) slots zero p e b lt is within fits =
    let same : part_count e ≡ part_count x = ap part_count is in
    let len = own_length x slots (omega (arith, fits)) in
    let z : 0 + p ≡ p = omega arith in
    let y : 0 + suc p ≡ suc p = omega arith in
    let front : own x (slice_set slots p b) ≡ slice_set (own x slots) (suc p) b =
    take-set-lt (part_count x) (None ∷ slots) (suc p) b (omega (arith, within, same)) in
    let rest : drop (slot_count x) (slice_set slots p b) ≡ drop (slot_count x) slots =
    drop-set-lt (slot_count x) slots p b (omega (arith, within, same)) in
    rw (z, y, front, rest) (sym (set-append_left (own x slots) (by_part es (drop (slot_count x) slots)) (suc p) b
    (omega (arith, len, within, same))))
slot_leaves (x ∷ es) slots (suc i) p e b lt is within fits =
    let len = own_length x slots (omega (arith, fits)) in
    let less : slot_total es ≤ length (drop (slot_count x) slots) = omega (arith, length-drop (slot_count x) slots, fits) in
    let back : part_count x + part_base es i + suc p - part_count x ≡ part_base es i + suc p = omega arith in
    let on : slot_count x + slot_base es i + p ≡ slot_count x + (slot_base es i + p) = omega arith in
    let front : own x (slice_set slots (slot_count x + (slot_base es i + p)) b) ≡ own x slots =
    take-set-le (part_count x) (None ∷ slots) (suc (slot_count x + (slot_base es i + p))) b (omega arith) in
    rw (
      on,
      front,
      drop-set-add (slot_count x) slots (slot_base es i + p) b,
      slot_leaves es (drop (slot_count x) slots) i p e b (omega (arith, lt)) is within less,
    )
    (sym (set-append_right (own x slots) (by_part es (drop (slot_count x) slots)) (part_count x)
    (part_count x + part_base es i + suc p) b len (omega arith)
    ∙ ap (λ n. own x slots ++ slice_set (by_part es (drop (slot_count x) slots)) n b) back))

-- ---- the part of a slot

-- the number of the part that a slot is for
abbrev pub part_of_slot : List Entry → ℕ → ℕ
part_of_slot [] k = k
part_of_slot (e ∷ es) k = cond (nat_lt k (slot_count e)) (suc k) (part_count e + part_of_slot es (k - slot_count e))

pub slot_is_part : (es : List Entry) (slots : List (Option BlockValue)) (k : ℕ) → length slots ≡ slot_total es
    → slice_index_or slots k None ≡ slice_index_or (by_part es slots) (part_of_slot es k) None
slot_is_part [] [] k len = refl
slot_is_part [] (x ∷ slots) k len = absurd (omega (arith, len))
slot_is_part (e ∷ es) slots k len = go (nat_lt k (slot_count e)) refl (slot_is_part es rest (k - slot_count e)) where
  rest : List (Option BlockValue)
  rest = drop (slot_count e) slots

  size : length (own e slots) ≡ part_count e
  size = own_length e slots (omega (arith, len))

  go : (b : Bool) → nat_lt k (slot_count e) ≡ b
      → (length rest ≡ slot_total es → slice_index_or rest (k - slot_count e) None
      ≡ slice_index_or (by_part es rest) (part_of_slot es (k - slot_count e)) None)
      → slice_index_or slots k None
      ≡ slice_index_or (by_part (e ∷ es) slots) (cond b (suc k) (part_count e + part_of_slot es (k - slot_count e))) None
  go true q later =
      let lt : k < slot_count e = ltb-true k (slot_count e) q in
      sym (get_or-take (part_count e) (None ∷ slots) (suc k) None (omega (arith, lt)))
      ∙ sym (get_or_append_left (own e slots) (by_part es rest) None (suc k) (omega (arith, size, lt)))
  go false q later =
      let on : slot_count e + (k - slot_count e) ≡ k = omega (arith, ltb-false k (slot_count e) q) in
      let m = part_of_slot es (k - slot_count e) in
      let back : part_count e + m - part_count e ≡ m = omega arith in
      ap (λ n. slice_index_or slots n None) (sym on) ∙ sym (get_or-drop (slot_count e) slots (k - slot_count e) None)
      ∙ later (omega (arith, length-drop (slot_count e) slots, len))
      ∙ ap (λ n. slice_index_or (by_part es rest) n None) (sym back)
      ∙ sym (get_or-append_right (own e slots) (by_part es rest) (part_count e) (part_count e + m) None size (omega arith))

-- ---- entries leave

-- the parts of an entry, of a list that has no more than its slots in front
own_front : (e : Entry) (slots : List (Option BlockValue)) → own e (take (slot_count e) slots) ≡ own e slots
own_front e slots = go (part_count e) where
  go : (n : ℕ) → take n (None ∷ take (n - 1) slots) ≡ take n (None ∷ slots)
  go zero = refl
  go (suc n) =
      let z : suc n - 1 ≡ n = omega arith in
      rw z (ap (λ ys. None ∷ ys) (take-take n n slots (omega arith)))

-- what is left of entries and of their slots has the blocks that are left
pub slots_left : (flags : List Bool) (es : List Entry) (slots : List (Option BlockValue)) → length slots ≡ slot_total es
    → by_part (left_of flags es) (left_of (slot_flags flags es) slots) ≡ left_of (part_flags flags es) (by_part es slots)
slots_left [] es slots len = refl
slots_left (true ∷ flags) [] slots len = refl
slots_left (false ∷ flags) [] slots len = refl
slots_left (true ∷ flags) (e ∷ es) slots len =
    let few : slot_count e ≤ length slots = omega (arith, len) in
    let rest = drop (slot_count e) slots in
    let later = by_part es rest in
    let left = left_of (slot_flags flags es) rest in
    let fits : length (take (slot_count e) slots) ≡ slot_count e = length-take-le (slot_count e) slots few in
    let front : own e (take (slot_count e) slots ++ left) ≡ own e slots =
    take-append-le (part_count e) (None ∷ take (slot_count e) slots) left (omega (arith, fits)) ∙ own_front e slots in
    let behind : drop (slot_count e) (take (slot_count e) slots ++ left) ≡ left =
    subst (λ (n : ℕ). drop n (take (slot_count e) slots ++ left) ≡ left) fits (drop-append_seam (take (slot_count e) slots) left) in
    rw (
      left_of-stays (slot_count e) (slot_flags flags es) slots,
      left_of-stays (part_count e) (part_flags flags es) (own e slots ++ later),
      front,
      behind,
      own_taken e slots later few,
      own_dropped e slots later few,
    )
    (ap (λ ys. own e slots ++ ys) (slots_left flags es rest (omega (arith, length-drop (slot_count e) slots, len))))
slots_left (false ∷ flags) (e ∷ es) slots len =
    let rest = drop (slot_count e) slots in
    let later = by_part es rest in
    rw (
      left_of-goes (slot_count e) (slot_flags flags es) slots,
      left_of-goes (part_count e) (part_flags flags es) (own e slots ++ later),
      own_dropped e slots later (omega (arith, len)),
    )
    (slots_left flags es rest (omega (arith, length-drop (slot_count e) slots, len)))

-- none of these has a block
abbrev AreEmpty : List (Option BlockValue) → Type 0
AreEmpty slots = AllByRecursion (λ b. b ≡ None) slots

own_empty : (n : ℕ) (slots : List (Option BlockValue)) → AreEmpty (take n (None ∷ slots)) → AreEmpty (take (n - 1) slots)
own_empty zero slots h = tt
own_empty (suc n) slots h = let z : suc n - 1 ≡ n = omega arith in rw z h.1

run_empty : (b : Bool) (flags : List Bool) (es : List Entry) (e : Entry) (slots : List (Option BlockValue)) → slot_count e ≤ length slots
    → AreEmpty (gone_of (replicate (part_count e) b ++ part_flags flags es) (by_part (e ∷ es) slots))
    → AreEmpty (gone_of (slot_flags flags es) (drop (slot_count e) slots))
    → AreEmpty (gone_of (replicate (slot_count e) b ++ slot_flags flags es) slots)
run_empty true flags es e slots le h rest = subst AreEmpty (sym (gone_of-run (slot_count e) true (slot_flags flags es) slots)) rest
run_empty false flags es e slots le h rest =
    let front = run_gone (λ b. b ≡ None) (part_count e) (part_flags flags es) (by_part (e ∷ es) slots) h in
    subst AreEmpty (sym (gone_of-run (slot_count e) false (slot_flags flags es) slots))
    (all_append (λ b. b ≡ None) (take (slot_count e) slots) (gone_of (slot_flags flags es) (drop (slot_count e) slots))
    (own_empty (part_count e) slots (subst AreEmpty (own_taken e slots (by_part es (drop (slot_count e) slots)) le) front)) rest)

-- where no part that goes has a block, no slot that goes has one
pub slots_gone : (flags : List Bool) (es : List Entry) (slots : List (Option BlockValue)) → length slots ≡ slot_total es
    → AreEmpty (gone_of (part_flags flags es) (by_part es slots)) → AreEmpty (gone_of (slot_flags flags es) slots)
slots_gone [] es slots len h = tt
slots_gone (b ∷ flags) [] slots len h = tt
slots_gone (b ∷ flags) (e ∷ es) slots len h =
    let few : slot_count e ≤ length slots = omega (arith, len) in
    let later = by_part es (drop (slot_count e) slots) in
    run_empty b flags es e slots few h
    (slots_gone flags es (drop (slot_count e) slots) (omega (arith, length-drop (slot_count e) slots, len))
    (subst (λ xs. AreEmpty (gone_of (part_flags flags es) xs)) (own_dropped e slots later few)
    (rest_gone (λ b. b ≡ None) (part_count e) b (part_flags flags es) (own e slots ++ later) h)))
