-- The blocks of a cell's parts that are not published, and those of its image.
use Rattle.std.proofs.Common.{◌≡◌, ◌∙◌, ℕ, zero, suc, ◌+◌, ◌-◌, ◌<◌, ◌≤◌, ◌==◌, ◌||◌, ◌++◌, Bool, true, false, cond, List, [], ◌∷◌, Option, None, Some, ap, ap₂, append_assoc, arith, drop, flat_map, length, length-drop, map, refl, subst, sym, take}
use Rattle.std.specs.Prelude.{option_to_list, unwrap_or}
use Rattle.std.specs.Option.{option_map, option_or}
use Rattle.std.proofs.Math.Seq.{drop-append-add, take-add, take-append-add}
use Rattle.std.proofs.lemmas.Bool.{eqb-true, true≢false}
use Rattle.std.proofs.lemmas.Grind.{flat_map-append}
use Rattle.std.proofs.lemmas.List.{append-nil, drop-append-le, drop-drop, length-replicate, length-take-le, map-append, take-append-drop}
use Rattle.std.proofs.lemmas.Option.{none-some, same_Some}
use Rattle.nv_alloc.specs.Block.{AreSized, BlockValue, block_by, numbers_of, zero_block, zeroed}
use Rattle.nv_alloc.specs.Numbers.{has, times}
use Rattle.nv_alloc.proofs.AllLists.{either_by, none_by}
use Rattle.nv_alloc.proofs.Lists.{times-append}
use Rattle.nv_audit.specs.Image.{ImageValue, SlotImageValue, image_numbers, slot_blocks, slot_numbers}
use Rattle.nv_audit.specs.Mounted.{free_block}
use Rattle.nv_cell.specs.Cell.{AreSlotsSized, CellState, log_of, stored_in}
use Rattle.nv_cell.specs.Slots.{by_part, slot_count, slot_total}
use Rattle.nv_cell.specs.declared.bare.BareCell.{BareCell}
use Rattle.nv_cell.proofs.PartBlocks.{there_by_part}
use Rattle.nv_entry.specs.Covered.{part_count, part_total}
use Rattle.nv_entry.specs.declared.item.Entry.{Entry}
use Rattle.nv_log.specs.Chain.{ChainState}
use Rattle.nv_log.specs.Image.{image_of as chain_image}
use Rattle.nv_mount.proofs.Marked.{has-append, numbers_append, places_flat}
use Rattle.nv_restart.specs.Restarted.{data_blocks, slot_image}
use Rattle.nv_core.specs.Restarts.{blocks_past, fresh_blocks}

abbrev there : List (Option BlockValue) → List BlockValue
there places = flat_map option_to_list places

-- ---- the first entries of a log

-- the blocks of an entry's own places
own_places : (n : ℕ) (places : List (Option BlockValue)) → there (take n (None ∷ places)) ≡ there (take (n - 1) places)
own_places zero places = refl
own_places (suc n) places = let less : suc n - 1 ≡ n = omega arith in ap (λ (k : ℕ). there (take k places)) (sym less)

-- the blocks of the parts of the first entries are those of their places
pub first_parts : (es : List Entry) (places : List (Option BlockValue)) (t : ℕ) → length places ≡ slot_total es
    → there (take (part_total (take t es)) (by_part es places)) ≡ there (take (slot_total (take t es)) places)
first_parts es places zero len = refl
first_parts [] places (suc t) len = refl
first_parts (e ∷ es) places (suc t) len =
    let own = take (part_count e) (None ∷ places) in
    let later = by_part es (drop (slot_count e) places) in
    let wide : length own ≡ part_count e = length-take-le (part_count e) (None ∷ places) (omega (arith, len)) in
    let rest : length (drop (slot_count e) places) ≡ slot_total es = omega (arith, len, length-drop (slot_count e) places) in
    let cut : take (part_count e + part_total (take t es)) (own ++ later) ≡ own ++ take (part_total (take t es)) later =
    subst (λ (n : ℕ). take (n + part_total (take t es)) (own ++ later) ≡ own ++ take (part_total (take t es)) later) wide
    (take-append-add own later (part_total (take t es))) in
    ap there cut
    ∙ flat_map-append option_to_list own (take (part_total (take t es)) later)
    ∙ ap₂ (λ (xs ys : List BlockValue). xs ++ ys) (own_places (part_count e) places)
    (first_parts es (drop (slot_count e) places) t rest)
    ∙ sym (flat_map-append option_to_list (take (slot_count e) places) (take (slot_total (take t es)) (drop (slot_count e) places)))
    ∙ ap there (sym (take-add (slot_count e) (slot_total (take t es)) places))

-- THE SLOT OF A CELL is that of what is left of it, without the places behind those of published parts
pub slot_closed : (cell : CellState) (bare : BareCell) (places : List (Option BlockValue)) → bare.generation ≡ cell.generation
    → bare.chain.state ≡ cell.chain → by_part cell.chain.entries bare.blocks.items ≡ cell.blocks
    → length bare.blocks.items ≡ slot_total cell.chain.entries → places ≡ take (slot_total (log_of cell)) bare.blocks.items
    → (let slot : SlotImageValue = record { generation = bare.generation; chain = chain_image bare.chain.state; blocks = there places } in slot)
    ≡ slot_image cell
slot_closed cell bare places generation chain blocks many cut =
    ap₂ (λ (g : ℕ) (bs : List BlockValue).
    let slot : SlotImageValue = record { generation = g; chain = chain_image bare.chain.state; blocks = bs } in slot) generation
    (ap there cut ∙ sym (first_parts cell.chain.entries bare.blocks.items cell.chain.tail many)
    ∙ ap (λ (ps : List (Option BlockValue)). there (take (part_total (log_of cell)) ps)) blocks)
    ∙ ap (λ (c : ChainState). let slot : SlotImageValue = record { generation = cell.generation; chain = chain_image c; blocks = data_blocks cell } in slot)
    chain

-- ---- the entries behind them

no_places : (places : List (Option BlockValue)) → length places ≡ 0 → places ≡ []
no_places [] len = refl
no_places (x ∷ places) len = absurd (omega (arith, len))

-- the blocks of the parts of later entries are those of their places
later_parts : (es : List Entry) (places : List (Option BlockValue)) (t : ℕ) → length places ≡ slot_total es
    → there (drop (part_total (take t es)) (by_part es places)) ≡ there (drop (slot_total (take t es)) places)
later_parts es places zero len = there_by_part es places len
later_parts [] places (suc t) len = sym (ap there (no_places places len))
later_parts (e ∷ es) places (suc t) len =
    let own = take (part_count e) (None ∷ places) in
    let later = by_part es (drop (slot_count e) places) in
    let wide : length own ≡ part_count e = length-take-le (part_count e) (None ∷ places) (omega (arith, len)) in
    let rest : length (drop (slot_count e) places) ≡ slot_total es = omega (arith, len, length-drop (slot_count e) places) in
    let cut : drop (part_count e + part_total (take t es)) (own ++ later) ≡ drop (part_total (take t es)) later =
    subst (λ (n : ℕ). drop (n + part_total (take t es)) (own ++ later) ≡ drop (part_total (take t es)) later) wide
    (drop-append-add own later (part_total (take t es))) in
    ap there cut
    ∙ later_parts es (drop (slot_count e) places) t rest
    ∙ ap there (drop-drop (slot_total (take t es)) (slot_count e) places)

-- what stands behind the places of published parts
pub past_fresh : (cell : CellState) (places : List (Option BlockValue)) → by_part cell.chain.entries places ≡ cell.blocks
    → length places ≡ slot_total cell.chain.entries → blocks_past (slot_total (log_of cell)) places ≡ fresh_blocks cell
past_fresh cell places blocks many =
    sym (later_parts cell.chain.entries places cell.chain.tail many)
    ∙ ap (λ (ps : List (Option BlockValue)). there (drop (part_total (log_of cell)) ps)) blocks

-- ---- their numbers

-- a cell has the blocks of its image, and those of its parts that are not published
stored_is : (cell : CellState) → stored_in cell ≡ slot_numbers (slot_image cell) ++ numbers_of (fresh_blocks cell)
stored_is cell =
    let pages = numbers_of cell.chain.blocks in
    let n = part_total (log_of cell) in
    let parted : there cell.blocks ≡ data_blocks cell ++ fresh_blocks cell =
    ap there (sym (take-append-drop n cell.blocks)) ∙ flat_map-append option_to_list (take n cell.blocks) (drop n cell.blocks) in
    ap (λ (ns : List ℕ). pages ++ ns)
    (sym (places_flat cell.blocks) ∙ ap numbers_of parted ∙ numbers_append (data_blocks cell) (fresh_blocks cell))
    ∙ sym (append_assoc pages (numbers_of (data_blocks cell)) (numbers_of (fresh_blocks cell)))
    ∙ ap (λ (ns : List ℕ). ns ++ numbers_of (fresh_blocks cell)) (sym (numbers_append cell.chain.blocks (data_blocks cell)))

pub times_stored : (n : ℕ) (cell : CellState)
    → times n (stored_in cell) ≡ times n (slot_numbers (slot_image cell)) + times n (numbers_of (fresh_blocks cell))
times_stored n cell =
    ap (times n) (stored_is cell) ∙ times-append n (slot_numbers (slot_image cell)) (numbers_of (fresh_blocks cell))

pub has_stored : (n : ℕ) (cell : CellState)
    → has (stored_in cell) n ≡ (has (slot_numbers (slot_image cell)) n || has (numbers_of (fresh_blocks cell)) n)
has_stored n cell =
    ap (λ (ns : List ℕ). has ns n) (stored_is cell) ∙ has-append (slot_numbers (slot_image cell)) (numbers_of (fresh_blocks cell)) n

-- ---- with 0 in all bytes

pub numbers_zeroed : (bs : List BlockValue) → numbers_of (map zeroed bs) ≡ numbers_of bs
numbers_zeroed [] = refl
numbers_zeroed (b ∷ bs) = ap (λ (ns : List ℕ). b.number ∷ ns) (numbers_zeroed bs)

pub sized_zeroed : (size : ℕ) (bs : List BlockValue) → AreSized size bs → AreSized size (map zeroed bs)
sized_zeroed size [] sized = tt
sized_zeroed size (b ∷ bs) sized = (length-replicate (length b.bytes) 0 ∙ sized.0, sized_zeroed size bs sized.1)

pub sized_past : (size : ℕ) (places : List (Option BlockValue)) → AreSlotsSized size places → (t : ℕ) → AreSized size (blocks_past t places)
sized_past size [] sized zero = tt
sized_past size [] sized (suc t) = tt
sized_past size (None ∷ places) sized zero = sized_past size places (λ n b e. sized (suc n) b e) zero
sized_past size (Some b ∷ places) sized zero = (sized 0 b refl, sized_past size places (λ n c e. sized (suc n) c e) zero)
sized_past size (x ∷ places) sized (suc t) = sized_past size places (λ n b e. sized (suc n) b e) t

-- a block of a number is all 0, and of the size that all have
pub zeroed_by : (size n : ℕ) (bs : List BlockValue) (b : BlockValue) → AreSized size bs → block_by (map zeroed bs) n ≡ Some b
    → b ≡ zero_block size n
zeroed_by size n [] b sized e = absurd (none-some b e)
zeroed_by size n (x ∷ bs) b sized e = go (x.number == n) refl e (zeroed_by size n bs b sized.1) where
  go : (c : Bool) → (x.number == n) ≡ c → cond c (Some (zeroed x)) (block_by (map zeroed bs) n) ≡ Some b
      → (block_by (map zeroed bs) n ≡ Some b → b ≡ zero_block size n) → b ≡ zero_block size n
  go true q is later =
      sym (same_Some (zeroed x) b is) ∙ ap₂ (λ (k m : ℕ). zero_block k m) sized.0 (eqb-true x.number n q)
  go false q is later = later is

pub by_zeroed : (bs : List BlockValue) (n : ℕ) → block_by (map zeroed bs) n ≡ option_map zeroed (block_by bs n)
by_zeroed [] n = refl
by_zeroed (x ∷ bs) n = go (x.number == n) (by_zeroed bs n) where
  go : (c : Bool) → block_by (map zeroed bs) n ≡ option_map zeroed (block_by bs n)
      → cond c (Some (zeroed x)) (block_by (map zeroed bs) n) ≡ option_map zeroed (cond c (Some x) (block_by bs n))
  go true later = refl
  go false later = later

pub found_has : (bs : List BlockValue) (n : ℕ) (b : BlockValue) → block_by bs n ≡ Some b → has (numbers_of bs) n ≡ true
found_has [] n b e = absurd (none-some b e)
found_has (x ∷ bs) n b e = go (x.number == n) e (found_has bs n b) where
  go : (c : Bool) → cond c (Some x) (block_by bs n) ≡ Some b → (block_by bs n ≡ Some b → has (numbers_of bs) n ≡ true)
      → (c || has (numbers_of bs) n) ≡ true
  go true is later = refl
  go false is later = later is

-- ---- what stands in no image

none_in : (slots : List SlotImageValue) (n : ℕ) → has (flat_map slot_numbers slots) n ≡ false → block_by (flat_map slot_blocks slots) n ≡ None
none_in [] n out = refl
none_in (slot ∷ slots) n out =
    let either = parted (has (slot_numbers slot) n) (has (flat_map slot_numbers slots) n)
    (sym (has-append (slot_numbers slot) (flat_map slot_numbers slots) n) ∙ out) in
    either_by (slot_blocks slot) (flat_map slot_blocks slots) n
    ∙ ap (λ (o : Option BlockValue). option_or o (block_by (flat_map slot_blocks slots) n)) (none_by (slot_blocks slot) n either.0)
    ∙ none_in slots n either.1
  where
    parted : (a b : Bool) → (a || b) ≡ false → (a ≡ false) × (b ≡ false)
    parted true b e = absurd (true≢false e)
    parted false b e = (refl, e)

pub free_unseen : (image : ImageValue) (n : ℕ) → has (image_numbers image) n ≡ false → free_block image n ≡ zero_block image.numbers.block n
free_unseen image n out =
    ap (λ (o : Option BlockValue). unwrap_or o (zero_block image.numbers.block n)) (none_in image.slots n out)

-- ---- one place more

pub zeroed_more : (count : ℕ) (front : List (Option BlockValue)) (place : Option BlockValue) → count ≤ length front
    → map zeroed (blocks_past count (front ++ place ∷ [])) ≡ map zeroed (blocks_past count front) ++ map zeroed (option_to_list place)
zeroed_more count front place le =
    ap (λ (ps : List (Option BlockValue)). map zeroed (there ps)) (drop-append-le count front (place ∷ []) le)
    ∙ ap (map zeroed) (flat_map-append option_to_list (drop count front) (place ∷ [])
    ∙ ap (λ (bs : List BlockValue). there (drop count front) ++ bs) (append-nil (option_to_list place)))
    ∙ map-append zeroed (there (drop count front)) (option_to_list place)
