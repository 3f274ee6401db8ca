-- The blocks that a cell has for its parts are those that its log says of the parts in use.
use Rattle.std.proofs.Common.{◌≡◌, ℕ, zero, suc, ◌+◌, ◌-◌, ◌<◌, ◌≤◌, Bool, true, false, cond, List, [], ◌∷◌, ◌++◌, length, take, drop, Option, Some, None, arith, refl, ap, ap₂, sym, ◌∙◌, slice_index_or, nat_lt, flat_map}
use Rattle.std.specs.Prelude.{option_to_list, slice_get}
use Rattle.std.specs.List.{range_with_len}
use Rattle.std.specs.Option.{option_map}
use Rattle.std.proofs.lemmas.Bool.Decides.{nat_tests}
use Rattle.std.proofs.lemmas.Grind.{flat_map-append}
use Rattle.std.proofs.Math.Seq.{take-nil, drop-nil}
use Rattle.std.proofs.lemmas.List.{append-nil, append_assoc, get_or-map, get_or_default, get_or_past, length-map, nil_from_length, take-append-drop}
use Rattle.std.proofs.lemmas.Option.{slice_get-get_or, slice_get_within}
use Rattle.nv_alloc.specs.Block.{BlockValue, number_of, numbers_of}
use Rattle.nv_entry.specs.Covered.{part_count, part_total}
use Rattle.nv_entry.specs.Held.{Retention, keeps}
use Rattle.nv_entry.specs.Keys.{parts_of}
use Rattle.nv_entry.specs.Log.{pair_of, pairs, pairs_of}
use Rattle.nv_entry.specs.declared.held.Pair.{Pair}
use Rattle.nv_entry.specs.declared.item.Entry.{Entry}
use Rattle.nv_entry.specs.declared.part.Part.{Part}
use Rattle.nv_entry.specs.declared.part.Part.TheVariants as part
use Rattle.nv_cell.specs.Cell.{CellState, IsCell, fresh_of, log_of, mark_or_fresh, of_part, page_block}
use Rattle.nv_cell.specs.Marks.{is_there}
use Rattle.nv_cell.specs.declared.mark.Mark.TheVariants.{Current, Out}
use Rattle.nv_cell.specs.Retained.{AreMarksOf}
use Rattle.nv_cell.proofs.Appending.{back_block}
use Rattle.nv_cell.proofs.NamedParts.{pair_first, pair_later}
use Rattle.nv_cell.proofs.Numbers.{total_append}
use Rattle.nv_cell.proofs.PagesNow.{front_block}
use Rattle.nv_audit.specs.Lists.{block_said, blocks_kept, blocks_said, blocks_had, blocks_kept_of, kept_pair, said_of, said_part, used_by}
use Rattle.nv_entry.proofs.PartLists.{length-pairs}

-- ---- lists by their places

by_place : {X Y : Type 0} (f : X → List Y) (g : ℕ → List Y) (d : X) (xs : List X) (from : ℕ)
    → ((i : ℕ) → i < length xs → f (slice_index_or xs i d) ≡ g (from + i))
    → flat_map f xs ≡ flat_map g (range_with_len from (length xs))
by_place f g d [] from same = refl
by_place f g d (x ∷ xs) from same =
    let here : from + 0 ≡ from = omega arith in
    let later : (i : ℕ) → from + suc i ≡ from + 1 + i = λ i. omega arith in
    ap (λ l. l ++ flat_map f xs) (same 0 (omega arith) ∙ ap g here)
    ∙ ap (λ l. g from ++ l) (by_place f g d xs (from + 1) (λ i lt. same (suc i) (omega (arith, lt)) ∙ ap g (later i)))

pub range_split : (from c t : ℕ) → range_with_len from (c + t) ≡ range_with_len from c ++ range_with_len (from + c) t
range_split from zero t =
    let none : 0 + t ≡ t = omega arith in
    let same : from + 0 ≡ from = omega arith in
    ap (range_with_len from) none ∙ sym (ap (λ (n : ℕ). range_with_len n t) same)
range_split from (suc c) t =
    let one : suc c + t ≡ suc (c + t) = omega arith in
    let on : from + 1 + c ≡ from + suc c = omega arith in
    ap (range_with_len from) one
    ∙ ap (λ l. from ∷ l) (range_split (from + 1) c t ∙ ap (λ (n : ℕ). range_with_len (from + 1) c ++ range_with_len n t) on)

-- ---- one entry

-- the block of a part of the first entry
abbrev part_at : Entry → ℕ → Part
part_at e n = slice_index_or (parts_of e.item) n part.Kind

first_says : (block : ℕ) (e : Entry) (later : List Entry) (n : ℕ) → n < part_count e
    → page_block block (e ∷ later) n ≡ block_said block e.item (part_at e n)
first_says block e later n lt = let yes' : nat_lt n (part_count e) ≡ true = grind (arith, nat_tests) in rw yes' refl

later_says : (block : ℕ) (e : Entry) (later : List Entry) (n : ℕ)
    → page_block block (e ∷ later) (part_count e + n) ≡ page_block block later n
later_says block e later n =
    let no' : nat_lt (part_count e + n) (part_count e) ≡ false = grind (arith, nat_tests) in
    let back : part_count e + n - part_count e ≡ n = omega arith in
    rw (no', back) refl

-- the block of a part that is in use
abbrev pub if_used : Bool → Option ℕ → List ℕ
if_used used block = option_to_list (cond used block None)

used_is : (used : Bool) (block : Option ℕ) → cond used (option_to_list block) [] ≡ if_used used block
used_is true block = refl
used_is false block = refl

-- ---- a log

-- by their numbers: parts in use have the blocks of the pairs that are kept
pub kept_numbers : (r : Retention) (used : ℕ → Bool) (says : ℕ → Option ℕ) (from : ℕ) (es : List Entry)
    → ((n : ℕ) (pair : Pair) → slice_get (pairs r.block es) n ≡ Some pair → used (from + n) ≡ keeps r pair)
    → ((n : ℕ) → n < part_total es → says (from + n) ≡ page_block r.block es n)
    → flat_map (λ (n : ℕ). if_used (used n) (says n)) (range_with_len from (part_total es)) ≡ blocks_kept r es
kept_numbers r used says from [] same told = refl
kept_numbers r used says from (e ∷ later) same told =
    let c = part_count e in
    let G : ℕ → List ℕ = λ n. if_used (used n) (says n) in
    let none : Pair = pair_of r.block e later part.Kind in
    let own = pairs_of r.block e later in
    let many : length own ≡ c = length-map (parts_of e.item) (pair_of r.block e later) in
    let first : flat_map G (range_with_len from c) ≡ blocks_kept_of r e later =
    ap (λ (n : ℕ). flat_map G (range_with_len from n)) (sym many)
    ∙ sym (by_place (kept_pair r e.item) G none own from (λ i lt.
    let few : i < c = omega (arith, lt, many) in
    let pair : slice_index_or own i none ≡ pair_of r.block e later (part_at e i) = get_or-map (pair_of r.block e later)
    (parts_of e.item) i part.Kind none few in
    let at : slice_get (pairs r.block (e ∷ later)) i ≡ Some (pair_of r.block e later (part_at e i)) =
    pair_first r.block e later i few ∙ ap (option_map (pair_of r.block e later)) (slice_get-get_or (parts_of e.item) i part.Kind few) in
    let total : i < part_total (e ∷ later) = omega (arith, few) in
    ap (kept_pair r e.item) pair
    ∙ used_is (keeps r (pair_of r.block e later (part_at e i))) (block_said r.block e.item (part_at e i))
    ∙ ap₂ if_used (sym (same i (pair_of r.block e later (part_at e i)) at)) (sym (told i total ∙ first_says r.block e later i few)))) in
    let rest = kept_numbers r used says (from + c) later
    (λ n pair q.
    let on : from + (c + n) ≡ from + c + n = omega arith in
    let past : c ≤ c + n = omega arith in
    let back : c + n - c ≡ n = omega arith in
    ap used (sym on) ∙ same (c + n) pair (pair_later r.block e later (c + n) past ∙ ap (slice_get (pairs r.block later)) back ∙ q))
    (λ n lt.
    let on : from + (c + n) ≡ from + c + n = omega arith in
    ap says (sym on) ∙ told (c + n) (omega (arith, lt)) ∙ later_says r.block e later n) in
    ap (flat_map G) (range_split from c (part_total later)) ∙ flat_map-append G (range_with_len from c)
    (range_with_len (from + c) (part_total later))
    ∙ ap₂ (λ (a b : List ℕ). a ++ b) first rest

-- the same of entries all of whose parts are in use
said_numbers : (block : ℕ) (used : ℕ → Bool) (says : ℕ → Option ℕ) (from : ℕ) (es : List Entry) → ((n : ℕ) → used (from + n) ≡ true)
    → ((n : ℕ) → n < part_total es → says (from + n) ≡ page_block block es n)
    → flat_map (λ (n : ℕ). if_used (used n) (says n)) (range_with_len from (part_total es)) ≡ blocks_said block es
said_numbers block used says from [] all told = refl
said_numbers block used says from (e ∷ later) all told =
    let c = part_count e in
    let G : ℕ → List ℕ = λ n. if_used (used n) (says n) in
    let first : flat_map G (range_with_len from c) ≡ said_of block e.item =
    sym (by_place (said_part block e.item) G part.Kind (parts_of e.item) from (λ i lt.
    let total : i < part_total (e ∷ later) = omega (arith, lt) in
    ap₂ if_used (sym (all i)) (sym (told i total ∙ first_says block e later i lt)))) in
    let rest = said_numbers block used says (from + c) later
    (λ n. let on : from + (c + n) ≡ from + c + n = omega arith in ap used (sym on) ∙ all (c + n))
    (λ n lt.
    let on : from + (c + n) ≡ from + c + n = omega arith in
    ap says (sym on) ∙ told (c + n) (omega (arith, lt)) ∙ later_says block e later n) in
    ap (flat_map G) (range_split from c (part_total later)) ∙ flat_map-append G (range_with_len from c)
    (range_with_len (from + c) (part_total later))
    ∙ ap₂ (λ (a b : List ℕ). a ++ b) first rest

-- ---- a cell

had_is : (o : Option BlockValue) → of_part o ≡ option_to_list (option_map number_of o)
had_is None = refl
had_is (Some b) = refl

-- where the marks of a cell are what a retention says, the blocks in use are the pages of its chain and
-- the blocks that it has
pub blocks_are_used : (r : Retention) (cell : CellState) → IsCell cell → AreMarksOf r cell
    → used_by r cell ≡ numbers_of cell.chain.blocks ++ blocks_had cell
blocks_are_used r cell is are =
    let log = log_of cell in
    let fresh = fresh_of cell in
    let used : ℕ → Bool = λ n. is_there (mark_or_fresh cell.marks n) in
    let says : ℕ → Option ℕ = page_block r.block cell.chain.entries in
    let G : ℕ → List ℕ = λ n. if_used (used n) (says n) in
    let whole : log ++ fresh ≡ cell.chain.entries = take-append-drop cell.chain.tail cell.chain.entries in
    let total : part_total cell.chain.entries ≡ part_total log + part_total fresh = ap part_total (sym whole) ∙ total_append log fresh in
    let kept : flat_map G (range_with_len 0 (part_total log)) ≡ blocks_kept r log =
    kept_numbers r used says 0 log
    (λ n pair q.
    let few : n < length cell.marks = omega (arith, slice_get_within (pairs r.block log) n pair q, length-pairs r.block log, is.marks.len) in
    let zeroth : 0 + n ≡ n = omega arith in
    ap used zeroth ∙ ap is_there (get_or_default cell.marks n Current Out few) ∙ are.there n pair q)
    (λ n lt.
    let zeroth : 0 + n ≡ n = omega arith in
    ap says zeroth ∙ ap (λ (es : List Entry). page_block r.block es n) (sym whole) ∙ front_block r.block log fresh n lt) in
    let said : flat_map G (range_with_len (0 + part_total log) (part_total fresh)) ≡ blocks_said r.block fresh =
    said_numbers r.block used says (0 + part_total log) fresh
    (λ n. ap is_there (get_or_past cell.marks (0 + part_total log + n) Current (omega (arith, is.marks.len))))
    (λ n lt.
    let back : 0 + part_total log + n - part_total log ≡ n = omega arith in
    ap (λ (es : List Entry). page_block r.block es (0 + part_total log + n)) (sym whole)
    ∙ back_block r.block log fresh (0 + part_total log + n) (omega arith) ∙ ap (page_block r.block fresh) back) in
    let had : blocks_had cell ≡ flat_map G (range_with_len 0 (part_total cell.chain.entries)) =
    by_place of_part G None cell.blocks 0
    (λ i lt.
    let zeroth : i ≡ 0 + i = omega arith in
    had_is (slice_index_or cell.blocks i None)
    ∙ ap option_to_list (is.blocks.numbers i ∙ ap (λ (b : ℕ). cond (used i) (page_block b cell.chain.entries i) None) (sym are.block))
    ∙ ap G zeroth)
    ∙ ap (λ (k : ℕ). flat_map G (range_with_len 0 k)) is.blocks.len in
    let split = ap (λ (n : ℕ). flat_map G (range_with_len 0 n)) total ∙ ap (flat_map G) (range_split 0 (part_total log) (part_total fresh))
    ∙ flat_map-append G (range_with_len 0 (part_total log)) (range_with_len (0 + part_total log) (part_total fresh))
    ∙ ap₂ (λ (a b : List ℕ). a ++ b) kept said in
    append_assoc (numbers_of cell.chain.blocks) (blocks_kept r log) (blocks_said r.block fresh)
    ∙ ap (λ (xs : List ℕ). numbers_of cell.chain.blocks ++ xs) (sym (had ∙ split))

-- a log without an entry uses its pages alone
pub used_by_nothing : (r : Retention) (cell : CellState) → length cell.chain.entries ≡ 0
    → used_by r cell ≡ numbers_of cell.chain.blocks
used_by_nothing r cell e =
    let bs = numbers_of cell.chain.blocks in
    let tail = cell.chain.tail in
    let none : cell.chain.entries ≡ [] = nil_from_length cell.chain.entries e in
    let log : log_of cell ≡ [] = ap (λ (es : List Entry). take tail es) none ∙ take-nil tail in
    let fresh : fresh_of cell ≡ [] = ap (λ (es : List Entry). drop tail es) none ∙ drop-nil tail in
    let kept : blocks_kept r (log_of cell) ≡ [] = ap (λ (es : List Entry). blocks_kept r es) log in
    let said : blocks_said r.block (fresh_of cell) ≡ [] = ap (λ (es : List Entry). blocks_said r.block es) fresh in
    ap₂ (λ (a b : List ℕ). bs ++ a ++ b) kept said ∙ append-nil (bs ++ []) ∙ append-nil bs
