-- Where nothing runs, every block is free, a log page, needed data or deferred: none is in a hand.
use Rattle.std.proofs.Common.{◌≡◌, ℕ, zero, suc, ◌+◌, ◌<◌, ◌≤◌, ◌==◌, ◌&&◌, ◌++◌, ◌∙◌, Bool, true, false, cond, List, [], ◌∷◌, Option, Some, None, ap, arith, filter, flat_map, if◌then◌else◌, length, length-append, map, nat_lt, refl, slice_get, slice_index_or, subst, sym}
use Rattle.std.specs.List.{range_with_len, sum_by}
use Rattle.std.specs.Option.{option_map}
use Rattle.std.proofs.lemmas.Bool.{eqb-true, lt-ltb, ne_eqb}
use Rattle.std.proofs.lemmas.List.{length-map}
use Rattle.std.proofs.lemmas.List.Concat.{length-flat_map}
use Rattle.std.proofs.lemmas.List.Sums.{sum_by-cons}
use Rattle.nv_alloc.specs.Block.{BlockValue, number_of, numbers_of}
use Rattle.nv_alloc.specs.FreeList.{FreeBlocks}
use Rattle.nv_alloc.specs.Numbers.{IsEachOnce, times}
use Rattle.nv_base.specs.declared.geometry.GeometryNumbers.{GeometryNumbers}
use Rattle.nv_book.specs.Records.{block_count, is_page}
use Rattle.nv_book.specs.declared.record.Record.{Record}
use Rattle.nv_calls.specs.Retiring.{name_of}
use Rattle.nv_cell.specs.Cell.{CellState, log_of, of_part, page_block, stored_in}
use Rattle.nv_entry.specs.Covered.{part_total}
use Rattle.nv_entry.specs.Held.{Retention, is_named, is_needed, keeps}
use Rattle.nv_entry.specs.Log.{IsLog, pairs}
use Rattle.nv_entry.specs.declared.held.Pair.{Pair}
use Rattle.nv_entry.specs.declared.item.Entry.{Entry}
use Rattle.nv_machine.specs.Held.{block_in_use, in_use_by, is_of_slot, retention_at}
use Rattle.nv_machine.specs.Numbers.{all_blocks, free_of, held_by_actor}
use Rattle.nv_machine.specs.Starts.{IsStart}
use Rattle.nv_machine.specs.World.{World, cell_at, no_cell, no_list}
use Rattle.nv_machine.proofs.FiledLists.{count_cons, one}
use Rattle.nv_machine.proofs.HeldLaw.{blocks_told}
use Rattle.nv_machine.proofs.PartsFor.{none_of}
use Rattle.nv_machine.proofs.WorldFacts.{log_in as is_log_in}
use Rattle.nv_serial.specs.Free.{block_kept, free_on}
use Rattle.nv_serial.specs.Reports.{chain_count, data_count, free_count, needed_in, pending_count}
use Rattle.nv_serial.specs.Serial.{Serial, deferred_in, keepers, living, log_in}
use Rattle.nv_serial.specs.Shown.{slot_told}
use Rattle.nv_serial.proofs.AtRestLists.{free_is}
use Rattle.nv_serial.proofs.AtRestLogs.{keepers_are, log_is, told_by, whole_log}
use Rattle.nv_serial.proofs.AtRestReports.{chain_reported}
use Rattle.nv_entry.proofs.PartLists.{length-pairs}
use Rattle.nv_serial.proofs.PagePairs.{count_split, either_few, named_few, page_names, paged, stored_few}

-- ---- sums over ranges

abbrev sum_over : (ℕ → ℕ) → ℕ → ℕ → ℕ
sum_over f from many = sum_by f (range_with_len from many)

sum_next : (f : ℕ → ℕ) (from many : ℕ) → sum_over f from (suc many) ≡ f from + sum_over f (from + 1)
    many
sum_next f from many = sum_by-cons f from (range_with_len (from + 1) many)

sum_le : (f h : ℕ → ℕ) (from many : ℕ) → ((i : ℕ) → from ≤ i → i < from + many → f i ≤ h i)
    → sum_over f from many ≤ sum_over h from many
sum_le f h from zero le = omega arith
sum_le f h from (suc many) le =
    let own = le from (omega arith) (omega arith) in
    let rest = sum_le f h (from + 1) many (λ i low lt. le i (omega (arith, low))
    (omega (arith, lt))) in
    omega (arith, sum_next f from many, sum_next h from many, own, rest)

sum_plus : (f h : ℕ → ℕ) (from many : ℕ) → sum_over (λ i. f i + h i) from many
    ≡ sum_over f from many + sum_over h from many
sum_plus f h from zero = refl
sum_plus f h from (suc many) =
    omega (
      arith,
      sum_next (λ i. f i + h i) from many,
      sum_next f from many,
      sum_next h from many,
      sum_plus f h (from + 1) many,
    )

sum_many : (f : ℕ → ℕ) (from many : ℕ) → ((i : ℕ) → i < from + many → 1 ≤ f i) → many
    ≤ sum_over f from many
sum_many f from zero some = omega arith
sum_many f from (suc many) some =
    let own = some from (omega arith) in
    let rest = sum_many f (from + 1) many (λ i lt. some i (omega (arith, lt))) in
    omega (arith, sum_next f from many, own, rest)

sum_none : (f : ℕ → ℕ) (from many : ℕ) → ((i : ℕ) → from ≤ i → f i ≡ 0) → sum_over f from many ≡ 0
sum_none f from zero none = refl
sum_none f from (suc many) none =
    let own = none from (omega arith) in
    let rest = sum_none f (from + 1) many (λ i le. none i (omega (arith, le))) in
    omega (arith, sum_next f from many, own, rest)

-- a number is one of a range once at most
sum_hit : (x from many : ℕ) → sum_over (λ i. one (x == i)) from many ≤ 1
sum_hit x from zero = omega arith
sum_hit x from (suc many) = go (x == from) refl (sum_hit x (from + 1) many) where
  go : (b : Bool) → (x == from) ≡ b → sum_over (λ i. one (x == i)) (from + 1) many ≤ 1
      → sum_over (λ i. one (x == i)) from (suc many) ≤ 1
  go true is rest =
      let same = eqb-true x from is in
      let none = sum_none (λ i. one (x == i)) (from + 1) many
      (λ i le. ap one (ne_eqb x i (λ e. absurd (omega (arith, e, same, le))))) in
      omega (arith, sum_next (λ i. one (x == i)) from many, ap one is, none)
  go false is rest = omega (arith, sum_next (λ i. one (x == i)) from many, ap one is, rest)

-- a sum over a list by its places
by_places : {X : Type 0} (f : X → ℕ) (h : ℕ → ℕ) (d : X) (xs : List X) (from : ℕ)
    → ((i : ℕ) → i < length xs → f (slice_index_or xs i d) ≤ h (from + i)) → sum_by f xs
    ≤ sum_over h from (length xs)
by_places f h d [] from le = omega arith
by_places f h d (x ∷ xs) from le =
    let own : f x ≤ h (from + 0) = le 0 (omega arith) in
    let here = ap h (let zeroth : from + 0 ≡ from = omega arith in zeroth) in
    let rest = by_places f h d xs (from + 1) (λ i lt.
    let at = le (suc i) (omega (arith, lt)) in
    let same = ap h (let next : from + suc i ≡ from + 1 + i = omega arith in next) in omega
    (arith, at, same)) in
    omega (arith, sum_by-cons f x xs, sum_next h from (length xs), own, here, rest)

-- ---- each number stands somewhere

times_next : (n x : ℕ) (xs : List ℕ) → times n (x ∷ xs) ≡ one (x == n) + times n xs
times_next n x xs = sum_by-cons (λ (m : ℕ). cond (m == n) 1 0) x xs

tally : (xs : List ℕ) (many : ℕ) → sum_over (λ n. times n xs) 0 many ≤ length xs
tally [] many = let none = sum_none (λ n. times n []) 0 many (λ i le. refl) in omega (arith, none)
tally (x ∷ xs) many =
    let split = sum_le (λ n. times n (x ∷ xs)) (λ n. one (x == n) + times n xs) 0 many
    (λ i low lt. let next = times_next i x xs in omega (arith, next)) in
    omega (
      arith,
      split,
      sum_plus (λ n. one (x == n)) (λ n. times n xs) 0 many,
      sum_hit x 0 many,
      tally xs many,
    )

each_somewhere : (many : ℕ) (xs : List ℕ) → IsEachOnce many xs → many ≤ length xs
each_somewhere many xs once =
    let all = sum_many (λ n. times n xs) 0 many (λ i lt.
    let at = once i in
    let in_it : nat_lt i many ≡ true = lt-ltb i many (omega (arith, lt)) in
    let counted : times i xs ≡ 1 = at ∙ ap (λ (b : Bool). if b then 1 else 0) in_it in omega
    (arith, counted)) in
    omega (arith, all, tally xs many)

-- ---- records by slots

names_next : (ino : ℕ) (d : Record) (ds : List Record)
    → page_names (map name_of (filter (is_of_slot ino) (d ∷ ds)))
    ≤ one (d.ino == ino && is_page d.part) + page_names (map name_of (filter (is_of_slot ino) ds))
names_next ino d ds = go (d.ino == ino) where
  go : (b : Bool) → page_names
      (map name_of (cond b (d ∷ filter (is_of_slot ino) ds) (filter (is_of_slot ino) ds)))
      ≤ one (b && is_page d.part) + page_names (map name_of (filter (is_of_slot ino) ds))
  go true =
      let next = count_cons (λ id. is_page id.part) (name_of d)
      (map name_of (filter (is_of_slot ino) ds)) in omega (arith, next)
  go false = omega arith

one_slot : (d : Record) (many : ℕ) → sum_over (λ ino. one (d.ino == ino && is_page d.part)) 0 many
    ≤ one (is_page d.part)
one_slot d many = go (is_page d.part) where
  go : (b : Bool) → sum_over (λ ino. one (d.ino == ino && b)) 0 many ≤ one b
  go true =
      let le = sum_le (λ ino. one (d.ino == ino && true)) (λ ino. one (d.ino == ino)) 0 many
      (λ i low lt. same (d.ino == i)) in
      omega (arith, le, sum_hit d.ino 0 many)
    where
      same : (b : Bool) → one (b && true) ≤ one b
      same true = omega arith
      same false = omega arith
  go false =
      let none = sum_none (λ ino. one (d.ino == ino && false)) 0 many
      (λ i le. nothing (d.ino == i)) in omega (arith, none)
    where
      nothing : (b : Bool) → one (b && false) ≡ 0
      nothing true = refl
      nothing false = refl

by_slots : (ds : List Record) (many : ℕ)
    → sum_over (λ ino. page_names (map name_of (filter (is_of_slot ino) ds))) 0 many
    ≤ block_count ds
by_slots [] many = let none = sum_none (λ ino. 0) 0 many (λ i le. refl) in omega (arith, none)
by_slots (d ∷ ds) many =
    let split = sum_le (λ ino. page_names (map name_of (filter (is_of_slot ino) (d ∷ ds))))
    (λ ino. one (d.ino == ino && is_page d.part) + page_names
    (map name_of (filter (is_of_slot ino) ds))) 0 many
    (λ i low lt. names_next i d ds) in
    omega (
      arith,
      split,
      sum_plus (λ ino. one (d.ino == ino && is_page d.part))
          (λ ino. page_names (map name_of (filter (is_of_slot ino) ds))) 0 many,
      one_slot d many,
      by_slots ds many,
      sum_by-cons (λ (r : Record). cond (is_page r.part) 1 0) d ds,
    )

-- what cells store: their log pages, and the blocks of their parts
stored_split : (cells : List CellState) → length (flat_map stored_in cells)
    ≡ sum_by (λ (c : CellState). length c.chain.blocks) cells + sum_by
    (λ (c : CellState). length (flat_map of_part c.blocks)) cells
stored_split [] = refl
stored_split (cell ∷ cells) =
    omega (
      arith,
      length-append (stored_in cell) (flat_map stored_in cells),
      length-append (numbers_of cell.chain.blocks) (flat_map of_part cell.blocks),
      length-map cell.chain.blocks number_of,
      sum_by-cons (λ (c : CellState). length c.chain.blocks) cell cells,
      sum_by-cons (λ (c : CellState). length (flat_map of_part c.blocks)) cell cells,
      stored_split cells,
    )

module _ (g : GeometryNumbers) (w : World) (rs : List Record) (is : IsStart g w rs) where
  abbrev s : Serial
  s = told_by g w rs

  -- ---- the blocks of one slot's parts

  kept_at : (ino n : ℕ) → ino < g.inodes
      → block_kept (keepers s ino) (log_in s ino) n ≡ block_in_use (retention_at w ino)
      (cell_at w.shared ino) n
  kept_at ino n lt =
      let cell : CellState = cell_at w.shared ino in
      ap (λ (r : Retention). block_kept r (log_in s ino) n) (keepers_are g w rs is ino lt)
      ∙ ap (λ (es : List Entry). block_kept (retention_at w ino) es n) (log_is g w rs is ino)
      ∙ ap (λ (es : List Entry). if in_use_by (retention_at w ino)
      (slice_get (pairs cell.block (log_of cell)) n)
      then page_block cell.block es n
      else None) (whole_log g w rs is ino)

  kept_page : (ino n : ℕ) (b : BlockValue) (pair : Pair) → ino < g.inodes
      → slice_index_or (cell_at w.shared ino).blocks n None ≡ Some b
      → slice_get (pairs g.block (log_in s ino)) n ≡ Some pair
      → (is_page pair.part && keeps (keepers s ino) pair) ≡ true
  kept_page ino n b pair lt there got =
      go (keeps (keepers s ino) pair)
      (sym (ap (λ (o : Option Pair). if in_use_by (keepers s ino) o then page_block g.block
      (log_in s ino) n else None) got)
      ∙ kept_at ino n lt ∙ sym (blocks_told g w rs [] ino n is) ∙ ap (option_map number_of)
      there) where
        go : (k : Bool) → (if k then page_block g.block (log_in s ino) n else None) ≡ Some b.number
            → (is_page pair.part && k) ≡ true
        go true says = ap (λ (p : Bool). p && true) (paged g.block (log_in s ino) n pair b.number
            got says)
        go false says = cc

  slot_few : (ino : ℕ) → ino < g.inodes → length (flat_map of_part (cell_at w.shared ino).blocks)
      ≤ needed_in s ino + page_names (map name_of (filter (is_of_slot ino) (deferred_in s)))
  slot_few ino lt =
      let cell : CellState = cell_at w.shared ino in
      let ps : List Pair = pairs g.block (log_in s ino) in
      let k : Retention = keepers s ino in
      let log : log_in s ino ≡ cell.chain.entries = log_is g w rs is ino
      ∙ whole_log g w rs is ino in
      let is_log : IsLog (log_in s ino) = subst IsLog (sym (log_is g w rs is ino))
      (is_log_in g w rs [] ino is) in
      let many : length cell.blocks ≡ length ps =
      (is.cells ino lt).blocks.len ∙ ap part_total (sym log)
      ∙ sym (length-pairs g.block (log_in s ino)) in
      let stored = stored_few cell.blocks (λ p. is_page p.part && keeps k p) ps many
      (λ n b pair there got. kept_page ino n b pair lt there got) in
      let split = count_split (λ (p : Pair). is_page p.part && keeps k p)
      (λ (p : Pair). is_page p.part && is_needed (living s) p)
      (λ (p : Pair). is_page p.part && is_named k.pending p)
      (λ p. either_few (is_page p.part) (is_needed (living s) p) (is_named k.pending p)) ps in
      let named = named_few g.block (log_in s ino) is_log k.pending in
      omega (arith, stored, split, named)

  -- EVERY BLOCK is free, a log page, needed data or deferred
  pub all_counted : g.blocks ≤ free_count s + chain_count s + data_count s + pending_count s
  all_counted =
      let whole = each_somewhere g.blocks (all_blocks w) is.once in
      let hands : flat_map held_by_actor w.actors ≡ [] = none_of held_by_actor w.actors
      (λ b. ap held_by_actor (is.idle_all b)) in
      let free = by_places (λ (l : FreeBlocks). length (free_of l)) (λ cpu. length (free_on s cpu))
      no_list w.shared.lists 0
      (λ i lt. let at = ap length (free_is g w rs is i (omega (arith, lt, is.lists.cpus))) in
      let same = ap (λ (n : ℕ). length (free_on s n)) (let zeroth : i
      ≡ 0 + i = omega arith in zeroth) in omega (arith, at, same)) in
      let cpus = ap (sum_over (λ cpu. length (free_on s cpu)) 0) is.lists.cpus in
      let parts = by_places (λ (c : CellState). length (flat_map of_part c.blocks))
      (λ ino. needed_in s ino + page_names (map name_of (filter (is_of_slot ino) (deferred_in s))))
      no_cell w.shared.cells 0
      (λ i lt. let at = slot_few i (omega (arith, lt, is.slots)) in
      let same = ap (λ (n : ℕ). needed_in s n + page_names
      (map name_of (filter (is_of_slot n) (deferred_in s))))
      (let zeroth : i ≡ 0 + i = omega arith in zeroth) in omega (arith, at, same)) in
      let slots = ap (sum_over (needed_in s) 0) (length-map w.shared.cells slot_told) in
      omega (
        arith,
        whole,
        length-append (flat_map free_of w.shared.lists)
            (flat_map stored_in w.shared.cells ++ flat_map held_by_actor w.actors),
        length-append (flat_map stored_in w.shared.cells) (flat_map held_by_actor w.actors),
        ap length hands,
        length-flat_map free_of w.shared.lists,
        free,
        cpus,
        stored_split w.shared.cells,
        chain_reported g w rs is,
        parts,
        sum_plus (needed_in s)
            (λ ino. page_names (map name_of (filter (is_of_slot ino) (deferred_in s)))) 0
            (length w.shared.cells),
        slots,
        by_slots (deferred_in s) (length w.shared.cells),
      )
