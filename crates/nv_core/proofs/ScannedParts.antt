-- The blocks that cells keep are those of pages that are needed, and of those that are pending: told by marks, and by logs
-- and records.
use Rattle.std.proofs.Common.{◌≡◌, ◌∙◌, ℕ, suc, ◌+◌, ◌-◌, ◌<◌, ◌≤◌, ◌&&◌, ◌++◌, Bool, true, false, cond, List, [], ◌∷◌, Option, Some, None, ap, arith, drop, is_some, length, nat_le, nat_lt, option_map, refl, replicate, slice_get, slice_index_or, sym, take-append-drop}
use Rattle.std.specs.Prelude.{◌||◌, count_by, option_and_then}
use Rattle.std.specs.List.{AllByRecursion, list_any, sum_by}
use Rattle.std.specs.Option.{option_or}
use Rattle.std.proofs.lemmas.Bool.{and_parts, eqb-true, false≢true, ltb-false, ltb-true, true≢false}
use Rattle.std.proofs.lemmas.List.{get_or-append_right, get_or-replicate, get_or_append_left, length-replicate}
use Rattle.std.proofs.lemmas.List.Folds.{list_any-append}
use Rattle.std.proofs.lemmas.List.Sums.{length-filter, sum_by-cons}
use Rattle.std.proofs.lemmas.Option.{get_or_from_slice_get, same_Some}
use Rattle.nv_alloc.specs.Block.{BlockValue, number_of}
use Rattle.nv_entry.proofs.PartLists.{length-pairs}
use Rattle.nv_base.specs.declared.geometry.GeometryNumbers.{GeometryNumbers}
use Rattle.nv_book.specs.Book.{BookState}
use Rattle.nv_book.specs.Listed.{all_records}
use Rattle.nv_book.specs.Records.{holder_of, is_held_by, is_page}
use Rattle.nv_book.specs.declared.record.Record.{Record}
use Rattle.nv_calls.specs.Retiring.{name_of}
use Rattle.nv_cell.proofs.NamedParts.{pair_first, pair_later}
use Rattle.nv_cell.proofs.PagesNow.{front_block}
use Rattle.nv_cell.specs.Cell.{CellState, IsCell, log_of, mark_or_fresh, page_block}
use Rattle.nv_cell.specs.Marks as marks
use Rattle.nv_cell.specs.Marks.{bit, is_killed, is_there, mark_at}
use Rattle.nv_cell.specs.Named.{number_named}
use Rattle.nv_cell.specs.Numbers.{is_number}
use Rattle.nv_cell.specs.declared.mark.Mark.{Mark}
use Rattle.nv_cell.specs.declared.mark.Mark.TheVariants.{Current, Kept, Killed, Out}
use Rattle.nv_entry.proofs.Currents.{any_same}
use Rattle.nv_entry.specs.Covered.{part_count, part_total}
use Rattle.nv_entry.specs.Data.{block_in}
use Rattle.nv_entry.specs.Held.{holds, is_before_death, is_current, is_held, is_needed}
use Rattle.nv_entry.specs.Keys.{Key, key_of, parts_of, sets}
use Rattle.nv_entry.specs.Log.{IsLog, pair_of, pairs, value_of}
use Rattle.nv_entry.specs.declared.held.Pair.{Pair}
use Rattle.nv_entry.specs.declared.item.Entry.{Entry}
use Rattle.nv_entry.specs.declared.part.Part.{Part}
use Rattle.nv_entry.specs.declared.part.Part.TheVariants as part
use Rattle.nv_epoch.proofs.Last.{last_that-cons}
use Rattle.nv_epoch.specs.Holders as holders
use Rattle.nv_epoch.specs.Holders.{last_that, youngest_holder}
use Rattle.nv_epoch.specs.SnapList.{ids}
use Rattle.nv_machine.specs.Held.{is_of_slot, killed_in, pending_in}
use Rattle.nv_machine.specs.Recorded.{IsOfPair, is_marked_kept, recorded_in, records_after}
use Rattle.nv_machine.specs.Scanned.{all_pages_that, pages_that, scanned_data, scanned_pending}
use Rattle.nv_machine.specs.Starts.{IsStart}
use Rattle.nv_machine.specs.Step.{after}
use Rattle.nv_machine.specs.World.{Event, World, cell_at, no_cell}
use Rattle.nv_machine.proofs.EachElement.{all_append, all_back, all_front, all_weaker, all_with}
use Rattle.nv_machine.proofs.FiledHeld.{any_told}
use Rattle.nv_machine.proofs.FiledLists.{HasHolder, count, count_append, held_filed, one, unheld_pass}
use Rattle.nv_machine.proofs.FiledMarks.{IsDying, IsTold, is_filed_on, is_killed_on, pair_low}
use Rattle.nv_machine.proofs.FiledSteps.{MarksOf}
use Rattle.nv_machine.proofs.FiledWorlds.{picked_in}
use Rattle.nv_machine.proofs.MarksInUse.{any_gives, any_none, any_of, same_default}
use Rattle.nv_cell.proofs.NamedPairs.{current_is, number_is}
use Rattle.nv_machine.proofs.EveryWorld.{all_listed, all_marked}
use Rattle.nv_machine.proofs.WorldFacts.{are_cells, log_in, recorded_all, recorded_once, recorded_pairs}
use Rattle.nv_machine.proofs.Pairs.{has_number, named_same, record_number}
use Rattle.nv_core.proofs.AuditCounts.{count_at}
use Rattle.nv_core.proofs.AuditNamed.{in_record}
use Rattle.nv_core.proofs.Blocked.{says, some_number}
use Rattle.nv_core.proofs.Kept.{length_births, none_past}
use Rattle.nv_core.proofs.ScannedRecords.{and_true, page_records, pages_by_slot, pairs_in}
use Rattle.nv_core.proofs.SumsTo.{sum_both, sum_first, sum_list, sum_none, sum_same, sum_to}
use Rattle.nv_core.specs.Reports as reports
use Rattle.nv_core.specs.Reports.{births, kept_among, kept_in, data_kept, one_of}

-- ---- what an entry says of a part, by its pair

paged_block : (block : ℕ) (log : List Entry) (n : ℕ) (pair : Pair) → slice_get (pairs block log) n ≡ Some pair
    → is_some (page_block block log n) ≡ is_page pair.part
paged_block block [] n pair got = cc
paged_block block (e ∷ log) n pair got = go (nat_lt n (part_count e)) refl (paged_block block log (n - part_count e) pair) where
  said : (o : Option Part) → slice_get (parts_of e.item) n ≡ o → option_map (pair_of block e log) o ≡ Some pair
      → nat_lt n (part_count e) ≡ true → is_some (page_block block (e ∷ log) n) ≡ is_page pair.part
  said None q f low = cc
  said (Some p) q f low =
      let key = ap (key_of e.item) (get_or_from_slice_get (parts_of e.item) n p part.Kind q) in
      let is : pair_of block e log p ≡ pair = same_Some (pair_of block e log p) pair f in
      rw low (ap (λ (key : Key). is_some (option_and_then block_in (value_of (sets block e.item key)))) key
      ∙ says block e.item n p q ∙ ap (λ (u : Pair). is_page u.part) is)

  go : (b : Bool) → nat_lt n (part_count e) ≡ b
      → (slice_get (pairs block log) (n - part_count e) ≡ Some pair
      → is_some (page_block block log (n - part_count e)) ≡ is_page pair.part)
      → is_some (page_block block (e ∷ log) n) ≡ is_page pair.part
  go true low more =
      said (slice_get (parts_of e.item) n) refl (sym (pair_first block e log n (ltb-true n (part_count e) low)) ∙ got) low
  go false past more = rw past (more (sym (pair_later block e log n (ltb-false n (part_count e) past)) ∙ got))

born : (block : ℕ) (log : List Entry) (n : ℕ) (pair : Pair) → slice_get (pairs block log) n ≡ Some pair
    → slice_index_or (births log) n 0 ≡ pair.birth
born block [] n pair got = cc
born block (e ∷ log) n pair got = go (nat_lt n (part_count e)) refl (born block log (n - part_count e) pair) where
  own : List ℕ
  own = replicate (part_count e) e.epoch

  said : (o : Option Part) → option_map (pair_of block e log) o ≡ Some pair → e.epoch ≡ pair.birth
  said None f = cc
  said (Some p) f = ap (λ (u : Pair). u.birth) (same_Some (pair_of block e log p) pair f)

  go : (b : Bool) → nat_lt n (part_count e) ≡ b
      → (slice_get (pairs block log) (n - part_count e) ≡ Some pair → slice_index_or (births log) (n - part_count e) 0 ≡ pair.birth)
      → slice_index_or (own ++ births log) n 0 ≡ pair.birth
  go true e1 more =
      let low = ltb-true n (part_count e) e1 in
      get_or_append_left own (births log) 0 n (omega (arith, low, length-replicate (part_count e) e.epoch))
      ∙ get_or-replicate (part_count e) n e.epoch 0 low
      ∙ said (slice_get (parts_of e.item) n) (sym (pair_first block e log n low) ∙ got)
  go false e1 more =
      let past = ltb-false n (part_count e) e1 in
      get_or-append_right own (births log) (part_count e) n 0 (length-replicate (part_count e) e.epoch) past
      ∙ more (sym (pair_later block e log n past) ∙ got)

block_there : (cell : CellState) (n : ℕ) (pair : Pair) → IsCell cell → slice_get (pairs_in cell) n ≡ Some pair
    → is_there (mark_at cell.marks n) ≡ true → is_some (slice_index_or cell.blocks n None) ≡ is_page pair.part
block_there cell n pair is got there =
    let log = log_of cell in
    let later = drop cell.chain.tail cell.chain.entries in
    let low : n < part_total log = pair_low cell.block log n pair got in
    let mark : is_there (mark_or_fresh cell.marks n) ≡ true =
    ap is_there (same_default cell.marks n (omega (arith, low, is.marks.len))) ∙ there in
    let whole : log ++ later ≡ cell.chain.entries = take-append-drop cell.chain.tail cell.chain.entries in
    let has : option_map number_of (slice_index_or cell.blocks n None) ≡ page_block cell.block cell.chain.entries n =
    is.blocks.numbers n ∙ rw mark refl in
    sym (some_number (slice_index_or cell.blocks n None))
    ∙ ap is_some (has ∙ ap (λ (es : List Entry). page_block cell.block es n) (sym whole) ∙ front_block cell.block log later n low)
    ∙ paged_block cell.block log n pair got

-- ---- by its mark a part is needed, pending, or neither

-- there is a last number that passes exactly where any does
pub last_any : (p : ℕ → Bool) (xs : List ℕ) → is_some (last_that p xs) ≡ list_any p xs
last_any p [] = refl
last_any p (x ∷ xs) = ap is_some (last_that-cons p x xs) ∙ go (p x) (last_that p xs) (last_any p xs) where
  go : (b : Bool) (o : Option ℕ) → is_some o ≡ list_any p xs → is_some (option_or o (cond b (Some x) None)) ≡ (b || list_any p xs)
  go true (Some y) h = refl
  go true None h = refl
  go false (Some y) h = h
  go false None h = h

-- the last of two is not true where neither is
second_false : (a b : Bool) → (a || b) ≡ false → b ≡ false
second_false true b e = absurd (true≢false e)
second_false false b e = e

module _ (book : BookState) (birth : ℕ) (block : Option BlockValue) where
  by_mark : (m : Mark) (page current held filed pend : Bool) → current ≡ marks.is_current m → (filed || pend) ≡ is_marked_kept m
      → (filed ≡ true → held ≡ true) → (pend ≡ true → held ≡ false) → (m ≡ Out → held ≡ false)
      → (m ≡ Killed → held ≡ is_some (youngest_holder (ids book.snaps) birth book.snaps.epoch))
      → (is_there m ≡ true → is_some block ≡ page)
      → one_of book birth m block ≡ one (page && (current || held)) + one (page && pend)
  by_mark Current page current held filed pend c k f p o y b =
      rw (c, second_false filed pend k) (ap one (b refl) ∙ go page) where
        go : (x : Bool) → one x ≡ one (x && true) + one (x && false)
        go true = refl
        go false = refl
  by_mark Killed page current held filed pend c k f p o y b =
      rw (c, second_false filed pend k) (rw (sym (y refl), b refl) (go held page)) where
        go : (h x : Bool) → one (h && x) ≡ one (x && h) + one (x && false)
        go true true = refl
        go true false = refl
        go false true = refl
        go false false = refl
  by_mark Kept page current held filed pend c k f p o y b = rw c (ap one (b refl) ∙ go filed pend k f p page) where
    off : (x : Bool) → one x ≡ one (x && true) + one (x && false)
    off true = refl
    off false = refl

    on : (x : Bool) → one x ≡ one (x && false) + one (x && true)
    on true = refl
    on false = refl

    go : (filed pend : Bool) → (filed || pend) ≡ true → (filed ≡ true → held ≡ true) → (pend ≡ true → held ≡ false) → (x : Bool)
        → one x ≡ one (x && held) + one (x && pend)
    go filed true k f p x = rw (p refl) (on x)
    go true false k f p x = rw (f refl) (off x)
    go false false k f p x = absurd (false≢true k)
  by_mark Out page current held filed pend c k f p o y b =
      rw (c, o refl, second_false filed pend k) (go page) where
        go : (x : Bool) → 0 ≡ one (x && false) + one (x && false)
        go true = refl
        go false = refl

-- ---- the kept parts of a cell by number

abbrev one_at : BookState → List ℕ → List Mark → List (Option BlockValue) → ℕ → ℕ
one_at book births marks blocks n = one_of book (slice_index_or births n 0) (mark_at marks n) (slice_index_or blocks n None)

no_part : (book : BookState) (birth : ℕ) (mark : Mark) → one_of book birth mark None ≡ 0
no_part book birth mark = go (reports.is_part_kept book birth mark) where
  go : (b : Bool) → cond {A = ℕ} (b && false) 1 0 ≡ 0
  go true = refl
  go false = refl

kept_by_number : (book : BookState) (births : List ℕ) (marks : List Mark) (blocks : List (Option BlockValue))
    → sum_to (length births) (one_at book births marks blocks) ≡ kept_among book births marks blocks
kept_by_number book [] marks blocks = refl
kept_by_number book (birth ∷ births) [] blocks =
    sum_none (suc (length births)) (one_at book (birth ∷ births) [] blocks) (λ n lt. refl)
kept_by_number book (birth ∷ births) (mark ∷ marks) [] =
    sum_none (suc (length births)) (one_at book (birth ∷ births) (mark ∷ marks) [])
    (λ n lt. no_part book (slice_index_or (birth ∷ births) n 0) (mark_at (mark ∷ marks) n))
kept_by_number book (birth ∷ births) (mark ∷ marks) (block ∷ blocks) =
    let first = sum_first (length births) (one_at book (birth ∷ births) (mark ∷ marks) (block ∷ blocks)) in
    let rest = kept_by_number book births marks blocks in
    omega (arith, first, rest)

-- how many pass the one test, and how many the other
two_counts : {X : Type 0} (f h : X → Bool) (xs : List X) → sum_by (λ x. one (f x) + one (h x)) xs ≡ count_by f xs + count_by h xs
two_counts f h [] = refl
two_counts f h (x ∷ xs) =
    omega (
      arith,
      sum_by-cons (λ x. one (f x) + one (h x)) x xs,
      sum_by-cons (λ x. one (f x)) x xs,
      sum_by-cons (λ x. one (h x)) x xs,
      two_counts f h xs,
    )

no_pair : Pair
no_pair = record { entry = record { commit = 0; place = 0 }; part = part.Kind; birth = 0; death = None }

-- ---- every world

module _ (g : GeometryNumbers) (start : World) (records : List Record) (events : List Event) (is_start : IsStart g start records) where
  abbrev w : World
  w = after start events

  abbrev living : List ℕ
  living = ids w.shared.book.snaps

  abbrev filed : List Record
  filed = all_records w.shared.book.manifests

  pub each_pending : AllByRecursion (λ d. holder_of living d ≡ None) (pending_in w)
  each_pending =
      let l = all_listed g start records events is_start in
      let P : Record → Type 0 = λ d. holder_of living d ≡ None in
      all_append P w.shared.book.deferred (picked_in w)
      (rw l.list.deferred_is (unheld_pass living (records_after start events records))) (all_marked g start records events is_start).unheld

  each_filed : AllByRecursion (HasHolder living) filed
  each_filed =
      held_filed living w.shared.book.manifests w.shared.book.deferred (records_after start events records)
      (all_listed g start records events is_start).list

  -- of a pair of a slot's log
  module _ (ino n : ℕ) (pair : Pair) (got : slice_get (pairs_in (cell_at w.shared ino)) n ≡ Some pair) where
    abbrev cell : CellState
    cell = cell_at w.shared ino

    abbrev log : List Entry
    log = log_of cell

    is : IsLog log
    is = log_in g start records events ino is_start

    abbrev test : Record → Bool
    test d = is_filed_on ino log n d

    abbrev is_told : Record → Type 0
    is_told d = IsTold living ino cell.block log d

    marked : MarksOf living ino w.shared.book.snaps.epoch (killed_in w ino) (records_after start events records ++ picked_in w) cell
    marked = (all_marked g start records events is_start).cells ino

    pub told : AllByRecursion is_told (recorded_in w)
    told = let m = marked in recorded_all g start records events is_told is_start m.told

    pub named_test : (d : Record) → in_record ino pair d ≡ test d
    named_test d = ap (λ (b : Bool). is_of_slot ino d && b) (named_same cell.block log is n pair got (name_of d))

    -- a record of it has the same living holders
    pub same_holders : (d : Record) → is_told d → test d ≡ true → AllByRecursion (λ s. is_held_by s d ≡ holds s pair) living
    same_holders d told_d e =
        let both = and_parts (is_of_slot ino d) (is_number (number_named log (name_of d)) n) e in
        let own = told_d (eqb-true d.ino ino both.0) in
        let number : own.n ≡ n =
        same_Some own.n n (sym (record_number living cell.block log d is own) ∙ number_is (number_named log (name_of d)) n both.1) in
        let same : own.pair ≡ pair = same_Some own.pair pair (sym own.is ∙ ap (slice_get (pairs_in cell)) number ∙ got) in
        all_weaker (λ s. is_held_by s d ≡ holds s own.pair) (λ s. is_held_by s d ≡ holds s pair)
        (λ s h. h ∙ ap (holds s) same) living own.holders

    held_so : (d : Record) → is_told d → test d ≡ true → is_held living pair ≡ is_some (holder_of living d)
    held_so d told_d e =
        sym (last_any (holders.holds d.birth d.death) living
        ∙ any_told (λ s. is_held_by s d) (λ s. holds s pair) living (same_holders d told_d e))

    filed_held : list_any test filed ≡ true → is_held living pair ≡ true
    filed_held =
        any_gives test (is_held living pair ≡ true) filed
        (all_with is_told (HasHolder living) (λ d. test d ≡ true → is_held living pair ≡ true)
        (λ d told_d holder e. held_so d told_d e ∙ ap is_some holder.is) filed (all_front is_told filed (pending_in w) told) each_filed)

    pending_unheld : list_any test (pending_in w) ≡ true → is_held living pair ≡ false
    pending_unheld =
        any_gives test (is_held living pair ≡ false) (pending_in w)
        (all_with is_told (λ d. holder_of living d ≡ None) (λ d. test d ≡ true → is_held living pair ≡ false)
        (λ d told_d none e. held_so d told_d e ∙ ap is_some none) (pending_in w) (all_back is_told filed (pending_in w) told) each_pending)

    killed_now : mark_at cell.marks n ≡ Killed → pair.death ≡ Some w.shared.book.snaps.epoch
    killed_now mark =
        let m = marked in
        let epoch = w.shared.book.snaps.epoch in
        any_gives (is_killed_on log n) (pair.death ≡ Some epoch) (killed_in w ino)
        (all_weaker (IsDying epoch cell.block log) (λ k. is_killed_on log n k ≡ true → pair.death ≡ Some epoch)
        (λ k h e.
        let number : h.n ≡ n =
        same_Some h.n n (sym (has_number cell.block log k.part k.birth epoch is h) ∙ number_is (number_named log k.part) n e) in
        let same : h.pair ≡ pair = same_Some h.pair pair (sym h.is ∙ ap (slice_get (pairs_in cell)) number ∙ got) in
        ap (λ (u : Pair). u.death) (sym same) ∙ h.death_is) (killed_in w ino) m.dying)
        (any_of (is_killed_on log n) (killed_in w ino) true (m.killed_are n ∙ ap (λ (x : Mark). bit (is_killed x)) mark))

    killed_held : mark_at cell.marks n ≡ Killed
        → is_held living pair ≡ is_some (youngest_holder living pair.birth w.shared.book.snaps.epoch)
    killed_held mark =
        ap (λ (o : Option ℕ). list_any (λ s. nat_le pair.birth s && is_before_death s o) living) (killed_now mark)
        ∙ sym (last_any (holders.holds pair.birth w.shared.book.snaps.epoch) living)

    pub few_records : count (in_record ino pair) (recorded_in w) ≤ 1
    few_records =
        let same = count_at (in_record ino pair) test (recorded_in w) (λ i d at. named_test d) in
        let once = recorded_once g start records events is_start ino n in
        let few = bit_few (is_marked_kept (mark_at cell.marks n)) in
        omega (arith, same, once, few) where
          bit_few : (b : Bool) → bit b ≤ 1
          bit_few true = omega arith
          bit_few false = omega arith

    part_is : ino < length w.shared.cells → one_at w.shared.book (births log) cell.marks cell.blocks n
        ≡ one (is_page pair.part && is_needed living pair) + one (is_page pair.part && list_any (in_record ino pair) (pending_in w))
    part_is lt =
        let m = marked in
        ap (λ (birth : ℕ). one_of w.shared.book birth (mark_at cell.marks n) (slice_index_or cell.blocks n None))
        (born cell.block log n pair got)
        ∙ by_mark w.shared.book pair.birth (slice_index_or cell.blocks n None) (mark_at cell.marks n) (is_page pair.part)
        (is_current pair) (is_held living pair) (list_any test filed) (list_any test (pending_in w))
        (current_is cell.block log is n pair got ∙ sym (m.current n (pair_low cell.block log n pair got)))
        (sym (list_any-append test filed (pending_in w))
        ∙ any_of test (recorded_in w) (is_marked_kept (mark_at cell.marks n)) (recorded_once g start records events is_start ino n))
        filed_held pending_unheld (λ out. any_none (λ s. holds s pair) living (m.out n pair got out)) killed_held
        (block_there cell n pair (are_cells g start records events ino is_start lt) got)
        ∙ ap (λ (b : Bool). one (is_page pair.part && is_needed living pair) + one (is_page pair.part && b))
        (sym (any_same (in_record ino pair) test named_test (pending_in w)))

  -- of a slot
  cell_is : (ino : ℕ) → ino < length w.shared.cells
      → kept_in w.shared.book (cell_at w.shared ino)
      ≡ pages_that (is_needed living) (cell_at w.shared ino)
      + pages_that (λ pair. list_any (in_record ino pair) (pending_in w)) (cell_at w.shared ino)
  cell_is ino lt =
      let cell = cell_at w.shared ino in
      let log = log_of cell in
      let needed : Pair → Bool = λ pair. is_page pair.part && is_needed living pair in
      let pending : Pair → Bool = λ pair. is_page pair.part && list_any (in_record ino pair) (pending_in w) in
      let both : Pair → ℕ = λ pair. one (needed pair) + one (pending pair) in
      let at : ℕ → ℕ = one_at w.shared.book (births log) cell.marks cell.blocks in
      sym (kept_by_number w.shared.book (births log) cell.marks cell.blocks)
      ∙ ap (λ (k : ℕ). sum_to k at) (length_births log ∙ sym (length-pairs cell.block log))
      ∙ sum_same (length (pairs_in cell)) at (λ n. both (slice_index_or (pairs_in cell) n no_pair))
      (λ n low. place n low (slice_get (pairs_in cell) n) refl)
      ∙ sum_list both (pairs_in cell) no_pair ∙ two_counts needed pending (pairs_in cell) where
        place : (n : ℕ) → n < length (pairs_in (cell_at w.shared ino)) → (o : Option Pair)
            → slice_get (pairs_in (cell_at w.shared ino)) n ≡ o
            → one_at w.shared.book (births (log_of (cell_at w.shared ino))) (cell_at w.shared ino).marks (cell_at w.shared ino).blocks n
            ≡ (let pair = slice_index_or (pairs_in (cell_at w.shared ino)) n no_pair in
            one (is_page pair.part && is_needed living pair)
            + one (is_page pair.part && list_any (in_record ino pair) (pending_in w)))
        place n low None none = absurd (none_past (pairs_in (cell_at w.shared ino)) n low none)
        place n low (Some pair) got =
            part_is ino n pair got lt
            ∙ ap (λ (u : Pair). one (is_page u.part && is_needed living u)
            + one (is_page u.part && list_any (in_record ino u) (pending_in w)))
            (sym (get_or_from_slice_get (pairs_in (cell_at w.shared ino)) n pair no_pair got))

  -- of all slots
  pub kept_is : data_kept w.shared ≡ scanned_data w.shared + scanned_pending w
  kept_is =
      let many = length w.shared.cells in
      let needed : ℕ → ℕ = λ ino. pages_that (is_needed living) (cell_at w.shared ino) in
      let pending : ℕ → ℕ = λ ino. pages_that (λ pair. list_any (in_record ino pair) (pending_in w)) (cell_at w.shared ino) in
      let all = sum_list (kept_in w.shared.book) w.shared.cells no_cell in
      let each = sum_same many (λ ino. kept_in w.shared.book (cell_at w.shared ino)) (λ ino. needed ino + pending ino) cell_is in
      let both = sum_both many needed pending (λ ino. needed ino + pending ino) (λ ino. refl) in
      let first = pages_by_slot (λ ino. is_needed living) w.shared in
      let second = pages_by_slot (λ ino pair. list_any (in_record ino pair) (pending_in w)) w.shared in
      let all_pairs = recorded_pairs g start records events is_start in
      let told : count (λ d. is_page d.part && true) (pending_in w)
      ≡ all_pages_that (λ ino pair. list_any (in_record ino pair) (pending_in w)) w.shared =
      page_records w (λ d. true) (pending_in w) (λ ino. log_in g start records events ino is_start)
      (all_back (IsOfPair w) filed (pending_in w) all_pairs) few in
      let paged = count_at (λ (d : Record). is_page d.part && true) (λ (d : Record). is_page d.part) (pending_in w)
      (λ i d at. and_true (is_page d.part)) in
      let blocks = length-filter (λ (d : Record). is_page d.part) (pending_in w) in
      omega (arith, all, each, both, first, second, told, paged, blocks) where
        few : (ino n : ℕ) (pair : Pair) → slice_get (pairs_in (cell_at w.shared ino)) n ≡ Some pair
            → count (in_record ino pair) (pending_in w) ≤ 1
        few ino n pair got =
            let most = few_records ino n pair got in
            let parted = count_append (in_record ino pair) filed (pending_in w) in
            omega (arith, most, parted)

pub pending_few : (g : GeometryNumbers) (start : World) (records : List Record) (events : List Event) → IsStart g start records
    → scanned_pending (after start events) ≤ data_kept (after start events).shared
pending_few g start records events is_start = let is = kept_is g start records events is_start in omega (arith, is)
