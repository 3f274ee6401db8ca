-- A commit leaves its cells and its hand together as many blocks as before.
use Rattle.std.proofs.Common.{◌≡◌, ℕ, zero, suc, ◌+◌, ◌<◌, ◌≤◌, ◌&&◌, Bool, true, false, cond, List, [], ◌∷◌, ◌++◌, Option, Some, None, length, length-append, length-drop, take, drop, arith, not, refl, ap, ap₂, subst, sym, ◌∙◌}
use Rattle.std.specs.List.{AllByRecursion, sum_by}
use Rattle.std.proofs.lemmas.List.{length-set, length-take, length-take-le}
use Rattle.std.proofs.lemmas.List.Concat.{length-flat_map}
use Rattle.std.proofs.lemmas.List.Sums.{sum_by_more_le}
use Rattle.std.proofs.Math.ListN.{length-map}
use Rattle.std.proofs.Math.Seq.{take-length}
use Rattle.nv_alloc.specs.Block.{BlockValue, number_of}
use Rattle.nv_alloc.specs.Hand.{blocks_of}
use Rattle.nv_alloc.specs.declared.hand.Hand.{Hand}
use Rattle.nv_book.specs.Book.{BookValue}
use Rattle.nv_entry.specs.declared.item.Entry.{Entry}
use Rattle.nv_entry.specs.declared.item.Item.{Item}
use Rattle.nv_entry.specs.Blocks.{item_blocks}
use Rattle.nv_entry.specs.Covered.{is_covered, part_total}
use Rattle.nv_log.specs.Chain.{pages_for}
use Rattle.nv_cell.specs.Append.{IsWithinFile, blocks_for}
use Rattle.nv_cell.specs.Cell.{CellState, CellValue, HasMarks, IsCell, block_total, held_count, log_of, number_in}
use Rattle.nv_cell.specs.Effects.{items_of}
use Rattle.nv_cell.specs.Marks.{is_current, mark_at}
use Rattle.nv_cell.specs.Readers.{is_erased, is_gone, keeps_nothing}
use Rattle.nv_cell.specs.declared.killed.KilledPart.{KilledPart}
use Rattle.nv_cell.specs.declared.mark.Mark.TheVariants.{Kept, Out}
use Rattle.nv_cell.proofs.Held.{count_appended, count_out}
use Rattle.nv_cell.proofs.Outs.{AreEmptied, appended_emptied, cell_emptied, kept_emptied, nothing_held, published_count, published_emptied, without_emptied}
use Rattle.nv_calls.specs.CanCommit.{CanCommit, goes, numbers_of_all}
use Rattle.nv_calls.specs.Cells.{no_cell, state_at, value_at}
use Rattle.nv_calls.specs.Commit.{CommitValue, begun, stamp_of}
use Rattle.nv_calls.specs.Committed.{ChangesPlanned, Killing, block_count, committed, grown, hand_after_killings, hand_before, hand_left, killing, page_count, place_before, cell_place_of}
use Rattle.nv_calls.specs.Ready.{CellCommitValue, ReadyValue, no_plan, plan_at}
use Rattle.nv_calls.specs.Retiring.{erased, freed, freed_by, freed_one, hand_with, keeper_of, number_back, retired, retired_one, settled, with_back}
use Rattle.nv_calls.specs.Steps.{numbers_in, pages_from, stamped_entries, with_entries, with_entry, with_new_pages, with_plan}
use Rattle.nv_calls.specs.declared.stamp.Stamp.{Stamp}
use Rattle.nv_calls.proofs.Appends.{numbers-cons}
use Rattle.nv_calls.proofs.Commits.{entries-items}
use Rattle.nv_calls.proofs.Composed.{own_grown}
use Rattle.nv_calls.proofs.Grown.{IsGrown}
use Rattle.nv_calls.proofs.Next.{Keeps, emptied, keeps}
use Rattle.nv_calls.proofs.PlaceSums.{moved, same_sum, sum_to, whole_sum}

pub hand_len : (hand : Hand)
    → length (blocks_of hand) ≡ length hand.«data».blocks + length hand.pages.blocks + length hand.chain
hand_len hand =
    omega (
      arith,
      length-append (hand.«data».blocks ++ hand.pages.blocks) hand.chain,
      length-append hand.«data».blocks hand.pages.blocks,
    )

-- ---- appending

module _ (e : Entry) (es : List Entry) (blocks : List BlockValue)
    (le : length (numbers_in (items_of (e ∷ es))) ≤ length blocks) where
  abbrev own : ℕ
  own = length (item_blocks e.item)

  all : length (numbers_in (items_of (e ∷ es))) ≡ own + length (numbers_in (items_of es))
  all = ap length (numbers-cons e.item (items_of es)) ∙ length-append (item_blocks e.item) (numbers_in (items_of es))

  front : length (take own blocks) ≡ own
  front = length-take-le own blocks (omega (arith, all, le))

  behind : length (numbers_in (items_of es)) ≤ length (drop own blocks)
  behind = omega (arith, all, le, length-drop own blocks)

count_entries : (es : List Entry) (blocks : List BlockValue) (cell : CellValue) → length (numbers_in (items_of es)) ≤ length blocks
    → block_total (with_entries es blocks cell).state ≡ block_total cell.state + length (numbers_in (items_of es))
count_entries [] blocks cell le = omega arith
count_entries (e ∷ es) blocks cell le =
    omega (
      arith,
      count_entries es (drop (length (item_blocks e.item)) blocks) (with_entry e blocks cell) (behind e es blocks le),
      count_appended e (blocks_for e.item blocks) cell.state (front e es blocks le),
      all e es blocks le,
      front e es blocks le,
    )

entries_emptied : (es : List Entry) (blocks : List BlockValue) (cell : CellValue) → AllByRecursion IsWithinFile (items_of es)
    → length (numbers_in (items_of es)) ≤ length blocks → AreEmptied cell.state → AreEmptied (with_entries es blocks cell).state
entries_emptied [] blocks cell within le h = h
entries_emptied (e ∷ es) blocks cell within le h =
    entries_emptied es (drop (length (item_blocks e.item)) blocks) (with_entry e blocks cell) within.1 (behind e es blocks le)
    (appended_emptied e (blocks_for e.item blocks) cell.state within.0 (front e es blocks le) h)

same_marks : (es : List Entry) (blocks : List BlockValue) (cell : CellValue)
    → (with_entries es blocks cell).state.marks ≡ cell.state.marks
same_marks [] blocks cell = refl
same_marks (e ∷ es) blocks cell = same_marks es (drop (length (item_blocks e.item)) blocks) (with_entry e blocks cell)

module _ (stamp : Stamp) (place : ℕ) (items : List Item) (hand : Hand) (cell : CellValue)
    (le : length (numbers_in items) ≤ length hand.«data».blocks) where
  abbrev made : List Entry
  made = stamped_entries stamp place items

  abbrev pages : List BlockValue
  pages = pages_from hand cell.state.chain (length items)

  items_are : items_of made ≡ items
  items_are = entries-items stamp.commit stamp.epoch place items

  fits : length (numbers_in (items_of made)) ≤ length hand.«data».blocks
  fits = omega (arith, le, ap (λ (xs : List Item). length (numbers_in xs)) items_are)

  count_plan : pages_for cell.state.chain (length items) ≤ length hand.pages.blocks
      → block_total (with_plan stamp place items hand cell).state
      ≡ block_total cell.state + pages_for cell.state.chain (length items) + length (numbers_in items)
  count_plan few =
      omega (
        arith,
        count_entries made hand.«data».blocks (with_new_pages pages cell) fits,
        ap (λ (xs : List Item). length (numbers_in xs)) items_are,
        length-append cell.state.chain.blocks pages,
        length-take-le (pages_for cell.state.chain (length items)) hand.pages.blocks few,
      )

  plan_emptied : AllByRecursion IsWithinFile items → AreEmptied cell.state → AreEmptied (with_plan stamp place items hand cell).state
  plan_emptied within h =
      entries_emptied made hand.«data».blocks (with_new_pages pages cell) (subst (AllByRecursion IsWithinFile) (sym items_are) within) fits
      (record { len = h.len; few = h.few; out = h.out })

  plan_marks : (with_plan stamp place items hand cell).state.marks ≡ cell.state.marks
  plan_marks = same_marks made hand.«data».blocks (with_new_pages pages cell)

-- ---- retiring

settled_count : (keeper : Option ℕ) (n : ℕ) (cell : CellState)
    → block_total (settled keeper n cell) + length (freed keeper n cell) ≡ block_total cell
settled_count (Some s) n cell = omega arith
settled_count None n cell = count_out cell n

retired_count : (living : List ℕ) (ino epoch : ℕ) (parts : List KilledPart) (cell : CellState)
    → block_total (retired living ino epoch parts cell) + length (freed_by living ino epoch parts cell) ≡ block_total cell
retired_count living ino epoch [] cell = omega arith
retired_count living ino epoch (killed ∷ later) cell =
    let next = retired_one living ino epoch killed cell in
    omega (
      arith,
      settled_count (keeper_of living ino epoch killed) (number_in cell killed.part) cell,
      retired_count living ino epoch later next,
      length-append (freed_one living ino epoch killed cell) (freed_by living ino epoch later next),
    )

settled_emptied : (keeper : Option ℕ) (n : ℕ) (cell : CellState) → AreEmptied cell → AreEmptied (settled keeper n cell)
settled_emptied (Some s) n cell h = kept_emptied cell n h
settled_emptied None n cell h = without_emptied cell n h

settled_lens : (keeper : Option ℕ) (n : ℕ) (cell : CellState) → length cell.marks ≡ length cell.blocks
    → length (settled keeper n cell).marks ≡ length (settled keeper n cell).blocks
settled_lens (Some s) n cell len = length-set cell.marks n Kept ∙ len
settled_lens None n cell len = length-set cell.marks n Out ∙ len ∙ sym (length-set cell.blocks n None)

-- where the cell keeps nothing after it, no part has a block
pub nothing_retired : (living : List ℕ) (ino epoch : ℕ) (parts : List KilledPart) (cell : CellState) → AreEmptied cell
    → length cell.marks ≡ length cell.blocks → keeps_nothing (retired living ino epoch parts cell) ≡ true
    → held_count (retired living ino epoch parts cell).blocks ≡ 0
nothing_retired living ino epoch [] cell h len nothing = nothing_held cell h len nothing
nothing_retired living ino epoch (killed ∷ later) cell h len nothing =
    let keeper = keeper_of living ino epoch killed in
    let n = number_in cell killed.part in
    nothing_retired living ino epoch later (settled keeper n cell) (settled_emptied keeper n cell h) (settled_lens keeper n cell len)
    nothing

-- ---- erasing

pub both_true : (a b : Bool) → (a && b) ≡ true → (a ≡ true) × (b ≡ true)
both_true true true p = (refl, refl)
both_true true false p = cc
both_true false b p = cc

-- the hand with the chain and the number of an inode
abbrev given : ℕ → CellState → Hand → Hand
given ino cell hand = record hand { chain = cell.chain.blocks; ino = number_back ino cell hand.ino }

-- what is erased gives its chain to a hand that has none
pub erased_count : (ino : ℕ) (cell : CellState) (hand : Hand) → (is_erased cell ≡ true → length hand.chain ≡ 0)
    → (is_erased cell ≡ true → held_count cell.blocks ≡ 0)
    → length (blocks_of (hand_with ino cell hand)) + block_total (erased cell) ≡ length (blocks_of hand) + block_total cell
erased_count ino cell hand = go (is_erased cell) where
  go : (b : Bool) → (b ≡ true → length hand.chain ≡ 0) → (b ≡ true → held_count cell.blocks ≡ 0)
      → length (blocks_of (cond b (given ino cell hand) hand))
      + block_total (cond b (emptied cell) cell) ≡ length (blocks_of hand) + block_total cell
  go true free none =
      omega (
        arith,
        hand_len (given ino cell hand),
        hand_len hand,
        free refl,
        none refl,
      )
  go false free none = refl

still_chain : (ino : ℕ) (cell : CellState) (hand : Hand) → is_erased cell ≡ false → (hand_with ino cell hand).chain ≡ hand.chain
still_chain ino cell hand is =
    ap (λ (b : Bool). (cond b (given ino cell hand) hand).chain) is

-- more blocks behind the others
pub back_count : (blocks : List BlockValue) (hand : Hand)
    → length (blocks_of (let h : Hand = record hand { «data» = with_back blocks hand.«data» } in h))
    ≡ length (blocks_of hand) + length blocks
back_count blocks hand =
    omega (
      arith,
      hand_len (let h : Hand = record hand { «data» = with_back blocks hand.«data» } in h),
      hand_len hand,
      length-append hand.«data».blocks blocks,
    )

-- ---- all plans

not_true : (b : Bool) → (b ≡ true → ⊥) → b ≡ false
not_true true none = absurd (none refl)
not_true false none = refl

module _ (cells : List (ℕ × CellValue)) (book : BookValue) (cpu : ℕ) (ready : ReadyValue) (can : CanCommit cells book cpu ready)
    (living : List ℕ) (are : (k : ℕ) → k < length cells → IsCell (state_at cells k)) where
  abbrev start : CommitValue
  start = begun (stamp_of book.state) ready

  abbrev plans : List CellCommitValue
  plans = ready.plans

  abbrev before : ℕ → CellState
  before j = state_at cells (cell_place_of plans j)

  abbrev full : ℕ → CellState
  full j = (grown cells start j).state

  abbrev kill : ℕ → Killing
  kill j = killing cells start j

  abbrev after : ℕ → CellState
  after j = retired living (kill j).ino start.stamp.epoch (kill j).parts (kill j).cell

  data_fits : sum_by block_count plans ≤ length ready.hand.«data».blocks
  data_fits =
      let m = length (numbers_of_all plans) in
      omega (
        arith,
        length-flat_map (λ (p : CellCommitValue). numbers_in p.items) plans,
        length-map (take m ready.hand.«data».blocks) number_of,
        ap length can.append.blocks,
        length-take m ready.hand.«data».blocks,
      )

  -- a plan's own blocks and pages are in front once those of the plans before it are gone
  own_data : (j : ℕ) → j < length plans → block_count (plan_at plans j) ≤ length (hand_before cells start j).«data».blocks
  own_data j lt =
      omega (
        arith,
        sum_by_more_le block_count plans j no_plan lt,
        data_fits,
        length-drop (sum_by block_count (take j plans)) ready.hand.«data».blocks,
      )

  own_pages : (j : ℕ) → j < length plans → page_count cells (plan_at plans j) ≤ length (hand_before cells start j).pages.blocks
  own_pages j lt =
      omega (
        arith,
        sum_by_more_le (page_count cells) plans j no_plan lt,
        can.append.pages,
        length-drop (sum_by (page_count cells) (take j plans)) ready.hand.pages.blocks,
      )

  full_count : (j : ℕ) → j < length plans
      → block_total (full j) ≡ block_total (before j) + page_count cells (plan_at plans j) + block_count (plan_at plans j)
  full_count j lt =
      count_plan start.stamp (place_before plans j) (plan_at plans j).items (hand_before cells start j)
      (value_at cells (cell_place_of plans j)) (own_data j lt) (own_pages j lt)

  is_cell : (j : ℕ) → j < length plans → IsCell (before j)
  is_cell j lt = are (cell_place_of plans j) (can.placed.within j lt)

  is_grown : (j : ℕ) → j < length plans
      → IsGrown (stamped_entries start.stamp (place_before plans j) (plan_at plans j).items) (plan_at plans j).items (before j)
      (full j)
  is_grown j lt = own_grown cells book cpu ready can cells start j lt

  full_emptied : (j : ℕ) → j < length plans → AreEmptied (full j)
  full_emptied j lt =
      plan_emptied start.stamp (place_before plans j) (plan_at plans j).items (hand_before cells start j)
      (value_at cells (cell_place_of plans j)) (own_data j lt) (can.append.each j lt).within (cell_emptied (before j) (is_cell j lt))

  full_marks : (j : ℕ) → j < length plans → HasMarks (full j)
  full_marks j lt =
      let g = is_grown j lt in
      let same = plan_marks start.stamp (place_before plans j) (plan_at plans j).items (hand_before cells start j)
      (value_at cells (cell_place_of plans j)) (own_data j lt) in
      let old : HasMarks (before j) = (is_cell j lt).marks in
      record {
        len = ap length same ∙ old.len ∙ ap part_total (sym g.log);
        current = λ n lt.
            ap (λ ms. is_current (mark_at ms n)) same ∙ old.current n (subst (λ l. n < part_total l) g.log lt)
            ∙ ap₂ (λ b l. not (is_covered b l n)) (sym g.grows.block) (sym g.log);
      }

  -- where the cell is erased, no part has a block any more
  none_held : (j : ℕ) → j < length plans → is_erased (after j) ≡ true → held_count (after j).blocks ≡ 0
  none_held j lt is =
      let h = full_emptied j lt in
      let marks = full_marks j lt in
      nothing_retired living (kill j).ino start.stamp.epoch (kill j).parts (kill j).cell (published_emptied (full j) marks h)
      (published_count (full j) marks ∙ sym h.len)
      (both_true (is_gone (log_of (after j))) (keeps_nothing (after j)) is).1

  -- and no other is
  goes_there : (j : ℕ) → j < length plans → is_erased (after j) ≡ true → goes (plan_at plans j).items ≡ true
  goes_there j lt is =
      let same : Keeps (kill j).cell (after j) =
      keeps living (kill j).ino start.stamp.epoch (kill j).parts (kill j).cell in
      let gone = (both_true (is_gone (log_of (after j))) (keeps_nothing (after j)) is).0 in
      sym (is_grown j lt).gone ∙ sym (ap (λ ch. is_gone (take ch.tail ch.entries)) same.chain) ∙ gone

  others_stay : (j : ℕ) → j < length plans → is_erased (after j) ≡ true → (i : ℕ) → i < j → is_erased (after i) ≡ false
  others_stay j lt is i low =
      not_true (is_erased (after i))
      (λ other.
      let li : i < length plans = omega (arith, lt, low) in
      let same = can.one_goes i j li lt (goes_there i li other) (goes_there j lt is) in
      omega (arith, same, low))

  abbrev left : ℕ → Hand → Hand
  left j hand = hand_after_killings living start.stamp.epoch (killing cells start) j hand

  free_still : (j : ℕ) (hand : Hand) → length hand.chain ≡ 0 → ((i : ℕ) → i < j → is_erased (after i) ≡ false)
      → length (left j hand).chain ≡ 0
  free_still zero hand free stay = free
  free_still (suc j) hand free stay =
      ap length (still_chain (kill j).ino (after j) (let h : Hand = record (left j hand) {
        «data» = with_back (freed_by living (kill j).ino start.stamp.epoch (kill j).parts (kill j).cell) (left j hand).«data»;
      } in h) (stay j (omega arith)))
      ∙ free_still j hand free (λ i lt. stay i (omega (arith, lt)))

  left_count : (j : ℕ) (hand : Hand) → j ≤ length plans → length hand.chain ≡ 0
      → length (blocks_of (left j hand)) + sum_to (λ i. block_total (committed living cells start i)) j
      ≡ length (blocks_of hand) + sum_to (λ i. block_total (full i)) j
  left_count zero hand le free = refl
  left_count (suc j) hand le free =
      let lt : j < length plans = omega (arith, le) in
      let blocks = freed_by living (kill j).ino start.stamp.epoch (kill j).parts (kill j).cell in
      omega (
        arith,
        left_count j hand (omega (arith, le)) free,
        back_count blocks (left j hand),
        retired_count living (kill j).ino start.stamp.epoch (kill j).parts (kill j).cell,
        erased_count (kill j).ino (after j)
            (let h : Hand = record (left j hand) { «data» = with_back blocks (left j hand).«data» } in h)
            (λ is. free_still j hand free (others_stay j lt is)) (none_held j lt),
      )

  -- ---- sums over the plans

  full_sum : (j : ℕ) → j ≤ length plans
      → sum_to (λ i. block_total (full i)) j
      ≡ sum_to (λ i. block_total (before i)) j + sum_to (λ i. page_count cells (plan_at plans i)) j + sum_to
      (λ i. block_count (plan_at plans i)) j
  full_sum zero le = refl
  full_sum (suc j) le = omega (arith, full_sum j (omega (arith, le)), full_count j (omega (arith, le)))

  hand_count : length (blocks_of (hand_before cells start (length plans)))
      + sum_by (page_count cells) plans + sum_by block_count plans ≡ length (blocks_of ready.hand)
  hand_count =
      let all = take-length plans in
      omega (
        arith,
        hand_len (hand_before cells start (length plans)),
        hand_len ready.hand,
        length-drop (sum_by block_count (take (length plans) plans)) ready.hand.«data».blocks,
        length-drop (sum_by (page_count cells) (take (length plans) plans)) ready.hand.pages.blocks,
        ap (sum_by block_count) all,
        ap (sum_by (page_count cells)) all,
        data_fits,
        can.append.pages,
      )

  abbrev of_cell : ℕ × CellValue → ℕ
  of_cell c = block_total c.1.state

  pub commit_count : (now : List (ℕ × CellValue)) → ChangesPlanned plans (committed living cells start) cells now
      → sum_by of_cell now + length (blocks_of (hand_left living cells start)) ≡ sum_by of_cell cells + length (blocks_of ready.hand)
  commit_count now changes =
      let n = length plans in
      let f : ℕ → ℕ = λ k. block_total (state_at cells k) in
      let g : ℕ → ℕ = λ k. block_total (state_at now k) in
      let first : Hand = record (hand_before cells start n) { ino = None } in
      let there = moved f g (cell_place_of plans) n (length cells) can.placed.within (λ i j lt low. can.placed.rising i j no_plan lt low)
      (λ k lt none. ap (λ (v : CellValue). block_total v.state) (changes.others k none)) in
      let becomes = same_sum (λ j. g (cell_place_of plans j)) (λ j. block_total (committed living cells start j)) n
      (λ j lt. ap block_total (changes.planned j lt)) in
      omega (
        arith,
        whole_sum of_cell cells no_cell,
        whole_sum of_cell now no_cell ∙ ap (sum_to g) changes.count,
        there,
        becomes,
        left_count n first (omega arith) can.chain,
        full_sum n (omega arith),
        whole_sum (page_count cells) plans no_plan,
        whole_sum block_count plans no_plan,
        hand_len first,
        hand_len (hand_before cells start n),
        hand_count,
      )
