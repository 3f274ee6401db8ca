-- An append to one of the cells, as the machine's.
use Rattle.std.proofs.Common.{◌≡◌, ◌≢◌, ℕ, zero, suc, ◌+◌, ◌-◌, ◌<◌, ◌≤◌, ◌==◌, ◌∙◌, Bool, true, false, List, [], ◌∷◌, ◌++◌, ap, arith, drop, filter, length, map, nat_lt, refl, subst, sym, take}
use Rattle.std.specs.Prelude.{slice_index_or, slice_set}
use Rattle.std.specs.List.{AllPairs}
use Rattle.std.proofs.lemmas.Bool.{eqb-false, eqb-true, ltb-false, ltb-true}
use Rattle.std.proofs.lemmas.Grind.{get_or-set_at, get_or_default_zero}
use Rattle.std.proofs.lemmas.List.{append-nil, append_assoc, drop-drop, get_or-map, get_or-set_other, length-append, length-map, length-set}
use Rattle.std.proofs.lemmas.List.Concat.{flat_map-cons}
use Rattle.std.proofs.lemmas.List.Folds.{Any-from_list_any}
use Rattle.std.proofs.lemmas.List.Kept.{AllPairs-filter}
use Rattle.std.proofs.lemmas.Map.Views.{any-filter_same}
use Rattle.nv_alloc.specs.Block.{BlockValue}
use Rattle.nv_alloc.specs.Numbers.{has}
use Rattle.nv_calls.specs.Cells.{OnlyAt, ino_at, no_cell, value_at, with_value}
use Rattle.nv_calls.specs.Commit.{CommitValue, after_append, begun, to_append}
use Rattle.nv_calls.specs.Progress.{is_open}
use Rattle.nv_calls.specs.Ready.{CellCommitValue, ReadyValue, no_plan, plan_at}
use Rattle.nv_calls.specs.SlotCells.{cell_in, lent_cells}
use Rattle.nv_calls.specs.Slots.{ArePlaced, entries_of, items_for, place_in}
use Rattle.nv_calls.specs.Steps as code
use Rattle.nv_calls.specs.Steps.{numbers_in, pages_from, stamped_entries, with_plan}
use Rattle.nv_calls.specs.declared.plan.InodePlan.{InodePlan}
use Rattle.nv_calls.specs.declared.stamp.Stamp.{Stamp}
use Rattle.nv_cell.specs.Cell.{CellState, CellValue}
use Rattle.nv_cell.specs.declared.killed.KilledPart.{KilledPart}
use Rattle.nv_entry.specs.Blocks.{item_blocks}
use Rattle.nv_entry.specs.declared.item.Entry.{Entry}
use Rattle.nv_entry.specs.declared.item.Item.{Item}
use Rattle.nv_log.specs.Chain.{ChainState, pages_for}
use Rattle.nv_machine.specs.Kinds.{append_turn, blocks_left, entries_for, with_entries, with_log_pages}
use Rattle.nv_machine.specs.Reads.{is_written, pages_needed, slot_at, written_slots}
use Rattle.nv_machine.specs.Sequence.{appending}
use Rattle.nv_machine.specs.World as machine
use Rattle.nv_machine.specs.World.{cell_at, go_to, with_cell}
use Rattle.nv_core.specs.Appends.{IsPlanOf}
use Rattle.nv_core.specs.Shown.{ShownCall, commit_next, hand_in, hand_with, killed_in, shared_of, shown_commit, slots_in}
use Rattle.nv_core.specs.GhostCalls.{ArePlansOf, IsCommitOf, IsOnItsWay, IsPlaceOf, IsReadyOf}
use Rattle.nv_core.specs.declared.running.Running.{Running}
use Rattle.nv_core.specs.declared.shared.Shared.{Shared}
use Rattle.nv_core.proofs.Publishes.{state_there, states_set}
use Rattle.nv_core.proofs.Sequence.{appends_next}

-- ---- one cell

-- more entries, by the code and by the machine
pub entries_same : (es : List Entry) (blocks : List BlockValue) (cell : CellValue)
    → (code.with_entries es blocks cell).state ≡ with_entries es blocks cell.state
entries_same [] blocks cell = refl
entries_same (e ∷ es) blocks cell = entries_same es (drop (length (item_blocks e.item)) blocks) (code.with_entry e blocks cell)

-- more pages, page by page
pub pages_same : (pages : List BlockValue) (cell : CellState)
    → with_log_pages pages cell ≡ record cell { chain = record cell.chain { blocks = cell.chain.blocks ++ pages } }
pages_same [] cell = ap (λ (bs : List BlockValue). let c : CellState = record cell { chain = record cell.chain { blocks = bs } } in c)
    (sym (append-nil cell.chain.blocks))
pages_same (b ∷ pages) cell =
    pages_same pages (record cell { chain = record cell.chain { blocks = cell.chain.blocks ++ b ∷ [] } })
    ∙ ap (λ (bs : List BlockValue). let c : CellState = record cell { chain = record cell.chain { blocks = bs } } in c)
    (append_assoc cell.chain.blocks (b ∷ []) pages)

-- what entries leave of blocks
pub left_same : (commit epoch place : ℕ) (items : List Item) (blocks : List BlockValue)
    → blocks_left (entries_of commit epoch place items) blocks ≡ drop (length (numbers_in items)) blocks
left_same commit epoch place [] blocks = refl
left_same commit epoch place (item ∷ items) blocks =
    left_same commit epoch (place + 1) items (drop (length (item_blocks item)) blocks)
    ∙ drop-drop (length (numbers_in items)) (length (item_blocks item)) blocks
    ∙ ap (λ (n : ℕ). drop n blocks)
    (sym (ap (λ (xs : List ℕ). length xs) (flat_map-cons item_blocks item items) ∙ length-append (item_blocks item) (numbers_in items)))

-- the lent cell of a place is that of its slot
pub lent_value : (slots : List ℕ) (all : List CellValue) (k : ℕ) → k < length slots
    → value_at (lent_cells slots all) k ≡ cell_in all (slot_at slots k)
lent_value slots all k lt = ap (λ (c : ℕ × CellValue). c.1) (get_or-map (λ (ino : ℕ). (ino, cell_in all ino)) slots k 0 no_cell lt)

-- the lent cell that has another value
pub lent_with : (slots : List ℕ) (old new : List CellValue) (k : ℕ) (value : CellValue) → k < length slots
    → lent_cells slots new ≡ with_value (lent_cells slots old) k value → value_at (lent_cells slots new) k ≡ value
lent_with slots old new k value lt is =
    ap (λ (xs : List (ℕ × CellValue)). value_at xs k) is
    ∙ ap (λ (c : ℕ × CellValue). c.1) (get_or-set_at (lent_cells slots old) k k (ino_at (lent_cells slots old) k, value) no_cell refl
    (omega (arith, lt, length-map {B = ℕ × CellValue} slots (λ (ino : ℕ). (ino, cell_in old ino)))))

pub lent_only : (slots : List ℕ) (old new : List CellValue) (k : ℕ) (value : CellValue) → k < length slots
    → lent_cells slots new ≡ with_value (lent_cells slots old) k value → OnlyAt k (lent_cells slots old) (lent_cells slots new)
lent_only slots old new k value lt is =
    is ∙ ap (with_value (lent_cells slots old) k) (sym (lent_with slots old new k value lt is))

-- ---- the commit

none_first : (plans : List CellCommitValue) → map (λ (p : CellCommitValue). p.killed) (drop 0 (take 0 plans)) ≡ []
none_first [] = refl
none_first (p ∷ plans) = refl

-- before the first publish nothing is killed
pub none_killed : (c : CommitValue) → c.published ≡ 0 → c.retired ≡ 0 → killed_in c ≡ []
none_killed c published retired =
    ap (λ (n : ℕ). map (λ (p : CellCommitValue). p.killed) (drop c.retired (take n c.plans))) published
    ∙ ap (λ (n : ℕ). map (λ (p : CellCommitValue). p.killed) (drop n (take 0 c.plans))) retired
    ∙ none_first c.plans

-- the plans of which one has no items any more are at the same places
pub ats_stay : (slots : List ℕ) (plans : List CellCommitValue) (j : ℕ)
    → map (λ (p : CellCommitValue). slot_at slots p.at) (slice_set plans j (record (plan_at plans j) { items = [] }))
    ≡ map (λ (p : CellCommitValue). slot_at slots p.at) plans
ats_stay slots [] j = refl
ats_stay slots (p ∷ plans) zero = refl
ats_stay slots (p ∷ plans) (suc j) = ap (λ (rest : List ℕ). slot_at slots p.at ∷ rest) (ats_stay slots plans j)

-- while entries are yet to be appended the journal is closed
pub closed_yet : (c : CommitValue) → IsOnItsWay c → c.appended < length c.plans → is_open c ≡ false
closed_yet c way lt = go (is_open c) refl where
  go : (b : Bool) → is_open c ≡ b → b ≡ false
  go true q = let full = (way.opened q).1 in absurd (omega (arith, full, lt))
  go false q = refl

pub append_told : (slots : List ℕ) (old new : CommitValue) (cell : CellState) (told : ShownCall)
    → new ≡ after_append cell.chain old → IsCommitOf slots old told → IsCommitOf slots new told
append_told slots old new cell told commit is =
    let many : length (slice_set old.plans old.appended (record (to_append old) { items = [] })) ≡ length old.plans =
    length-set old.plans old.appended (record (to_append old) { items = [] }) in
    subst (λ (c : CommitValue). IsCommitOf slots c told) (sym commit) (record {
      number = is.number;
      epoch = is.epoch;
      plans = record {
        written = is.plans.written ∙ sym (ats_stay slots old.plans old.appended);
        items = λ j from lt. later j (omega (arith, from)) (omega (arith, lt, many));
      };
    })
  where
    later : (j : ℕ) → old.appended < j → j < length old.plans
        → (plan_at (slice_set old.plans old.appended (record (to_append old) { items = [] })) j).items
        ≡ items_for told.plan (slot_at slots (plan_at (slice_set old.plans old.appended (record (to_append old) { items = [] })) j).at)
    later j from lt =
        subst (λ (p : CellCommitValue). p.items ≡ items_for told.plan (slot_at slots p.at))
        (sym (get_or-set_other old.plans old.appended j (record (to_append old) { items = [] }) no_plan
        (λ same. absurd (omega (arith, from, same)))))
        (is.plans.items j (omega (arith, from)) lt)

pub append_way : (old new : CommitValue) (cell : CellState) → IsOnItsWay old → old.appended < length old.plans
    → new ≡ after_append cell.chain old → IsOnItsWay new
append_way old new cell way lt commit =
    let many : length (slice_set old.plans old.appended (record (to_append old) { items = [] })) ≡ length old.plans =
    length-set old.plans old.appended (record (to_append old) { items = [] }) in
    let none : old.published ≡ 0 = way.appends lt in
    let kept : old.retired ≡ 0 = way.publishes (omega (arith, none, lt)) in
    subst IsOnItsWay (sym commit) (record {
      appended = omega (arith, many, lt);
      published = omega (arith, many, none);
      retired = omega (arith, many, kept);
      appends = λ less. none;
      publishes = λ less. kept;
      opened = λ is. let full = (way.opened is).1 in absurd (omega (arith, full, lt));
      between = λ two some less. absurd (omega (arith, some, none));
    })

-- the machine's append to the cell to which the commit appends
pub appends : (shared : Shared) (running : Running) (old new : CommitValue) (cells : List CellValue) (told : ShownCall) (i : ℕ)
    → IsCommitOf (slots_in running.slots) old told → IsPlaceOf (slots_in running.slots) old told → IsOnItsWay old
    → old.appended < length old.plans → i ≡ slot_at (slots_in running.slots) (to_append old).at → i < length shared.cells.items
    → cells ≡ slice_set shared.cells.items i (cell_in cells i)
    → cell_in cells i ≡ with_plan old.stamp old.place (to_append old).items old.hand (cell_in shared.cells.items i)
    → new ≡ after_append (cell_in shared.cells.items i).state.chain old
    → let r = shown_commit old told running in let ino = slot_at (written_slots r) old.appended in
    append_turn ino (pages_needed (shared_of shared) told.plan ino) old.appended (shared_of shared) (hand_in old) r
    ≡ machine.Moves (record (shared_of shared) { cells = map (λ (c : CellValue). c.state) cells }) (hand_in new)
    (shown_commit new told running)
appends shared running old new cells told i is placed way lt place there only value commit =
    let s = shared_of shared in
    let h = hand_in old in
    let r = shown_commit old told running in
    let slots = slots_in running.slots in
    let w = written_slots r in
    let a = old.appended in
    let its = (to_append old).items in
    let cell = (cell_in shared.cells.items i).state in
    let after = after_append cell.chain old in
    let f : CellCommitValue → ℕ = λ plan. slot_at slots plan.at in
    let at : slot_at w a ≡ i =
    ap (λ (xs : List ℕ). slot_at xs a) is.plans.written ∙ get_or-map f old.plans a no_plan 0 lt ∙ sym place in
    let items : items_for told.plan i ≡ its =
    ap (items_for told.plan) place ∙ sym (is.plans.items a (omega arith) lt) in
    let from : place_in told.plan i ≡ old.place = ap (place_in told.plan) place ∙ sym (placed lt) in
    let here : cell_at s i ≡ cell = state_there shared.cells.items i there in
    let entries : entries_for r i ≡ stamped_entries old.stamp old.place its =
    ap (λ (c : ℕ). entries_of c told.epoch (place_in told.plan i) (items_for told.plan i)) (sym is.number)
    ∙ ap (λ (e : ℕ). entries_of old.stamp.commit e (place_in told.plan i) (items_for told.plan i)) (sym is.epoch)
    ∙ ap (λ (p : ℕ). entries_of old.stamp.commit old.stamp.epoch p (items_for told.plan i)) from
    ∙ ap (entries_of old.stamp.commit old.stamp.epoch old.place) items in
    let pages : pages_needed s told.plan i ≡ pages_for cell.chain (length its) =
    ap (λ (c : CellState). pages_for c.chain (length (items_for told.plan i))) here
    ∙ ap (λ (xs : List Item). pages_for cell.chain (length xs)) items in
    let n = pages_for cell.chain (length its) in
    let es = stamped_entries old.stamp old.place its in
    let whole : with_entries es h.blocks (with_log_pages (take n h.pages) cell) ≡ (cell_in cells i).state =
    ap (with_entries es h.blocks) (pages_same (take n h.pages) cell)
    ∙ sym (ap (λ (c : CellValue). c.state) value
    ∙ entries_same es old.hand.data.blocks (code.with_new_pages (pages_from old.hand cell.chain (length its))
    (cell_in shared.cells.items i))) in
    let rest : slice_set s.cells i (cell_in cells i).state ≡ map (λ (c : CellValue). c.state) cells =
    sym (ap (λ (xs : List CellValue). map (λ (c : CellValue). c.state) xs) only ∙ states_set shared.cells.items i (cell_in cells i)) in
    let many : length (slice_set old.plans a (record (to_append old) { items = [] })) ≡ length old.plans =
    length-set old.plans a (record (to_append old) { items = [] }) in
    let long : length w ≡ length after.plans =
    ap (λ (xs : List ℕ). length xs) is.plans.written ∙ length-map old.plans f ∙ sym many in
    let none : old.published ≡ 0 = way.appends lt in
    let kept : old.retired ≡ 0 = way.publishes (omega (arith, none, lt)) in
    let next : appending (a + 1) w ≡ commit_next after = appends_next after w long none kept (closed_yet old way lt) in
    let killed : killed_in old ≡ killed_in after = none_killed old none kept ∙ sym (none_killed after none kept) in
    let left : blocks_left es h.blocks ≡ drop (length (numbers_in its)) h.blocks =
    left_same old.stamp.commit old.stamp.epoch old.place its h.blocks in
    ap (λ (ino : ℕ). append_turn ino (pages_needed s told.plan ino) a s h r) at
    ∙ ap (λ (m : ℕ). append_turn i m a s h r) pages
    ∙ ap (λ (xs : List Entry). machine.Moves (with_cell i (with_entries xs h.blocks (with_log_pages (take n h.pages) (cell_at s i))) s)
    (record h { blocks = blocks_left xs h.blocks; pages = drop n h.pages }) (go_to (appending (a + 1) w) r)) entries
    ∙ ap (λ (c : CellState). machine.Moves (with_cell i (with_entries es h.blocks (with_log_pages (take n h.pages) c)) s)
    (record h { blocks = blocks_left es h.blocks; pages = drop n h.pages }) (go_to (appending (a + 1) w) r)) here
    ∙ ap (λ (c : CellState). machine.Moves (with_cell i c s)
    (record h { blocks = blocks_left es h.blocks; pages = drop n h.pages }) (go_to (appending (a + 1) w) r)) whole
    ∙ ap (λ (xs : List CellState). machine.Moves (record s { cells = xs })
    (record h { blocks = blocks_left es h.blocks; pages = drop n h.pages }) (go_to (appending (a + 1) w) r)) rest
    ∙ ap (λ (xs : List BlockValue). machine.Moves (record s { cells = map (λ (c : CellValue). c.state) cells })
    (record h { blocks = xs; pages = drop n h.pages }) (go_to (appending (a + 1) w) r)) left
    ∙ ap (λ (parts : List (List KilledPart)). machine.Moves (record s { cells = map (λ (c : CellValue). c.state) cells })
    (hand_with parts after.hand) (go_to (appending (a + 1) w) r)) killed
    ∙ ap (λ (x : machine.Next). machine.Moves (record s { cells = map (λ (c : CellValue). c.state) cells }) (hand_in after)
    (go_to x r)) next
    ∙ sym (ap (λ (c : CommitValue). machine.Moves (record s { cells = map (λ (x : CellValue). x.state) cells }) (hand_in c)
    (shown_commit c told running)) commit)

-- ---- places

-- where none of some numbers has entries, the place stays
stays : (plan : List InodePlan) → ArePlaced plan → (from n : ℕ) → ((x : ℕ) → from ≤ x → x < from + n → is_written plan x ≡ false)
    → place_in plan (from + n) ≡ place_in plan from
stays plan placed from zero none = ap (place_in plan) (let e : from + 0 ≡ from = omega arith in e)
stays plan placed from (suc n) none =
    let here : from + suc n ≡ from + n + 1 = omega arith in
    let few : length (items_for plan (from + n)) ≡ 0 = unwritten plan (from + n) (none (from + n) (omega arith) (omega arith)) in
    let before = stays plan placed from n (λ x low high. none x low (omega (arith, high))) in
    let now : place_in plan (from + n + 1) ≡ place_in plan (from + n) + length (items_for plan (from + n)) = placed.next (from + n) in
    ap (place_in plan) here ∙ (let e : place_in plan (from + n + 1) ≡ place_in plan (from + n) = omega (arith, now, few) in e) ∙ before
  where
    unwritten : (plan : List InodePlan) (x : ℕ) → is_written plan x ≡ false → length (items_for plan x) ≡ 0
    unwritten plan x is = let least = ltb-false 0 (length (items_for plan x)) is in omega (arith, least)

-- between two of these slots, or below the first, no other is among them
between : (slots : List ℕ) (plan : List InodePlan) → AllPairs (λ (a b : ℕ). a < b) slots → IsPlanOf slots plan → (x : ℕ)
    → ((j : ℕ) → j < length (filter (is_written plan) slots) → slot_at (filter (is_written plan) slots) j ≢ x) → is_written plan x ≡ false
between slots plan rises is x apart = go (is_written plan x) refl where
  w : List ℕ
  w = filter (is_written plan) slots

  found : ((j : ℕ) × (y : ℕ) × (j < length w) × (slice_index_or w j y ≡ y) × ((y == x) ≡ true)) → ⊥
  found at = apart at.0 at.2 (sym (get_or_default_zero w at.0 at.1 at.2) ∙ at.3 ∙ eqb-true at.1 x at.4)

  go : (b : Bool) → is_written plan x ≡ b → b ≡ false
  go false q = refl
  go true q =
      let kept : has w x ≡ has slots x =
      any-filter_same (λ m. m == x) (is_written plan) true (λ m same. ap (is_written plan) (eqb-true m x same) ∙ q) slots in
      absurd (found (Any-from_list_any (λ m. m == x) w (kept ∙ is.within x q)))

-- the first of them has place 0
pub place_first : (slots : List ℕ) (plan : List InodePlan) → AllPairs (λ (a b : ℕ). a < b) slots → IsPlanOf slots plan
    → 0 < length (filter (is_written plan) slots) → place_in plan (slot_at (filter (is_written plan) slots) 0) ≡ 0
place_first slots plan rises is some =
    ap (place_in plan) (let e : slot_at w 0 ≡ 0 + slot_at w 0 = omega arith in e)
    ∙ stays plan is.placed 0 (slot_at w 0) (λ x low high. between slots plan rises is x
    (λ j lt same. below j lt x same (omega (arith, high))))
    ∙ is.placed.first
  where
    w : List ℕ
    w = filter (is_written plan) slots

    up : AllPairs (λ (a b : ℕ). a < b) w
    up = AllPairs-filter (λ (a b : ℕ). a < b) (is_written plan) slots rises

    below : (j : ℕ) → j < length w → (x : ℕ) → slot_at w j ≡ x → x < slot_at w 0 → ⊥
    below zero lt x same less = omega (arith, same, less)
    below (suc j) lt x same less = let more : slot_at w 0 < slot_at w (suc j) = up 0 (suc j) 0 (omega arith) lt in omega
        (arith, more, same, less)

-- and each further one the place behind the entries of the one before
pub place_next : (slots : List ℕ) (plan : List InodePlan) → AllPairs (λ (a b : ℕ). a < b) slots → IsPlanOf slots plan
    → (k : ℕ) → suc k < length (filter (is_written plan) slots)
    → place_in plan (slot_at (filter (is_written plan) slots) (suc k))
    ≡ place_in plan (slot_at (filter (is_written plan) slots) k) + length (items_for plan (slot_at (filter (is_written plan) slots) k))
place_next slots plan rises is k lt =
    let a = slot_at w k in
    let b = slot_at w (suc k) in
    let less : a < b = up k (suc k) 0 (omega arith) lt in
    let whole : b ≡ a + 1 + (b - (a + 1)) = omega (arith, less) in
    ap (place_in plan) whole
    ∙ stays plan is.placed (a + 1) (b - (a + 1))
    (λ x low high. between slots plan rises is x (λ j small same. apart j small x same (omega (arith, low)) (omega (arith, high, less))))
    ∙ is.placed.next a
  where
    w : List ℕ
    w = filter (is_written plan) slots

    up : AllPairs (λ (a b : ℕ). a < b) w
    up = AllPairs-filter (λ (a b : ℕ). a < b) (is_written plan) slots rises

    apart : (j : ℕ) → j < length w → (x : ℕ) → slot_at w j ≡ x → slot_at w k < x → x < slot_at w (suc k) → ⊥
    apart j small x same low high = go (nat_lt j k) (nat_lt (suc k) j) refl refl where
      go : (b1 b2 : Bool) → nat_lt j k ≡ b1 → nat_lt (suc k) j ≡ b2 → ⊥
      go true b2 q r =
          let more : slot_at w j < slot_at w k = up j k 0 (ltb-true j k q) (omega (arith, lt)) in omega (arith, more, same, low)
      go false true q r =
          let more : slot_at w (suc k) < slot_at w j = up (suc k) j 0 (ltb-true (suc k) j r) small in omega (arith, more, same, high)
      go false false q r = one (j == k) refl where
        one : (b : Bool) → (j == k) ≡ b → ⊥
        one true e = let here : slot_at w j ≡ slot_at w k = ap (slot_at w) (eqb-true j k e) in omega (arith, here, same, low)
        one false e =
            let ne : j ≢ k = eqb-false j k e in
            let past : j ≡ suc k = omega (arith, ltb-false j k q, ltb-false (suc k) j r, ne) in
            let here : slot_at w j ≡ slot_at w (suc k) = ap (slot_at w) past in
            omega (arith, here, same, high)

-- the slot of a plan is that of the written ones
written_at : (slots : List ℕ) (plan : List InodePlan) (from : ℕ) (plans : List CellCommitValue) → ArePlansOf slots plan from plans → (j : ℕ)
    → j < length plans → slot_at (filter (is_written plan) slots) j ≡ slot_at slots (plan_at plans j).at
written_at slots plan from plans are j lt =
    ap (λ (xs : List ℕ). slot_at xs j) are.written ∙ get_or-map (λ (p : CellCommitValue). slot_at slots p.at) plans j no_plan 0 lt

pub append_place : (slots : List ℕ) (old new : CommitValue) (chain : ChainState) (told : ShownCall) → AllPairs (λ (a b : ℕ). a < b) slots
    → new ≡ after_append chain old → old.appended < length old.plans → IsCommitOf slots old told → IsPlaceOf slots old told
    → IsPlanOf slots told.plan → IsPlaceOf slots new told
append_place slots old new chain told rises commit lt is placed plans =
    subst (λ (c : CommitValue). IsPlaceOf slots c told) (sym commit) (λ less. next (omega (arith, less, many)))
  where
    later : List CellCommitValue
    later = slice_set old.plans old.appended (record (to_append old) { items = [] })

    many : length later ≡ length old.plans
    many = length-set old.plans old.appended (record (to_append old) { items = [] })

    next : suc old.appended < length old.plans
        → old.place + length (to_append old).items ≡ place_in told.plan (slot_at slots (plan_at later (old.appended + 1)).at)
    next less =
        let a = old.appended in
        let w = filter (is_written told.plan) slots in
        let one : a + 1 ≡ suc a = omega arith in
        let here : slot_at w a ≡ slot_at slots (to_append old).at = written_at slots told.plan a old.plans is.plans a lt in
        let there : slot_at w (suc a) ≡ slot_at slots (plan_at old.plans (suc a)).at =
        written_at slots told.plan a old.plans is.plans (suc a) less in
        let size : length w ≡ length old.plans =
        ap (λ (xs : List ℕ). length xs) is.plans.written ∙ length-map old.plans (λ (p : CellCommitValue). slot_at slots p.at) in
        let same : plan_at later (suc a) ≡ plan_at old.plans (suc a) =
        get_or-set_other old.plans a (suc a) (record (to_append old) { items = [] }) no_plan (λ e. absurd (omega (arith, e))) in
        ap (λ (n : ℕ). n + length (to_append old).items) (placed lt)
        ∙ ap (λ (xs : List Item). place_in told.plan (slot_at slots (to_append old).at) + length xs) (is.plans.items a (omega arith) lt)
        ∙ ap (λ (x : ℕ). place_in told.plan x + length (items_for told.plan x)) (sym here)
        ∙ sym (place_next slots told.plan rises plans a (omega (arith, less, size)))
        ∙ ap (place_in told.plan) (there ∙ ap (λ (p : CellCommitValue). slot_at slots p.at) (sym same)
        ∙ ap (λ (n : ℕ). slot_at slots (plan_at later n).at) (sym one))

pub begin_place : (slots : List ℕ) (ready : ReadyValue) (stamp : Stamp) (told : ShownCall) → AllPairs (λ (a b : ℕ). a < b) slots
    → IsReadyOf slots ready told → IsPlanOf slots told.plan → IsPlaceOf slots (begun stamp ready) told
begin_place slots ready stamp told rises is plans some =
    let w = filter (is_written told.plan) slots in
    let size : length w ≡ length ready.plans =
    ap (λ (xs : List ℕ). length xs) is.written ∙ length-map ready.plans (λ (p : CellCommitValue). slot_at slots p.at) in
    sym (place_first slots told.plan rises plans (omega (arith, some, size)))
    ∙ ap (place_in told.plan) (written_at slots told.plan 0 ready.plans is 0 some)
