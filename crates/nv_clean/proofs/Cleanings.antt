-- What the cleanings of a cell leave.
use Rattle.std.proofs.Common.{◌≡◌, ℕ, suc, ◌+◌, ◌-◌, ◌≤◌, ◌∙◌, ◌++◌, ◌==◌, Bool, true, false, if◌then◌else◌, List, [], ◌∷◌, Some, ap, arith, count_by, drop, length, length-append, map, not, refl, slice_get, subst, sym, take_all}
use Rattle.std.specs.List.{AllByRecursion}
use Rattle.std.proofs.lemmas.List.{length-take-le}
use Rattle.nv_alloc.specs.Block.{BlockValue}
use Rattle.nv_cell.specs.Cell.{CellState, IsCell, log_of}
use Rattle.nv_cell.specs.Readers.{there_flags}
use Rattle.nv_cell.specs.Removal.{ArePublished, KeepsTheLast, MayGo, left_in, log_flags}
use Rattle.nv_cell.specs.Retained.{AreMarksOf, retention_by_marks}
use Rattle.nv_cell.proofs.CleanWalks.{flags_are}
use Rattle.nv_cell.proofs.Droppable.{entries_may_go, pages_are_published, pages_may_go}
use Rattle.nv_clean.specs.Cleaned.{KeepsValues, NodesStay, SpansAreThere, with_entries}
use Rattle.nv_clean.specs.Plans.{WantedValue, entries_staying, pages_staying, unlinkable_of, wanted_of}
use Rattle.nv_cell.proofs.MarksKeep.{are_marks}
use Rattle.nv_cell.proofs.Runs.{count_cons}
use Rattle.nv_cell.proofs.ValuesNow.{IsLog-take}
use Rattle.nv_entry.specs.ByFlags.{goes_by, kept_flags, page_goes_by, pages_stay_by, stays_by}
use Rattle.nv_entry.specs.Clean.{entries_of, entries_stay, pages_stay, select}
use Rattle.nv_entry.specs.Held.{Retention, holds, keeps}
use Rattle.nv_entry.specs.Laws.{GoIfDroppable, GoIfPageDroppable, KeepsReads, NoneDroppable, SpansAreKept}
use Rattle.nv_entry.specs.Log.{IsLog, pairs}
use Rattle.nv_entry.specs.Node.{node_at, node_now}
use Rattle.nv_entry.specs.declared.held.Pair.{Pair}
use Rattle.nv_entry.specs.declared.item.Entry.{Entry}
use Rattle.nv_entry.proofs.ByFlags.{entries_by_flags, pages_by_flags}
use Rattle.nv_entry.proofs.Walks.{fast, thorough}
use Rattle.nv_log.specs.Chain.{ChainState, IsChain, compacted, gone_of, left_of, log, log_pages, parts_from, with_entries_left, with_pages_left}
use Rattle.nv_log.proofs.Chains.{has_pages_left, joined-log_pages}
use Rattle.nv_log.proofs.Flags.{left_of-select, length-left_of}
use Rattle.nv_log.proofs.Parts.{length-parts}

-- ---- how many flags there are

pub entry_count : (block : ℕ) (flags : List Bool) (kept log : List Entry) → length (stays_by block flags kept log) ≡ length log
entry_count block [] kept log = all log where
  all : (log : List Entry) → length (map (λ (e : Entry). true) log) ≡ length log
  all [] = refl
  all (e ∷ log) = ap suc (all log)
entry_count block (flag ∷ flags) kept [] = refl
entry_count block (flag ∷ flags) kept (e ∷ later) =
    go (goes_by block flag kept e later) (entry_count block flags kept later) (entry_count block flags (kept ++ e ∷ []) later) where
      go : (b : Bool) → length (stays_by block flags kept later) ≡ length later
          → length (stays_by block flags (kept ++ e ∷ []) later) ≡ length later
          → length (if b then false ∷ stays_by block flags kept later else true ∷ stays_by block flags (kept ++ e ∷ []) later)
          ≡ suc (length later)
      go true p q = ap suc p
      go false p q = ap suc q

pub page_count : (block : ℕ) (flags : List Bool) (kept : List Entry) (pages : List (List Entry))
    → length (pages_stay_by block flags kept pages) ≡ length pages
page_count block flags kept [] = refl
page_count block flags kept (page ∷ pages) =
    go (page_goes_by block flags kept page (entries_of pages)) (page_count block (drop (length page) flags) kept pages)
    (page_count block (drop (length page) flags) (kept ++ page) pages) where
      go : (b : Bool) → length (pages_stay_by block (drop (length page) flags) kept pages) ≡ length pages
          → length (pages_stay_by block (drop (length page) flags) (kept ++ page) pages) ≡ length pages
          → length (if b then false ∷ pages_stay_by block (drop (length page) flags) kept pages
          else true ∷ pages_stay_by block (drop (length page) flags) (kept ++ page) pages)
          ≡ suc (length pages)
      go true p q = ap suc p
      go false p q = ap suc q

-- ---- where nothing goes

few : {X : Type 0} (flags : List Bool) (xs : List X) → length (select flags xs) ≤ length xs
few [] xs = omega arith
few (b ∷ flags) [] = omega arith
few (true ∷ flags) (x ∷ xs) = omega (arith, few flags xs)
few (false ∷ flags) (x ∷ xs) = omega (arith, few flags xs)

pub all_stay : {X : Type 0} (flags : List Bool) (xs : List X) → length flags ≡ length xs → length xs ≤ length (select flags xs)
    → select flags xs ≡ xs
all_stay [] [] len le = refl
all_stay [] (x ∷ xs) len le = absurd (omega (arith, len))
all_stay (b ∷ flags) [] len le = refl
all_stay (true ∷ flags) (x ∷ xs) len le = ap (λ (l : List _). x ∷ l) (all_stay flags xs (omega (arith, len)) (omega (arith, le)))
all_stay (false ∷ flags) (x ∷ xs) len le = absurd (omega (arith, le, few flags xs))

-- ---- what a retention says of the walks

is_log : (cell : CellState) → IsCell cell → IsLog (log_of cell)
is_log cell is = IsLog-take cell.chain.tail cell.chain.entries is.chain.rising

module _ (cell : CellState) (is : IsCell cell) (r : Retention) (are : AreMarksOf r cell) where
  pub entries_are : entries_staying cell ≡ entries_stay r [] (log_of cell)
  entries_are =
      ap (λ (block : ℕ). stays_by block (there_flags cell) [] (log_of cell)) (sym are.block)
      ∙ ap (λ (flags : List Bool). stays_by r.block flags [] (log_of cell)) (flags_are r cell is are)
      ∙ entries_by_flags r [] (log_of cell)

  all_pages : entries_of (log_pages cell.chain) ≡ log_of cell
  all_pages = joined-log_pages cell.chain is.chain

  pub pages_are : pages_staying cell ≡ pages_stay r [] (log_pages cell.chain)
  pages_are =
      ap (λ (block : ℕ). pages_stay_by block (there_flags cell) [] (log_pages cell.chain)) (sym are.block)
      ∙ ap (λ (flags : List Bool). pages_stay_by r.block flags [] (log_pages cell.chain))
      (flags_are r cell is are ∙ ap (kept_flags r) (sym all_pages))
      ∙ pages_by_flags r [] (log_pages cell.chain)

  pub entries_go : GoIfDroppable r [] (log_of cell) (entries_staying cell)
  entries_go = subst (GoIfDroppable r [] (log_of cell)) (sym entries_are) (thorough r (log_of cell) (is_log cell is)).goes

  pages_log : IsLog (entries_of (log_pages cell.chain))
  pages_log = subst IsLog (sym all_pages) (is_log cell is)

  pub pages_go : GoIfPageDroppable r [] (log_pages cell.chain) (pages_staying cell)
  pages_go = subst (GoIfPageDroppable r [] (log_pages cell.chain)) (sym pages_are) (fast r (log_pages cell.chain) pages_log).goes

  pub entries_keep : KeepsReads r (log_of cell) (select (entries_staying cell) (log_of cell))
  entries_keep =
      subst (λ (flags : List Bool). KeepsReads r (log_of cell) (select flags (log_of cell))) (sym entries_are)
      (thorough r (log_of cell) (is_log cell is)).keeps

  pub none_left : NoneDroppable r [] (select (entries_staying cell) (log_of cell))
  none_left =
      subst (λ (flags : List Bool). NoneDroppable r [] (select flags (log_of cell))) (sym entries_are)
      (thorough r (log_of cell) (is_log cell is)).none_left

  pub pages_keep : KeepsReads r (log_of cell) (entries_of (select (pages_staying cell) (log_pages cell.chain)))
  pages_keep =
      subst (λ (l : List Entry). KeepsReads r l (entries_of (select (pages_staying cell) (log_pages cell.chain)))) all_pages
      (subst (λ (flags : List Bool). KeepsReads r (entries_of (log_pages cell.chain)) (entries_of (select flags (log_pages cell.chain))))
      (sym pages_are)
      (fast r (log_pages cell.chain) pages_log).keeps)

-- ---- what may go

pub entries_may : (cell : CellState) → IsCell cell → MayGo (entries_staying cell) cell
entries_may cell is =
    entries_may_go (retention_by_marks cell) cell (entries_staying cell) is (are_marks cell is) (entries_go cell is (retention_by_marks cell) (are_marks cell is))

pub pages_may : (cell : CellState) → IsCell cell → MayGo (log_flags (pages_staying cell) cell.chain) cell
pages_may cell is =
    pages_may_go (retention_by_marks cell) cell (pages_staying cell) is (are_marks cell is) (pages_go cell is (retention_by_marks cell) (are_marks cell is))

pub pages_published : (cell : CellState) → IsCell cell → ArePublished (pages_staying cell) cell.chain
pages_published cell is =
    pages_are_published (retention_by_marks cell) cell.chain (pages_staying cell) is.chain (pages_go cell is (retention_by_marks cell) (are_marks cell is))

pub entries_flagged : (cell : CellState) → IsCell cell → length (entries_staying cell) ≡ cell.chain.tail
entries_flagged cell is =
    entry_count cell.block (there_flags cell) [] (log_of cell) ∙ length-take-le cell.chain.tail cell.chain.entries is.chain.within

pub pages_flagged : (cell : CellState) → length (pages_staying cell) ≡ length cell.chain.ends
pages_flagged cell =
    page_count cell.block (there_flags cell) [] (log_pages cell.chain) ∙ length-parts 0 cell.chain.ends (log_of cell)

-- the log without the pages that go
pub log_without : (stays : List Bool) (chain : ChainState) → IsChain chain → length stays ≡ length chain.ends
    → log (with_pages_left stays chain) ≡ entries_of (select stays (log_pages chain))
log_without stays chain is len =
    (has_pages_left stays chain (with_entries_left stays chain) (left_of stays chain.blocks) is refl refl).keeps.log_is
    ∙ ap entries_of (left_of-select stays (log_pages chain) (len ∙ sym (length-parts 0 chain.ends (log chain))))

-- ---- what is read

spans : (cell : CellState) → IsCell cell → (epoch : ℕ) → SpansAreThere epoch cell → SpansAreKept (retention_by_marks cell) epoch (log_of cell)
spans cell is epoch there =
    go (pairs cell.block (log_of cell)) (λ n pair got held. sym ((are_marks cell is).there n pair got) ∙ there n pair got held) where
      go : (ps : List Pair)
          → ((n : ℕ) (pair : Pair) → slice_get ps n ≡ Some pair → holds epoch pair ≡ true → keeps (retention_by_marks cell) pair ≡ true)
          → AllByRecursion (λ pair. holds epoch pair ≡ true → keeps (retention_by_marks cell) pair ≡ true) ps
      go [] h = tt
      go (p ∷ ps) h = (h 0 p refl, go ps (λ n. h (suc n)))

pub nodes_stay : (cell new : CellState) → IsCell cell → new.block ≡ cell.block → KeepsValues cell new → NodesStay cell new
nodes_stay cell new is size values =
    let reads = values (retention_by_marks cell) (are_marks cell is) in
    record {
      now = λ bytes. ap (λ (block : ℕ). node_now bytes block (log_of new)) size ∙ reads.now.node bytes;
      at = λ epoch there bytes.
          ap (λ (block : ℕ). node_at bytes block epoch (log_of new)) size
          ∙ (reads.kept epoch (spans cell is epoch there)).node bytes;
    }

pub same_last : (cell : CellState) → KeepsTheLast cell cell
same_last cell = record { entry = refl; stat = refl; gone = refl }

pub same_size : (wanted : WantedValue) (pages : List BlockValue) (cell : CellState) → (with_entries wanted pages cell).block ≡ cell.block
same_size wanted pages cell = go (wanted.dropped == 0) where
  go : (b : Bool) → (if b then cell else left_in wanted.stays (compacted wanted.stays pages cell.chain) cell).block ≡ cell.block
  go true = refl
  go false = refl

-- where no entry goes the log is as it was
pub none_dropped : (cell : CellState) → IsCell cell → cell.chain.tail ≡ length cell.chain.entries → (wanted_of cell).dropped ≡ 0
    → select (entries_staying cell) (log_of cell) ≡ log_of cell
none_dropped cell is published none =
    let whole : log_of cell ≡ cell.chain.entries = take_all cell.chain.tail cell.chain.entries (omega (arith, published)) in
    let flags : length (entries_staying cell) ≡ length cell.chain.entries = entries_flagged cell is ∙ published in
    let left : length (left_of (entries_staying cell) cell.chain.entries) ≡ length (select (entries_staying cell) cell.chain.entries) =
    ap (λ (l : List Entry). length l) (left_of-select (entries_staying cell) cell.chain.entries flags) in
    ap (select (entries_staying cell)) whole
    ∙ all_stay (entries_staying cell) cell.chain.entries flags (omega (arith, none, left))
    ∙ sym whole

-- ---- how much goes with pages

parted : (stays : List Bool) (pages : List (List Entry))
    → length (entries_of (left_of stays pages)) + length (entries_of (gone_of stays pages)) ≡ length (entries_of pages)
parted [] pages = omega arith
parted (b ∷ stays) [] = refl
parted (true ∷ stays) (page ∷ pages) =
    omega (arith, parted stays pages, length-append page (entries_of (left_of stays pages)), length-append page (entries_of pages))
parted (false ∷ stays) (page ∷ pages) =
    omega (arith, parted stays pages, length-append page (entries_of (gone_of stays pages)), length-append page (entries_of pages))

flags_count : {X : Type 0} (stays : List Bool) (xs : List X) → length stays ≤ length xs → length (gone_of stays xs) ≡ count_by not stays
flags_count [] xs le = refl
flags_count (b ∷ stays) [] le = absurd (omega (arith, le))
flags_count (true ∷ stays) (x ∷ xs) le = omega (arith, flags_count stays xs (omega (arith, le)), count_cons not true stays)
flags_count (false ∷ stays) (x ∷ xs) le = omega (arith, flags_count stays xs (omega (arith, le)), count_cons not false stays)

module _ (cell : CellState) (is : IsCell cell) where
  -- the entries that the log loses are those of the pages that go
  pub entries_lost : cell.chain.tail ≡ length cell.chain.entries
      → length cell.chain.entries - length (with_pages_left (pages_staying cell) cell.chain).entries ≡ (unlinkable_of cell).entries
  entries_lost published =
      let stays = pages_staying cell in
      let whole : log_of cell ≡ cell.chain.entries = take_all cell.chain.tail cell.chain.entries (omega (arith, published)) in
      let left : length (entries_of (left_of stays (log_pages cell.chain))) ≡ length (with_pages_left stays cell.chain).entries =
      ap (λ (es : List Entry). length (entries_of (left_of stays (parts_from 0 cell.chain.ends es)))) whole in
      let all : length (entries_of (log_pages cell.chain)) ≡ length cell.chain.entries =
      ap (λ (es : List Entry). length es) (joined-log_pages cell.chain is.chain ∙ whole) in
      omega (arith, left, all, parted stays (log_pages cell.chain))

  -- and so are the pages
  pub pages_lost : length cell.chain.blocks - length (with_pages_left (pages_staying cell) cell.chain).blocks ≡ (unlinkable_of cell).pages
  pages_lost =
      let stays = pages_staying cell in
      omega (
        arith,
        length-left_of stays cell.chain.blocks,
        flags_count stays cell.chain.blocks (omega (arith, is.chain.paged, pages_flagged cell)),
      )
