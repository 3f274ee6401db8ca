-- The pages of a chain that gets more pages, and then several entries behind its last, are those
-- that the world with numbers says.
use Rattle.std.proofs.Common.{◌≡◌, ℕ, suc, ◌+◌, ◌*◌, ◌<◌, ◌≤◌, ◌++◌, ◌∙◌, List, [], ◌∷◌, ap, append-nil, append_assoc, arith, length, refl, subst, sym}
use Rattle.std.specs.List.{AllByRecursion}
use Rattle.std.proofs.lemmas.List.{length_push}
use Rattle.nv_alloc.specs.Block.{BlockValue, number_of, numbers_of}
use Rattle.nv_base.specs.declared.limits.TheConstants.{LEAST_PAGE_ENTRIES, PAGE_ENTRIES}
use Rattle.nv_cell.specs.Append.{appended, blocks_for}
use Rattle.nv_cell.specs.Cell.{CellState}
use Rattle.nv_entry.specs.Log.{IsLog, MayFollow}
use Rattle.nv_entry.specs.declared.item.Entry.{Entry}
use Rattle.nv_log.proofs.Chains.{appends_entry, room-page}
use Rattle.nv_log.proofs.Growth.{enough, none_more}
use Rattle.nv_log.specs.Chain.{AreEnds, ChainState, IsChain, appended as appended_chain, pages_for, pages_of, room_of, with_page}
use Rattle.nv_log.proofs.Parts.{length-parts}
use Rattle.nv_machine.specs.Kinds.{with_entries, with_log_pages}
use Rattle.nv_machine.specs.Pages.{AreOnPages}
use Rattle.nv_machine.proofs.PageCells.{append_on}
use Rattle.nv_serial.specs.LogPages.{Page, fresh, with_all, with_entry}
use Rattle.nv_serial.specs.Shown.{pages_told, slot_told}
use Rattle.nv_serial.proofs.Pages.{told_appended}

-- the pages of a chain
abbrev pub shown : ChainState → List Page
shown chain = pages_told chain.blocks (pages_of chain)

-- ---- more pages

told_fresh : (blocks : List BlockValue) → pages_told blocks [] ≡ fresh (numbers_of blocks)
told_fresh [] = refl
told_fresh (b ∷ blocks) = ap (λ (l : List Page). record { number = number_of b; entries = [] } ∷ l)
    (told_fresh blocks)

told_behind : (blocks more : List BlockValue) (parts : List (List Entry)) → length parts
    ≤ length blocks
    → pages_told (blocks ++ more) parts ≡ pages_told blocks parts ++ fresh (numbers_of more)
told_behind [] more [] le = told_fresh more
told_behind [] more (part ∷ parts) le = absurd (omega (arith, le))
told_behind (b ∷ blocks) more [] le =
    ap (λ (l : List Page). record { number = number_of b; entries = [] } ∷ l)
    (told_behind blocks more [] (omega arith))
told_behind (b ∷ blocks) more (part ∷ parts) le =
    ap (λ (l : List Page). record { number = number_of b; entries = part } ∷ l)
    (told_behind blocks more parts (omega (arith, le)))

paged_blocks : (pages : List BlockValue) (cell : CellState) → (with_log_pages pages cell).chain.blocks
    ≡ cell.chain.blocks ++ pages
paged_blocks [] cell = sym (append-nil cell.chain.blocks)
paged_blocks (b ∷ pages) cell =
    paged_blocks pages (record cell { chain = with_page b cell.chain })
    ∙ append_assoc cell.chain.blocks (b ∷ []) pages

paged_parts : (pages : List BlockValue) (cell : CellState) → pages_of (with_log_pages pages cell).chain
    ≡ pages_of cell.chain
paged_parts [] cell = refl
paged_parts (b ∷ pages) cell = paged_parts pages (record cell { chain = with_page b cell.chain })

paged_entries : (pages : List BlockValue) (cell : CellState) → (with_log_pages pages cell).chain.entries
    ≡ cell.chain.entries
paged_entries [] cell = refl
paged_entries (b ∷ pages) cell = paged_entries pages
    (record cell { chain = with_page b cell.chain })

paged_generation : (pages : List BlockValue) (cell : CellState) → (with_log_pages pages cell).generation
    ≡ cell.generation
paged_generation [] cell = refl
paged_generation (b ∷ pages) cell = paged_generation pages
    (record cell { chain = with_page b cell.chain })

-- FRESH PAGES stand behind those that are there
pub shown_paged : (pages : List BlockValue) (cell : CellState) → length cell.chain.ends
    ≤ length cell.chain.blocks
    → shown (with_log_pages pages cell).chain ≡ shown cell.chain ++ fresh (numbers_of pages)
shown_paged pages cell paged =
    ap (λ (bs : List BlockValue). pages_told bs (pages_of (with_log_pages pages cell).chain))
    (paged_blocks pages cell)
    ∙ ap (pages_told (cell.chain.blocks ++ pages)) (paged_parts pages cell)
    ∙ told_behind cell.chain.blocks pages (pages_of cell.chain)
    (omega (arith, paged, length-parts 0 cell.chain.ends cell.chain.entries))

-- ---- several entries

front_follows : (e : Entry) (xs ys : List Entry) → AllByRecursion (MayFollow e) (xs ++ ys)
    → AllByRecursion (MayFollow e) xs
front_follows e [] ys all = tt
front_follows e (x ∷ xs) ys all = (all.0, front_follows e xs ys all.1)

front_log : (xs ys : List Entry) → IsLog (xs ++ ys) → IsLog xs
front_log [] ys log = tt
front_log (x ∷ xs) ys log = (front_follows x xs ys log.0, front_log xs ys log.1)

entries_generation : (entries : List Entry) (bs : List BlockValue) (cell : CellState)
    → (with_entries entries bs cell).generation ≡ cell.generation
entries_generation [] bs cell = refl
entries_generation (e ∷ entries) bs cell = entries_generation entries _
    (appended e (blocks_for e.item bs) cell)

module _ (page : ℕ) (least : LEAST_PAGE_ENTRIES ≤ page) (most : page ≤ PAGE_ENTRIES) where
  -- a chain, with no tail; it says nothing of tails
  pub chain_on : (chain : ChainState) → AreOnPages page chain → IsLog chain.entries
      → IsChain (record chain { tail = 0 })
  chain_on chain on log = record {
    least = omega (arith, least, on.size);
    most = omega (arith, most, on.size);
    paged = on.each;
    parted = subst (λ (n : ℕ). AreEnds n 0 chain.ends (length chain.entries)) (sym on.size)
        on.parted;
    rising = log;
    within = omega arith;
  }

  pages_on : (pages : List BlockValue) (cell : CellState) → AreOnPages page cell.chain
      → AreOnPages page (with_log_pages pages cell).chain
  pages_on [] cell on = on
  pages_on (b ∷ pages) cell on = pages_on pages (record cell { chain = with_page b cell.chain })
      (record {
        size = on.size;
        each = (let more = length_push cell.chain.blocks b in omega (arith, more, on.each));
        parted = on.parted;
      })

  pages_room : (pages : List BlockValue) (cell : CellState) → AreOnPages page cell.chain
      → IsLog cell.chain.entries
      → room_of (with_log_pages pages cell).chain ≡ room_of cell.chain + length pages * page
  pages_room [] cell on log = omega arith
  pages_room (b ∷ pages) cell on log =
      let next : CellState = record cell { chain = with_page b cell.chain } in
      let more = pages_room pages next (pages_on (b ∷ []) cell on) log in
      let rise : room_of (with_page b cell.chain) ≡ room_of cell.chain + cell.chain.page =
      room-page (record cell.chain { tail = 0 }) b (chain_on cell.chain on log) in
      let step : suc (length pages) ≡ length pages + 1 = omega arith in
      let one : suc (length pages) * page ≡ length pages * page + page = ap (λ (n : ℕ). n * page)
      step ∙ omega arith in
      omega (arith, more, rise, one, on.size)

  -- one entry more
  one_on : (e : Entry) (bs : List BlockValue) (cell : CellState) → AreOnPages page cell.chain
      → IsLog (cell.chain.entries ++ e ∷ [])
      → 0 < room_of cell.chain → AreOnPages page (appended_chain e cell.chain)
  one_on e bs cell on log room =
      append_on page least most (e ∷ []) bs [] cell on log
      (none_more cell.chain.page (length cell.chain.blocks) (room_of cell.chain) 1
      (omega (arith, room)))

  -- SEVERAL ENTRIES stand where the world with numbers puts them, one after another
  pub shown_entries : (entries : List Entry) (bs : List BlockValue) (cell : CellState)
      → AreOnPages page cell.chain
      → IsLog (cell.chain.entries ++ entries) → length entries ≤ room_of cell.chain
      → shown (with_entries entries bs cell).chain ≡ with_all page entries (shown cell.chain)
  shown_entries [] bs cell on log room = refl
  shown_entries (e ∷ entries) bs cell on log room =
      let chain = cell.chain in
      let some : 0 < room_of chain = omega (arith, room) in
      let is = chain_on chain on (front_log chain.entries (e ∷ entries) log) in
      let falls : room_of (appended_chain e chain) + 1 ≡ room_of chain =
      (appends_entry (record chain { tail = 0 }) e is some).room_falls in
      let rest : IsLog ((chain.entries ++ e ∷ []) ++ entries) = subst IsLog
      (sym (append_assoc chain.entries (e ∷ []) entries)) log in
      shown_entries entries _ (appended e (blocks_for e.item bs) cell)
      (one_on e bs cell on (front_log (chain.entries ++ e ∷ []) entries rest) some) rest
      (omega (arith, room, falls))
      ∙ ap (with_all page entries)
      (told_appended (record chain { tail = 0 }) e is some
      ∙ ap (λ (n : ℕ). with_entry n e (shown chain)) on.size)

  -- THE SLOT OF AN APPEND: with the pages that its entries need, and the entries
  pub told_all : (entries : List Entry) (bs pages : List BlockValue) (cell : CellState)
      → AreOnPages page cell.chain
      → IsLog (cell.chain.entries ++ entries) → pages_for cell.chain (length entries) ≡ length pages
      → slot_told (with_entries entries bs (with_log_pages pages cell))
      ≡ record (slot_told cell)
      { pages = with_all page entries ((slot_told cell).pages ++ fresh (numbers_of pages)) }
  told_all entries bs pages cell on log needed =
      let chain = cell.chain in
      let whole = enough (length entries) chain (omega (arith, least, on.size)) in
      let same : pages_for chain (length entries) * chain.page ≡ length pages * page =
      ap (λ (k : ℕ). k * chain.page) needed ∙ ap (λ (k : ℕ). length pages * k) on.size in
      let room = pages_room pages cell on (front_log chain.entries entries log) in
      let log_then : IsLog ((with_log_pages pages cell).chain.entries ++ entries) =
      subst (λ (es : List Entry). IsLog (es ++ entries)) (sym (paged_entries pages cell)) log in
      let stays = entries_generation entries bs (with_log_pages pages cell)
      ∙ paged_generation pages cell in
      let stand =
      shown_entries entries bs (with_log_pages pages cell) (pages_on pages cell on) log_then
      (omega (arith, whole, same, room))
      ∙ ap (with_all page entries) (shown_paged pages cell on.each) in
      λ i. record { generation = stays i; pages = stand i }
