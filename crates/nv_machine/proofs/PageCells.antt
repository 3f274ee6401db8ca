-- Each entry of a chain stands on one of its pages, whatever a step does to the chain.
use Rattle.std.proofs.Common.{◌≡◌, ℕ, suc, ◌+◌, ◌*◌, ◌<◌, ◌≤◌, ◌++◌, ◌∙◌, Bool, true, false, List, [], ◌∷◌, ap, append_assoc, arith, if◌then◌else◌, length, refl, subst, sym, take}
use Rattle.std.specs.List.{AllByRecursion}
use Rattle.std.proofs.lemmas.Bool.{false≢true}
use Rattle.std.proofs.lemmas.List.{length-take-le, length_push}
use Rattle.nv_alloc.specs.Block.{BlockValue}
use Rattle.nv_base.specs.declared.limits.TheConstants.{LEAST_PAGE_ENTRIES, PAGE_ENTRIES}
use Rattle.nv_calls.specs.Retiring.{erased}
use Rattle.nv_cell.specs.Append.{appended, blocks_for}
use Rattle.nv_cell.specs.Cell.{CellState, IsCell, empty_cell, published}
use Rattle.nv_cell.proofs.ReadySteps.{adds_page}
use Rattle.nv_entry.specs.Log.{IsLog, MayFollow}
use Rattle.nv_entry.specs.declared.item.Entry.{Entry}
use Rattle.nv_log.proofs.Growth.{enough}
use Rattle.nv_log.specs.Chain.{AreEnds, ChainState, IsChain, appended as appended_chain, open_of, pages_for, room_of, start_of, with_page}
use Rattle.nv_log.proofs.Chains.{IsOpen, appends_entry, is_open, open_within}
use Rattle.nv_log.proofs.Parts.{AreEnds-push, AreEnds-take}
use Rattle.nv_calls.proofs.Next.{Keeps}
use Rattle.nv_machine.specs.Kinds.{with_entries, with_log_pages}
use Rattle.nv_machine.specs.Cleaning.{unlinked, compacted_cell}
use Rattle.nv_machine.specs.Pages.{AreOnPages, HasLogPages}
use Rattle.nv_machine.specs.World.{Compact, HandState, SnapshotOrCleaner, Next, Running, Shared, Unlink, cell_at}
use Rattle.nv_machine.proofs.CellChanges.{clean_cell, clean_slot, is_clean}
use Rattle.nv_cell.specs.Readers.{is_erased}
use Rattle.nv_machine.proofs.CleanSteps.{compact_chain, unlink_chain}

-- ---- a log at the front of another

front_follows : (e : Entry) (xs ys : List Entry) → AllByRecursion (MayFollow e) (xs ++ ys) → AllByRecursion (MayFollow e) xs
front_follows e [] ys all = tt
front_follows e (x ∷ xs) ys all = (all.0, front_follows e xs ys all.1)

front_log : (xs ys : List Entry) → IsLog (xs ++ ys) → IsLog xs
front_log [] ys log = tt
front_log (x ∷ xs) ys log = (front_follows x xs ys log.0, front_log xs ys log.1)

module _ (page : ℕ) (least : LEAST_PAGE_ENTRIES ≤ page) (most : page ≤ PAGE_ENTRIES) where
  -- what is known of chains beside it; it says nothing of tails
  is_chain : (chain : ChainState) → AreOnPages page chain → IsLog chain.entries → IsChain (record chain { tail = 0 })
  is_chain chain on log = record {
    least = omega (arith, least, on.size);
    most = omega (arith, most, on.size);
    paged = on.each;
    parted = subst (λ (n : ℕ). AreEnds n 0 chain.ends (length chain.entries)) (sym on.size) on.parted;
    rising = log;
    within = omega arith;
  }

  -- ---- more pages

  page_on : (block : BlockValue) (chain : ChainState) → AreOnPages page chain → AreOnPages page (with_page block chain)
  page_on block chain on = record {
    size = on.size;
    each = (let more = length_push chain.blocks block in omega (arith, more, on.each));
    parted = on.parted;
  }

  pages_on : (pages : List BlockValue) (cell : CellState) → AreOnPages page cell.chain → AreOnPages page (with_log_pages pages cell).chain
  pages_on [] cell on = on
  pages_on (b ∷ pages) cell on = pages_on pages (record cell { chain = with_page b cell.chain }) (page_on b cell.chain on)

  -- ---- one more entry, and several

  appended_on : (e : Entry) (chain : ChainState) → AreOnPages page chain → 0 < room_of chain → AreOnPages page (appended_chain e chain)
  appended_on e chain on room =
      let len = length chain.entries in
      let ends = subst (λ (n : ℕ). AreEnds n 0 chain.ends len) (sym on.size) on.parted in
      let opened : IsOpen chain.page chain.ends len (open_of chain) =
      is_open chain.page chain.ends len (omega (arith, least, on.size)) ends in
      let front = take (open_of chain) chain.ends in
      let more = length_push chain.entries e in
      record {
        size = on.size;
        each = omega (
          arith,
          length_push front (len + 1),
          length-take-le (open_of chain) chain.ends opened.at_most,
          open_within chain room,
        );
        parted = subst (λ (n : ℕ). AreEnds n 0 (front ++ (len + 1) ∷ []) (length (chain.entries ++ e ∷ []))) on.size
            (rw more (AreEnds-push chain.page 0 front (start_of chain (open_of chain)) (len + 1)
            (AreEnds-take chain.page 0 chain.ends len (open_of chain) ends opened.at_most)
            (omega (arith, opened.begins)) (omega (arith, opened.free, opened.begins))));
      }

  entries_on : (entries : List Entry) (bs : List BlockValue) (cell : CellState) → AreOnPages page cell.chain
      → IsLog (cell.chain.entries ++ entries) → length entries ≤ room_of cell.chain → AreOnPages page (with_entries entries bs cell).chain
  entries_on [] bs cell on log room = on
  entries_on (e ∷ entries) bs cell on log room =
      let chain = cell.chain in
      let some : 0 < room_of chain = omega (arith, room) in
      let falls : room_of (appended_chain e chain) + 1 ≡ room_of chain =
      (appends_entry (record chain { tail = 0 }) e (is_chain chain on (front_log chain.entries (e ∷ entries) log)) some).room_falls in
      entries_on entries _ (appended e (blocks_for e.item bs) cell) (appended_on e chain on some)
      (subst IsLog (sym (append_assoc chain.entries (e ∷ []) entries)) log) (omega (arith, room, falls))

  same_entries : (pages : List BlockValue) (cell : CellState) → (with_log_pages pages cell).chain.entries ≡ cell.chain.entries
  same_entries [] cell = refl
  same_entries (b ∷ pages) cell = same_entries pages (record cell { chain = with_page b cell.chain })

  -- ---- room on the pages that are there

  pages_room : (pages : List BlockValue) (cell : CellState) → AreOnPages page cell.chain → IsLog cell.chain.entries
      → room_of (with_log_pages pages cell).chain ≡ room_of cell.chain + length pages * page
  pages_room [] cell on log = omega arith
  pages_room (b ∷ pages) cell on log =
      let next : CellState = record cell { chain = with_page b cell.chain } in
      let more = pages_room pages next (page_on b cell.chain on) log in
      let rise : room_of (with_page b cell.chain) ≡ room_of cell.chain + cell.chain.page =
      (adds_page b (record cell.chain { tail = 0 }) (is_chain cell.chain on log)).room_rises in
      let step : suc (length pages) ≡ length pages + 1 = omega arith in
      let one : suc (length pages) * page ≡ length pages * page + page = ap (λ (n : ℕ). n * page) step ∙ omega arith in
      omega (arith, more, rise, one, on.size)

  -- as many pages as are needed make room
  pages_serve : (pages : List BlockValue) (n : ℕ) (cell : CellState) → AreOnPages page cell.chain → IsLog cell.chain.entries
      → pages_for cell.chain n ≡ length pages → n ≤ room_of (with_log_pages pages cell).chain
  pages_serve pages n cell on log e =
      let all = enough n cell.chain (omega (arith, least, on.size)) in
      let same : pages_for cell.chain n * cell.chain.page ≡ length pages * page =
      ap (λ (k : ℕ). k * cell.chain.page) e ∙ ap (λ (k : ℕ). length pages * k) on.size in
      let room = pages_room pages cell on log in
      omega (arith, all, same, room)

  pub append_on : (entries : List Entry) (bs pages : List BlockValue) (cell : CellState) → AreOnPages page cell.chain
      → IsLog (cell.chain.entries ++ entries) → pages_for cell.chain (length entries) ≡ length pages
      → AreOnPages page (with_entries entries bs (with_log_pages pages cell)).chain
  append_on entries bs pages cell on log e =
      entries_on entries bs (with_log_pages pages cell) (pages_on pages cell on)
      (subst (λ (es : List Entry). IsLog (es ++ entries)) (sym (same_entries pages cell)) log)
      (pages_serve pages (length entries) cell on (front_log cell.chain.entries entries log) e)

-- ---- a publish and a removal

pub publish_on : (page : ℕ) (cell : CellState) → AreOnPages page cell.chain → AreOnPages page (published cell).chain
publish_on page cell on = record { size = on.size; each = on.each; parted = on.parted }

erased_on : (page : ℕ) (cell : CellState) → AreOnPages page cell.chain → AreOnPages page (erased cell).chain
erased_on page cell on = go (is_erased cell) where
  go : (b : Bool) → AreOnPages page (if b then empty_cell cell.block cell.chain.page (cell.generation + 1) cell.version else cell).chain
  go true = record { size = on.size; each = omega arith; parted = refl }
  go false = on

-- what gives up parts alone keeps its log
pub remove_on : (page : ℕ) (old new : CellState) → Keeps old new → AreOnPages page old.chain → AreOnPages page (erased new).chain
remove_on page old new kept on = erased_on page new (subst (AreOnPages page) (sym kept.chain) on)

-- ---- a cleaning

chain_on : (page : ℕ) (chain : ChainState) → chain.page ≡ page → IsChain chain → AreOnPages page chain
chain_on page chain same is = record {
  size = same;
  each = is.paged;
  parted = subst (λ (n : ℕ). AreEnds n 0 chain.ends (length chain.entries)) same is.parted;
}

pub clean_on : (page : ℕ) (k : Next) (block : ℕ) (s : Shared) (h : HandState) (r : Running) → is_clean k ≡ true
    → AreOnPages page (cell_at s (clean_slot k)).chain → HasLogPages k block s h r → IsCell (cell_at s (clean_slot k))
    → AreOnPages page (clean_cell k s h).chain
clean_on page (SnapshotOrCleaner (Unlink ino)) block s h r is on has_them cell =
    chain_on page (unlinked (cell_at s ino)).chain on.size (unlink_chain (cell_at s ino) cell)
clean_on page (SnapshotOrCleaner (Compact ino)) block s h r is on has_them cell =
    chain_on page (compacted_cell h (cell_at s ino)).chain on.size (compact_chain (cell_at s ino) cell h has_them)
clean_on page other block s h r is on has_them cell = absurd (false≢true is)
