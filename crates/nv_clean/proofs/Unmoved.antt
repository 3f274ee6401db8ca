-- Where no log page goes, a fast cleaning leaves the cell and the queue as they were.
use Rattle.std.proofs.Common.{◌≡◌, ℕ, zero, suc, ◌+◌, ◌-◌, ◌≤◌, ◌∙◌, Bool, true, false, not, Option, List, [], ◌∷◌, ◌++◌, ap, arith, count_by, drop, length, refl, replicate, take}
use Rattle.std.specs.List.{AllByRecursion}
use Rattle.std.proofs.lemmas.Bool.{false≢true}
use Rattle.std.proofs.lemmas.List.{append-nil, length-drop, length-take-le}
use Rattle.nv_alloc.specs.Block.{BlockValue}
use Rattle.nv_alloc.specs.Queue.{QueueValue}
use Rattle.nv_cell.specs.Cell.{CellRoom, CellState, IsCell, log_of}
use Rattle.nv_cell.specs.Removal.{log_flags, part_flags, run_flags}
use Rattle.nv_cell.specs.declared.mark.Mark.{Mark}
use Rattle.nv_cell.proofs.RunFlags.{all_append}
use Rattle.nv_cell.proofs.Runs.{count_cons}
use Rattle.nv_clean.specs.Cleaned.{room_with_pages, with_pages_unlinked}
use Rattle.nv_clean.specs.Plans.{UnlinkableValue}
use Rattle.nv_entry.specs.Covered.{part_count}
use Rattle.nv_entry.specs.declared.item.Entry.{Entry}
use Rattle.nv_log.specs.Chain.{AreEnds, ChainState, IsChain, ends_from, gone_of, joined, left_of, log, log_pages, pages_of, parts_from, with_pages_left}
use Rattle.nv_log.proofs.Chains.{joined-log_pages}
use Rattle.nv_log.proofs.Parts.{from_le_len, joined-parts}

-- each flag is set
abbrev pub AllSet : List Bool → Type 0
AllSet flags = AllByRecursion (λ b. b ≡ true) flags

pub none_goes : (flags : List Bool) → count_by not flags ≡ 0 → AllSet flags
none_goes [] none = tt
none_goes (true ∷ flags) none = (refl, none_goes flags (omega (arith, none, count_cons not true flags)))
none_goes (false ∷ flags) none = absurd (omega (arith, none, count_cons not false flags))

left_whole : {X : Type 0} (flags : List Bool) (xs : List X) → AllSet flags → left_of flags xs ≡ xs
left_whole [] xs set = refl
left_whole (b ∷ flags) [] set = refl
left_whole (true ∷ flags) (x ∷ xs) set = ap (λ (l : List _). x ∷ l) (left_whole flags xs set.1)
left_whole (false ∷ flags) (x ∷ xs) set = absurd (false≢true set.0)

none_gone : {X : Type 0} (flags : List Bool) (xs : List X) → AllSet flags → gone_of flags xs ≡ []
none_gone [] xs set = refl
none_gone (b ∷ flags) [] set = refl
none_gone (true ∷ flags) (x ∷ xs) set = none_gone flags xs set.1
none_gone (false ∷ flags) (x ∷ xs) set = absurd (false≢true set.0)

-- ---- the flags of entries and parts

all_set : (n : ℕ) → AllSet (replicate n true)
all_set zero = tt
all_set (suc n) = (refl, all_set n)

runs_set : (start : ℕ) (flags : List Bool) (ends : List ℕ) → AllSet flags → AllSet (run_flags start flags ends)
runs_set start [] ends set = tt
runs_set start (b ∷ flags) [] set = tt
runs_set start (true ∷ flags) (end ∷ ends) set =
    all_append (λ b. b ≡ true) (replicate (end - start) true) (run_flags end flags ends) (all_set (end - start)) (runs_set end flags ends set.1)
runs_set start (false ∷ flags) (end ∷ ends) set = absurd (false≢true set.0)

front_set : (n : ℕ) (flags : List Bool) → AllSet flags → AllSet (take n flags)
front_set zero flags set = tt
front_set (suc n) [] set = tt
front_set (suc n) (b ∷ flags) set = (set.0, front_set n flags set.1)

parts_set : (flags : List Bool) (log : List Entry) → AllSet flags → AllSet (part_flags flags log)
parts_set [] log set = tt
parts_set (b ∷ flags) [] set = tt
parts_set (true ∷ flags) (e ∷ log) set =
    all_append (λ b. b ≡ true) (replicate (part_count e) true) (part_flags flags log) (all_set (part_count e)) (parts_set flags log set.1)
parts_set (false ∷ flags) (e ∷ log) set = absurd (false≢true set.0)

-- ---- the chain

ends_same : (most from : ℕ) (ends : List ℕ) (len : ℕ) (es : List Entry) → AreEnds most from ends len → from + length es ≡ len
    → ends_from from (parts_from from ends es) ≡ ends
ends_same most from [] len es are size = refl
ends_same most from (end ∷ ends) len es are size =
    let n = end - from in
    let fits : n ≤ length es = omega (arith, size, from_le_len most end ends len are.2) in
    let at : from + length (take n es) ≡ end = omega (arith, are.0, length-take-le n es fits) in
    rw at (ap (λ (l : List ℕ). end ∷ l)
    (ends_same most end ends len (drop n es) are.2 (omega (arith, size, are.0, fits, length-drop n es))))

chain_same : (stays : List Bool) (chain : ChainState) → IsChain chain → AllSet stays → with_pages_left stays chain ≡ chain
chain_same stays chain is set =
    let es = chain.entries in
    let build : List (List Entry) → List (List Entry) → List BlockValue → ChainState = λ pages logs blocks. record chain {
      blocks = blocks;
      ends = ends_from 0 pages;
      entries = joined pages;
      tail = length (joined logs);
    } in
    ap (λ (pages : List (List Entry)). build pages (left_of stays (log_pages chain)) (left_of stays chain.blocks)) (left_whole stays (pages_of chain) set)
    ∙ ap (λ (logs : List (List Entry)). build (pages_of chain) logs (left_of stays chain.blocks)) (left_whole stays (log_pages chain) set)
    ∙ ap (λ (blocks : List BlockValue). build (pages_of chain) (log_pages chain) blocks) (left_whole stays chain.blocks set)
    ∙ ap (λ (ends : List ℕ). record chain { ends = ends; entries = joined (pages_of chain); tail = length (joined (log_pages chain)) })
    (ends_same chain.page 0 chain.ends (length es) es is.parted (omega arith))
    ∙ ap (λ (l : List Entry). record chain { entries = l; tail = length (joined (log_pages chain)) })
    (joined-parts chain.page 0 chain.ends (length es) es is.parted (omega arith))
    ∙ ap (λ (n : ℕ). record chain { tail = n })
    (ap (λ (l : List Entry). length l) (joined-log_pages chain is) ∙ length-take-le chain.tail es is.within)

-- ---- the cell, its room and the queue

pub cell_same : (unlinkable : UnlinkableValue) (cell : CellState) → IsCell cell → AllSet unlinkable.stays
    → with_pages_unlinked unlinkable cell ≡ cell
cell_same unlinkable cell is set =
    let flags = part_flags (log_flags unlinkable.stays cell.chain) (log_of cell) in
    let each : AllSet flags =
    parts_set (log_flags unlinkable.stays cell.chain) (log_of cell)
    (front_set cell.chain.tail (run_flags 0 unlinkable.stays cell.chain.ends) (runs_set 0 unlinkable.stays cell.chain.ends set)) in
    ap (λ (chain : ChainState). record cell { chain = chain; marks = left_of flags cell.marks; blocks = left_of flags cell.blocks })
    (chain_same unlinkable.stays cell.chain is.chain set)
    ∙ ap (λ (marks : List Mark). record cell { marks = marks; blocks = left_of flags cell.blocks }) (left_whole flags cell.marks each)
    ∙ ap (λ (blocks : List (Option BlockValue)). record cell { blocks = blocks }) (left_whole flags cell.blocks each)

pub room_same : (unlinkable : UnlinkableValue) (cell : CellState) (room : CellRoom) → AllSet unlinkable.stays
    → room_with_pages unlinkable cell room ≡ room
room_same unlinkable cell room set =
    ap (λ (gone : List BlockValue). record room { pages = room.pages + length gone }) (none_gone unlinkable.stays cell.chain.blocks set)
    ∙ ap (λ (n : ℕ). record room { pages = n }) (omega arith)

pub queue_same : (stays : List Bool) (pages : List BlockValue) (queue : QueueValue) → AllSet stays
    → (let gone = gone_of stays pages in record queue { blocks = queue.blocks ++ gone; room = queue.room - length gone }) ≡ queue
queue_same stays pages queue set =
    ap (λ (gone : List BlockValue). record queue { blocks = queue.blocks ++ gone; room = queue.room - length gone }) (none_gone stays pages set)
    ∙ ap (λ (blocks : List BlockValue). record queue { blocks = blocks; room = queue.room - 0 }) (append-nil queue.blocks)
    ∙ ap (λ (n : ℕ). record queue { room = n }) (omega arith)
