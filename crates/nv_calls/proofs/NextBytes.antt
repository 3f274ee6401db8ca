-- The cells of a commit have blocks with the bytes that a function gives, where those before had,
-- and those of its hand.
use Rattle.std.proofs.Common.{◌≡◌, ℕ, zero, suc, ◌<◌, List, [], ◌∷◌, ◌++◌, Option, Some, None, length, map, take, drop, replicate, refl, subst, ◌∙◌, slice_index_or, slice_set}
use Rattle.std.specs.List.{AllByRecursion, sum_by}
use Rattle.nv_alloc.specs.Block.{BlockValue}
use Rattle.nv_book.specs.Book.{BookValue}
use Rattle.nv_entry.specs.Blocks.{item_blocks}
use Rattle.nv_entry.specs.Keys.{parts_of}
use Rattle.nv_entry.specs.declared.item.Entry.{Entry}
use Rattle.nv_entry.specs.declared.item.Item.{Item}
use Rattle.nv_entry.specs.declared.item.Item.TheVariants.{Init, Write, SetSize, SetMode, Bind, Unbind, Gone}
use Rattle.nv_cell.specs.Append.{blocks_for, part_blocks}
use Rattle.nv_cell.specs.Cell.{CellState, CellValue, IsCell, number_in}
use Rattle.nv_cell.specs.declared.killed.KilledPart.{KilledPart}
use Rattle.nv_calls.specs.CanCommit.{CanCommit}
use Rattle.nv_calls.specs.Cells.{no_cell, state_at, value_at}
use Rattle.nv_calls.specs.Commit.{CommitValue, begun, stamp_of}
use Rattle.nv_calls.specs.Committed.{ChangesPlanned, block_count, committed, grown, hand_before, killing, place_before, cell_place_of}
use Rattle.nv_calls.specs.Filled.{AreRead}
use Rattle.nv_calls.specs.Nodes.{HasBytes, HaveBytes}
use Rattle.nv_calls.specs.Ready.{ReadyValue, plan_at}
use Rattle.nv_calls.specs.Retiring.{keeper_of, retired, retired_one, settled}
use Rattle.nv_calls.specs.Steps.{stamped_entries, with_entries, with_entry}
use Rattle.nv_calls.proofs.CellCommits.{all_at, all_by}
use Rattle.nv_calls.proofs.Composed.{own_grown}
use Rattle.nv_calls.proofs.Next.{by_erased, by_place, keeps}

-- ---- the blocks of parts, one after another

abbrev IsRead : (ℕ → List ℕ) → Option BlockValue → Type 0
IsRead bytes None = Unit {0}
IsRead bytes (Some b) = bytes b.number ≡ b.bytes

abbrev AllRead : (ℕ → List ℕ) → List (Option BlockValue) → Type 0
AllRead bytes slots = AllByRecursion (IsRead bytes) slots

read_of : (bytes : ℕ → List ℕ) (o : Option BlockValue) → ((b : BlockValue) → o ≡ Some b → bytes b.number ≡ b.bytes) → IsRead bytes o
read_of bytes None each = tt
read_of bytes (Some b) each = each b refl

all_read : (bytes : ℕ → List ℕ) (slots : List (Option BlockValue))
    → ((n : ℕ) (b : BlockValue) → slice_index_or slots n None ≡ Some b → bytes b.number ≡ b.bytes) → AllRead bytes slots
all_read bytes [] each = tt
all_read bytes (o ∷ slots) each = (read_of bytes o (each 0), all_read bytes slots (λ n. each (suc n)))

is_read : (bytes : ℕ → List ℕ) (o : Option BlockValue) (b : BlockValue) → IsRead bytes o → o ≡ Some b → bytes b.number ≡ b.bytes
is_read bytes None b read h = cc
is_read bytes (Some x) b read h = let same : x ≡ b = cc in subst (λ (y : BlockValue). bytes y.number ≡ y.bytes) same read

read_at : (bytes : ℕ → List ℕ) (slots : List (Option BlockValue)) → AllRead bytes slots
    → (n : ℕ) (b : BlockValue) → slice_index_or slots n None ≡ Some b → bytes b.number ≡ b.bytes
read_at bytes [] all n b h = cc
read_at bytes (o ∷ slots) all zero b h = is_read bytes o b all.0 h
read_at bytes (o ∷ slots) all (suc n) b h = read_at bytes slots all.1 n b h

more_read : (bytes : ℕ → List ℕ) (xs ys : List (Option BlockValue)) → AllRead bytes xs → AllRead bytes ys → AllRead bytes (xs ++ ys)
more_read bytes [] ys all rest = rest
more_read bytes (x ∷ xs) ys all rest = (all.0, more_read bytes xs ys all.1 rest)

none_read : (bytes : ℕ → List ℕ) (n : ℕ) → AllRead bytes (replicate n None)
none_read bytes zero = tt
none_read bytes (suc n) = (tt, none_read bytes n)

some_read : (bytes : ℕ → List ℕ) (blocks : List BlockValue) → AreRead bytes blocks → AllRead bytes (map Some blocks)
some_read bytes [] read = tt
some_read bytes (b ∷ blocks) read = (read.0, some_read bytes blocks read.1)

set_read : (bytes : ℕ → List ℕ) (slots : List (Option BlockValue)) (n : ℕ) → AllRead bytes slots → AllRead bytes (slice_set slots n None)
set_read bytes [] n all = tt
set_read bytes (o ∷ slots) zero all = (tt, all.1)
set_read bytes (o ∷ slots) (suc n) all = (all.0, set_read bytes slots n all.1)

-- ---- blocks of a hand

front_read : (bytes : ℕ → List ℕ) (n : ℕ) (blocks : List BlockValue) → AreRead bytes blocks → AreRead bytes (take n blocks)
front_read bytes zero blocks read = tt
front_read bytes (suc n) [] read = tt
front_read bytes (suc n) (b ∷ blocks) read = (read.0, front_read bytes n blocks read.1)

rest_read : (bytes : ℕ → List ℕ) (n : ℕ) (blocks : List BlockValue) → AreRead bytes blocks → AreRead bytes (drop n blocks)
rest_read bytes zero blocks read = read
rest_read bytes (suc n) [] read = tt
rest_read bytes (suc n) (b ∷ blocks) read = rest_read bytes n blocks read.1

-- ---- a cell with more entries

slots_read : (bytes : ℕ → List ℕ) (item : Item) (blocks : List BlockValue) → AreRead bytes blocks → AllRead bytes (part_blocks item blocks)
slots_read bytes (Write first run size) blocks read = (tt, some_read bytes blocks read)
slots_read bytes (Init kind mode) blocks read = none_read bytes (length (parts_of (Init kind mode)))
slots_read bytes (SetSize size) blocks read = none_read bytes (length (parts_of (SetSize size)))
slots_read bytes (SetMode mode) blocks read = none_read bytes (length (parts_of (SetMode mode)))
slots_read bytes (Bind name to) blocks read = none_read bytes (length (parts_of (Bind name to)))
slots_read bytes (Unbind name) blocks read = none_read bytes (length (parts_of (Unbind name)))
slots_read bytes Gone blocks read = none_read bytes (length (parts_of Gone))

entries_read : (bytes : ℕ → List ℕ) (es : List Entry) (blocks : List BlockValue) (cell : CellValue) → AreRead bytes blocks
    → AllRead bytes cell.state.blocks → AllRead bytes (with_entries es blocks cell).state.blocks
entries_read bytes [] blocks cell read all = all
entries_read bytes (e ∷ es) blocks cell read all =
    entries_read bytes es (drop (length (item_blocks e.item)) blocks) (with_entry e blocks cell)
    (rest_read bytes (length (item_blocks e.item)) blocks read)
    (more_read bytes cell.state.blocks (part_blocks e.item (blocks_for e.item blocks)) all
    (slots_read bytes e.item (blocks_for e.item blocks) (front_read bytes (length (item_blocks e.item)) blocks read)))

-- ---- a cell with parts that are kept or out

one_read : (bytes : ℕ → List ℕ) (keeper : Option ℕ) (n : ℕ) (cell : CellState) → AllRead bytes cell.blocks
    → AllRead bytes (settled keeper n cell).blocks
one_read bytes (Some s) n cell all = all
one_read bytes None n cell all = set_read bytes cell.blocks n all

retired_read : (bytes : ℕ → List ℕ) (living : List ℕ) (ino epoch : ℕ) (parts : List KilledPart) (cell : CellState)
    → AllRead bytes cell.blocks → AllRead bytes (retired living ino epoch parts cell).blocks
retired_read bytes living ino epoch [] cell all = all
retired_read bytes living ino epoch (killed ∷ later) cell all =
    retired_read bytes living ino epoch later (retired_one living ino epoch killed cell)
    (one_read bytes (keeper_of living ino epoch killed) (number_in cell killed.part) cell all)

-- ---- all cells of a commit

module _ (bytes : ℕ → List ℕ) (block : ℕ) (cells : List (ℕ × CellValue)) (book : BookValue) (cpu : ℕ) (ready : ReadyValue)
    (can : CanCommit cells book cpu ready) (living : List ℕ) (now : List (ℕ × CellValue))
    (changes : ChangesPlanned ready.plans (committed living cells (begun (stamp_of book.state) ready)) cells now)
    (have : HaveBytes bytes block cells) (read : AreRead bytes ready.hand.«data».blocks)
    (known : AllByRecursion (λ (c : ℕ × CellValue). IsCell c.1.state) now) where
  abbrev start : CommitValue
  start = begun (stamp_of book.state) ready

  abbrev own : ℕ → CellValue
  own j = value_at cells (cell_place_of ready.plans j)

  abbrev entries : ℕ → List Entry
  entries j = stamped_entries start.stamp (place_before start.plans j) (plan_at start.plans j).items

  -- a cell has blocks of that size, with these bytes
  record Holds (cell : CellState) : Type 0 where
    pub size : cell.block ≡ block
    pub all : AllRead bytes cell.blocks

  at : (k : ℕ) → k < length cells → HasBytes bytes block (state_at cells k)
  at k lt = all_at (λ (c : ℕ × CellValue). HasBytes bytes block c.1.state) cells no_cell k have lt

  held : (k : ℕ) → k < length cells → Holds (state_at cells k)
  held k lt = record { size = (at k lt).size; all = all_read bytes (state_at cells k).blocks (at k lt).are }

  hand_read : (j : ℕ) → AreRead bytes (hand_before cells start j).«data».blocks
  hand_read j = rest_read bytes (sum_by block_count (take j start.plans)) ready.hand.«data».blocks read

  grown_read : (j : ℕ) → j < length ready.plans → AllRead bytes (grown cells start j).state.blocks
  grown_read j lt =
      entries_read bytes (entries j) (hand_before cells start j).«data».blocks _ (hand_read j)
      (held (cell_place_of ready.plans j) (can.placed.within j lt)).all

  planned_held : (j : ℕ) → j < length ready.plans → Holds (committed living cells start j)
  planned_held j lt =
      let k = killing cells start j in
      let g = own_grown cells book cpu ready can cells start j lt in
      let size : (retired living k.ino start.stamp.epoch k.parts k.cell).block ≡ block =
      (keeps living k.ino start.stamp.epoch k.parts k.cell).block ∙ g.grows.block
      ∙ (held (cell_place_of ready.plans j) (can.placed.within j lt)).size in
      by_erased Holds (retired living k.ino start.stamp.epoch k.parts k.cell)
      (record { size = size; all = retired_read bytes living k.ino start.stamp.epoch k.parts k.cell (grown_read j lt) })
      (record { size = size; all = tt })

  pub all_held : HaveBytes bytes block now
  all_held =
      all_by (λ (c : ℕ × CellValue). HasBytes bytes block c.1.state) now no_cell (λ k lt.
      let h : Holds (state_at now k) =
      by_place cells book cpu ready can living now changes (λ ino cell. Holds cell) planned_held (λ m within none. held m within) k lt in
      record {
        is = all_at (λ (c : ℕ × CellValue). IsCell c.1.state) now no_cell k known lt;
        size = h.size;
        are = read_at bytes (state_at now k).blocks h.all;
      })
