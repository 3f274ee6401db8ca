-- What the steps of a commit before its commit point leave of the cells that it locks.
use Rattle.std.proofs.Common.{◌≡◌, ℕ, zero, suc, ◌+◌, ◌<◌, ◌≤◌, ◌++◌, ◌∙◌, Bool, true, false, List, [], ◌∷◌, Option, Some, None, ap, arith, drop, if◌then◌else◌, length, map, refl, slice_index_or, subst, sym, take}
use Rattle.std.specs.List.{AllByRecursion}
use Rattle.std.proofs.lemmas.List.{take-append-drop, take-append-le}
use Rattle.nv_alloc.specs.Block.{BlockValue, numbers_of}
use Rattle.nv_alloc.specs.Numbers.{has}
use Rattle.nv_calls.specs.Retiring.{erased}
use Rattle.nv_cell.specs.Append.{appended, blocks_for, part_blocks}
use Rattle.nv_cell.specs.Cell.{CellState, empty_cell, published}
use Rattle.nv_entry.specs.Blocks.{item_blocks}
use Rattle.nv_entry.specs.declared.item.Entry.{Entry}
use Rattle.nv_entry.specs.declared.item.Item.{Item}
use Rattle.nv_entry.specs.declared.item.Item.TheVariants.{Write}
use Rattle.nv_journal.specs.Journal.{settled_tail}
use Rattle.nv_machine.specs.Kept.{AreClosed, HasNoted}
use Rattle.nv_machine.specs.Kinds.{with_entries, with_log_pages}
use Rattle.nv_machine.specs.Settled.{settled}
use Rattle.nv_machine.specs.World.{Shared, cell_at, with_cell}
use Rattle.nv_machine.proofs.CellSteps.{HaveFront, first_blocks, items_in, later_blocks, later_rest}
use Rattle.nv_machine.proofs.AppendsToCome.{entries_more, pages_keep}
use Rattle.nv_machine.proofs.Journals.{closed_tail}
use Rattle.nv_machine.proofs.LogsKept.{cell_set}
use Rattle.nv_machine.proofs.CommitPoints.{paged_tail, tail_keeps}
use Rattle.nv_cell.specs.Readers.{is_erased}
use Rattle.nv_machine.proofs.EachElement.{all_append}

-- ---- a cell that has what it had, and more

pub record IsWider (old new : CellState) : Type 0 where
  pub generation : new.generation ≡ old.generation
  pub block : new.block ≡ old.block
  pub blocks : (n : ℕ) (b : BlockValue) → slice_index_or old.blocks n None ≡ Some b → slice_index_or new.blocks n None ≡ Some b

pub same_wider : (cell : CellState) → IsWider cell cell
same_wider cell = record { generation = refl; block = refl; blocks = λ n b e. e }

wider_on : (a b c : CellState) → IsWider a b → IsWider b c → IsWider a c
wider_on a b c f g = record {
  generation = g.generation ∙ f.generation;
  block = g.block ∙ f.block;
  blocks = λ n x e. g.blocks n x (f.blocks n x e);
}

pub longer : (xs ys : List (Option BlockValue)) (n : ℕ) (b : BlockValue) → slice_index_or xs n None ≡ Some b
    → slice_index_or (xs ++ ys) n None ≡ Some b
longer [] ys n b e = cc
longer (x ∷ xs) ys zero b e = e
longer (x ∷ xs) ys (suc n) b e = longer xs ys n b e

appended_wider : (e : Entry) (bs : List BlockValue) (cell : CellState) → IsWider cell (appended e bs cell)
appended_wider e bs cell = record { generation = refl; block = refl; blocks = λ n b h. longer cell.blocks (part_blocks e.item bs) n b h }

entries_wider : (entries : List Entry) (bs : List BlockValue) (cell : CellState) → IsWider cell (with_entries entries bs cell)
entries_wider [] bs cell = same_wider cell
entries_wider (e ∷ entries) bs cell =
    wider_on cell _ _ (appended_wider e (blocks_for e.item bs) cell) (entries_wider entries (drop (length (item_blocks e.item)) bs) _)

pages_wider : (pages : List BlockValue) (cell : CellState) → IsWider cell (with_log_pages pages cell)
pages_wider [] cell = same_wider cell
pages_wider (b ∷ pages) cell = wider_on cell _ _ (record { generation = refl; block = refl; blocks = λ n x e. e }) (pages_wider pages _)

pub append_wider : (entries : List Entry) (bs pages : List BlockValue) (cell : CellState)
    → IsWider cell (with_entries entries bs (with_log_pages pages cell))
append_wider entries bs pages cell = wider_on cell _ _ (pages_wider pages cell) (entries_wider entries bs _)

-- ---- the blocks that an append puts there

abbrev pub IsIn : CellState → BlockValue → Type 0
IsIn cell b = (n : ℕ) × (slice_index_or cell.blocks n None ≡ Some b)

all_to : (P Q : BlockValue → Type 0) → ((b : BlockValue) → P b → Q b) → (bs : List BlockValue) → AllByRecursion P bs → AllByRecursion Q bs
all_to P Q f [] all = tt
all_to P Q f (b ∷ bs) all = (f b all.0, all_to P Q f bs all.1)

pub behind : (xs ys : List (Option BlockValue)) (n : ℕ) (b : BlockValue) → slice_index_or ys n None ≡ Some b
    → (m : ℕ) × (slice_index_or (xs ++ ys) m None ≡ Some b)
behind [] ys n b e = (n, e)
behind (x ∷ xs) ys n b e = let m = behind xs ys n b e in (suc m.0, m.1)

each_some : (bs : List BlockValue) → AllByRecursion (λ (b : BlockValue). (n : ℕ) × (slice_index_or (map Some bs) n None ≡ Some b)) bs
each_some [] = tt
each_some (b ∷ bs) = (
  (0, refl),
  all_to (λ (x : BlockValue). (n : ℕ) × (slice_index_or (map Some bs) n None ≡ Some x))
      (λ (x : BlockValue). (n : ℕ) × (slice_index_or (map Some (b ∷ bs)) n None ≡ Some x)) (λ x m. (suc m.0, m.1)) bs (each_some bs),
)

none_here : (cell : CellState) (bs : List BlockValue) → numbers_of bs ≡ [] → AllByRecursion (IsIn cell) bs
none_here cell [] e = tt
none_here cell (b ∷ bs) e = cc

one_stored : (e : Entry) (item : Item) → e.item ≡ item → (bs : List BlockValue) (cell : CellState) → numbers_of bs ≡ item_blocks item
    → AllByRecursion (IsIn (appended e bs cell)) bs
one_stored e (Write first run size) is bs cell h =
    all_to (λ (b : BlockValue). (n : ℕ) × (slice_index_or (map Some bs) n None ≡ Some b)) (IsIn (appended e bs cell))
    (λ b m. subst (λ (i : Item). (n : ℕ) × (slice_index_or (cell.blocks ++ part_blocks i bs) n None ≡ Some b)) (sym is)
    (behind cell.blocks (None ∷ map Some bs) (suc m.0) b m.1)) bs (each_some bs)
one_stored e other is bs cell h = none_here (appended e bs cell) bs h

pub entries_stored : (entries : List Entry) (bs : List BlockValue) (cell : CellState) (front : HaveFront (items_in entries) (numbers_of bs))
    → front.rest ≡ [] → AllByRecursion (IsIn (with_entries entries bs cell)) bs
entries_stored [] bs cell front none = none_here cell bs (front.is ∙ none)
entries_stored (e ∷ entries) bs cell front none =
    let k = length (item_blocks e.item) in
    let now = with_entries (e ∷ entries) bs cell in
    let one = appended e (blocks_for e.item bs) cell in
    subst (AllByRecursion (IsIn now)) (take-append-drop k bs)
    (all_append (IsIn now) (take k bs) (drop k bs)
    (all_to (IsIn one) (IsIn now) (λ b m. (m.0, (entries_wider entries (drop k bs) one).blocks m.0 b m.1)) (take k bs)
    (one_stored e e.item refl (take k bs) cell (first_blocks e.item (items_in entries) bs front)))
    (entries_stored entries (drop k bs) one (later_blocks e.item (items_in entries) bs front)
    (later_rest e.item (items_in entries) bs front ∙ none)))

-- ---- a retire

pub erased_block : (cell : CellState) → (erased cell).block ≡ cell.block
erased_block cell = go (is_erased cell) where
  go : (b : Bool) → (if b then empty_cell cell.block cell.chain.page (cell.generation + 1) cell.version else cell).block ≡ cell.block
  go true = refl
  go false = refl

-- ---- one cell in the place of a slot's

module _ (s : Shared) (slot : ℕ) (new : CellState) (low : slot < length s.cells) where
  pub wider_cells : IsWider (cell_at s slot) new → (ino : ℕ) → IsWider (cell_at s ino) (cell_at (with_cell slot new s) ino)
  wider_cells wide ino = cell_set s slot new ino (IsWider (cell_at s ino)) low
      (λ e. subst (λ (n : ℕ). IsWider (cell_at s n) new) e wide) (λ ne. same_wider (cell_at s ino))

  same_logs : take (settled_tail s.book.journals slot new.chain.tail) new.chain.entries ≡ settled s slot
      → (ino : ℕ) → settled (with_cell slot new s) ino ≡ settled s ino
  same_logs log ino = cell_set s slot new ino
      (λ (c : CellState). take (settled_tail s.book.journals ino c.chain.tail) c.chain.entries ≡ settled s ino) low
      (λ e. subst (λ (n : ℕ). take (settled_tail s.book.journals n new.chain.tail) new.chain.entries ≡ settled s n) e log)
      (λ ne. refl)

pub append_logs : (s : Shared) (slot : ℕ) (entries : List Entry) (bs pages : List BlockValue) → slot < length s.cells
    → AreClosed s.book.journals → (cell_at s slot).chain.tail ≤ length (cell_at s slot).chain.entries
    → (ino : ℕ) → settled (with_cell slot (with_entries entries bs (with_log_pages pages (cell_at s slot))) s) ino ≡ settled s ino
append_logs s slot entries bs pages low closed within =
    let cell = cell_at s slot in
    let new = with_entries entries bs (with_log_pages pages cell) in
    let tail : new.chain.tail ≡ cell.chain.tail = tail_keeps entries bs (with_log_pages pages cell) ∙ paged_tail pages cell in
    let more : new.chain.entries ≡ cell.chain.entries ++ entries =
    entries_more entries bs (with_log_pages pages cell) ∙ ap (λ (l : List Entry). l ++ entries) (pages_keep pages cell) in
    same_logs s slot new low (rw (tail, more) (take-append-le (settled_tail s.book.journals slot cell.chain.tail) cell.chain.entries entries
    (omega (arith, closed_tail s.book.journals slot cell.chain.tail closed, within))))

pub publish_logs : (s : Shared) (slot cpu : ℕ) (written : List ℕ) → slot < length s.cells → HasNoted s cpu written → has written slot ≡ true
    → (ino : ℕ) → settled (with_cell slot (published (cell_at s slot)) s) ino ≡ settled s ino
publish_logs s slot cpu written low noted there =
    let cell = cell_at s slot in
    same_logs s slot (published cell) low (ap (λ (n : ℕ). take n cell.chain.entries)
    (noted.noted slot (length cell.chain.entries) cell.chain.tail there))
