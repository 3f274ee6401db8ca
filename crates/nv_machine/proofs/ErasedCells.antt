-- A cell whose inode is gone, once its killed parts are retired: nothing is there of it, and all
-- blocks are in the hand.
use Rattle.std.proofs.Common.{Bool, List, None, Option, Some, [], ap, arith, false, flat_map, if◌then◌else◌, length, not, refl, slice_index_or, suc, true, zero, ℕ, ◌&&◌, ◌++◌, ◌+◌, ◌<◌, ◌==◌, ◌||◌, ◌∙◌, ◌∷◌, ◌≡◌, ◌≤◌}
use Rattle.std.specs.List.{list_any}
use Rattle.nv_alloc.specs.Block.{BlockValue, numbers_of}
use Rattle.nv_alloc.specs.Numbers.{has, times}
use Rattle.nv_alloc.proofs.Lists.{times-append, times-yes}
use Rattle.nv_calls.specs.Retiring.{erased, keeper_of, retired, retired_one, settled}
use Rattle.nv_cell.specs.Cell.{CellState, log_of, number_in, of_part, stored_in}
use Rattle.nv_cell.specs.Marks.{is_there, mark_at}
use Rattle.nv_cell.specs.Readers.{is_erased, is_gone, keeps_nothing}
use Rattle.nv_cell.specs.declared.killed.KilledPart.{KilledPart}
use Rattle.nv_cell.specs.declared.mark.Mark.{Mark}
use Rattle.nv_log.specs.Chain.{ChainState}
use Rattle.nv_machine.specs.Erasing.{emptied}
use Rattle.nv_machine.proofs.FromScratch.{not_counted}
use Rattle.nv_machine.proofs.Lists.{or_right, self}

-- ---- nothing is there

none_there : (marks : List Mark) → ((n : ℕ) → n < length marks → is_there (mark_at marks n) ≡ false) → list_any is_there marks ≡ false
none_there [] none = refl
none_there (mark ∷ marks) none =
    both (is_there mark) (list_any is_there marks) (none 0 (omega arith))
    (none_there marks (λ n lt. none (suc n) (omega (arith, lt)))) where
      both : (b c : Bool) → b ≡ false → c ≡ false → (b || c) ≡ false
      both b c p q = rw (p, q) refl

-- a gone inode of whose parts nothing is there is erased
pub gone_erased : (cell : CellState) → is_gone (log_of cell) ≡ true
    → ((n : ℕ) → n < length cell.marks → is_there (mark_at cell.marks n) ≡ false) → is_erased cell ≡ true
gone_erased cell gone none =
    ap (λ (b : Bool). b && keeps_nothing cell) gone ∙ ap not (none_there cell.marks none)

-- ---- the slot

same_emptied : (living : List ℕ) (ino epoch : ℕ) (killed : List KilledPart) (cell : CellState)
    → emptied (retired living ino epoch killed cell) ≡ emptied cell
same_emptied living ino epoch [] cell = refl
same_emptied living ino epoch (k ∷ killed) cell =
    same_emptied living ino epoch killed (retired_one living ino epoch k cell) ∙ go (keeper_of living ino epoch k) where
      go : (keeper : Option ℕ) → emptied (settled keeper (number_in cell k.part) cell) ≡ emptied cell
      go (Some s) = refl
      go None = refl

pub erased_slot : (living : List ℕ) (ino epoch : ℕ) (killed : List KilledPart) (cell : CellState)
    → is_erased (retired living ino epoch killed cell) ≡ true → erased (retired living ino epoch killed cell) ≡ emptied cell
erased_slot living ino epoch killed cell q =
    ap (λ (b : Bool). if b
    then emptied (retired living ino epoch killed cell)
    else retired living ino epoch killed cell) q
    ∙ same_emptied living ino epoch killed cell

-- ---- the blocks

abbrev has_block : List BlockValue → ℕ → Bool
has_block blocks number = has (numbers_of blocks) number

pub behind : (xs ys : List BlockValue) (number : ℕ) → has_block ys number ≡ true → has_block (xs ++ ys) number ≡ true
behind [] ys number h = h
behind (x ∷ xs) ys number h = or_right (x.number == number) _ (behind xs ys number h)

-- where nothing is there a cell has no blocks of parts
no_blocks : (slots : List (Option BlockValue)) → ((n : ℕ) → slice_index_or slots n None ≡ None) → flat_map of_part slots ≡ []
no_blocks [] none = refl
no_blocks (o ∷ slots) none =
    ap (λ (l : List ℕ). l ++ flat_map of_part slots) (ap of_part (none 0)) ∙ no_blocks slots (λ n. none (suc n))

pub block_times : (slots : List (Option BlockValue)) (n : ℕ) (b : BlockValue) → slice_index_or slots n None ≡ Some b
    → 1 ≤ times b.number (flat_map of_part slots)
block_times [] n b e = cc
block_times (o ∷ slots) zero b e =
    let one : times b.number (of_part o) ≡ 1 = ap (λ (x : Option BlockValue). times b.number (of_part x)) e ∙ times-yes b.number
    b.number [] (self b.number) in
    omega (arith, one, times-append b.number (of_part o) (flat_map of_part slots))
block_times (o ∷ slots) (suc n) b e =
    omega (arith, block_times slots n b e, times-append b.number (of_part o) (flat_map of_part slots))

-- every block of a part that a cell has is among the blocks that are set free, where the cell that is left has
-- the same chain and none
pub all_freed : (old new : CellState) (free : List BlockValue) → new.chain ≡ old.chain
    → ((k : ℕ) → times k (stored_in new) + times k (numbers_of free) ≡ times k (stored_in old))
    → ((n : ℕ) → slice_index_or new.blocks n None ≡ None) → (n : ℕ) (b : BlockValue) → slice_index_or old.blocks n None ≡ Some b
    → has_block free b.number ≡ true
all_freed old new free chain same none n b is = go (has_block free b.number) refl where
  k : ℕ
  k = b.number

  go : (c : Bool) → has_block free k ≡ c → c ≡ true
  go true e = refl
  go false e =
      let left = ap (λ (l : List ℕ). times k l) (no_blocks new.blocks none) in
      let pages = ap (λ (c : ChainState). times k (numbers_of c.blocks)) chain in
      let news = times-append k (numbers_of new.chain.blocks) (flat_map of_part new.blocks) in
      let olds = times-append k (numbers_of old.chain.blocks) (flat_map of_part old.blocks) in
      absurd (omega (arith, same k, left, pages, news, olds, block_times old.blocks n b is, not_counted k (numbers_of free) e))
