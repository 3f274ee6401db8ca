-- WHAT A STEP THAT CLEANS LEAVES OF A SLOT THAT ITS CALL HOLDS: the inode, the generation, and what is gone.
use Rattle.std.proofs.Common.{◌≡◌, ◌∙◌, ℕ, zero, suc, ◌<◌, ◌||◌, Bool, true, false, List, [], ◌∷◌, Some, ap, length, not, refl, sym}
use Rattle.std.specs.List.{list_any}
use Rattle.std.proofs.lemmas.Bool.{and_from, and_parts, false≢true}
use Rattle.nv_cell.specs.Cell.{CellState, log_of}
use Rattle.nv_cell.specs.Marks.{is_there, mark_at}
use Rattle.nv_cell.specs.Readers.{is_erased, is_gone, keeps_nothing}
use Rattle.nv_cell.specs.Retained.{retention_by_marks}
use Rattle.nv_cell.specs.declared.mark.Mark.{Mark}
use Rattle.nv_entry.specs.Held.{Retention}
use Rattle.nv_machine.specs.Grown.{HasGrown, is_behind}
use Rattle.nv_machine.specs.Reads.{written_slots}
use Rattle.nv_machine.specs.World.{HandState, SnapshotOrCleaner, Next, Running, Shared, cell_at, owner_at}
use Rattle.nv_machine.proofs.CellChanges.{clean_cell, clean_slot, is_clean, lent_clean, lent_inside_own}
use Rattle.nv_machine.proofs.Cleanable.{IsCleanable}
use Rattle.nv_machine.proofs.CleanedCells.{Cleans, cleaned_gone, cleaned_like}
use Rattle.nv_machine.proofs.CleanSteps.{cleans_own, stays_at}
use Rattle.nv_machine.proofs.LocksHeld.{Before}
use Rattle.nv_machine.proofs.PoolCells.{IsLike}

-- ---- a cell

-- one of the parts is there
which_there : (marks : List Mark) → list_any is_there marks ≡ true → (n : ℕ) × (is_there (mark_at marks n) ≡ true)
which_there [] some = absurd (false≢true some)
which_there (m ∷ marks) some = go (is_there m) refl some (which_there marks) where
  go : (b : Bool) → is_there m ≡ b → (b || list_any is_there marks) ≡ true
      → (list_any is_there marks ≡ true → (n : ℕ) × (is_there (mark_at marks n) ≡ true))
      → (n : ℕ) × (is_there (mark_at (m ∷ marks) n) ≡ true)
  go true q some rec = (zero, q)
  go false q some rec = let later = rec some in (suc later.0, later.1)

one_there : (marks : List Mark) (n : ℕ) → is_there (mark_at marks n) ≡ true → list_any is_there marks ≡ true
one_there [] n there = absurd (false≢true there)
one_there (m ∷ marks) zero there = ap (λ (b : Bool). b || list_any is_there marks) there
one_there (m ∷ marks) (suc n) there = or_true (is_there m) (one_there marks n there) where
  or_true : (b : Bool) → list_any is_there marks ≡ true → (b || list_any is_there marks) ≡ true
  or_true true later = refl
  or_true false later = later

module _ (by : Retention) (flags : List Bool) (old new : CellState) (c : Cleans by flags old new) where
  some_there : list_any is_there old.marks ≡ true → list_any is_there new.marks ≡ true
  some_there some =
      let was = which_there old.marks some in
      let now = c.records.there was.0 was.1 in
      one_there new.marks now.n
      (ap is_there (c.records.marks now.n ∙ ap (mark_at old.marks) now.is) ∙ was.1)

  -- an inode that is gone and keeps nothing was so before
  pub was_erased : is_erased new ≡ true → is_erased old ≡ true
  was_erased erased =
      let now = and_parts (is_gone (log_of new)) (keeps_nothing new) erased in
      and_from (is_gone (log_of old)) (keeps_nothing old) (sym (cleaned_gone by flags old new c) ∙ now.0)
      (none (list_any is_there old.marks) some_there now.1)
    where
      none : (b : Bool) → (b ≡ true → list_any is_there new.marks ≡ true) → keeps_nothing new ≡ true → not b ≡ true
      none true keeps nothing = sym (ap not (keeps refl)) ∙ nothing
      none false keeps nothing = refl

-- ---- a step

-- it has appended nothing
cleans_behind : (k : Next) (written : List ℕ) (ino : ℕ) → is_clean k ≡ true → is_behind k written ino ≡ false
cleans_behind (SnapshotOrCleaner step) written ino is = refl
cleans_behind other written ino is = absurd (false≢true is)

module _ (k : Next) (block a : ℕ) (s : Shared) (h : HandState) (r : Running) (is : is_clean k ≡ true) (b : Before a s k r)
    (grown : HasGrown k s a r) (ready : IsCleanable k block s h r) where
  pub clean_here : (clean_slot k < length s.cells) × (owner_at s (clean_slot k) ≡ Some a)
  clean_here = lent_inside_own k a s r b (clean_slot k) (lent_clean k (length s.lists) a r is)

  pub cleans_held : Cleans (retention_by_marks (cell_at s (clean_slot k))) (stays_at k s) (cell_at s (clean_slot k)) (clean_cell k s h)
  cleans_held =
      cleans_own k block s h r is clean_here.0
      (grown.tails (clean_slot k) clean_here.1 (cleans_behind k (written_slots r) (clean_slot k) is)) ready

  pub clean_like : IsLike (cell_at s (clean_slot k)) (clean_cell k s h)
  clean_like = cleaned_like _ _ _ _ cleans_held

  pub clean_erased : is_erased (clean_cell k s h) ≡ true → is_erased (cell_at s (clean_slot k)) ≡ true
  clean_erased = was_erased _ _ _ _ cleans_held
