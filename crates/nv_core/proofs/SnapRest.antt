-- What a step of a call on snapshots leaves to the other actors.
use Rattle.std.proofs.Common.{◌≡◌, ◌≢◌, ◌==◌, ◌∙◌, ℕ, Bool, true, false, List, [], ◌∷◌, None, ap, length, refl, sym}
use Rattle.std.proofs.lemmas.Bool.{eq-eqb}
use Rattle.nv_alloc.specs.Numbers.{has}
use Rattle.nv_calls.specs.SlotCells.{cell_in}
use Rattle.nv_machine.specs.Locks.{held_at}
use Rattle.nv_core.specs.Frames.{LeavesRest}
use Rattle.nv_core.specs.Rooms.{IsOnBook}
use Rattle.nv_core.specs.Shown.{next_of}
use Rattle.nv_core.specs.declared.next.Next.{Next}
use Rattle.nv_core.specs.declared.next.Next.TheVariants as next
use Rattle.nv_core.specs.declared.next.SnapshotOrCleanerStep.TheVariants as on
use Rattle.nv_core.specs.declared.shared.Shared.{Shared}

pub rest_same : (actor : ℕ) (held : List ℕ) (old new : Shared) → new ≡ old → LeavesRest actor held old new
rest_same actor held old new is = record {
  geometry = ap (λ (s : Shared). s.geometry) is;
  lists = ap (λ (s : Shared). length s.lists.items) is;
  count = ap (λ (s : Shared). length s.cells.items) is;
  cells = λ ino out. ap (λ (s : Shared). cell_in s.cells.items ino) is;
  book = λ other holds apart. (ap (λ (s : Shared). s.book) is, ap (λ (s : Shared). s.holder) is);
}

-- the book alone is another, and nobody commits
pub rest_book : (actor : ℕ) (held : List ℕ) (old new : Shared) → old.holder ≡ None → new ≡ record old { book = new.book }
    → LeavesRest actor held old new
rest_book actor held old new free is = record {
  geometry = ap (λ (s : Shared). s.geometry) is;
  lists = ap (λ (s : Shared). length s.lists.items) is;
  count = ap (λ (s : Shared). length s.cells.items) is;
  cells = λ ino out. ap (λ (s : Shared). cell_in s.cells.items ino) is;
  book = λ other holds apart. absurd (let e = sym free ∙ holds in cc);
}

-- the cell of one slot is another, which the actor holds
pub rest_cell : (actor ino : ℕ) (old new : Shared) → ((n : ℕ) → n ≢ ino → cell_in new.cells.items n ≡ cell_in old.cells.items n)
    → length new.cells.items ≡ length old.cells.items → new ≡ record old { cells = new.cells } → LeavesRest actor (ino ∷ []) old new
rest_cell actor ino old new cells count is = record {
  geometry = ap (λ (s : Shared). s.geometry) is;
  lists = ap (λ (s : Shared). length s.lists.items) is;
  count = count;
  cells = λ n out. cells n (λ same. let t : (ino == n) ≡ true = eq-eqb ino n (sym same) in let o : (ino == n) ≡ false = first n out in cc);
  book = λ other holds apart. (ap (λ (s : Shared). s.book) is, ap (λ (s : Shared). s.holder) is);
} where
  first : (n : ℕ) → has (ino ∷ []) n ≡ false → (ino == n) ≡ false
  first n out = go (ino == n) refl out where
    go : (b : Bool) → (ino == n) ≡ b → has (ino ∷ []) n ≡ false → (ino == n) ≡ false
    go false e h = e
    go true e h = let x : true ≡ false = rw e at h in cc

-- the lists alone are others, and as many
pub rest_lists : (actor : ℕ) (held : List ℕ) (old new : Shared) → new ≡ record old { lists = new.lists }
    → length new.lists.items ≡ length old.lists.items → LeavesRest actor held old new
rest_lists actor held old new is count = record {
  geometry = ap (λ (s : Shared). s.geometry) is;
  lists = count;
  count = ap (λ (s : Shared). length s.cells.items) is;
  cells = λ ino out. ap (λ (s : Shared). cell_in s.cells.items ino) is;
  book = λ other holds apart. (ap (λ (s : Shared). s.book) is, ap (λ (s : Shared). s.holder) is);
}

-- a step that is lent the book holds no slot
pub none_held : (step : Next) (slots : List ℕ) → IsOnBook step → held_at (next_of step) slots ≡ []
none_held (next.SnapshotOrCleaner on.Make) slots is = refl
none_held (next.SnapshotOrCleaner (on.Drop snapshot)) slots is = refl
none_held (next.SnapshotOrCleaner (on.Pin snapshot)) slots is = refl
none_held (next.SnapshotOrCleaner (on.Show snapshot showing)) slots is = absurd is
none_held (next.SnapshotOrCleaner (on.Unpin snapshot seen)) slots is = refl
none_held (next.SnapshotOrCleaner (on.Pick draining)) slots is = refl
none_held (next.SnapshotOrCleaner (on.LockPicked draining picked)) slots is = absurd is
none_held (next.SnapshotOrCleaner (on.Release draining picked)) slots is = absurd is
none_held (next.SnapshotOrCleaner (on.LockCleaned log)) slots is = absurd is
none_held (next.SnapshotOrCleaner (on.PlanCleaning manner slot)) slots is = absurd is
none_held (next.SnapshotOrCleaner (on.Fresh fresh)) slots is = absurd is
none_held (next.SnapshotOrCleaner (on.Unlink plan)) slots is = absurd is
none_held (next.SnapshotOrCleaner (on.Compact plan)) slots is = absurd is
none_held next.Number slots is = absurd is
none_held (next.Look place) slots is = absurd is
none_held (next.Lock place) slots is = absurd is
none_held next.Check slots is = absurd is
none_held (next.TakeBlocks asked) slots is = absurd is
none_held (next.TakeLogPages asked) slots is = absurd is
none_held next.Ready slots is = absurd is
none_held (next.Unlock place) slots is = absurd is
none_held (next.Give cpu) slots is = absurd is
none_held next.ReturnNumber slots is = absurd is
none_held next.Visit slots is = absurd is
