-- What a turn on a lent cell makes of a world: the cell becomes what the turn left, and nothing else changes.
use Rattle.std.proofs.Common.{◌≡◌, ◌∙◌, ℕ, ◌<◌, Bool, true, false, List, [], ◌∷◌, Some, ap, arith, inl, inr, length, map, slice_set, sym}
use Rattle.std.proofs.lemmas.List.{length-map}
use Rattle.nv_base.specs.declared.geometry.GeometryNumbers.{GeometryNumbers}
use Rattle.nv_book.specs.declared.record.Record.{Record}
use Rattle.nv_calls.specs.Retiring.{erased, released}
use Rattle.nv_cell.specs.Cell.{CellState, CellValue}
use Rattle.nv_cell.specs.Readers.{has_inode}
use Rattle.nv_clean.specs.Cleaned.{answer_of}
use Rattle.nv_clean.specs.declared.cleaned.Cleaned.{Cleaned}
use Rattle.nv_machine.specs.Cleaning.{compact_turn, compacted_cell, inode_turn, unlink_turn, unlinked, with_old_chain, with_unlinked}
use Rattle.nv_machine.specs.Kinds.{with_erased}
use Rattle.nv_machine.specs.SnapshotOrCleaner.{one_more, release_turn, snapshot_or_cleaner_turn, with_released}
use Rattle.nv_machine.specs.Step.{kind_turn}
use Rattle.nv_machine.specs.World as machine
use Rattle.nv_machine.specs.World.{Cleans, Compact, Draining, Drains, Ending, HandState, Moves, Next, PlanCleaning, Release, Running, SnapshotOrCleaner, SnapshotOrCleanerStep, Unlink, cell_at, go_to, with_cell}
use Rattle.nv_steps.specs.OnCell.{on_cell, once_ending, over_cell}
use Rattle.nv_steps.specs.Parts.{CellIs, Has, IsOf}
use Rattle.nv_steps.specs.Turns.{IsMove}
use Rattle.nv_core.specs.GhostCalls.{IsEither}
use Rattle.nv_core.specs.Parts.{AreHome}
use Rattle.nv_core.specs.Shown.{shared_of}
use Rattle.nv_core.specs.declared.shared.Shared.{Shared}
use Rattle.nv_core.proofs.Ends.{end_anywhere}
use Rattle.nv_core.proofs.Publishes.{states_set}

-- the numbers of a world, with as many slots as it has cells
abbrev pub numbers_in : Shared → GeometryNumbers
numbers_in shared = record shared.geometry.numbers { inodes = length shared.cells.items }

-- what is shared, with these cells
abbrev pub with_cells : List CellValue → Shared → machine.Shared
with_cells cells shared = record (shared_of shared) { cells = map (λ (c : CellValue). c.state) cells }

-- a cell that is put in its place is the one that the turn left
pub cell_put : (shared : Shared) (ino : ℕ) (new : CellValue) (cells : List CellValue) → cells ≡ slice_set shared.cells.items ino new
    → with_cell ino new.state (shared_of shared) ≡ with_cells cells shared
cell_put shared ino new cells set =
    ap (λ (cs : List CellState). record (shared_of shared) { cells = cs })
    (sym (ap (λ (xs : List CellValue). map (λ (c : CellValue). c.state) xs) set ∙ states_set shared.cells.items ino new))

module _ (shared : Shared) (home : AreHome shared) (wide : length shared.owners.items ≡ length shared.cells.items) where
  pub is_of : IsOf (numbers_in shared) (shared_of shared)
  is_of = record {
    lists = home.count;
    homes = λ cpu inside. record { start = (home.each cpu inside).start; end = (home.each cpu inside).end };
    cells = length-map shared.cells.items (λ (c : CellValue). c.state);
    owners = wide;
  }

  module _ (ino : ℕ) (old : CellState) (here : cell_at (shared_of shared) ino ≡ old) (inside : ino < length shared.cells.items) where
    has_cell : Has (shared_of shared) (CellIs ino old ∷ [])
    has_cell = ((omega (arith, inside, length-map shared.cells.items (λ (c : CellValue). c.state)), here), tt)

    -- a turn that changes its cell, behind which the call is to end so
    abbrev pub Changes : SnapshotOrCleanerStep → Running → HandState → HandState → CellState → Ending → Type 0
    Changes step r h after new ending =
        let q : Running = go_to (SnapshotOrCleaner step) r in
        IsMove (numbers_in shared) 0 (on_cell ino q h true old new) after (once_ending ending q)

    module _ (r : Running) (h after : HandState) (new : CellValue) (cells : List CellValue)
        (set : cells ≡ slice_set shared.cells.items ino new) where
      abbrev s : machine.Shared
      s = shared_of shared

      changed : (step : SnapshotOrCleanerStep) (ending : Ending) → Changes step r h after new.state ending
          → snapshot_or_cleaner_turn step 0 true s h (go_to (SnapshotOrCleaner step) r)
          ≡ Moves (with_cells cells shared) after (once_ending ending r)
      changed step ending moves =
          moves s is_of has_cell ∙ ap (λ (t : machine.Shared). Moves t after (once_ending ending r)) (cell_put shared ino new cells set)

      pub unlinked_here : (cleaned : Cleaned) → Changes (Unlink ino) r h after new.state (Cleans cleaned)
          → unlink_turn ino s h r ≡ Moves (with_cells cells shared) after (once_ending (Cleans cleaned) r)
      unlinked_here cleaned moves =
          sym (end_anywhere r.slots (Cleans (answer_of false (cell_at s ino) (unlinked (cell_at s ino))))
          (with_cell ino (unlinked (cell_at s ino)) s) (with_unlinked (cell_at s ino) h) r (SnapshotOrCleaner (Unlink ino)))
          ∙ changed (Unlink ino) (Cleans cleaned) moves

      pub compacted_here : (cleaned : Cleaned) → Changes (Compact ino) r h after new.state (Cleans cleaned)
          → compact_turn ino s h r ≡ Moves (with_cells cells shared) after (once_ending (Cleans cleaned) r)
      compacted_here cleaned moves =
          sym (end_anywhere r.slots (Cleans (answer_of true (cell_at s ino) (compacted_cell h (cell_at s ino))))
          (with_cell ino (compacted_cell h (cell_at s ino)) s) (with_old_chain (cell_at s ino) h) r (SnapshotOrCleaner (Compact ino)))
          ∙ changed (Compact ino) (Cleans cleaned) moves

    -- a planning is the turn of its step, granted its memory or not
    pub planned_here : (m : machine.Manner) (r q : Running) (h after : HandState) (granted : Bool)
        → r.next ≡ SnapshotOrCleaner (PlanCleaning m (Some ino))
        → IsMove (numbers_in shared) 0 (over_cell ino r h granted old) after q
        → IsEither (λ granted. inode_turn (has_inode (cell_at (shared_of shared) ino)) m ino granted (shared_of shared) h r)
        (Moves (shared_of shared) after q)
    planned_here m r q h after granted next moves =
        either granted (ap (λ (k : Next). kind_turn k shared.geometry.numbers.block 0 granted (shared_of shared) h r) (sym next)
        ∙ moves (shared_of shared) is_of has_cell) where
          by : Bool → machine.Turn
          by granted = inode_turn (has_inode (cell_at (shared_of shared) ino)) m ino granted (shared_of shared) h r

          either : (granted : Bool) → by granted ≡ Moves (shared_of shared) after q → IsEither by (Moves (shared_of shared) after q)
          either true is = inl is
          either false is = inr is

-- a release, by the cell of its record
module _ (shared : Shared) (home : AreHome shared) (wide : length shared.owners.items ≡ length shared.cells.items) (picked : Record)
    (old : CellState) (here : cell_at (shared_of shared) picked.ino ≡ old) (inside : picked.ino < length shared.cells.items) where
  pub released_here : (d : Draining) (r : Running) (h after : HandState) (new : CellValue) (cells : List CellValue)
      → cells ≡ slice_set shared.cells.items picked.ino new
      → Changes shared home wide picked.ino old here inside (Release d picked) r h after new.state (Drains (one_more d))
      → release_turn d picked (shared_of shared) h r ≡ Moves (with_cells cells shared) after (once_ending (Drains (one_more d)) r)
  released_here d r h after new cells set moves =
      let s = shared_of shared in
      sym (end_anywhere r.slots (Drains (one_more d)) (with_cell picked.ino (erased (released picked (cell_at s picked.ino))) s)
      (with_erased picked.ino (released picked (cell_at s picked.ino)) (with_released picked s h)) r (SnapshotOrCleaner (Release d picked)))
      ∙ changed shared home wide picked.ino old here inside r h after new cells set (Release d picked) (Drains (one_more d)) moves
