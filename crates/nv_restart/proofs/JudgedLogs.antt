-- Logs of cells that were judged are the settled logs of a world at rest.
use Rattle.std.proofs.Common.{◌≡◌, inl, inr, ℕ, ◌<◌, [], length, take, ap, sym, subst, None}
use Rattle.std.proofs.lemmas.Bool.{cases_lt}
use Rattle.std.proofs.lemmas.List.{get_or_past}
use Rattle.nv_audit.specs.Sound.{EndsAtSize}
use Rattle.nv_audit.proofs.SoundCells.{shaped_sound}
use Rattle.nv_cell.specs.Cell.{CellState, IsCell, log_of}
use Rattle.nv_cell.specs.Shape.{IsLeftShaped}
use Rattle.nv_entry.proofs.SoundLogs.{empty_sound}
use Rattle.nv_machine.specs.Effects.{AreSound, IsSoundIn}
use Rattle.nv_machine.specs.Kept.{AreClosed}
use Rattle.nv_alloc.specs.Numbers.{IsEachOnce}
use Rattle.nv_machine.specs.Numbers.{all_blocks}
use Rattle.nv_machine.specs.Reads.{bytes_among}
use Rattle.nv_machine.specs.Settled.{settled}
use Rattle.nv_machine.specs.Shapes.{AreShaped}
use Rattle.nv_machine.specs.World.{Shared, World, cell_at, no_cell}
use Rattle.nv_machine.proofs.CellPages.{among_at}
use Rattle.nv_machine.proofs.Journals.{closed_tail}
use Rattle.nv_machine.proofs.Reached.{cells_apart}

pub settled_is : (s : Shared) (ino : ℕ) → AreClosed s.book.journals
    → settled s ino ≡ log_of (cell_at s ino)
settled_is s ino closed =
    ap (λ (tail : ℕ). take tail (cell_at s ino).chain.entries)
    (closed_tail s.book.journals ino (cell_at s ino).chain.tail closed)

empty_shaped : (block : ℕ) → IsLeftShaped block []
empty_shaped block = record { some = (None, tt); lawful = λ runs. tt; last = tt }

pub all_shaped : (block : ℕ) (s : Shared) → AreClosed s.book.journals
    → ((ino : ℕ) → ino < length s.cells → IsLeftShaped block (log_of (cell_at s ino)))
    → AreShaped block s
all_shaped block s closed each ino =
    subst (IsLeftShaped block) (sym (settled_is s ino closed))
    (elim (cases_lt ino (length s.cells)) [
      | inl lt ↦ each ino lt
      | inr past ↦
          subst (λ (c : CellState). IsLeftShaped block (log_of c))
          (sym (get_or_past s.cells ino no_cell past)) (empty_shaped block)
    ])

pub all_sound : (many : ℕ) (w : World) → AreClosed w.shared.book.journals
    → IsEachOnce many (all_blocks w)
    → ((ino : ℕ) → ino < length w.shared.cells → IsCell (cell_at w.shared ino))
    → ((ino : ℕ) → ino < length w.shared.cells
    → IsLeftShaped (cell_at w.shared ino).block (log_of (cell_at w.shared ino)))
    → ((ino : ℕ) → ino < length w.shared.cells → EndsAtSize (cell_at w.shared ino))
    → AreSound w.shared
all_sound many w closed once cells shaped ends ino =
    subst (IsSoundIn (cell_at w.shared ino)) (sym (settled_is w.shared ino closed))
    (elim (cases_lt ino (length w.shared.cells)) [
      | inl lt ↦ shaped_sound (cell_at w.shared ino) (bytes_among (cell_at w.shared ino).blocks)
          (cells ino lt)
          (among_at (cell_at w.shared ino).blocks (cells_apart many w once ino)) (ends ino lt)
          (shaped ino lt)
      | inr past ↦
          subst (λ (c : CellState). IsSoundIn c (log_of c))
          (sym (get_or_past w.shared.cells ino no_cell past))
          (empty_sound (bytes_among []) 0)
    ])
