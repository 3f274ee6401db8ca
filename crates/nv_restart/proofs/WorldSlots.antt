-- The slots of a world's image are those of its cells, and its cut logs the settled ones.
use Rattle.std.proofs.Common.{◌≡◌, ℕ, ◌<◌, ◌∙◌, inl, inr, Bool, true, ap, cond, length, subst, sym, take}
use Rattle.std.proofs.Math.ListN.{get_or-map}
use Rattle.std.proofs.lemmas.Bool.{cases_lt}
use Rattle.std.proofs.lemmas.List.{get_or_past}
use Rattle.nv_audit.specs.Image.{SlotImageValue, slot_of}
use Rattle.nv_audit.specs.Mounted.{are_journals_good, cut_log}
use Rattle.nv_cell.specs.Cell.{CellState}
use Rattle.nv_journal.specs.Journal.{settled_tail}
use Rattle.nv_machine.specs.Settled.{settled}
use Rattle.nv_machine.specs.World.{Shared, World, cell_at, no_cell}
use Rattle.nv_restart.specs.Restarted.{image_of, slot_image}

-- what holds of the cell of each slot and of none holds of any
pub at_cell : (P : CellState → Type 0) (s : Shared) (ino : ℕ)
    → (ino < length s.cells → P (cell_at s ino)) → P no_cell → P (cell_at s ino)
at_cell P s ino each none = elim (cases_lt ino (length s.cells)) [
  | inl lt ↦ each lt
  | inr past ↦ subst P (sym (get_or_past s.cells ino no_cell past)) none
]

pub slot_is : (w : World) (ino : ℕ) → slot_of (image_of w) ino ≡ slot_image (cell_at w.shared ino)
slot_is w ino = get_or-map slot_image w.shared.cells ino no_cell

pub cut_is : (w : World) (ino : ℕ) → are_journals_good (image_of w) ≡ true
    → cut_log (image_of w) ino ≡ settled w.shared ino
cut_is w ino good =
    ap (λ (b : Bool).
    take
    (cond b
    (settled_tail w.shared.book.journals ino (slot_of (image_of w) ino).chain.tail)
    (slot_of (image_of w) ino).chain.tail)
    (slot_of (image_of w) ino).chain.entries) good
    ∙ ap (λ (slot : SlotImageValue).
    take (settled_tail w.shared.book.journals ino slot.chain.tail) slot.chain.entries)
    (slot_is w ino)
