-- A new world: no journal notes anything, each slot's cell is the root's or empty, and all logs are settled.
use Rattle.std.proofs.Common.{◌≡◌, ◌∙◌, ℕ, zero, suc, ◌-◌, ◌≤◌, [], ap, arith, length, refl, replicate, take}
use Rattle.std.specs.Prelude.{slice_index_or}
use Rattle.nv_base.specs.declared.geometry.GeometryNumbers.{GeometryNumbers}
use Rattle.nv_cell.specs.Cell.{CellState, empty_cell}
use Rattle.nv_machine.specs.Format.{formatted, root_cell}
use Rattle.nv_machine.specs.Kept.{AreClosed}
use Rattle.nv_machine.specs.Settled.{settled}
use Rattle.nv_machine.specs.World.{cell_at, no_cell}
use Rattle.nv_machine.proofs.Journals.{closed_tail}
use Rattle.nv_machine.proofs.LocksOverEvents.{many_same}

empties : (P : CellState → Type 0) (c : CellState) (many n : ℕ) → P c → (many ≤ n → P no_cell)
    → P (slice_index_or (replicate many c) n no_cell)
empties P c zero n here past = past (omega arith)
empties P c (suc many) zero here past = here
empties P c (suc many) (suc n) here past = empties P c many n here (λ le. past (omega (arith, le)))

-- what holds of the root's cell, of empty ones, and past the slots
pub new_cell : (g : GeometryNumbers) (P : ℕ → CellState → Type 0) → P 0 (root_cell g)
    → ((n : ℕ) → P (suc n) (empty_cell g.block g.page 1 0))
    → ((n : ℕ) → length (formatted g).shared.cells ≤ suc n → P (suc n) no_cell) → (ino : ℕ) → P ino (cell_at (formatted g).shared ino)
new_cell g P root empty past zero = root
new_cell g P root empty past (suc ino) =
    let empty_one : CellState = empty_cell g.block g.page 1 0 in
    empties (P (suc ino)) empty_one (g.inodes - 1) ino (empty ino) (λ le. past ino (omega (arith, le, many_same (g.inodes - 1) empty_one)))

pub each_cell : (g : GeometryNumbers) (P : CellState → Type 0) → P (root_cell g)
    → ((block page generation : ℕ) → P (empty_cell block page generation 0)) → (ino : ℕ) → P (cell_at (formatted g).shared ino)
each_cell g P root empty = new_cell g (λ (n : ℕ). P) root (λ n. empty g.block g.page 1) (λ n past. empty 0 0 0)

pub none_closed : (n : ℕ) → AreClosed (replicate n [])
none_closed zero = tt
none_closed (suc n) = (refl, none_closed n)

pub new_tails : (g : GeometryNumbers) (ino : ℕ)
    → (cell_at (formatted g).shared ino).chain.tail ≡ length (cell_at (formatted g).shared ino).chain.entries
new_tails g = each_cell g (λ (c : CellState). c.chain.tail ≡ length c.chain.entries) refl (λ block page generation. refl)

pub new_settled : (g : GeometryNumbers) (ino : ℕ) → settled (formatted g).shared ino ≡ (cell_at (formatted g).shared ino).chain.entries
new_settled g ino =
    let c = cell_at (formatted g).shared ino in
    ap (λ (tail : ℕ). take tail c.chain.entries)
    (closed_tail (formatted g).shared.book.journals ino c.chain.tail (none_closed g.cpus))
    ∙ each_cell g (λ (x : CellState). take x.chain.tail x.chain.entries ≡ x.chain.entries) refl (λ block page generation. refl) ino
