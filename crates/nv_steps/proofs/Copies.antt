-- The node that a slot has at the end of an epoch, by the slot's cell alone.
use Rattle.std.proofs.Common.{◌≡◌, ℕ, ◌==◌, ◌∙◌, if◌then◌else◌, Bool, true, false, List, Option, Some, None, ap, refl, subst, sym}
use Rattle.std.specs.Prelude.{option_map}
use Rattle.std.specs.Option.{ForSome}
use Rattle.nv_base.specs.declared.numbers.Handle.{Handle}
use Rattle.nv_cell.specs.Cell.{CellState, CellValue}
use Rattle.nv_entry.specs.declared.node.NodeCopy.{NodeCopy}
use Rattle.nv_machine.specs.SnapshotOrCleaner.{copies_at}
use Rattle.nv_machine.specs.Reads.{bytes_among}
use Rattle.nv_machine.specs.World.{Shared, cell_at, no_cell}
use Rattle.nv_reader.specs.Nodes.{IsWhole, copy_in}
use Rattle.nv_steps.proofs.Looks.{IsCellOf}

-- the bytes of the blocks of a slot's cell
abbrev pub bytes_at : Shared → ℕ → ℕ → List ℕ
bytes_at s ino = bytes_among (cell_at s ino).blocks

-- what the cell of a slot has, the lent one has
pub whole_lent : {A : Type 0} (s : Shared) (epoch ino : ℕ) (value : A → CellValue) (cell : Option A) → IsCellOf s ino value cell
    → IsWhole (bytes_at s ino) epoch (cell_at s ino) → ForSome cell (λ c. IsWhole (bytes_at s ino) epoch (value c).state)
whole_lent {A} s epoch ino value cell is whole c some =
    subst (IsWhole (bytes_at s ino) epoch) (subst (λ (o : Option A). IsCellOf s ino value o) some is) whole

-- a slot that is not there has no node at any epoch
no_copy : (s : Shared) (epoch : ℕ) (handle : Handle) → cell_at s handle.ino ≡ no_cell → copies_at s epoch handle ≡ None
no_copy s epoch handle same =
    ap (λ (v : CellState). copy_in (bytes_among v.blocks) (Some v) epoch handle) same ∙ go None (handle.generation == no_cell.generation)
  where
    go : (n : Option NodeCopy) (b : Bool) → (if b then n else n) ≡ n
    go n true = refl
    go n false = refl

-- the node by a lent cell is that of the world
pub copy_lent : {A : Type 0} (s : Shared) (epoch : ℕ) (handle : Handle) (value : A → CellValue) (cell : Option A)
    → IsCellOf s handle.ino value cell
    → copy_in (bytes_at s handle.ino) (option_map (λ c. (value c).state) cell) epoch handle ≡ copies_at s epoch handle
copy_lent s epoch handle value None none = sym (no_copy s epoch handle none)
copy_lent s epoch handle value (Some c) is =
    ap (λ (v : CellState). copy_in (bytes_at s handle.ino) (Some v) epoch handle) (sym is)
