-- The first part that differs of parts at rest.
use Rattle.std.proofs.Common.{◌≡◌, ℕ, List, Option, Some, None, inl, sym, subst}
use Rattle.std.specs.Prelude.{MatchOption}
use Rattle.nv_alloc.specs.FreeList.{FreeBlocks}
use Rattle.nv_alloc.specs.InodePool.{FreeInodes}
use Rattle.nv_base.specs.declared.fault.MismatchPart.{MismatchPart}
use Rattle.nv_base.specs.declared.fault.MismatchPart.TheVariants.{Index, Names, Counts, Records, Lists}
use Rattle.nv_base.specs.declared.geometry.GeometryNumbers.{GeometryNumbers}
use Rattle.nv_book.specs.Book.{BookState}
use Rattle.nv_cell.specs.Cell.{CellState}
use Rattle.nv_epoch.specs.SnapList.{ids}
use Rattle.nv_audit.specs.Resting.{HasCounts, HasIndex, HasShape, IsFirstAtRest, IsFirstOfInode, IsFirstOfInodes, IsInodeAtRest}

-- what an audit finds of an inode whose index and names do not differ
pub counts_told : (book : BookState) (ino : ℕ) (cell : CellState) (o : Option MismatchPart) → HasIndex cell
    → HasShape (ids book.snaps) cell
    → MatchOption o (HasCounts book ino cell) (λ p. (p ≡ Counts) × (¬ HasCounts book ino cell))
    → MatchOption o (IsInodeAtRest book ino cell) (λ p. IsFirstOfInode p book ino cell)
counts_told book ino cell None index names told = record { index = index; names = names; counts = told }
counts_told book ino cell (Some p) index names told =
    subst (λ (q : MismatchPart). IsFirstOfInode q book ino cell) (sym told.0) (index, names, told.1)

-- what differs first in an inode does so of all parts
pub first_inode : (part : MismatchPart) (g : GeometryNumbers) (cells : List CellState) (lists : List FreeBlocks) (pool : FreeInodes)
    (book : BookState) → IsFirstOfInodes part book cells → IsFirstAtRest part g cells lists pool book
first_inode Index g cells lists pool book told = told
first_inode Names g cells lists pool book told = inl told
first_inode Counts g cells lists pool book told = told
first_inode Records g cells lists pool book told = absurd told.differs
first_inode Lists g cells lists pool book told = absurd told.differs
