-- The shape of a log that cleaners may have cleaned.
use Rattle.std.specs.Prelude.{◌≡◌, ℕ, List, Option, None, false}
use Rattle.nv_base.specs.declared.node.Kind.{Kind}
use Rattle.nv_cell.specs.Readers.{is_gone}
use Rattle.nv_entry.specs.Shape.{AreLawful, IsGoneLast, items_of}
use Rattle.nv_entry.specs.declared.item.Entry.{Entry}

-- a log that cleaners may have cleaned is of its shape.
-- Example: Write and Gone, whose Init was taken out.
pub record IsLeftShaped (block : ℕ) (log : List Entry) : Type 0 where
  -- its items are lawful one after another, from some kind or from none on
  pub some : (before : Option Kind) × AreLawful block (items_of log) before
  -- they are lawful from none on, unless the inode is gone
  pub lawful : is_gone log ≡ false → AreLawful block (items_of log) None
  -- nothing stands behind a Gone
  pub last : IsGoneLast (items_of log)
