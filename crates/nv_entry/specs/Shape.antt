-- The shape of a log: the items that it can take, one after another, by the kind of its node.
use Rattle.std.specs.Prelude.{◌≢◌, ℕ, ◌+◌, ◌*◌, ◌<◌, ◌≤◌, List, [], ◌∷◌, map, Option, Some, None, IsTrue}
use Rattle.nv_base.specs.Names.{is_lawful_name}
use Rattle.nv_base.specs.declared.limits.TheConstants.{FILE_PAGES}
use Rattle.nv_base.specs.declared.node.Kind.{Kind}
use Rattle.nv_base.specs.declared.node.Kind.TheVariants.{File, Dir}
use Rattle.nv_entry.specs.declared.item.Entry.{Entry}
use Rattle.nv_entry.specs.declared.item.Item.{Item}
use Rattle.nv_entry.specs.declared.item.Item.TheVariants.{Init, Write, SetSize, SetMode, Bind, Unbind, Gone}

-- an item may come next in a log whose node has this kind so far, or none.
-- Init begins an inode. Write and SetSize are a file's, within the greatest file. Bind and Unbind
-- are a directory's, of lawful names. SetMode and Gone are of both.
abbrev pub IsLawful : ℕ → Item → Option Kind → Type 0
IsLawful block (Init kind mode) None = Unit {0}
IsLawful block (Write first run size) (Some File) = (0 < run.len) × (first + run.len ≤ FILE_PAGES) × (size ≤ FILE_PAGES * block)
IsLawful block (SetSize size) (Some File) = size ≤ FILE_PAGES * block
IsLawful block (SetMode mode) (Some kind) = Unit {0}
IsLawful block (Bind name to) (Some Dir) = IsTrue (is_lawful_name name)
IsLawful block (Unbind name) (Some Dir) = IsTrue (is_lawful_name name)
IsLawful block Gone (Some kind) = Unit {0}
IsLawful block item before = ⊥

-- the kind of a node after one more item
abbrev pub kind_after : Item → Option Kind → Option Kind
kind_after (Init kind mode) before = Some kind
kind_after Gone before = None
kind_after item before = before

-- the items are lawful one after another, from a kind or from none on
abbrev pub AreLawful : ℕ → List Item → Option Kind → Type 0
AreLawful block [] before = Unit {0}
AreLawful block (item ∷ items) before = IsLawful block item before × AreLawful block items (kind_after item before)

-- the items of a log, in order
abbrev pub items_of : List Entry → List Item
items_of log = map (λ (e : Entry). e.item) log

-- nothing stands behind a Gone
abbrev pub IsGoneLast : List Item → Type 0
IsGoneLast [] = Unit {0}
IsGoneLast (item ∷ []) = Unit {0}
IsGoneLast (item ∷ next ∷ items) = (item ≢ Gone) × IsGoneLast (next ∷ items)

-- a log is of its shape.
-- Example: Init of a file, Write and SetSize are of the shape. A Bind behind them is not, and
-- neither is a SetMode behind a Gone.
pub record IsShaped (block : ℕ) (log : List Entry) : Type 0 where
  -- each item is lawful for the kind that those before it give, from none on
  pub lawful : AreLawful block (items_of log) None
  -- nothing stands behind a Gone
  pub last : IsGoneLast (items_of log)
