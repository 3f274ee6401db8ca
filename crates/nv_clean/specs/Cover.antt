-- What entries cover, as far as a later entry may hide it.
use Rattle.std.specs.Prelude.{◌≡◌, ℕ, ◌+◌, ◌||◌, Bool, true, false, not, if◌then◌else◌, nat_lt, max, min, List, Option, Some, None}
use Rattle.std.specs.List.{list_any}
use Rattle.nv_base.specs.Names.{same_name}
use Rattle.nv_base.specs.declared.limits.TheConstants.{FILE_PAGES}
use Rattle.nv_entry.specs.declared.item.Entry.{Entry}
use Rattle.nv_entry.specs.declared.item.Item.{Item}
use Rattle.nv_entry.specs.declared.item.Item.TheVariants.{Write, SetSize, Bind, Unbind, Gone}
use Rattle.nv_entry.specs.Clean.{covers_from, is_empty}
use Rattle.nv_entry.specs.Keys.{NameKey, covers, pages_for}
use Rattle.nv_clean.specs.declared.cover.Cover.{Cover}

-- the page behind the last that an item covers; 0 where it covers none
abbrev pub reach : ℕ → Item → ℕ
reach block (Write first run size) =
    if nat_lt first (min FILE_PAGES (first + run.len)) then min FILE_PAGES (first + run.len) else 0
reach block (SetSize size) = if nat_lt (pages_for block size) FILE_PAGES then FILE_PAGES else 0
reach block Gone = FILE_PAGES
reach block item = 0

-- the inode is gone with this item
abbrev pub ends_all : Item → Bool
ends_all Gone = true
ends_all item = false

-- the name that an item binds or unbinds, if any
abbrev pub named_by : Item → Option (List ℕ)
named_by (Bind name to) = Some name
named_by (Unbind name) = Some name
named_by item = None

-- the name is there and is this one
abbrev pub is_name : Option (List ℕ) → List ℕ → Bool
is_name None other = false
is_name (Some name) other = same_name name other

-- the item binds or unbinds this name
abbrev pub is_of_name : Item → List ℕ → Bool
is_of_name item other = is_name (named_by item) other

-- the name is among those that are kept
abbrev pub has_name : Cover → List ℕ → Bool
has_name c name = list_any (λ k. same_name name k.now) c.names.keys

-- a cover tells of some entries what a later one may hide
pub record Covers (block : ℕ) (kept : List Entry) (c : Cover) : Type 0 where
  -- it tells whether there is an entry
  pub some : c.some ≡ not (is_empty kept)
  -- a page is below its reach exactly where an entry covers a page from there on
  pub pages : (page : ℕ) → nat_lt page c.reach ≡ list_any (λ e. covers_from block page e.item) kept
  -- the inode is gone, or a name is one of its names, exactly where an entry covers the name
  pub names : (name : List ℕ) → (c.gone || has_name c name) ≡ list_any (λ e. covers block e.item (NameKey name)) kept

-- an item sets a key to absent that one of the entries covers, by their cover.
-- Example: after a Write of pages 2 and 3 the reach is 4, so a
-- cut to 3 pages stays and one to 4 may go.
abbrev pub is_hidden : ℕ → Item → Cover → Bool
is_hidden block (SetSize size) c = nat_lt (pages_for block size) c.reach
is_hidden block (Unbind name) c = c.gone || has_name c name
is_hidden block Gone c = c.some
is_hidden block item c = false

-- a cover has taken in one more item
pub record AddsItem (block : ℕ) (item : Item) (old new : Cover) : Type 0 where
  -- there is an entry
  pub some : new.some ≡ true
  -- the inode is gone if it was, or if the item says so
  pub gone : new.gone ≡ (old.gone || ends_all item)
  -- the reach is the greater of that of before and the item's
  pub reach : new.reach ≡ max old.reach (reach block item)
  -- the names are those of before, with the one that the item binds or unbinds
  pub names : (name : List ℕ) → has_name new name ≡ (has_name old name || is_of_name item name)
