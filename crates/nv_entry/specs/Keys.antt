-- The keys of an inode, and what an item of its log does to each.
-- A page is a file page, unless it is called a log page.
use Rattle.std.specs.Prelude.{ℕ, ◌+◌, ◌-◌, ◌<◌, ◌&&◌, Bool, true, false, if◌then◌else◌, nat_lt, nat_le, min, List, [], ◌∷◌, map}
use Rattle.std.specs.Int.{div_ceil}
use Rattle.std.specs.List.{range_with_len}
use Rattle.nv_base.specs.Names.{same_name}
use Rattle.nv_base.specs.declared.limits.TheConstants.{FILE_PAGES}
use Rattle.nv_entry.specs.declared.item.BlockRun.{BlockRun}
use Rattle.nv_entry.specs.declared.item.Item.{Item}
use Rattle.nv_entry.specs.declared.item.Item.TheVariants.{Init, Write, SetSize, SetMode, Bind, Unbind, Gone}
use Rattle.nv_entry.specs.declared.key.Key.{Key as CodeKey}
use Rattle.nv_entry.specs.declared.key.Key.TheVariants as code
use Rattle.nv_entry.specs.declared.key.Datum.TheVariants as datum
use Rattle.nv_entry.specs.declared.key.Setting.{Setting}
use Rattle.nv_entry.specs.declared.key.Setting.TheVariants.{Untouched, Absent, Present}
use Rattle.nv_entry.specs.declared.part.Part.{Part}
use Rattle.nv_entry.specs.declared.part.Part.TheVariants as part

-- what of an inode can have a value
pub data Key : Type 0 where
  -- whether it is a file or a directory
  KindKey : Key
  -- its mode, 0 to 4,095
  ModeKey : Key
  -- how many bytes a file has; 0 for a directory
  SizeKey : Key
  -- the handle that a directory binds this name to
  NameKey : (name : List ℕ) → Key
  -- the block that this page of a file stands in; a file has pages below 65,536
  PageKey : (page : ℕ) → Key

-- the key that the code names so
abbrev pub key_named : CodeKey → Key
key_named code.Kind = KindKey
key_named code.Mode = ModeKey
key_named code.Size = SizeKey
key_named (code.Name name) = NameKey name.now
key_named (code.Page page) = PageKey page

-- the key is a page: to others the size of blocks says nothing
abbrev pub is_page_key : Key → Bool
is_page_key KindKey = false
is_page_key ModeKey = false
is_page_key SizeKey = false
is_page_key (NameKey name) = false
is_page_key (PageKey page) = true

-- a file has pages below 65,536 alone
abbrev pub is_page : ℕ → Bool
is_page page = nat_lt page FILE_PAGES

-- a page that a file can have, or a key that is no page
abbrev pub IsFileKey : Key → Type 0
IsFileKey (PageKey page) = page < FILE_PAGES
IsFileKey key = Unit {0}

-- how many pages hold that many bytes, with blocks of `block` bytes
abbrev pub pages_for : ℕ → ℕ → ℕ
pages_for block size = div_ceil size block

-- the page is one of a run's pages, the first of which is `first`
abbrev pub in_run : ℕ → BlockRun → ℕ → Bool
in_run first run page = nat_le first page && nat_lt page (first + run.len) && is_page page

-- the page is past a file's size, and one that a file can have
abbrev pub is_past : ℕ → ℕ → ℕ → Bool
is_past block size page = nat_le (pages_for block size) page && is_page page

-- what an item sets a key to: untouched, absent, or present with a value.
-- Example: with blocks of 4 bytes, `SetSize{5}` sets the size to 5 and the pages 2, 3,
-- .. to absent. It leaves page 1 untouched, which has the byte at 4 and, after a
-- write, bytes past the size. So to cut inside a block is a Write of that page with
-- zeros from the size on, and then the SetSize.
abbrev pub sets : ℕ → Item → Key → Setting
sets block (Init kind mode) KindKey = Present (datum.Kind kind)
sets block (Init kind mode) ModeKey = Present (datum.Mode mode)
sets block (Init kind mode) SizeKey = Present (datum.Size 0)
sets block (Init kind mode) key = Untouched
sets block (Write first run size) SizeKey = Present (datum.Size size)
sets block (Write first run size) (PageKey page) =
    if in_run first run page then Present (datum.Block (run.start + (page - first))) else Untouched
sets block (Write first run size) key = Untouched
sets block (SetSize size) SizeKey = Present (datum.Size size)
sets block (SetSize size) (PageKey page) = if is_past block size page then Absent else Untouched
sets block (SetSize size) key = Untouched
sets block (SetMode mode) ModeKey = Present (datum.Mode mode)
sets block (SetMode mode) key = Untouched
sets block (Bind name to) (NameKey other) = if same_name name other then Present (datum.Node to) else Untouched
sets block (Bind name to) key = Untouched
sets block (Unbind name) (NameKey other) = if same_name name other then Absent else Untouched
sets block (Unbind name) key = Untouched
sets block Gone (PageKey page) = if is_page page then Absent else Untouched
sets block Gone key = Absent

-- the setting is to a value or to absent
abbrev pub touches : Setting → Bool
touches Untouched = false
touches Absent = true
touches (Present value) = true

-- an item covers the keys that it does not leave untouched
abbrev pub covers : ℕ → Item → Key → Bool
covers block item key = touches (sets block item key)

-- the pages of a run that a file can have
abbrev pub run_pages : ℕ → BlockRun → List ℕ
run_pages first run = range_with_len first (min run.len (FILE_PAGES - first))

-- the parts of an entry with that item: the keys that it sets to a value, by kind, mode, size,
-- name, and then pages rising
abbrev pub parts_of : Item → List Part
parts_of (Init kind mode) = part.Kind ∷ part.Mode ∷ part.Size ∷ []
parts_of (Write first run size) = part.Size ∷ map part.Page (run_pages first run)
parts_of (SetSize size) = part.Size ∷ []
parts_of (SetMode mode) = part.Mode ∷ []
parts_of (Bind name to) = part.Bound ∷ []
parts_of (Unbind name) = []
parts_of Gone = []

-- the name that an item binds or unbinds; no bytes where it does neither
abbrev pub name_of : Item → List ℕ
name_of (Init kind mode) = []
name_of (Write first run size) = []
name_of (SetSize size) = []
name_of (SetMode mode) = []
name_of (Bind name to) = name
name_of (Unbind name) = name
name_of Gone = []

-- the key of a part of an entry with that item
abbrev pub key_of : Item → Part → Key
key_of item part.Kind = KindKey
key_of item part.Mode = ModeKey
key_of item part.Size = SizeKey
key_of item part.Bound = NameKey (name_of item)
key_of item (part.Page page) = PageKey page
