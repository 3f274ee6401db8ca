-- The index of an inode: which part of which entry holds each key's value.
use Rattle.std.specs.Prelude.{◌≡◌, ℕ, ◌+◌, ◌⊎◌, List, [], ◌∷◌, Option, Some, None, IsSome}
use Rattle.std.specs.Option.{option_map}
use Rattle.nv_base.specs.declared.numbers.EntryId.{EntryId}
use Rattle.nv_entry.specs.declared.item.Entry.{Entry}
use Rattle.nv_entry.specs.declared.item.Item.{Item}
use Rattle.nv_entry.specs.declared.item.Item.TheVariants.{Bind, Unbind, Gone}
use Rattle.nv_entry.specs.declared.part_ref.PartRef.{PartRef}
use Rattle.nv_entry.specs.Keys.{Key, KindKey, ModeKey, SizeKey, NameKey, PageKey}
use Rattle.std.specs.List.{flat_map}
use Rattle.nv_entry.specs.Refs.{binders_of, part_ref}
use Rattle.nv_findex.specs.declared.page_ref.PageRef.{PageRef}
use Rattle.nv_findex.specs.Pages.{PageMap, ref_at}
use Rattle.nv_nindex.specs.declared.binding.Binding.{Binding}
use Rattle.nv_nindex.specs.NameIndex.{Names, Rebinds, binding_of}

-- what contracts see of an index
pub record IndexValue : Type 0 where
  -- the part that holds the kind, if one does
  pub kind : Option PartRef
  -- the part that holds the mode, if one does
  pub mode : Option PartRef
  -- the part that holds the size, if one does
  pub size : Option PartRef
  -- where each present page lies, and for how many more page runs there is room
  pub pages : PageMap
  -- the bound names, each with its binding, and the reserved one
  pub names : Names

-- the part that is a page of a Write: the pages stand behind the size among its parts
abbrev pub page_part : PageRef → PartRef
page_part at = part_ref at.entry (at.place + 1)

-- the part that binds a name: the first of its entry
abbrev pub name_part : Binding → PartRef
name_part to = part_ref to.entry 0

-- the part that the index names at a key
abbrev pub ref_of : IndexValue → Key → Option PartRef
ref_of index KindKey = index.kind
ref_of index ModeKey = index.mode
ref_of index SizeKey = index.size
ref_of index (NameKey name) = option_map name_part (binding_of name index.names.names)
ref_of index (PageKey page) = option_map page_part (ref_at index.pages.pages page)

-- the name that an entry with that id and item binds, with its binding, if it binds one
abbrev pub bound_by : EntryId → Item → List (List ℕ × Binding)
bound_by id (Bind name to) = (name, record { to = to; entry = id }) ∷ []
bound_by id item = []

-- the bindings of a log, in the order of their entries
abbrev pub bindings_of : List Entry → List (List ℕ × Binding)
bindings_of log = flat_map (λ e. bound_by e.id e.item) (binders_of log)

-- the name that an item binds is bound or reserved
abbrev pub NameReady : Item → Names → Type 0
NameReady (Bind name to) names = IsSome (binding_of name names.names) ⊎ (names.reserved ≡ Some name)
NameReady item names = Unit {0}

-- the names after an entry with that id and item
abbrev pub NamesAfter : EntryId → Item → Names → Names → Type 0
NamesAfter id (Bind name to) old new = Rebinds old.names new.names name (Some (record { to = to; entry = id }))
NamesAfter id (Unbind name) old new = Rebinds old.names new.names name None × (new.reserved ≡ old.reserved)
NamesAfter id Gone old new = (new.names ≡ []) × (new.reserved ≡ old.reserved)
NamesAfter id item old new = new ≡ old
