-- What entries ask of an index of names before they take effect.
use Rattle.std.specs.Prelude.{◌≡◌, ◌||◌, false, List, [], ◌∷◌, map}
use Rattle.std.specs.List.{AllByRecursion}
use Rattle.nv_entry.specs.declared.item.Entry.{Entry}
use Rattle.nv_entry.specs.declared.item.Item.{Item}
use Rattle.nv_entry.specs.declared.item.Item.TheVariants.{Bind}
use Rattle.nv_entry.specs.Keys.{NameKey, covers}
use Rattle.nv_entry.specs.Refs.{is_bind}
use Rattle.nv_nindex.specs.NameIndex.{Names}
use Rattle.nv_cell.specs.Index.{NameReady}

-- the items of entries, in order
abbrev pub items_of : List Entry → List Item
items_of entries = map (λ e. e.item) entries

-- an item binds no name itself, and covers none that the other one binds
abbrev pub LeavesName : Item → Item → Type 0
LeavesName item (Bind name to) = (is_bind item || covers 1 item (NameKey name)) ≡ false
LeavesName item other = Unit {0}

-- the items bind at most one name, and none before it covers that name
abbrev pub BindOne : List Item → Type 0
BindOne [] = Unit {0}
BindOne (item ∷ later) = AllByRecursion (LeavesName item) later × BindOne later

-- the items bind no name
abbrev pub BindNone : List Item → Type 0
BindNone items = AllByRecursion (λ item. is_bind item ≡ false) items

-- the name that the items bind, if any, is bound or reserved
abbrev pub NamesReady : List Item → Names → Type 0
NamesReady items names = BindOne items × AllByRecursion (λ item. NameReady item names) items
