-- The index of a file and the names of a directory, from scratch.
use Rattle.std.specs.Prelude.{ℕ, not, if◌then◌else◌, List, [], ◌∷◌, ◌++◌, filter, Option, Some, None, option_and_then}
use Rattle.std.specs.Option.{option_or}
use Rattle.nv_base.specs.Names.{same_name}
use Rattle.nv_base.specs.declared.numbers.Handle.{Handle}
use Rattle.nv_entry.specs.declared.index.PageSource.{PageSource}
use Rattle.nv_entry.specs.declared.names.BoundName.{BoundName}
use Rattle.nv_entry.specs.declared.item.Entry.{Entry}
use Rattle.nv_entry.specs.declared.item.Item.{Item}
use Rattle.nv_entry.specs.declared.item.Item.TheVariants.{Init, Write, SetSize, SetMode, Bind, Unbind, Gone}
use Rattle.nv_entry.specs.declared.key.Datum.TheVariants as datum
use Rattle.nv_entry.specs.declared.key.Setting.{Setting}
use Rattle.nv_entry.specs.declared.key.Setting.TheVariants.{Present}
use Rattle.nv_entry.specs.Keys.{Key, PageKey, NameKey, sets, covers, name_of}
use Rattle.nv_entry.specs.Log.{first_cover}

-- the last entry that covers the key
abbrev pub last_cover : ℕ → List Entry → Key → Option Entry
last_cover block [] key = None
last_cover block (e ∷ later) key = option_or (last_cover block later key) (if covers block e.item key then Some e else None)

-- where a page stands by an entry's setting of it
abbrev pub source_of : Entry → Setting → Option PageSource
source_of e (Present (datum.Block block)) = Some (record { entry = e.id; block = block })
source_of e setting = None

-- the index from scratch: the entry and block that a page's current value stands in, if it has one
abbrev pub page_source : ℕ → List Entry → ℕ → Option PageSource
page_source block log page = option_and_then (λ e. source_of e (sets block e.item (PageKey page))) (last_cover block log (PageKey page))

-- the name that an item binds, if the binding has not died
abbrev pub bound_name : Item → Option ℕ → List BoundName
bound_name (Bind name to) None = record { name = name; to = to } ∷ []
bound_name (Bind name to) (Some death) = []
bound_name (Init kind mode) death = []
bound_name (Write first run size) death = []
bound_name (SetSize size) death = []
bound_name (SetMode mode) death = []
bound_name (Unbind name) death = []
bound_name Gone death = []

-- the names from scratch: the bindings that no later entry covers, in log order. The size of
-- blocks says nothing of names, so that 1 will do.
abbrev pub names_of : List Entry → List BoundName
names_of [] = []
names_of (e ∷ later) = bound_name e.item (first_cover 1 later (NameKey (name_of e.item))) ++ names_of later

-- a list without a name, whose place closes up
abbrev pub without : List ℕ → List BoundName → List BoundName
without name list = filter (λ bound. not (same_name name bound.name)) list

-- a list with this binding of a name as the last
abbrev pub with_last : List ℕ → Handle → List BoundName → List BoundName
with_last name to list = without name list ++ record { name = name; to = to } ∷ []

-- what the first entry of that name in a list is bound to
abbrev pub bound_to : List ℕ → List BoundName → Option Handle
bound_to name [] = None
bound_to name (bound ∷ list) = if same_name name bound.name then Some bound.to else bound_to name list

-- the names after one more item: a bound name goes last, and an unbound name's place closes up.
-- Example: Bind a, Bind b, Bind a again gives b, a.
abbrev pub names_after : Item → List BoundName → List BoundName
names_after (Init kind mode) list = list
names_after (Write first run size) list = list
names_after (SetSize size) list = list
names_after (SetMode mode) list = list
names_after (Bind name to) list = with_last name to list
names_after (Unbind name) list = without name list
names_after Gone list = []
