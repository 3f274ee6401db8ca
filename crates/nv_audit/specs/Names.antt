-- Names that are those of a log.
use Rattle.std.specs.Prelude.{◌≡◌, ℕ, All, List, Option, None, if◌then◌else◌}
use Rattle.std.specs.Map.{lookup}
use Rattle.std.specs.Option.{option_or}
use denote.Ref.{Bor}
use Rattle.nv_base.specs.Names.{same_name}
use Rattle.nv_base.specs.declared.numbers.EntryId.{EntryId}
use Rattle.nv_entry.specs.declared.item.Entry.{Entry}
use Rattle.nv_entry.specs.declared.item.Item.{Item}
use Rattle.nv_entry.specs.declared.item.Item.TheVariants.{Bind}
use Rattle.nv_entry.specs.Keys.{NameKey, covers}
use Rattle.nv_nindex.specs.declared.binding.Binding.{Binding}
use Rattle.nv_nindex.specs.NameIndex.{binding_of}
use Rattle.nv_cell.specs.Index.{bindings_of, bound_by}

-- what a table has at a name
abbrev pub name_in : {V : Type 0} → List (Bor (List ℕ) × V) → List ℕ → Option V
name_in table name = lookup (λ (k : Bor (List ℕ)). same_name name k.now) table

-- names with their bindings
abbrev pub NameTable : Type 0
NameTable = List (Bor (List ℕ) × Binding)

-- a table has of each name what a log binds it to
abbrev pub TellsNames : List Entry → NameTable → Type 0
TellsNames log bound = (name : List ℕ) → name_in bound name ≡ binding_of name (bindings_of log)

-- a name is bound among these as the table tells
abbrev pub IsNameOf : NameTable → List (List ℕ × Binding) → List ℕ → Type 0
IsNameOf bound names name = binding_of name names ≡ name_in bound name

-- the name that an item binds, if it binds one, is bound among these as the table tells
abbrev pub IsItemName : NameTable → List (List ℕ × Binding) → Item → Type 0
IsItemName bound names (Bind name to) = IsNameOf bound names name
IsItemName bound names item = Unit {0}

-- the names that entries bind are bound among these as the table tells
abbrev pub AreLogNames : NameTable → List (List ℕ × Binding) → List Entry → Type 0
AreLogNames bound names entries = All (λ e. IsItemName bound names e.item) entries

-- the listed names are bound among these as the table tells
abbrev pub AreIndexNames : NameTable → List (List ℕ × Binding) → List (List ℕ × Binding) → Type 0
AreIndexNames bound names listed = All (λ b. IsNameOf bound names b.0) listed

-- what one more entry leaves of a name's binding
abbrev pub bound_after : EntryId → Item → List ℕ → Option Binding → Option Binding
bound_after id item name before = option_or (if covers 1 item (NameKey name) then None else before) (binding_of name (bound_by id item))
