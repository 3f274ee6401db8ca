-- What contracts see of a `NameIndex`: its names, each with its binding, by look-up and in the
-- order of the entries that bound them.
use Rattle.std.specs.Prelude.{◌≡◌, ℕ, ◌<◌, if◌then◌else◌, List, [], ◌∷◌, Option, Some, None, map, IsSome, IsTrue}
use Rattle.std.specs.Global.{Vec}
use Rattle.std.specs.List.{AllByRecursion, IsDistinct}
use Rattle.std.specs.Map.{keys_of, lookup}
use denote.Ref.{Bor}
use Rattle.nv_base.specs.Names.{is_lawful_name, same_name}
use Rattle.nv_base.specs.Ids.{IsIdBefore}
use Rattle.nv_nindex.specs.declared.binding.Binding.{Binding}

-- what contracts see of a name index
pub record Names : Type 0 where
  -- the bound names, each with its binding, in no order that is told
  pub names : List (List ℕ × Binding)
  -- the name that stands reserved, if any; it is not among the bound ones
  pub reserved : Option (List ℕ)

-- what a name is bound to
abbrev pub binding_of : List ℕ → List (List ℕ × Binding) → Option Binding
binding_of name names = lookup (same_name name) names

-- each name is bound to the same handle by the same entry in both
abbrev pub HaveSameBindings : List (List ℕ × Binding) → List (List ℕ × Binding) → Type 0
HaveSameBindings old new = (name : List ℕ) → binding_of name new ≡ binding_of name old

-- one name is bound to this now, or unbound at `None`, and each other name is bound as before
abbrev pub Rebinds : List (List ℕ × Binding) → List (List ℕ × Binding) → List ℕ → Option Binding → Type 0
Rebinds old new name to = (other : List ℕ) → binding_of other new ≡ (if same_name name other then to else binding_of other old)

-- no name stands twice
abbrev pub AreDistinct : List (List ℕ × Binding) → Type 0
AreDistinct names = IsDistinct same_name (keys_of names)

-- each name is lawful
abbrev pub AreLawful : List (List ℕ × Binding) → Type 0
AreLawful names = AllByRecursion (λ bound. IsTrue (is_lawful_name bound.0)) names

-- the entry that bound a name stands before those that bound the later names
abbrev pub AreRising : List (List ℕ × Binding) → Type 0
AreRising [] = Unit {0}
AreRising (bound ∷ later) = AllByRecursion (λ next. IsIdBefore bound.1.entry next.1.entry) later × AreRising later

-- no entry that bound a later name stands before the entry that bound an earlier one
abbrev pub AreInOrder : List (List ℕ × Binding) → Type 0
AreInOrder [] = Unit {0}
AreInOrder (bound ∷ later) = AllByRecursion (λ next. ¬ IsIdBefore next.1.entry bound.1.entry) later × AreInOrder later

-- a list has the names of an index
pub record IsListOf (names listed : List (List ℕ × Binding)) : Type 0 where
  -- each name is bound in the list as it is in the index
  pub same : HaveSameBindings names listed
  -- no name stands twice in the list
  pub distinct : AreDistinct listed
  -- the names stand in the order of the entries that bound them
  pub in_order : AreInOrder listed

-- what holds of each name index, which has room for so many more names
pub record IsNameIndex (index : Names) (room : ℕ) : Type 0 where
  -- there is room for the reserved name
  pub has_room : IsSome index.reserved → 0 < room
  -- the reserved name is not bound
  pub unbound : (name : List ℕ) → index.reserved ≡ Some name → binding_of name index.names ≡ None
  -- each bound name is lawful
  pub lawful : (name : List ℕ) → IsSome (binding_of name index.names) → IsTrue (is_lawful_name name)
  -- the reserved name is lawful
  pub reserved_lawful : (name : List ℕ) → index.reserved ≡ Some name → IsTrue (is_lawful_name name)

-- what a binding of the map shows: its key's bytes, and what they are bound to
abbrev pub shown : Vec ℕ × Binding → List ℕ × Binding
shown bound = (bound.0.items, bound.1)

-- what a reader is given: the bytes, and what they are bound to
abbrev pub lent : Bor (List ℕ) × Binding → List ℕ × Binding
lent given = (given.0.now, given.1)
