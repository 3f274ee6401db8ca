-- Names that a log binds stand in it.
use Rattle.std.proofs.Common.{◌≡◌, ℕ, ◌⊎◌, inl, inr, Bool, true, false, cond, List, [], ◌∷◌, ◌++◌, not, None, refl, sym, ◌∙◌, subst, true≢false}
use Rattle.std.specs.Prelude.{◌&&◌, IsOk, OnOk, Result, Ok, Err}
use Rattle.std.specs.List.{AllByRecursion, flat_map}
use Rattle.std.proofs.lemmas.List.Elements.{recursion_from_All}
use Rattle.std.proofs.lemmas.List.Concat.{flat_map-cons}
use Rattle.nv_base.specs.Names.{same_name}
use Rattle.nv_entry.specs.declared.item.Entry.{Entry}
use Rattle.nv_entry.specs.declared.item.Item.{Item}
use Rattle.nv_entry.specs.declared.item.Item.TheVariants.{Init, Write, SetSize, SetMode, Bind, Unbind, Gone}
use Rattle.nv_entry.specs.Covered.{any_cover}
use Rattle.nv_entry.specs.Keys.{NameKey, name_of}
use Rattle.nv_entry.specs.Refs.{binders_of, is_bind}
use Rattle.nv_entry.proofs.Hiding.{same_name-equal}
use Rattle.nv_nindex.specs.declared.binding.Binding.{Binding}
use Rattle.nv_nindex.specs.NameIndex.{HaveSameBindings, binding_of}
use Rattle.nv_cell.specs.Index.{bindings_of, bound_by}
use Rattle.nv_audit.specs.Names.{AreIndexNames, AreLogNames, IsItemName, IsNameOf, NameTable, TellsNames}

abbrev Bound : Type 0
Bound = List ℕ × Binding

abbrev binding_list : List Entry → List Bound
binding_list es = flat_map (λ (e : Entry). bound_by e.id e.item) es

-- what holds of each name of a list holds of a name that is bound in it
bound_there : (P : List ℕ → Type 0) (name : List ℕ) (bs : List Bound) → AllByRecursion (λ (b : Bound). P b.0) bs
    → (binding_of name bs ≡ None) ⊎ P name
bound_there P name [] h = inl refl
bound_there P name (b ∷ bs) h = go (same_name name b.0) refl (bound_there P name bs h.1) where
  go : (t : Bool) → same_name name b.0 ≡ t → (binding_of name bs ≡ None) ⊎ P name → (binding_of name (b ∷ bs) ≡ None) ⊎ P name
  go true e rest = inr (subst P (sym (same_name-equal name b.0 e)) h.0)
  go false e (inl none) = inl (rw e none)
  go false e (inr p) = inr p

-- what holds of the name of each binding entry
abbrev OfItem : (List ℕ → Type 0) → Item → Type 0
OfItem P (Bind name to) = P name
OfItem P item = Unit {0}

-- holds of each name that the log binds
log_bound : (P : List ℕ → Type 0) (es : List Entry) → AllByRecursion (λ (e : Entry). OfItem P e.item) es
    → AllByRecursion (λ (b : Bound). P b.0) (bindings_of es)
log_bound P [] h = tt
log_bound P (e ∷ es) h = go (is_bind e.item && not (any_cover 1 es (NameKey (name_of e.item)))) (log_bound P es h.1) where
  one : (item : Item) → OfItem P item → (rest : List Bound) → AllByRecursion (λ (b : Bound). P b.0) rest
      → AllByRecursion (λ (b : Bound). P b.0) (bound_by e.id item ++ rest)
  one (Bind name to) p rest all = (p, all)
  one (Init kind mode) p rest all = all
  one (Write first run size) p rest all = all
  one (SetSize size) p rest all = all
  one (SetMode mode) p rest all = all
  one (Unbind name) p rest all = all
  one Gone p rest all = all

  go : (t : Bool) → AllByRecursion (λ (b : Bound). P b.0) (bindings_of es)
      → AllByRecursion (λ (b : Bound). P b.0) (binding_list (cond t (e ∷ binders_of es) (binders_of es)))
  go true rest = subst (λ (bs : List Bound). AllByRecursion (λ (b : Bound). P b.0) bs)
      (sym (flat_map-cons (λ (x : Entry). bound_by x.id x.item) e (binders_of es))) (one e.item h.0 (bindings_of es) rest)
  go false rest = rest

as_item : (table : NameTable) (names : List Bound) (item : Item) → IsItemName table names item → OfItem (IsNameOf table names) item
as_item table names (Bind name to) h = h
as_item table names (Init kind mode) h = tt
as_item table names (Write first run size) h = tt
as_item table names (SetSize size) h = tt
as_item table names (SetMode mode) h = tt
as_item table names (Unbind name) h = tt
as_item table names Gone h = tt

as_items : (table : NameTable) (names : List Bound) (es : List Entry) → AllByRecursion (λ (e : Entry). IsItemName table names e.item) es
    → AllByRecursion (λ (e : Entry). OfItem (IsNameOf table names) e.item) es
as_items table names [] h = tt
as_items table names (e ∷ es) h = (as_item table names e.item h.0, as_items table names es h.1)

-- names that are told alike by the log's entries and by the list are told alike, where a table tells those of the log
pub same_of_both : (log : List Entry) (table : NameTable) (names : List Bound) → TellsNames log table → AreLogNames table names log
    → AreIndexNames table names names → HaveSameBindings (bindings_of log) names
same_of_both log table names tells first second name =
    let P : List ℕ → Type 0 = IsNameOf table names in
    elim (bound_there P name (bindings_of log)
    (log_bound P log (as_items table names log (recursion_from_All (λ (e : Entry). IsItemName table names e.item) log first)))) [
      | inr same ↦ same ∙ tells name
      | inl none ↦ elim (bound_there P name names (recursion_from_All (λ (b : Bound). P b.0) names second)) [
        | inr same ↦ same ∙ tells name
        | inl also ↦ also ∙ sym none
      ]
    ]

-- names that are told alike are so for each item, and at each place of the list
pub same_name_of : (log : List Entry) (table : NameTable) (names : List Bound) → TellsNames log table
    → HaveSameBindings (bindings_of log) names → (name : List ℕ) → IsNameOf table names name
same_name_of log table names tells same name = same name ∙ sym (tells name)

pub same_item : (table : NameTable) (names : List Bound) → ((name : List ℕ) → IsNameOf table names name) → (item : Item)
    → IsItemName table names item
same_item table names same (Bind name to) = same name
same_item table names same (Init kind mode) = tt
same_item table names same (Write first run size) = tt
same_item table names same (SetSize size) = tt
same_item table names same (SetMode mode) = tt
same_item table names same (Unbind name) = tt
same_item table names same Gone = tt

-- what holds of a value holds where there is one
pub if_ok : {T E P : Type 0} (r : Result T E) → IsOk r → OnOk r P → P
if_ok (Ok x) is p = p
if_ok (Err e) is p = absurd (true≢false (sym is))
