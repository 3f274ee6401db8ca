-- The names of a log, told by its bindings.
use Rattle.std.proofs.Common.{◌≡◌, ◌<◌, ◌⊎◌, inl, inr, arith, zero, suc, ℕ, length, slice_index_or, Bool, true, false, cond, List, [], ◌∷◌, ◌++◌, map, take, Some, None, refl, ap, sym, ◌∙◌, subst}
use Rattle.std.specs.Prelude.{IsTrue}
use denote.Ref.{Bor}
use Rattle.std.specs.List.{AllByRecursion, IsDistinct, flat_map}
use Rattle.std.specs.Map.{keys_of}
use Rattle.std.specs.Option.{option_map}
use Rattle.std.proofs.lemmas.List.Concat.{flat_map-cons}
use Rattle.nv_base.specs.Ids.{IsIdBefore}
use Rattle.nv_base.specs.Names.{is_lawful_name, same_name}
use Rattle.nv_base.specs.declared.fault.Fault.{Fault}
use Rattle.nv_base.specs.declared.fault.Fault.TheVariants.{BadName}
use Rattle.nv_base.specs.Memory.{out_of_memory}
use Rattle.nv_base.specs.declared.numbers.EntryId.{EntryId}
use Rattle.nv_base.specs.declared.numbers.Handle.{Handle}
use Rattle.nv_entry.specs.declared.item.Entry.{Entry}
use Rattle.nv_entry.specs.declared.item.Item.{Item}
use Rattle.nv_entry.specs.declared.item.Item.TheVariants.{Init, Write, SetSize, SetMode, Bind, Unbind, Gone}
use Rattle.nv_entry.specs.declared.names.BoundName.{BoundName}
use Rattle.nv_entry.specs.Bindings.{NamesDiffer}
use Rattle.nv_entry.specs.Index.{bound_name, bound_to, names_of}
use Rattle.nv_entry.specs.Log.{IsLog, MayFollow}
use Rattle.nv_entry.specs.Refs.{binders_of}
use Rattle.nv_entry.proofs.Binders.{names_by_ids}
use Rattle.nv_entry.proofs.NameLookup.{names_differ}
use Rattle.nv_nindex.proofs.Order.{told}
use Rattle.nv_nindex.specs.NameIndex.{AreDistinct, AreLawful, AreRising, HaveSameBindings, IsListOf, binding_of, lent}
use Rattle.nv_nindex.specs.declared.binding.Binding.{Binding}
use Rattle.nv_cell.specs.Index.{bindings_of, bound_by}
use Rattle.nv_cell.specs.Reading.{named}
use Rattle.nv_cell.proofs.ValuesNow.{IsLog-take}

abbrev Bound : Type 0
Bound = List ℕ × Binding

one : (e : Entry) (item : Item) (rest : List Bound) (names : List BoundName) → names ≡ map named rest
    → bound_name item None ++ names ≡ map named (bound_by e.id item ++ rest)
one e (Bind name to) rest names h = ap (λ (xs : List BoundName). record { name = name; to = to } ∷ xs) h
one e (Init kind mode) rest names h = h
one e (Write first run size) rest names h = h
one e (SetSize size) rest names h = h
one e (SetMode mode) rest names h = h
one e (Unbind name) rest names h = h
one e Gone rest names h = h

each : (es : List Entry)
    → flat_map (λ (e : Entry). bound_name e.item None) es ≡ map named (flat_map (λ (e : Entry). bound_by e.id e.item) es)
each [] = refl
each (e ∷ es) =
    flat_map-cons (λ (x : Entry). bound_name x.item None) e es
    ∙ one e e.item (flat_map (λ (x : Entry). bound_by x.id x.item) es) (flat_map (λ (x : Entry). bound_name x.item None) es) (each es)
    ∙ ap (map named) (sym (flat_map-cons (λ (x : Entry). bound_by x.id x.item) e es))

-- the names of a log are those of its bindings
pub names_are : (log : List Entry) → names_of log ≡ map named (bindings_of log)
names_are log = (names_by_ids log).names ∙ each (binders_of log)

abbrev pub to_of : Binding → Handle
to_of b = b.to

found : (name : List ℕ) (bs : List Bound) → bound_to name (map named bs) ≡ option_map to_of (binding_of name bs)
found name [] = refl
found name (b ∷ bs) = go (same_name name b.0) (found name bs) where
  go : (t : Bool) → bound_to name (map named bs) ≡ option_map to_of (binding_of name bs)
      → cond t (Some b.1.to) (bound_to name (map named bs)) ≡ option_map to_of (cond t (Some b.1) (binding_of name bs))
  go true h = refl
  go false h = h

-- a look-up among bindings that are looked up as those of the log
pub bound_is : (log : List Entry) (names : List Bound) (name : List ℕ) → HaveSameBindings (bindings_of log) names
    → bound_to name (names_of log) ≡ option_map to_of (binding_of name names)
bound_is log names name same = ap (bound_to name) (names_are log) ∙ found name (bindings_of log) ∙ ap (option_map to_of) (sym (same name))

apart : (name : List ℕ) (bs : List Bound) → bound_to name (map named bs) ≡ None
    → AllByRecursion (λ y. same_name name y ≡ false) (keys_of bs)
apart name [] h = tt
apart name (b ∷ bs) h = go (same_name name b.0) refl h (apart name bs) where
  go : (t : Bool) → same_name name b.0 ≡ t → cond t (Some b.1.to) (bound_to name (map named bs)) ≡ None
      → (bound_to name (map named bs) ≡ None → AllByRecursion (λ y. same_name name y ≡ false) (keys_of bs))
      → (same_name name b.0 ≡ false) × AllByRecursion (λ y. same_name name y ≡ false) (keys_of bs)
  go true q h rest = cc
  go false q h rest = (q, rest h)

pub distinct : (bs : List Bound) → NamesDiffer (map named bs) → AreDistinct bs
unfolding IsDistinct
distinct [] h = tt
distinct (b ∷ bs) h = (apart b.0 bs h.0, distinct bs h.1)

abbrev bindings_in : List Entry → List Bound
bindings_in es = flat_map (λ (e : Entry). bound_by e.id e.item) es

behind : (id : EntryId) (e : Entry) (item : Item) (rest : List Bound) → IsIdBefore id e.id
    → AllByRecursion (λ (next : Bound). IsIdBefore id next.1.entry) rest
    → AllByRecursion (λ (next : Bound). IsIdBefore id next.1.entry) (bound_by e.id item ++ rest)
behind id e (Bind name to) rest h all = (h, all)
behind id e (Init kind mode) rest h all = all
behind id e (Write first run size) rest h all = all
behind id e (SetSize size) rest h all = all
behind id e (SetMode mode) rest h all = all
behind id e (Unbind name) rest h all = all
behind id e Gone rest h all = all

all_behind : (e : Entry) (es : List Entry) → AllByRecursion (MayFollow e) es
    → AllByRecursion (λ (next : Bound). IsIdBefore e.id next.1.entry) (bindings_in es)
all_behind e [] h = tt
all_behind e (x ∷ es) h =
    subst (λ (bs : List Bound). AllByRecursion (λ (next : Bound). IsIdBefore e.id next.1.entry) bs)
    (sym (flat_map-cons (λ (y : Entry). bound_by y.id y.item) x es))
    (behind e.id x x.item (bindings_in es) h.0.id_rises (all_behind e es h.1))

first_rising : (e : Entry) (item : Item) (rest : List Bound) → AllByRecursion (λ (next : Bound). IsIdBefore e.id next.1.entry) rest
    → AreRising rest
    → AreRising (bound_by e.id item ++ rest)
first_rising e (Bind name to) rest all h = (all, h)
first_rising e (Init kind mode) rest all h = h
first_rising e (Write first run size) rest all h = h
first_rising e (SetSize size) rest all h = h
first_rising e (SetMode mode) rest all h = h
first_rising e (Unbind name) rest all h = h
first_rising e Gone rest all h = h

rising : (es : List Entry) → IsLog es → AreRising (bindings_in es)
rising [] h = tt
rising (e ∷ es) h =
    subst AreRising (sym (flat_map-cons (λ (y : Entry). bound_by y.id y.item) e es))
    (first_rising e e.item (bindings_in es) (all_behind e es h.0) (rising es h.1))

-- the list of an index with the bindings of a log has the names of the log
pub listed_is : (t : ℕ) (es : List Entry) (names listed : List Bound) → IsLog es → HaveSameBindings (bindings_of (take t es)) names
    → IsListOf names listed
    → map named listed ≡ names_of (take t es)
listed_is t es names listed is same list =
    let log : List Entry = take t es in
    ap (map named) (told listed (bindings_of log) (λ name. sym (same name) ∙ sym (list.same name)) list.distinct list.in_order
    (distinct (bindings_of log) (subst NamesDiffer (names_are log) (names_differ log)))
    (rising (binders_of log) ((names_by_ids log).rising (IsLog-take t es is))))
    ∙ sym (names_are log)

-- each name of a list is lawful, so that a copy of it fails for want of memory alone
pub lawful_at : (bs : List (Bor (List ℕ) × Binding)) (i : ℕ) (b : Bor (List ℕ) × Binding) → AreLawful (map lent bs) → i < length bs
    → b ≡ slice_index_or bs i b
    → IsTrue (is_lawful_name b.0.now)
lawful_at [] i b all lt q = absurd (omega arith)
lawful_at (x ∷ bs) zero b all lt q = subst (λ (g : Bor (List ℕ) × Binding). IsTrue (is_lawful_name g.0.now)) (sym q) all.0
lawful_at (x ∷ bs) (suc i) b all lt q = lawful_at bs i b all.1 (omega arith) q

pub not_refused : (bytes : List ℕ) (fault : Fault) → IsTrue (is_lawful_name bytes) → (fault ≡ BadName) ⊎ (fault ≡ out_of_memory)
    → (fault ≡ BadName → is_lawful_name bytes ≡ false) → fault ≡ out_of_memory
not_refused bytes fault lawful (inl bad) unlawful =
    let z : is_lawful_name bytes ≡ false = unlawful bad in let y : IsTrue false = subst IsTrue z lawful in cc
not_refused bytes fault lawful (inr memory) unlawful = memory
