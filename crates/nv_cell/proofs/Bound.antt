-- The names that a log binds, after one more entry.
use Rattle.std.proofs.Common.{◌≡◌, ℕ, Bool, true, false, not, cond, List, [], ◌∷◌, ◌++◌, filter, Option, Some, None, ◌⊎◌, inl, inr, refl, ap, sym, ◌∙◌}
use Rattle.std.specs.List.{flat_map}
use Rattle.std.proofs.lemmas.Grind.{flat_map-append}
use Rattle.std.proofs.lemmas.List.Concat.{flat_map-cons}
use Rattle.std.specs.Option.{option_or}
use Rattle.nv_base.specs.Names.{same_name}
use Rattle.nv_base.specs.declared.numbers.EntryId.{EntryId}
use Rattle.nv_base.specs.declared.numbers.Handle.{Handle}
use Rattle.nv_entry.specs.declared.item.Entry.{Entry}
use Rattle.nv_entry.specs.declared.item.Item.{Item}
use Rattle.nv_entry.specs.declared.item.Item.TheVariants.{Init, Write, SetSize, SetMode, Bind, Unbind, Gone}
use Rattle.nv_entry.specs.Keys.{NameKey, covers, name_of}
use Rattle.nv_entry.specs.Refs.{binders_of, is_bind}
use Rattle.nv_entry.proofs.Binders.{one_more_ref}
use Rattle.nv_entry.proofs.Hiding.{same_name-self, same_name-equal}
use Rattle.nv_nindex.specs.NameIndex.{HaveSameBindings, Names, binding_of}
use Rattle.nv_nindex.specs.declared.binding.Binding.{Binding}
use Rattle.nv_cell.specs.Index.{NamesAfter, bindings_of, bound_by}

abbrev Bound : Type 0
Bound = List ℕ × Binding

abbrev no_binding : Option Binding
no_binding = None

abbrev all_of : List Entry → List Bound
all_of es = flat_map (λ (e : Entry). bound_by e.id e.item) es

abbrev keeps_name : Item → Entry → Bool
keeps_name item x = not (covers 1 item (NameKey (name_of x.item)))

append_at : (m : List ℕ) (xs ys : List Bound) → binding_of m (xs ++ ys) ≡ option_or (binding_of m xs) (binding_of m ys)
append_at m [] ys = refl
append_at m (x ∷ xs) ys = go (same_name m x.0) (append_at m xs ys) where
  go : (b : Bool) → binding_of m (xs ++ ys) ≡ option_or (binding_of m xs) (binding_of m ys)
      → cond b (Some x.1) (binding_of m (xs ++ ys)) ≡ option_or (cond b (Some x.1) (binding_of m xs)) (binding_of m ys)
  go true h = refl
  go false h = h

one_at : (item : Item) (m : List ℕ) (x : Entry)
    → (binding_of m (bound_by x.id x.item) ≡ None) ⊎ (keeps_name item x ≡ not (covers 1 item (NameKey m)))
one_at item m x = by x.item where
  named : (name : List ℕ) (to : Handle) (b : Bool) → same_name m name ≡ b
      → (cond b (Some (record { to = to; entry = x.id })) no_binding ≡ None) ⊎
      (not (covers 1 item (NameKey name)) ≡ not (covers 1 item (NameKey m)))
  named name to true q = inr (ap (λ (k : List ℕ). not (covers 1 item (NameKey k))) (sym (same_name-equal m name q)))
  named name to false q = inl refl

  by : (i : Item) → (binding_of m (bound_by x.id i) ≡ None) ⊎ (not (covers 1 item (NameKey (name_of i))) ≡ not (covers 1 item (NameKey m)))
  by (Bind name to) = named name to (same_name m name) refl
  by (Init kind mode) = inl refl
  by (Write first run size) = inl refl
  by (SetSize size) = inl refl
  by (SetMode mode) = inl refl
  by (Unbind name) = inl refl
  by Gone = inl refl

-- the names that stay where an item takes out those that it covers
kept_at : (item : Item) (m : List ℕ) (es : List Entry)
    → binding_of m (all_of (filter (keeps_name item) es)) ≡ cond (covers 1 item (NameKey m)) None (binding_of m (all_of es))
kept_at item m [] = none (covers 1 item (NameKey m)) where
  none : (b : Bool) → no_binding ≡ cond b None no_binding
  none true = refl
  none false = refl
kept_at item m (x ∷ es) = go (keeps_name item x) refl (covers 1 item (NameKey m)) refl (kept_at item m es) where
  whole : binding_of m (all_of (x ∷ es)) ≡ option_or (binding_of m (bound_by x.id x.item)) (binding_of m (all_of es))
  whole = ap (binding_of m) (flat_map-cons (λ (e : Entry). bound_by e.id e.item) x es) ∙ append_at m (bound_by x.id x.item) (all_of es)

  more : binding_of m (all_of (x ∷ filter (keeps_name item) es))
      ≡ option_or (binding_of m (bound_by x.id x.item)) (binding_of m (all_of (filter (keeps_name item) es)))
  more =
      ap (binding_of m) (flat_map-cons (λ (e : Entry). bound_by e.id e.item) x (filter (keeps_name item) es))
      ∙ append_at m (bound_by x.id x.item) (all_of (filter (keeps_name item) es))

  go : (k : Bool) → keeps_name item x ≡ k → (c : Bool) → covers 1 item (NameKey m) ≡ c
      → binding_of m (all_of (filter (keeps_name item) es)) ≡ cond (covers 1 item (NameKey m)) None (binding_of m (all_of es))
      → binding_of m (all_of (filter (keeps_name item) (x ∷ es))) ≡ cond (covers 1 item (NameKey m)) None (binding_of m (all_of (x ∷ es)))
  go true p true q ih = rw (p, q) (more ∙ rw (ih, q) (elim (one_at item m x) [
    | inl none ↦ rw none refl
    | inr same ↦ let z : true ≡ false = sym p ∙ same ∙ ap not q in cc
  ]))
  go true p false q ih = rw (p, q) (more ∙ rw (ih, q) (sym whole))
  go false p true q ih = rw (p, q) (ih ∙ rw q refl)
  go false p false q ih = rw (p, q) (ih ∙ rw q (elim (one_at item m x) [
    | inl none ↦ sym (whole ∙ rw none refl)
    | inr same ↦ let z : false ≡ true = sym p ∙ same ∙ ap not q in cc
  ]))

-- what an entry leaves of a name's binding
abbrev pub bound_after : EntryId → Item → List ℕ → Option Binding → Option Binding
bound_after id item m before = option_or (cond (covers 1 item (NameKey m)) None before) (binding_of m (bound_by id item))

-- one more entry leaves of each name the binding that it says
pub after_push : (log : List Entry) (e : Entry) (m : List ℕ)
    → binding_of m (bindings_of (log ++ e ∷ [])) ≡ bound_after e.id e.item m (binding_of m (bindings_of log))
after_push log e m =
    ap (λ (es : List Entry). binding_of m (all_of es)) (one_more_ref 1 log e).binders
    ∙ ap (binding_of m) (flat_map-append (λ (x : Entry). bound_by x.id x.item) (filter (keeps_name e.item) (binders_of log))
    (cond (is_bind e.item) (e ∷ []) []))
    ∙ append_at m (all_of (filter (keeps_name e.item) (binders_of log))) (all_of (cond (is_bind e.item) (e ∷ []) []))
    ∙ ap (λ o. option_or o (binding_of m (all_of (cond (is_bind e.item) (e ∷ []) [])))) (kept_at e.item m (binders_of log))
    ∙ ap (option_or (cond (covers 1 e.item (NameKey m)) None (binding_of m (bindings_of log)))) (own e.item refl)
  where
    own : (i : Item) → e.item ≡ i → binding_of m (all_of (cond (is_bind e.item) (e ∷ []) [])) ≡ binding_of m (bound_by e.id e.item)
    own (Bind name to) q = rw q refl
    own (Init kind mode) q = rw q refl
    own (Write first run size) q = rw q refl
    own (SetSize size) q = rw q refl
    own (SetMode mode) q = rw q refl
    own (Unbind name) q = rw q refl
    own Gone q = rw q refl

or_none : {T : Type 0} (o : Option T) → option_or o None ≡ o
or_none None = refl
or_none (Some x) = refl

names_after : (id : EntryId) (item : Item) (old new : Names) (m : List ℕ) → NamesAfter id item old new
    → binding_of m new.names ≡ bound_after id item m (binding_of m old.names)
names_after id (Bind name to) old new m h = h m ∙ go (same_name name m) refl (same_name m name) refl where
  go : (a : Bool) → same_name name m ≡ a → (b : Bool) → same_name m name ≡ b
      → cond (same_name name m) (Some (record { to = to; entry = id })) (binding_of m old.names)
      ≡ bound_after id (Bind name to) m (binding_of m old.names)
  go true p true q = rw (p, q) refl
  go true p false q = let z : true ≡ false = sym (same_name-self name) ∙ ap (λ k. same_name k name) (same_name-equal name m p) ∙ q in cc
  go false p true q =
      let z : true ≡ false = sym (same_name-self name) ∙ ap (λ k. same_name name k) (sym (same_name-equal m name q)) ∙ p in cc
  go false p false q = rw (p, q) (sym (or_none (binding_of m old.names)))
names_after id (Unbind name) old new m h = h.0 m ∙ go (same_name name m) refl where
  go : (a : Bool) → same_name name m ≡ a
      → cond (same_name name m) None (binding_of m old.names) ≡ bound_after id (Unbind name) m (binding_of m old.names)
  go true p = rw p refl
  go false p = rw p (sym (or_none (binding_of m old.names)))
names_after id Gone old new m h = ap (binding_of m) h.0
names_after id (Init kind mode) old new m h = ap (λ (n : Names). binding_of m n.names) h ∙ sym (or_none (binding_of m old.names))
names_after id (Write first run size) old new m h = ap (λ (n : Names). binding_of m n.names) h ∙ sym (or_none (binding_of m old.names))
names_after id (SetSize size) old new m h = ap (λ (n : Names). binding_of m n.names) h ∙ sym (or_none (binding_of m old.names))
names_after id (SetMode mode) old new m h = ap (λ (n : Names). binding_of m n.names) h ∙ sym (or_none (binding_of m old.names))

-- the names of an index stay those that the log binds
pub bound_push : (log : List Entry) (e : Entry) (old new : Names) → NamesAfter e.id e.item old new
    → HaveSameBindings (bindings_of log) old.names → HaveSameBindings (bindings_of (log ++ e ∷ [])) new.names
bound_push log e old new h same m =
    names_after e.id e.item old new m h ∙ ap (bound_after e.id e.item m) (same m) ∙ sym (after_push log e m)
