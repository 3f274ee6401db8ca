-- What names ask for stays ready while entries take effect.
use Rattle.std.proofs.Common.{◌≡◌, ℕ, zero, suc, ◌<◌, arith, length, take, slice_index_or, Option, Bool, true, false, List, [], ◌∷◌, Some, None, inl, inr, refl, ap, sym, ◌∙◌, subst}
use Rattle.std.specs.Prelude.{Result, Ok, Err, OnOk}
use Rattle.nv_base.specs.declared.fault.Fault.{Fault}
use Rattle.nv_nindex.specs.declared.binding.Binding.{Binding}
use Rattle.std.specs.List.{AllByRecursion}
use Rattle.std.specs.Option.{IsSome}
use Rattle.nv_base.specs.Names.{same_name}
use Rattle.nv_base.specs.declared.numbers.EntryId.{EntryId}
use Rattle.nv_base.specs.declared.numbers.Handle.{Handle}
use Rattle.nv_entry.specs.declared.item.Item.{Item}
use Rattle.nv_entry.specs.declared.item.Item.TheVariants.{Init, Write, SetSize, SetMode, Bind, Unbind, Gone}
use Rattle.nv_entry.specs.Keys.{NameKey, covers}
use Rattle.nv_entry.specs.Refs.{is_bind}
use Rattle.nv_nindex.specs.NameIndex.{Names, binding_of}
use Rattle.nv_cell.specs.Effects.{BindOne, LeavesName, NamesReady}
use Rattle.nv_cell.specs.Index.{NameReady, NamesAfter}

apart : (m name : List ℕ) → covers 1 (Unbind m) (NameKey name) ≡ false → same_name m name ≡ false
apart m name h = go (same_name m name) refl where
  go : (b : Bool) → same_name m name ≡ b → same_name m name ≡ false
  go true q = let z : true ≡ false = rw q at h in cc
  go false q = q

-- the reserved name stays where none is bound
pub reserved_after : (id : EntryId) (item : Item) (old new : Names) → NamesAfter id item old new → is_bind item ≡ false
    → new.reserved ≡ old.reserved
reserved_after id (Bind name to) old new h none = cc
reserved_after id (Unbind name) old new h none = h.1
reserved_after id Gone old new h none = h.1
reserved_after id (Init kind mode) old new h none = ap (λ names. names.reserved) h
reserved_after id (Write first run size) old new h none = ap (λ names. names.reserved) h
reserved_after id (SetSize size) old new h none = ap (λ names. names.reserved) h
reserved_after id (SetMode mode) old new h none = ap (λ names. names.reserved) h

stays : (id : EntryId) (item other : Item) (old new : Names) → NamesAfter id item old new → LeavesName item other → NameReady other old
    → NameReady other new
stays id (Bind m of) (Bind name to) old new h leaves ready = cc
stays id (Unbind m) (Bind name to) old new h leaves ready =
    let same : binding_of name new.names ≡ binding_of name old.names = h.0 name ∙ rw (apart m name leaves) refl in
    elim ready [
      | inl bound ↦ inl (subst IsSome (sym same) bound)
      | inr reserved ↦ inr (h.1 ∙ reserved)
    ]
stays id Gone (Bind name to) old new h leaves ready = cc
stays id (Init kind mode) (Bind name to) old new h leaves ready = subst (NameReady (Bind name to)) (sym h) ready
stays id (Write first run size) (Bind name to) old new h leaves ready = subst (NameReady (Bind name to)) (sym h) ready
stays id (SetSize size) (Bind name to) old new h leaves ready = subst (NameReady (Bind name to)) (sym h) ready
stays id (SetMode mode) (Bind name to) old new h leaves ready = subst (NameReady (Bind name to)) (sym h) ready
stays id item (Unbind name) old new h leaves ready = tt
stays id item Gone old new h leaves ready = tt
stays id item (Init kind mode) old new h leaves ready = tt
stays id item (Write first run size) old new h leaves ready = tt
stays id item (SetSize size) old new h leaves ready = tt
stays id item (SetMode mode) old new h leaves ready = tt

all_stay : (id : EntryId) (item : Item) (later : List Item) (old new : Names) → NamesAfter id item old new
    → AllByRecursion (LeavesName item) later
    → AllByRecursion (λ other. NameReady other old) later → AllByRecursion (λ other. NameReady other new) later
all_stay id item [] old new h leaves ready = tt
all_stay id item (other ∷ later) old new h leaves ready =
    (stays id item other old new h leaves.0 ready.0, all_stay id item later old new h leaves.1 ready.1)

-- once an entry has taken effect, the others' names are ready
pub ready_after : (id : EntryId) (item : Item) (later : List Item) (old new : Names) → NamesAfter id item old new
    → NamesReady (item ∷ later) old → NamesReady later new
ready_after id item later old new h ready = (ready.0.1, all_stay id item later old new h ready.0.0 ready.1.1)

-- ---- the name that items bind is made ready

plain_ready : (item : Item) (names : Names) → is_bind item ≡ false → NameReady item names
plain_ready (Bind name to) names h = cc
plain_ready (Init kind mode) names h = tt
plain_ready (Write first run size) names h = tt
plain_ready (SetSize size) names h = tt
plain_ready (SetMode mode) names h = tt
plain_ready (Unbind name) names h = tt
plain_ready Gone names h = tt

ready_none : (items : List Item) (names : Names) → AllByRecursion (λ item. is_bind item ≡ false) items
    → AllByRecursion (λ item. NameReady item names) items
ready_none [] names h = tt
ready_none (item ∷ items) names h = (plain_ready item names h.0, ready_none items names h.1)

pub none_ready : (items : List Item) (names : Names) → BindOne items → AllByRecursion (λ item. is_bind item ≡ false) items
    → NamesReady items names
none_ready items names one h = (one, ready_none items names h)

-- behind a Bind no other may stand
left_plain : (name : List ℕ) (to : Handle) (other : Item) → LeavesName (Bind name to) other → is_bind other ≡ false
left_plain name to (Bind m of) h = cc
left_plain name to (Init kind mode) h = refl
left_plain name to (Write first run size) h = refl
left_plain name to (SetSize size) h = refl
left_plain name to (SetMode mode) h = refl
left_plain name to (Unbind m) h = refl
left_plain name to Gone h = refl

all_left : (name : List ℕ) (to : Handle) (later : List Item) → AllByRecursion (LeavesName (Bind name to)) later
    → AllByRecursion (λ item. is_bind item ≡ false) later
all_left name to [] h = tt
all_left name to (other ∷ later) h = (left_plain name to other h.0, all_left name to later h.1)

ready_one : (items : List Item) (i : ℕ) (name : List ℕ) (to : Handle) (names : Names) → BindOne items → i < length items
    → slice_index_or items i (Bind name to) ≡ Bind name to
    → AllByRecursion (λ item. is_bind item ≡ false) (take i items) → NameReady (Bind name to) names
    → AllByRecursion (λ item. NameReady item names) items
ready_one [] i name to names one lt is plain ready = tt
ready_one (item ∷ items) zero name to names one lt is plain ready =
    let leaves : AllByRecursion (LeavesName (Bind name to)) items = subst (λ (x : Item). AllByRecursion (LeavesName x) items) is one.0 in
    (subst (λ (x : Item). NameReady x names) (sym is) ready, ready_none items names (all_left name to items leaves))
ready_one (item ∷ items) (suc i) name to names one lt is plain ready =
    (plain_ready item names plain.0, ready_one items i name to names one.1 (omega (arith, lt)) is plain.1 ready)

-- a name that was reserved where it was not bound is ready
reserved_ready : (name : List ℕ) (to : Handle) (old new : Names) → new.names ≡ old.names
    → (binding_of name old.names ≡ None → new.reserved ≡ Some name) → NameReady (Bind name to) new
reserved_ready name to old new same reserved = go (binding_of name old.names) refl where
  go : (o : Option Binding) → binding_of name old.names ≡ o → NameReady (Bind name to) new
  go None q = inr (reserved q)
  go (Some b) q = inl (rw (same, q) refl)

pub one_ready : (items : List Item) (i : ℕ) (name : List ℕ) (to : Handle) (old new : Names) (result : Result (Unit {0}) Fault)
    → BindOne items → i < length items
    → slice_index_or items i (Bind name to) ≡ Bind name to → AllByRecursion (λ item. is_bind item ≡ false) (take i items)
    → new.names ≡ old.names
    → (binding_of name old.names ≡ None → OnOk result (new.reserved ≡ Some name)) → OnOk result (NamesReady items new)
one_ready items i name to old new (Ok u) one lt is plain same reserved =
    (one, ready_one items i name to new one lt is plain (reserved_ready name to old new same reserved))
one_ready items i name to old new (Err fault) one lt is plain same reserved = tt

-- the same of one item
pub name_ready : (name : List ℕ) (to : Handle) (old new : Names) (result : Result (Unit {0}) Fault) → new.names ≡ old.names
    → (binding_of name old.names ≡ None → OnOk result (new.reserved ≡ Some name)) → OnOk result (NameReady (Bind name to) new)
name_ready name to old new (Ok u) same reserved = reserved_ready name to old new same reserved
name_ready name to old new (Err fault) same reserved = tt

pub other_ready : (item : Item) (names : Names) → ((name : List ℕ) (to : Handle) → item ≡ Bind name to → ⊥) → NameReady item names
other_ready (Bind name to) names none = absurd (none name to refl)
other_ready (Init kind mode) names none = tt
other_ready (Write first run size) names none = tt
other_ready (SetSize size) names none = tt
other_ready (SetMode mode) names none = tt
other_ready (Unbind name) names none = tt
other_ready Gone names none = tt

pub ready_at : (items : List Item) (i : ℕ) (name : List ℕ) (to : Handle) (names : Names)
    → AllByRecursion (λ item. NameReady item names) items → i < length items
    → slice_index_or items i (Bind name to) ≡ Bind name to → NameReady (Bind name to) names
ready_at [] i name to names h lt is = absurd (omega arith)
ready_at (item ∷ items) zero name to names h lt is = subst (λ (x : Item). NameReady x names) is h.0
ready_at (item ∷ items) (suc i) name to names h lt is = ready_at items i name to names h.1 (omega (arith, lt)) is
