-- What is left of a log of its shape, whatever entries are taken out: nothing stands behind a Gone, and behind its first entry
-- each item is lawful for the kind of the node.
use Rattle.std.proofs.Common.{◌≡◌, ◌≢◌, ℕ, Bool, true, false, List, [], ◌∷◌, Some, refl, subst, sym, None, Option}
use Rattle.nv_base.specs.declared.node.Kind.{Kind}
use Rattle.nv_entry.specs.Clean.{select}
use Rattle.nv_entry.specs.Shape.{AreLawful, IsGoneLast, IsLawful, items_of, kind_after}
use Rattle.nv_entry.specs.declared.item.Entry.{Entry}
use Rattle.nv_entry.specs.declared.item.Item.{Item}
use Rattle.nv_entry.specs.declared.item.Item.TheVariants.{Gone, Init}

pub none_left : (flags : List Bool) → select {X = Entry} flags [] ≡ []
none_left [] = refl
none_left (b ∷ flags) = refl

-- ---- nothing stands behind a Gone

behind : (item : Item) (items : List Item) → item ≢ Gone → IsGoneLast items → IsGoneLast (item ∷ items)
behind item [] not last = tt
behind item (next ∷ items) not last = (not, last)

later : (e : Entry) (log : List Entry) → IsGoneLast (items_of (e ∷ log)) → IsGoneLast (items_of log)
later e [] h = tt
later e (f ∷ log) h = h.1

pub left_last : (flags : List Bool) (log : List Entry) → IsGoneLast (items_of log) → IsGoneLast (items_of (select flags log))
left_last [] log h = tt
left_last (b ∷ flags) [] h = tt
left_last (true ∷ flags) (e ∷ []) h = subst (λ (l : List Entry). IsGoneLast (items_of (e ∷ l))) (sym (none_left flags)) tt
left_last (true ∷ flags) (e ∷ f ∷ log) h =
    behind e.item (items_of (select flags (f ∷ log))) h.0 (left_last flags (f ∷ log) h.1)
left_last (false ∷ flags) (e ∷ log) h = left_last flags log (later e log h)

-- ---- behind the first entry

-- an item that is lawful for a kind, and no Gone, leaves the kind
pub kind_stays : (block : ℕ) (item : Item) (kind : Kind) → IsLawful block item (Some kind) → item ≢ Gone
    → kind_after item (Some kind) ≡ Some kind
kind_stays block (Init other mode) kind lawful not = absurd lawful
kind_stays block Gone kind lawful not = absurd (not refl)
kind_stays block other kind lawful not = refl

-- the items behind one, of which there are some only where it is no Gone
rest_lawful : (block : ℕ) (kind : Kind) (e : Entry) (log : List Entry) → AreLawful block (items_of (e ∷ log)) (Some kind)
    → IsGoneLast (items_of (e ∷ log)) → AreLawful block (items_of log) (Some kind)
rest_lawful block kind e [] h last = tt
rest_lawful block kind e (f ∷ log) h last =
    subst (AreLawful block (items_of (f ∷ log))) (kind_stays block e.item kind h.0 last.0) h.1

pub left_lawful : (block : ℕ) (kind : Kind) (flags : List Bool) (log : List Entry) → AreLawful block (items_of log) (Some kind)
    → IsGoneLast (items_of log) → AreLawful block (items_of (select flags log)) (Some kind)
left_lawful block kind [] log h last = tt
left_lawful block kind (b ∷ flags) [] h last = tt
left_lawful block kind (false ∷ flags) (e ∷ log) h last =
    left_lawful block kind flags log (rest_lawful block kind e log h last) (later e log last)
left_lawful block kind (true ∷ flags) (e ∷ []) h last =
    (h.0, subst (λ (l : List Entry). AreLawful block (items_of l) (kind_after e.item (Some kind))) (sym (none_left flags)) tt)
left_lawful block kind (true ∷ flags) (e ∷ f ∷ log) h last = (
  h.0,
  subst (AreLawful block (items_of (select flags (f ∷ log)))) (sym (kind_stays block e.item kind h.0 last.0))
      (left_lawful block kind flags (f ∷ log) (rest_lawful block kind e (f ∷ log) h last) last.1),
)

-- ---- the whole

-- the first item behind nothing tells the kind
pub first_kind : (block : ℕ) (item : Item) → IsLawful block item None → (kind : Kind) × (kind_after item None ≡ Some kind)
first_kind block (Init kind mode) h = (kind, refl)
first_kind block other h = absurd h

-- what is left behind the first entry of a log that is lawful from nothing on
pub first_left : (block : ℕ) (flags : List Bool) (e : Entry) (log : List Entry) → AreLawful block (items_of (e ∷ log)) None
    → IsGoneLast (items_of (e ∷ log))
    → (kind : Kind) × (kind_after e.item None ≡ Some kind) × AreLawful block (items_of (select flags log)) (Some kind)
first_left block flags e log h last =
    let first = first_kind block e.item h.0 in (
      first.0,
      first.1,
      left_lawful block first.0 flags log (subst (AreLawful block (items_of log)) first.1 h.1) (later e log last),
    )

-- what is left is lawful from nothing on where the first entry stays
pub left_nothing : (block : ℕ) (flags : List Bool) (e : Entry) (log : List Entry) → AreLawful block (items_of (e ∷ log)) None
    → IsGoneLast (items_of (e ∷ log)) → AreLawful block (items_of (select (true ∷ flags) (e ∷ log))) None
left_nothing block flags e log h last =
    let rest = first_left block flags e log h last in
    (h.0, subst (AreLawful block (items_of (select flags log))) (sym rest.1) rest.2)

-- and from some kind on
pub left_some : (block : ℕ) (before : Option Kind) (flags : List Bool) (log : List Entry) → AreLawful block (items_of log) before
    → IsGoneLast (items_of log) → (kind : Option Kind) × AreLawful block (items_of (select flags log)) kind
left_some block (Some kind) flags log h last = (Some kind, left_lawful block kind flags log h last)
left_some block None [] log h last = (None, tt)
left_some block None (b ∷ flags) [] h last = (None, tt)
left_some block None (true ∷ flags) (e ∷ log) h last = (None, left_nothing block flags e log h last)
left_some block None (false ∷ flags) (e ∷ log) h last =
    let rest = first_left block flags e log h last in (Some rest.0, rest.2)
