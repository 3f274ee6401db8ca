-- The shape of a log by its entries from one on.
use Rattle.std.proofs.Common.{◌≡◌, ℕ, ◌+◌, ◌<◌, ◌≤◌, Bool, true, false, Option, arith, List, [], ◌∷◌, length, drop, get_or, ap, sym, ◌∙◌, refl, subst}
use Rattle.std.specs.Prelude.{◌↔◌, IsTrue}
use Rattle.std.proofs.lemmas.List.{drop_all, drop_more}
use Rattle.std.proofs.lemmas.Bool.{false≢true}
use Rattle.nv_base.specs.declared.node.Kind.{Kind}
use Rattle.nv_entry.specs.Shape.{AreLawful, IsGoneLast, IsLawful, items_of, kind_after}
use Rattle.nv_entry.specs.declared.item.Entry.{Entry}
use Rattle.nv_entry.specs.declared.item.Item.{Item}
use Rattle.nv_entry.specs.declared.item.Item.TheVariants.{Gone}

-- the items from an entry on
pub items_from : (log : List Entry) (i : ℕ) (e : Entry) → i < length log → e ≡ get_or log i e
    → items_of (drop i log) ≡ e.item ∷ items_of (drop (i + 1) log)
items_from log i e lt is =
    ap items_of (drop_more log i e lt ∙ ap (λ (f : Entry). f ∷ drop (i + 1) log) (sym is))

-- they are lawful exactly where the next one is, and so are those behind it
pub lawful_more : (block : ℕ) (log : List Entry) (i : ℕ) (e : Entry) (kind : Option Kind) → i < length log → e ≡ get_or log i e
    → AreLawful block (items_of (drop i log)) kind
    ↔ (IsLawful block e.item kind × AreLawful block (items_of (drop (i + 1) log)) (kind_after e.item kind))
lawful_more block log i e kind lt is =
    let from = items_from log i e lt is in (
      λ all. subst (λ (items : List Item). AreLawful block items kind) from all,
      λ next. subst (λ (items : List Item). AreLawful block items kind) (sym from) next,
    )

pub lawful_none : (block : ℕ) (log : List Entry) (i : ℕ) (kind : Option Kind) → length log ≤ i
    → AreLawful block (items_of (drop i log)) kind
lawful_none block log i kind past = subst (λ (l : List Entry). AreLawful block (items_of l) kind) (sym (drop_all i log past)) tt

-- ---- nothing stands behind a Gone

-- nothing stands behind a Gone, where the item before these is one or not
abbrev pub IsGoneLastBehind : Bool → List Item → Type 0
IsGoneLastBehind true [] = Unit {0}
IsGoneLastBehind true (item ∷ items) = ⊥
IsGoneLastBehind false items = IsGoneLast items

behind_next : (item : Item) (items : List Item) (gone : Bool) → (IsTrue gone ↔ (item ≡ Gone))
    → IsGoneLast (item ∷ items) ↔ IsGoneLastBehind gone items
behind_next item [] true gone = (λ h. tt, λ h. tt)
behind_next item [] false gone = (λ h. tt, λ h. tt)
behind_next item (next ∷ items) true gone = (λ h. absurd (h.0 (gone.0 refl)), λ none. absurd none)
behind_next item (next ∷ items) false gone = (λ h. h.1, λ h. (λ same. false≢true (gone.1 same), h))

-- so it is from an entry on exactly where it is behind this entry, if it stands behind none
pub behind_more : (log : List Entry) (i : ℕ) (e : Entry) (before gone : Bool) → i < length log → e ≡ get_or log i e → before ≡ false
    → (IsTrue gone ↔ (e.item ≡ Gone))
    → IsGoneLastBehind before (items_of (drop i log)) ↔ IsGoneLastBehind gone (items_of (drop (i + 1) log))
behind_more log i e true gone lt is none same = absurd (false≢true (sym none))
behind_more log i e false gone lt is none same =
    let from = items_from log i e lt is in
    let next = behind_next e.item (items_of (drop (i + 1) log)) gone same in (
      λ last. next.0 (subst IsGoneLast from last),
      λ rest. subst IsGoneLast (sym from) (next.1 rest),
    )

-- with an entry behind a Gone it is not
pub behind_gone : (log : List Entry) (i : ℕ) (before : Bool) → i < length log → before ≡ true
    → IsGoneLastBehind before (items_of (drop i log)) → IsTrue false
behind_gone log i false lt gone last = gone
behind_gone [] i true lt gone last = absurd (omega (arith, lt))
behind_gone (e ∷ log) i true lt gone last =
    absurd (subst (λ (l : List Entry). IsGoneLastBehind true (items_of l)) (drop_more (e ∷ log) i e lt) last)

pub behind_none : (log : List Entry) (i : ℕ) (before : Bool) → length log ≤ i → IsGoneLastBehind before (items_of (drop i log))
behind_none log i before past =
    subst (λ (l : List Entry). IsGoneLastBehind before (items_of l)) (sym (drop_all i log past)) (none before) where
      none : (b : Bool) → IsGoneLastBehind b []
      none true = tt
      none false = tt
