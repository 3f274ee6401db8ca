-- Of what a log has and has not covered it has the kind too, where it is of its shape; and a log
-- with a kind is lawful from nothing on.
use Rattle.std.proofs.Common.{◌≡◌, ℕ, zero, suc, ◌-◌, ◌<◌, ◌||◌, ◌++◌, ◌∙◌, inl, inr, Bool, true, false, if◌then◌else◌, nat_lt, List, [], ◌∷◌, length, Option, Some, None, is_some, ap, arith, refl, subst, sym}
use Rattle.std.specs.Prelude.{slice_get, slice_index_or}
use Rattle.std.specs.List.{AllByRecursion, Contains, list_any}
use Rattle.std.proofs.lemmas.Bool.{cases_lt, false≢true, le-ltb, lt-ltb, true≢false}
use Rattle.std.proofs.lemmas.List.{map-append}
use Rattle.std.proofs.lemmas.Option.{same_Some}
use Rattle.nv_base.specs.declared.limits.TheConstants.{FILE_PAGES}
use Rattle.nv_base.specs.declared.node.Kind.{Kind}
use Rattle.nv_cell.specs.Readers.{is_gone, is_last_word}
use Rattle.nv_cell.specs.Shape.{IsLeftShaped}
use Rattle.nv_entry.proofs.Nodes.{present_in_file}
use Rattle.nv_entry.proofs.PartsSet.{parts_are_set}
use Rattle.nv_entry.specs.Covered.{any_cover, is_covered, part_count, part_key, part_total}
use Rattle.nv_entry.specs.Held.{holds, is_held}
use Rattle.nv_entry.specs.Keys.{IsFileKey, Key, PageKey, covers, key_of, parts_of, sets, touches}
use Rattle.nv_entry.specs.Laws.{is_present}
use Rattle.nv_entry.specs.Shape.{AreLawful, IsGoneLast, IsLawful, IsShaped, items_of, kind_after}
use Rattle.nv_entry.specs.declared.held.Pair.{Pair}
use Rattle.nv_entry.specs.declared.item.Entry.{Entry}
use Rattle.nv_entry.specs.declared.item.Item.{Item}
use Rattle.nv_entry.specs.declared.item.Item.TheVariants.{Gone, Init}
use Rattle.nv_entry.specs.declared.key.Setting.{Setting}
use Rattle.nv_entry.specs.declared.key.Setting.TheVariants.{Absent, Present, Untouched}
use Rattle.nv_entry.specs.declared.part.Part.{Part}
use Rattle.nv_entry.specs.declared.part.Part.TheVariants as part
use Rattle.nv_machine.proofs.CleanedCells.{gone_step}
use Rattle.nv_machine.proofs.LeftShapes.{kind_stays}
use Rattle.nv_machine.proofs.Shapes.{kinds_after}

-- ---- a Gone covers each part of the entries before it

gone_touches : (block : ℕ) (key : Key) → IsFileKey key → covers block Gone key ≡ true
gone_touches block (PageKey page) lt =
    ap (λ (b : Bool). touches (if b then Absent else Untouched)) (lt-ltb page FILE_PAGES lt)
gone_touches block other file = refl

or_later : (b c : Bool) → c ≡ true → (b || c) ≡ true
or_later true c e = refl
or_later false c e = e

gone_covers : (block : ℕ) (log : List Entry) (key : Key) → IsFileKey key → is_gone log ≡ true
    → any_cover block log key ≡ true
gone_covers block [] key file gone = absurd (false≢true gone)
gone_covers block (e ∷ []) key file gone = at e.item gone where
  at : (item : Item) → is_last_word item ≡ true → (covers block item key || false) ≡ true
  at Gone is = ap (λ (b : Bool). b || false) (gone_touches block key file)
  at other is = absurd (false≢true is)
gone_covers block (e ∷ f ∷ log) key file gone =
    or_later (covers block e.item key) (any_cover block (f ∷ log) key)
    (gone_covers block (f ∷ log) key file (sym (gone_step e f log) ∙ gone))

-- a part is of a key that a file can have
one_set : (block : ℕ) (item : Item) (ps : List Part) (n : ℕ) → n < length ps
    → AllByRecursion (λ p. is_present (sets block item (key_of item p)) ≡ true) ps
    → is_present (sets block item (key_of item (slice_index_or ps n part.Kind))) ≡ true
one_set block item [] n lt all = absurd (omega (arith, lt))
one_set block item (p ∷ ps) zero lt all = all.0
one_set block item (p ∷ ps) (suc n) lt all = one_set block item ps n (omega (arith, lt)) all.1

part_file : (block : ℕ) (e : Entry) (n : ℕ) → n < part_count e → IsFileKey (part_key e n)
part_file block e n lt =
    go (sets block e.item (part_key e n)) refl
    (one_set block e.item (parts_of e.item) n lt (parts_are_set block e.item)) where
      go : (s : Setting) → sets block e.item (part_key e n) ≡ s → is_present s ≡ true
          → IsFileKey (part_key e n)
      go (Present value) is some = present_in_file block e.item (part_key e n) value is
      go other is some = absurd (false≢true some)

gone_covered : (block : ℕ) (log : List Entry) (n : ℕ) → is_gone log ≡ true → n < part_total log
    → is_covered block log n ≡ true
gone_covered block [] n gone lt = absurd (omega (arith, lt))
gone_covered block (e ∷ []) n gone lt = at e.item gone lt where
  at : (item : Item) → is_last_word item ≡ true
      → n < part_total ((record e { item = item }) ∷ [])
      → is_covered block (e ∷ []) n ≡ true
  at Gone is low = absurd (omega (arith, low))
  at other is low = absurd (false≢true is)
gone_covered block (e ∷ f ∷ log) n gone lt = elim (cases_lt n (part_count e)) [
  | inl low ↦
      let here : nat_lt n (part_count e) ≡ true = lt-ltb n (part_count e) low in
      rw here
      (gone_covers block (f ∷ log) (part_key e n) (part_file block e n low)
      (sym (gone_step e f log) ∙ gone))
  | inr past ↦
      let there : nat_lt n (part_count e) ≡ false = le-ltb n (part_count e) past in
      rw there
      (gone_covered block (f ∷ log) (n - part_count e) (sym (gone_step e f log) ∙ gone)
      (omega (arith, lt, past)))
]

-- ---- the kind that items give

-- a lawful item leaves a kind, except the last word
one_told : (block : ℕ) (item : Item) (before : Option Kind) → IsLawful block item before
    → is_last_word item ≡ false → is_some (kind_after item before) ≡ true
one_told block (Init kind mode) before lawful there = refl
one_told block Gone before lawful there = absurd (true≢false there)
one_told block other None lawful there = absurd lawful
one_told block other (Some kind) lawful there = refl

all_told : (block : ℕ) (e : Entry) (log : List Entry) (before : Option Kind)
    → AreLawful block (items_of (e ∷ log)) before → is_gone (e ∷ log) ≡ false
    → is_some (kinds_after (items_of (e ∷ log)) before) ≡ true
all_told block e [] before all there = one_told block e.item before all.0 there
all_told block e (f ∷ log) before all there =
    all_told block f log (kind_after e.item before) all.1 (sym (gone_step e f log) ∙ there)

-- where there was one, no lawful item tells another
none_told : (block : ℕ) (item : Item) (kind : Kind) → IsLawful block item (Some kind)
    → kind_after item None ≡ None
none_told block (Init other mode) kind lawful = absurd lawful
none_told block other kind lawful = refl

none_behind : (block : ℕ) (kind : Kind) (log : List Entry)
    → AreLawful block (items_of log) (Some kind)
    → IsGoneLast (items_of log) → kinds_after (items_of log) None ≡ None
none_behind block kind [] all last = refl
none_behind block kind (e ∷ []) all last = none_told block e.item kind all.0
none_behind block kind (e ∷ f ∷ log) all last =
    ap (kinds_after (items_of (f ∷ log))) (none_told block e.item kind all.0)
    ∙ none_behind block kind (f ∷ log)
    (subst (AreLawful block (items_of (f ∷ log))) (kind_stays block e.item kind all.0 last.0)
    all.1) last.1

-- ---- what a log has and has not covered

-- where there is such a part, the items give a kind
abbrev pub KeepsKind : ℕ → List Entry → Type 0
KeepsKind block log =
    (n : ℕ) → n < part_total log → is_covered block log n ≡ false
    → is_some (kinds_after (items_of log) None) ≡ true

pub shaped_keeps : (block : ℕ) (log : List Entry) → IsShaped block log → KeepsKind block log
shaped_keeps block [] is n lt uncovered = absurd (omega (arith, lt))
shaped_keeps block (e ∷ log) is n lt uncovered = go (is_gone (e ∷ log)) refl where
  go : (b : Bool) → is_gone (e ∷ log) ≡ b
      → is_some (kinds_after (items_of (e ∷ log)) None) ≡ true
  go true gone = absurd (true≢false (sym (gone_covered block (e ∷ log) n gone lt) ∙ uncovered))
  go false there = all_told block e log None is.lawful there

pub left_keeps : (block : ℕ) (log : List Entry) → IsLeftShaped block log → KeepsKind block log
left_keeps block log is n lt uncovered = go (is_gone log) refl where
  go : (b : Bool) → is_gone log ≡ b → is_some (kinds_after (items_of log) None) ≡ true
  go true gone = absurd (true≢false (sym (gone_covered block log n gone lt) ∙ uncovered))
  go false there =
      shaped_keeps block log (record { lawful = is.lawful there; last = is.last }) n lt uncovered

-- ---- the front of a log

front_lawful : (block : ℕ) (xs ys : List Item) (before : Option Kind)
    → AreLawful block (xs ++ ys) before → AreLawful block xs before
front_lawful block [] ys before all = tt
front_lawful block (item ∷ xs) ys before all =
    (all.0, front_lawful block xs ys (kind_after item before) all.1)

front_last : (xs ys : List Item) → IsGoneLast (xs ++ ys) → IsGoneLast xs
front_last [] ys last = tt
front_last (item ∷ []) ys last = tt
front_last (item ∷ next ∷ xs) ys last = (last.0, front_last (next ∷ xs) ys last.1)

module _ (block : ℕ) (front rest : List Entry) where
  joined : items_of (front ++ rest) ≡ items_of front ++ items_of rest
  joined = map-append (λ (e : Entry). e.item) front rest

  lawful_front : (before : Option Kind) → AreLawful block (items_of (front ++ rest)) before
      → AreLawful block (items_of front) before
  lawful_front before all =
      front_lawful block (items_of front) (items_of rest) before
      (subst (λ (items : List Item). AreLawful block items before) joined all)

  last_front : IsGoneLast (items_of (front ++ rest)) → IsGoneLast (items_of front)
  last_front last = front_last (items_of front) (items_of rest) (subst IsGoneLast joined last)

  pub front_keeps : IsShaped block (front ++ rest) → KeepsKind block front
  front_keeps is = shaped_keeps block front (record {
    lawful = lawful_front None is.lawful;
    last = last_front is.last;
  })

  -- A LOG WHOSE FRONT HAS A KIND is lawful from nothing on: behind its first entry no item tells
  -- one
  pub told_lawful : IsLeftShaped block (front ++ rest)
      → is_some (kinds_after (items_of front) None) ≡ true
      → AreLawful block (items_of (front ++ rest)) None
  told_lawful is some = go is.some.0 is.some.1 where
    go : (before : Option Kind) → AreLawful block (items_of (front ++ rest)) before
        → AreLawful block (items_of (front ++ rest)) None
    go None all = all
    go (Some kind) all =
        absurd (false≢true (sym (ap (λ (o : Option Kind). is_some o)
        (none_behind block kind front (lawful_front (Some kind) all) (last_front is.last)))
        ∙ some))

-- ---- a pair that some snapshot holds

pub record IsHeldPair (living : List ℕ) (ps : List Pair) : Type 0 where
  pub n : ℕ
  pub pair : Pair
  pub is : slice_get ps n ≡ Some pair
  pub epoch : ℕ
  pub lives : Contains living epoch
  pub holding : holds epoch pair ≡ true

record IsHolder (living : List ℕ) (pair : Pair) : Type 0 where
  epoch : ℕ
  lives : Contains living epoch
  holding : holds epoch pair ≡ true

one_holds : (living : List ℕ) (pair : Pair) → is_held living pair ≡ true → IsHolder living pair
one_holds [] pair e = absurd (false≢true e)
one_holds (s ∷ living) pair e = go (holds s pair) refl e (one_holds living pair) where
  go : (b : Bool) → holds s pair ≡ b → (b || is_held living pair) ≡ true
      → (is_held living pair ≡ true → IsHolder living pair) → IsHolder (s ∷ living) pair
  go true q f more = record { epoch = s; lives = (0, omega arith, refl); holding = q }
  go false q f more =
      let later = more f in
      let low = later.lives.1 in
      record {
        epoch = later.epoch;
        lives = (suc later.lives.0, omega (arith, low), later.lives.2);
        holding = later.holding;
      }

pub some_held : (living : List ℕ) (ps : List Pair) → list_any (is_held living) ps ≡ true
    → IsHeldPair living ps
some_held living [] e = absurd (false≢true e)
some_held living (pair ∷ ps) e = go (is_held living pair) refl e (some_held living ps) where
  go : (b : Bool) → is_held living pair ≡ b → (b || list_any (is_held living) ps) ≡ true
      → (list_any (is_held living) ps ≡ true → IsHeldPair living ps)
      → IsHeldPair living (pair ∷ ps)
  go true q f more =
      let holder = one_holds living pair q in
      record {
        n = 0;
        pair = pair;
        is = refl;
        epoch = holder.epoch;
        lives = holder.lives;
        holding = holder.holding;
      }
  go false q f more =
      let later = more f in
      record {
        n = suc later.n;
        pair = later.pair;
        is = later.is;
        epoch = later.epoch;
        lives = later.lives;
        holding = later.holding;
      }

-- and the other way round
pub held_by_one : (living : List ℕ) (epoch : ℕ) (pair : Pair) → Contains living epoch
    → holds epoch pair ≡ true → is_held living pair ≡ true
held_by_one [] epoch pair lives holding = absurd (let lt = lives.1 in omega (arith, lt))
held_by_one (s ∷ living) epoch pair (zero, lt, is) holding =
    ap (λ (b : Bool). b || is_held living pair)
    (ap (λ (m : ℕ). holds m pair) is ∙ holding)
held_by_one (s ∷ living) epoch pair (suc k, lt, is) holding =
    or_later (holds s pair) (is_held living pair)
    (held_by_one living epoch pair (k, omega (arith, lt), is) holding)

pub any_held : (living : List ℕ) (ps : List Pair) (n : ℕ) (pair : Pair) → slice_get ps n ≡ Some pair
    → is_held living pair ≡ true → list_any (is_held living) ps ≡ true
any_held living [] n pair got held = cc
any_held living (p ∷ ps) zero pair got held =
    ap (λ (b : Bool). b || list_any (is_held living) ps)
    (ap (is_held living) (same_Some p pair got) ∙ held)
any_held living (p ∷ ps) (suc n) pair got held =
    or_later (is_held living p) (list_any (is_held living) ps) (any_held living ps n pair got held)
