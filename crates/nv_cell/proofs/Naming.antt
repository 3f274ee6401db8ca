-- The numbers of parts that are named.
use Rattle.std.proofs.Common.{◌≡◌, ℕ, zero, suc, ◌+◌, ◌-◌, ◌<◌, ◌≤◌, ◌&&◌, Bool, true, false, not, cond, nat_lt, nat_le, List, [], ◌∷◌, length, take, Option, Some, None, arith, refl, ap, sym, ◌∙◌, slice_index_or, slice_get, min}
use Rattle.std.specs.List.{position, position_or_len}
use Rattle.std.specs.Option.{option_map}
use Rattle.std.proofs.lemmas.List.FromFn.{length-map-range_with_len}
use Rattle.std.proofs.lemmas.List.Quantifiers.{position-Some}
use Rattle.std.proofs.lemmas.Option.{get_or_from_slice_get}
use Rattle.std.proofs.lemmas.Bool.{and_parts, leb-true, ltb-false, ltb-true}
use Rattle.nv_base.specs.Ids.{is_same_id}
use Rattle.nv_entry.specs.declared.item.Entry.{Entry}
use Rattle.nv_entry.specs.declared.part.PartId.{PartId}
use Rattle.nv_entry.specs.declared.item.Item.{Item}
use Rattle.nv_entry.specs.declared.item.Item.TheVariants.{Init, Write, SetSize, SetMode, Bind, Unbind, Gone}
use Rattle.nv_entry.specs.declared.part.Part.{Part}
use Rattle.nv_entry.specs.declared.part.Part.TheVariants as part
use Rattle.nv_entry.specs.Covered.{part_count}
use Rattle.nv_entry.specs.Keys.{in_run, is_page, parts_of}
use Rattle.nv_log.specs.Chain.{place_of_id as chain_place_of}
use Rattle.nv_cell.specs.Named.{number_named, place_of_part}
use Rattle.nv_cell.specs.Numbers.{part_base}

none_front : {X : Type 0} (p : X → Bool) (xs : List X) (k : ℕ) (d : X) → length xs ≤ position_or_len p xs → k < length xs
    → p (slice_index_or xs k d) ≡ false
none_front p [] k d le lt = absurd (omega arith)
none_front p (x ∷ xs) zero d le lt = go (p x) refl le where
  go : (b : Bool) → p x ≡ b → suc (length xs) ≤ cond (not (p x)) (1 + position_or_len p xs) 0 → p x ≡ false
  go true q h = let k = rw q at h in absurd (omega (arith, k))
  go false q h = q
none_front p (x ∷ xs) (suc k) d le lt = go (p x) refl le (λ l. none_front p xs k d l (omega (arith, lt))) where
  go : (b : Bool) → p x ≡ b → suc (length xs) ≤ cond (not (p x)) (1 + position_or_len p xs) 0
      → (length xs ≤ position_or_len p xs → p (slice_index_or xs k d) ≡ false) → p (slice_index_or xs k d) ≡ false
  go true q h rec = let z = rw q at h in absurd (omega (arith, z))
  go false q h rec = let z = rw q at h in rec (omega (arith, z))

pub no_position : {X : Type 0} (p : X → Bool) (xs : List X) (k : ℕ) (d : X) → position p xs ≡ None → k < length xs
    → p (slice_index_or xs k d) ≡ false
no_position p xs k d h lt = go (nat_lt (position_or_len p xs) (length xs)) refl h where
  go : (b : Bool) → nat_lt (position_or_len p xs) (length xs) ≡ b → cond b (Some (position_or_len p xs)) None ≡ None
      → p (slice_index_or xs k d) ≡ false
  go true q m = cc
  go false q m = none_front p xs k d (ltb-false (position_or_len p xs) (length xs) q) lt

-- a log whose first entries have other ids
pub number_at_entry : (es : List Entry) (tail i : ℕ) (e : Entry) (id : PartId) → i < tail → i < length es → e ≡ slice_index_or es i e
    → is_same_id e.id id.entry ≡ true
    → ((k : ℕ) → k < i → is_same_id (slice_index_or es k e).id id.entry ≡ false)
    → number_named (take tail es) id ≡ option_map (λ n. part_base es i + n) (place_of_part e.item id.part)
number_at_entry [] tail i e id lt li is same others = absurd (omega arith)
number_at_entry (x ∷ es) zero i e id lt li is same others = absurd (omega arith)
number_at_entry (x ∷ es) (suc tail) zero e id lt li is same others = rw (← is, same) (sym (from_zero (place_of_part e.item id.part))) where
  from_zero : (o : Option ℕ) → option_map (λ n. 0 + n) o ≡ o
  from_zero None = refl
  from_zero (Some n) = ap Some (omega arith)
number_at_entry (x ∷ es) (suc tail) (suc i) e id lt li is same others =
    rw (others 0 (omega arith)) (ap (option_map (λ n. part_count x + n))
    (number_at_entry es tail i e id (omega (arith, lt)) (omega (arith, li)) is same (λ k l. others (suc k) (omega (arith, l))))
    ∙ more (place_of_part e.item id.part)) where
      more : (o : Option ℕ)
          → option_map (λ n. part_count x + n) (option_map (λ n. part_base es i + n) o)
          ≡ option_map (λ n. part_count x + part_base es i + n) o
      more None = refl
      more (Some n) = ap Some (omega arith)

pub number_nowhere : (es : List Entry) (tail : ℕ) (d : Entry) (id : PartId)
    → ((k : ℕ) → k < tail → k < length es → is_same_id (slice_index_or es k d).id id.entry ≡ false) → number_named (take tail es) id ≡ None
number_nowhere [] zero d id others = refl
number_nowhere [] (suc tail) d id others = refl
number_nowhere (x ∷ es) zero d id others = refl
number_nowhere (x ∷ es) (suc tail) d id others =
    rw (others 0 (omega arith) (omega arith), number_nowhere es tail d id (λ k l m. others (suc k) (omega (arith, l)) (omega (arith, m))))
    refl

-- the entry of that id is published
pub named_here : (es : List Entry) (tail i : ℕ) (e : Entry) (id : PartId) → chain_place_of es id.entry ≡ Some i → i < tail
    → slice_get es i ≡ Some e
    → number_named (take tail es) id ≡ option_map (λ n. part_base es i + n) (place_of_part e.item id.part)
named_here es tail i e id h lt got =
    let f = position-Some (λ (x : Entry). is_same_id x.id id.entry) es i e h in
    let is = get_or_from_slice_get es i e e got in
    number_at_entry es tail i e id lt f.0 (sym is) (ap (λ (x : Entry). is_same_id x.id id.entry) (sym is) ∙ f.1) f.2

-- no entry has that id
pub named_nowhere : (es : List Entry) (tail : ℕ) (id : PartId) → chain_place_of es id.entry ≡ None → number_named (take tail es) id ≡ None
named_nowhere [] zero id h = refl
named_nowhere [] (suc tail) id h = refl
named_nowhere (x ∷ es) tail id h =
    number_nowhere (x ∷ es) tail x id (λ k l m. no_position (λ (y : Entry). is_same_id y.id id.entry) (x ∷ es) k x h m)

-- the entry of that id is not yet published
pub named_past : (es : List Entry) (tail i : ℕ) (id : PartId) → chain_place_of es id.entry ≡ Some i → tail ≤ i
    → number_named (take tail es) id ≡ None
named_past [] zero i id h le = refl
named_past [] (suc tail) i id h le = refl
named_past (x ∷ es) tail i id h le =
    let f = position-Some (λ (y : Entry). is_same_id y.id id.entry) (x ∷ es) i x h in
    number_nowhere (x ∷ es) tail x id (λ k l m. f.2 k (omega arith))

pub place_low : (item : Item) (p : Part) (n : ℕ) → place_of_part item p ≡ Some n → n < length (parts_of item)
place_low (Init kind mode) part.Kind n h = let e : 0 ≡ n = cc in omega arith
place_low (Init kind mode) part.Mode n h = let e : 1 ≡ n = cc in omega arith
place_low (Init kind mode) part.Size n h = let e : 2 ≡ n = cc in omega arith
place_low (Init kind mode) part.Bound n h = cc
place_low (Init kind mode) (part.Page page) n h = cc
place_low (Write first run size) part.Size n h = let e : 0 ≡ n = cc in omega arith
place_low (Write first run size) (part.Page page) n h = go (in_run first run page) refl h where
  go : (b : Bool) → in_run first run page ≡ b → cond b (Some (page - first + 1)) None ≡ Some n
      → n < length (parts_of (Write first run size))
  go true q k =
      let e : page - first + 1 ≡ n = cc in
      let p = and_parts (nat_le first page && nat_lt page (first + run.len)) (is_page page) q in
      let r = and_parts (nat_le first page) (nat_lt page (first + run.len)) p.0 in
      omega (
        arith,
        e,
        leb-true first page r.0,
        ltb-true page
            (first + run.len) r.1,
        ltb-true page 65536 p.1,
        length-map-range_with_len part.Page first (min run.len (65536 - first)),
      )
  go false q k = cc
place_low (Write first run size) part.Kind n h = cc
place_low (Write first run size) part.Mode n h = cc
place_low (Write first run size) part.Bound n h = cc
place_low (SetSize size) part.Size n h = let e : 0 ≡ n = cc in omega arith
place_low (SetSize size) part.Kind n h = cc
place_low (SetSize size) part.Mode n h = cc
place_low (SetSize size) part.Bound n h = cc
place_low (SetSize size) (part.Page page) n h = cc
place_low (SetMode mode) part.Mode n h = let e : 0 ≡ n = cc in omega arith
place_low (SetMode mode) part.Kind n h = cc
place_low (SetMode mode) part.Size n h = cc
place_low (SetMode mode) part.Bound n h = cc
place_low (SetMode mode) (part.Page page) n h = cc
place_low (Bind name to) part.Bound n h = let e : 0 ≡ n = cc in omega arith
place_low (Bind name to) part.Kind n h = cc
place_low (Bind name to) part.Mode n h = cc
place_low (Bind name to) part.Size n h = cc
place_low (Bind name to) (part.Page page) n h = cc
place_low (Unbind name) p n h = cc
place_low Gone p n h = cc
