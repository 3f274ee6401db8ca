-- Pairs of a log by their numbers and names.
use Rattle.std.proofs.Common.{◌≡◌, ℕ, zero, suc, ◌==◌, ◌&&◌, ◌||◌, ◌∙◌, Bool, true, false, not, List, [], ◌∷◌, Option, Some, None, ap, ap₂, filter, if◌then◌else◌, map, refl, slice_get, slice_index_or, sym}
use Rattle.std.specs.List.{flat_map, list_any}
use Rattle.std.specs.Option.{option_map}
use Rattle.std.proofs.lemmas.Bool.{and_parts, eq-eqb, eqb-true, false≢true}
use Rattle.std.proofs.lemmas.Option.{same_Some, slice_get-map}
use Rattle.nv_base.specs.Ids.{is_same_id}
use Rattle.nv_base.specs.declared.numbers.EntryId.{EntryId}
use Rattle.nv_base.proofs.Ids.{ordered}
use Rattle.nv_cell.specs.Killed.{part_of_pair}
use Rattle.nv_cell.specs.Named.{number_named}
use Rattle.nv_cell.specs.Numbers.{is_number, killed_part}
use Rattle.nv_cell.proofs.NamedParts.{are_pairs, number_told}
use Rattle.nv_entry.specs.Covered.{UncoveredAreCurrent, covered_parts, is_covered}
use Rattle.nv_entry.specs.Held.{has_name, is_current, pair_name, same_part}
use Rattle.nv_entry.specs.Laws.{pairs_where}
use Rattle.nv_entry.specs.Log.{IsLog, pairs}
use Rattle.nv_entry.specs.declared.held.Pair.{Pair}
use Rattle.nv_entry.specs.declared.item.Entry.{Entry}
use Rattle.nv_entry.specs.declared.part.Part.{Part}
use Rattle.nv_entry.specs.declared.part.Part.TheVariants as part
use Rattle.nv_entry.specs.declared.part.PartId.{PartId}
use Rattle.nv_entry.proofs.Currents.{uncovered_are_current}

self : (n : ℕ) → (n == n) ≡ true
self n = eq-eqb n n refl

same_part_is : (a b : Part) → same_part a b ≡ true → a ≡ b
same_part_is part.Kind part.Kind e = refl
same_part_is part.Mode part.Mode e = refl
same_part_is part.Size part.Size e = refl
same_part_is part.Bound part.Bound e = refl
same_part_is (part.Page p) (part.Page q) e = ap (λ (n : ℕ). part.Page n) (eqb-true p q e)
same_part_is a b e = absurd (false≢true e)

own_part : (a : Part) → same_part a a ≡ true
own_part part.Kind = refl
own_part part.Mode = refl
own_part part.Size = refl
own_part part.Bound = refl
own_part (part.Page p) = self p

both_true : (b c : Bool) → b ≡ true → c ≡ true → (b && c) ≡ true
both_true true true e f = refl
both_true true false e f = f
both_true false c e f = e

pub own_name : (pair : Pair) → has_name pair (pair_name pair) ≡ true
own_name pair =
    both_true (is_same_id pair.entry pair.entry) (same_part pair.part pair.part)
    ((ordered.same pair.entry pair.entry).1 refl)
    (own_part pair.part)

pub name_is : (pair : Pair) (id : PartId) → has_name pair id ≡ true → id ≡ pair_name pair
name_is pair id e =
    let both = and_parts (is_same_id id.entry pair.entry) (same_part id.part pair.part) e in
    ap₂ (λ (entry : EntryId) (p : Part). let x : PartId = record { entry = entry; part = p } in x)
    ((ordered.same id.entry pair.entry).0 both.0) (same_part_is id.part pair.part both.1)

pub number_is : (o : Option ℕ) (n : ℕ) → is_number o n ≡ true → o ≡ Some n
number_is None n e = absurd (false≢true e)
number_is (Some m) n e = ap (λ (k : ℕ). Some k) (eqb-true m n e)

module _ (block : ℕ) (log : List Entry) (is : IsLog log) (n : ℕ) (pair : Pair)
    (got : slice_get (pairs block log) n ≡ Some pair) where
  at_number : killed_part log n ≡ Some (part_of_pair pair)
  at_number = are_pairs block log n ∙ ap (option_map part_of_pair) got

  pub its_number : number_named log (pair_name pair) ≡ Some n
  its_number = number_told log n (part_of_pair pair) is at_number

  not_at : (xs : List Bool) (i : ℕ) (b : Bool) → option_map not (slice_get xs i) ≡ Some b
      → not (slice_index_or xs i false) ≡ b
  not_at [] i b e = cc
  not_at (x ∷ xs) zero b e = same_Some (not x) b e
  not_at (x ∷ xs) (suc i) b e = not_at xs i b e

  abbrev flags : List Bool
  flags = flat_map (λ (covered : List Bool). covered) (covered_parts block log)

  pub current_is : is_current pair ≡ not (is_covered block log n)
  current_is =
      let all : UncoveredAreCurrent block log = uncovered_are_current block log in
      let at = sym (slice_get-map not flags n)
      ∙ ap (λ (l : List Bool). slice_get l n) (sym all.current)
      ∙ slice_get-map is_current (pairs block log) n ∙ ap (option_map is_current) got in
      sym (not_at flags n (is_current pair) at) ∙ ap not (sym (all.numbered n))

-- ---- the pairs that pass a test, by name

-- each pair of that name among these is this one
abbrev IsOnly : Pair → List Pair → Type 0
IsOnly pair ps = (m : ℕ) (q : Pair) → slice_get ps m ≡ Some q → has_name pair (pair_name q) ≡ true
    → q ≡ pair

any_some : (test : Pair → Bool) (pair : Pair) (ps : List Pair) (n : ℕ) → slice_get ps n ≡ Some pair
    → test pair ≡ true
    → list_any (has_name pair) (map pair_name (filter test ps)) ≡ true
any_some test pair [] n got passes = cc
any_some test pair (q ∷ ps) zero got passes =
    let is : q ≡ pair = same_Some q pair got in
    rw (is, passes, own_name pair) refl
any_some test pair (q ∷ ps) (suc n) got passes =
    go (test q) (any_some test pair ps n got passes) where
      or_true : (b : Bool) → (b || true) ≡ true
      or_true true = refl
      or_true false = refl

      go : (b : Bool) → list_any (has_name pair) (map pair_name (filter test ps)) ≡ true
          → list_any (has_name pair) (map pair_name (if b then q ∷ filter test ps else filter test ps))
          ≡ true
      go true h = ap (λ (b : Bool). has_name pair (pair_name q) || b) h
          ∙ or_true (has_name pair (pair_name q))
      go false h = h

any_none : (test : Pair → Bool) (pair : Pair) (ps : List Pair) → IsOnly pair ps → test pair ≡ false
    → list_any (has_name pair) (map pair_name (filter test ps)) ≡ false
any_none test pair [] only fails = refl
any_none test pair (q ∷ ps) only fails =
    go (test q) refl (has_name pair (pair_name q)) refl
    (any_none test pair ps (λ m x. only (suc m) x) fails) where
      go : (b : Bool) → test q ≡ b → (c : Bool) → has_name pair (pair_name q) ≡ c
          → list_any (has_name pair) (map pair_name (filter test ps)) ≡ false
          → list_any (has_name pair)
          (map pair_name (if b then q ∷ filter test ps else filter test ps)) ≡ false
      go false e c f h = h
      go true e true f h = absurd (false≢true (sym fails ∙ ap test (sym (only 0 q refl f)) ∙ e))
      go true e false f h =
          ap (λ (b : Bool). b || list_any (has_name pair) (map pair_name (filter test ps))) f ∙ h

pub is_where : (test : Pair → Bool) (block : ℕ) (log : List Entry) (n : ℕ) (pair : Pair) → IsLog log
    → slice_get (pairs block log) n ≡ Some pair
    → list_any (has_name pair) (pairs_where test block log) ≡ test pair
is_where test block log n pair is got = go (test pair) refl where
  only : IsOnly pair (pairs block log)
  only m q at name =
      let same = name_is pair (pair_name q) name in
      let number : m ≡ n =
      same_Some m n
      (sym (its_number block log is m q at) ∙ ap (number_named log) same
      ∙ its_number block log is n pair got) in
      same_Some q pair (sym at ∙ ap (slice_get (pairs block log)) number ∙ got)

  go : (b : Bool) → test pair ≡ b → list_any (has_name pair) (pairs_where test block log) ≡ b
  go true e = any_some test pair (pairs block log) n got e
  go false e = any_none test pair (pairs block log) only e
