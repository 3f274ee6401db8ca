-- What a search by halving finds in a log.
use Rattle.std.proofs.Common.{◌≡◌, ℕ, ◌<◌, ◌≤◌, inl, inr, Bool, true, false, cond, nat_lt, List, [], ◌∷◌, length, get_or, Option, Some, None, Result, Ok, Err, arith, refl, ap, sym, ◌∙◌, Ordering}
use Rattle.std.proofs.lemmas.Bool.{cases_lt, lt-ltb, le-ltb}
use Rattle.std.proofs.lemmas.Bool.Decides.{nat_tests}
use Rattle.std.proofs.lemmas.List.Sums.{position_or_len_is}
use Rattle.std.proofs.lemmas.List.Folds.{find_at}
use Rattle.std.proofs.lemmas.Option.{slice_get_past}
use Rattle.std.specs.Option.{IfSome}
use Rattle.std.specs.List.{position_or_len, find, slice_get}
use Rattle.std.specs.List.Sorted.{IsBinarySearchResult, IsNonDecreasingBy, IsSearchInRange}
use Rattle.std.specs.Ordering.{nat_cmp, ordering_then, ordering_index}
use Rattle.std.specs.declared.cmp.Ordering.TheVariants.{Less, Equal, Greater}
use Rattle.std.specs.Result.{result_ok}
use Rattle.nv_base.specs.declared.numbers.EntryId.{EntryId}
use Rattle.nv_entry.specs.declared.item.Entry.{Entry}
use Rattle.nv_base.specs.Ids.{IsIdBefore, is_same_id}
use Rattle.nv_entry.specs.Log.{IsLog}
use Rattle.nv_log.specs.Chain.{place_of_id}
use Rattle.nv_log.proofs.Logs.{ordered_at}

-- how two ids compare
abbrev pub id_cmp : EntryId → EntryId → Ordering
id_cmp a b = ordering_then (nat_cmp a.commit b.commit) (nat_cmp a.place b.place)

same-equal : (a b : EntryId) → id_cmp a b ≡ Equal → is_same_id a b ≡ true
same-equal a b e = grind (arith, nat_tests)

same-less : (a b : EntryId) → id_cmp a b ≡ Less → is_same_id a b ≡ false
same-less a b e = grind (arith, nat_tests)

same-greater : (a b : EntryId) → id_cmp a b ≡ Greater → is_same_id a b ≡ false
same-greater a b e = grind (arith, nat_tests)

-- an id before the one that is sought has not the index of a greater one
cmp-rises : (a b id : EntryId) → IsIdBefore a b → ordering_index (id_cmp a id) ≤ ordering_index (id_cmp b id)
cmp-rises a b id (inl h) = grind (arith, nat_tests)
cmp-rises a b id (inr h) = grind (arith, nat_tests)

-- an id before the one that was found is another
before-other : (a b id : EntryId) → IsIdBefore a b → is_same_id b id ≡ true → is_same_id a id ≡ false
before-other a b id (inl h) e = grind (arith, nat_tests)
before-other a b id (inr h) e = grind (arith, nat_tests)

rises : (es : List Entry) (id : EntryId) → IsLog es → IsNonDecreasingBy (λ e. ordering_index (id_cmp e.id id)) es
rises es id is i j d le within =
    elim (cases_lt i j) [
      | inl lt ↦ cmp-rises (get_or es i d).id (get_or es j d).id id
          (ordered_at es i j d is lt within).id_rises
      | inr ge ↦ let e : i ≡ j = omega arith in rw e (omega arith)
    ]

abbrev has_id : EntryId → Entry → Bool
has_id id e = is_same_id e.id id

place_at : (es : List Entry) (id : EntryId) (k : ℕ) (d : Entry) → k < length es → ((j : ℕ) → j < k → has_id id (get_or es j d) ≡ false)
    → has_id id (get_or es k d) ≡ true → place_of_id es id ≡ Some k
place_at es id k d within others here =
    let is : position_or_len (has_id id) es ≡ k = position_or_len_is (has_id id) es k d (omega arith) others (λ _. here) in
    rw is (rw (lt-ltb k (length es) within) refl)

place_none : (es : List Entry) (id : EntryId) (d : Entry) → ((j : ℕ) → j < length es → has_id id (get_or es j d) ≡ false)
    → place_of_id es id ≡ None
place_none es id d others =
    let is : position_or_len (has_id id) es ≡ length es =
    position_or_len_is (has_id id) es (length es) d (omega arith) others (λ lt. absurd (omega arith)) in
    rw is (rw (le-ltb (length es) (length es) (omega arith)) refl)

found_by : (es : List Entry) (id : EntryId) (d : Entry) (r : Result ℕ ℕ) → IsLog es → IsSearchInRange r (length es)
    → IsBinarySearchResult (λ e. id_cmp e.id id) es r → result_ok r ≡ place_of_id es id
found_by es id d (Ok k) is within at =
    let here = same-equal (get_or es k d).id id (at d) in
    sym (place_at es id k d within (λ j lt. before-other (get_or es j d).id (get_or es k d).id id
    (ordered_at es j k d is lt within).id_rises here) here)
found_by es id d (Err k) is within split =
    let parts = split (rises es id is) in
    sym (place_none es id d (λ j lt. elim (cases_lt j k) [
      | inl less ↦ same-less (get_or es j d).id id (parts.0 j d
          (omega arith) less)
      | inr more ↦ same-greater (get_or es j d).id id (parts.1 j d more lt)
    ]))

-- the place that a search by halving finds is that of the entry
pub found : (es : List Entry) (id : EntryId) (r : Result ℕ ℕ) → IsLog es → IsSearchInRange r (length es)
    → IsBinarySearchResult (λ e. id_cmp e.id id) es r → result_ok r ≡ place_of_id es id
found [] id (Ok k) is within at = absurd (omega arith)
found [] id (Err k) is within split = refl
found (e ∷ es) id r is within at = found_by (e ∷ es) id e r is within at

some_is : (b : Bool) (m k : ℕ) → cond b (Some m) None ≡ Some k → m ≡ k
some_is true m k e = cc
some_is false m k e = cc

none_is : (b : Bool) (m : ℕ) → cond b (Some m) None ≡ None → b ≡ false
none_is true m e = cc
none_is false m e = refl

-- the entry at the place of an id is the entry of that id
pub entry_at : (es : List Entry) (id : EntryId) (k : ℕ) → place_of_id es id ≡ Some k → find (has_id id) es ≡ slice_get es k
entry_at es id k e =
    find_at (has_id id) es
    ∙ ap (slice_get es) (some_is (nat_lt (position_or_len (has_id id) es) (length es)) (position_or_len (has_id id) es) k e)

pub entry_none : (es : List Entry) (id : EntryId) → place_of_id es id ≡ None → find (has_id id) es ≡ None
entry_none es id e =
    let past = none_is (nat_lt (position_or_len (has_id id) es) (length es)) (position_or_len (has_id id) es) e in
    let beyond : length es ≤ position_or_len (has_id id) es = grind (arith, nat_tests) in
    find_at (has_id id) es ∙ slice_get_past es (position_or_len (has_id id) es) beyond

-- the place of an id is within
pub found_within : (es : List Entry) (id : EntryId) (place : Option ℕ) → place ≡ place_of_id es id → IfSome place (λ k. k < length es)
found_within es id None e = tt
found_within es id (Some k) e = small (nat_lt (position_or_len (has_id id) es) (length es)) refl (sym e)
  where
    small : (b : Bool) → nat_lt (position_or_len (has_id id) es) (length es) ≡ b
        → cond b (Some (position_or_len (has_id id) es)) None ≡ Some k → k < length es
    small true lt is = let same : position_or_len (has_id id) es ≡ k = cc in rw (← same) (grind (arith, nat_tests))
    small false lt is = cc

-- an entry of that id stands at its place
pub placed : (es : List Entry) (id : EntryId) (k : ℕ) (d : Entry) → IsLog es → k < length es → is_same_id (get_or es k d).id id ≡ true
    → place_of_id es id ≡ Some k
placed es id k d is within here =
    place_at es id k d within
    (λ j lt. before-other (get_or es j d).id (get_or es k d).id id (ordered_at es j k d is lt within).id_rises here) here
