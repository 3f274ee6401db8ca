-- Names in the order of the entries that bound them.
use Rattle.std.proofs.Common.{◌≡◌, ℕ, ◌<◌, ◌≤◌, suc, Bool, true, false, cond, List, [], ◌∷◌, map, length, get_or, Some, None, IsSome, IsTrue, refl, sym, subst, ◌∙◌, arith, inl, inr}
use Rattle.std.proofs.lemmas.Bool.{false≢true, eq-eqb, le-ltb, lt-ltb}
use Rattle.std.proofs.lemmas.Cmp.{nat_cmp_total, on_total, then_total}
use Rattle.std.proofs.lemmas.List.Sorted.{ranks_by, sorted_far, IsPermutation-map}
use Rattle.std.proofs.lemmas.Map.Lookups.{hash_map_len_from_get}
use Rattle.std.specs.Cmp.{IsTotalOrder}
use Rattle.std.specs.Cmp.Lexicographic.{same_text, nat_list_eq_equiv}
use Rattle.std.specs.List.{AllByRecursion, IsDistinct}
use Rattle.std.specs.List.Sorted.{IsPermutation, IsSortedBy}
use Rattle.std.specs.Map.{IsKeyTest, keys_of}
use Rattle.std.specs.Ordering.{is_lt, nat_cmp, ordering_then}
use Rattle.std.specs.declared.cmp.Ordering.{Ordering}
use denote.Ref.{Bor}
use Rattle.indexmap.specs.Layout.{hash_map}
use Rattle.indexmap.proofs.MapLemmas.{distinct_permutation, lookup_permutation}
use Rattle.nv_base.specs.Names.{is_lawful_name, same_name}
use Rattle.nv_base.specs.declared.numbers.EntryId.{EntryId}
use Rattle.nv_base.specs.Ids.{IsIdBefore}
use Rattle.nv_nindex.specs.declared.binding.Binding.{Binding}
use Rattle.nv_nindex.specs.NameIndex.{AreDistinct, AreInOrder, AreLawful, AreRising, HaveSameBindings, IsListOf, binding_of, lent}

abbrev Bound : Type 0
Bound = List ℕ × Binding

same_itself : (name : List ℕ) → same_name name name ≡ true
same_itself name = nat_list_eq_equiv.refl name

-- what holds of all bindings holds of the one that is looked up
all_bound : (P : Binding → Type 0) (name : List ℕ) (names : List Bound) (to : Binding) → AllByRecursion (λ bound. P bound.1) names
    → binding_of name names ≡ Some to → P to
all_bound P name [] to all e = cc
all_bound P name (b ∷ bs) to all e = go (same_name name b.0) refl (all_bound P name bs to all.1) where
  go : (t : Bool) → same_name name b.0 ≡ t → (binding_of name bs ≡ Some to → P to) → P to
  go true q ih = let k : Some b.1 ≡ Some to = rw q at e in let same : b.1 ≡ to = cc in subst P same all.0
  go false q ih = let k : binding_of name bs ≡ Some to = rw q at e in ih k

-- a name that no later one is isn't bound there
absent_later : (name : List ℕ) (later : List Bound) → AllByRecursion (λ other. same_name name other ≡ false) (keys_of later)
    → binding_of name later ≡ None
absent_later name [] h = refl
absent_later name (b ∷ bs) h = rw h.0 (absent_later name bs h.1)

first_bound : (b : Bound) (bs : List Bound) → binding_of b.0 (b ∷ bs) ≡ Some b.1
first_bound b bs = rw (same_itself b.0) refl

-- the first of each list is the same, where one list is in order and the other rises
first_same : (x y : Bound) (xs ys : List Bound) → HaveSameBindings (x ∷ xs) (y ∷ ys) → AreInOrder (x ∷ xs) → AreRising (y ∷ ys) → x ≡ y
first_same x y xs ys same in_order rising = go (same_name x.0 y.0) refl where
  at_x : binding_of x.0 (y ∷ ys) ≡ Some x.1
  at_x = same x.0 ∙ first_bound x xs

  at_y : binding_of y.0 (x ∷ xs) ≡ Some y.1
  at_y = sym (same y.0) ∙ first_bound y ys

  go : (b : Bool) → same_name x.0 y.0 ≡ b → x ≡ y
  go true q =
      let name : x.0 ≡ y.0 = same_text x.0 y.0 (sym q) in
      let k : Some y.1 ≡ Some x.1 = rw q at at_x in
      let to : x.1 ≡ y.1 = cc in
      λ i. (name i, to i)
  go false q =
      let back : same_name y.0 x.0 ≡ false = nat_list_eq_equiv.symm y.0 x.0 ∙ q in
      let later_x : binding_of x.0 ys ≡ Some x.1 = rw q at at_x in
      let later_y : binding_of y.0 xs ≡ Some y.1 = rw back at at_y in
      let before : IsIdBefore y.1.entry x.1.entry = all_bound (λ to. IsIdBefore y.1.entry to.entry) x.0 ys x.1 rising.0 later_x in
      absurd (all_bound (λ to. IsIdBefore to.entry x.1.entry → ⊥) y.0 xs y.1 in_order.0 later_y before)

-- the others are the same
others_same : (b : Bound) (xs ys : List Bound) → HaveSameBindings (b ∷ xs) (b ∷ ys) → AreDistinct (b ∷ xs) → AreDistinct (b ∷ ys)
    → HaveSameBindings xs ys
unfolding IsDistinct
others_same b xs ys same dx dy name = go (same_name name b.0) refl where
  go : (t : Bool) → same_name name b.0 ≡ t → binding_of name ys ≡ binding_of name xs
  go true q =
      let is : name ≡ b.0 = same_text name b.0 (sym q) in
      rw is (absent_later b.0 ys dy.0 ∙ sym (absent_later b.0 xs dx.0))
  go false q = let k : binding_of name ys ≡ binding_of name xs = rw q at (same name) in k

pub told : (listed scratch : List Bound) → HaveSameBindings listed scratch → AreDistinct listed → AreInOrder listed
    → AreDistinct scratch → AreRising scratch → listed ≡ scratch
unfolding IsDistinct
told [] [] same dx ox dy ry = refl
told [] (y ∷ ys) same dx ox dy ry = let k : None ≡ Some y.1 = sym (same y.0) ∙ first_bound y ys in cc
told (x ∷ xs) [] same dx ox dy ry = let k : None ≡ Some x.1 = same x.0 ∙ first_bound x xs in cc
told (x ∷ xs) (y ∷ ys) same dx ox dy ry =
    let first : x ≡ y = first_same x y xs ys same ox ry in
    let same' : HaveSameBindings (x ∷ xs) (x ∷ ys) = subst (λ b. HaveSameBindings (x ∷ xs) (b ∷ ys)) (sym first) same in
    let dy' : AreDistinct (x ∷ ys) = subst (λ b. AreDistinct (b ∷ ys)) (sym first) dy in
    let rest = told xs ys (others_same x xs ys same' dx dy') dx.1 ox.1 dy.1 ry.1 in
    λ i. first i ∷ rest i

pub counted : (names scratch : List Bound) → HaveSameBindings names scratch → AreDistinct names → AreDistinct scratch
    → length names ≡ length scratch
counted names scratch same dn ds = hash_map_len_from_get nat_list_eq_equiv {S = ℕ} {T = ℕ} (hash_map names 0 0)
    (hash_map scratch 0 0) dn ds (λ name. sym (same name))

-- ---- the order of ids

abbrev pub id_cmp : EntryId → EntryId → Ordering
id_cmp a b = ordering_then (nat_cmp a.commit b.commit) (nat_cmp a.place b.place)

id_total : IsTotalOrder id_cmp
id_total = then_total (on_total (λ (id : EntryId). id.commit) nat_cmp_total) (on_total (λ (id : EntryId). id.place) nat_cmp_total)

-- an id that stands before another is less
id_less : (a b : EntryId) → IsIdBefore a b → is_lt (id_cmp a b) ≡ true
id_less a b (inl before) = rw (lt-ltb a.commit b.commit before) refl
id_less a b (inr (same, before)) = rw (
  le-ltb a.commit b.commit
      (omega (arith, same)),
  eq-eqb a.commit b.commit same,
  lt-ltb a.place b.place before,
) refl

abbrev Given : Type 0
Given = Bor (List ℕ) × Binding

-- names that were given in an order by place stand in that order
in_order_from : (given : List Given)
    → ((i j : ℕ) (d : Given) → i ≤ j → j < length given → IsIdBefore (get_or given j d).1.entry (get_or given i d).1.entry → ⊥)
    → AreInOrder (map lent given)
in_order_from [] h = tt
in_order_from (b ∷ bs) h = (
  all bs (λ j d lt. h 0 (suc j) d (omega arith) (omega (arith, lt))),
  in_order_from bs (λ i j d le lt. h (suc i) (suc j) d (omega (arith, le)) (omega (arith, lt))),
) where
  all : (xs : List Given) → ((j : ℕ) (d : Given) → j < length xs → IsIdBefore (get_or xs j d).1.entry b.1.entry → ⊥)
      → AllByRecursion (λ next. IsIdBefore next.1.entry b.1.entry → ⊥) (map lent xs)
  all [] f = tt
  all (x ∷ xs) f = (f 0 x (omega arith), all xs (λ j d lt. f (suc j) d (omega (arith, lt))))

abbrev pub IsSortedById : List Given → Type 0
IsSortedById given = IsSortedBy (λ a b. is_lt (id_cmp a.1.entry b.1.entry)) given

sorted_in_order : (given : List Given) → IsSortedById given → AreInOrder (map lent given)
sorted_in_order given sorted = in_order_from given (λ i j d le lt before.
    false≢true (sym (sorted_far (λ a b. is_lt (id_cmp a.1.entry b.1.entry))
    (ranks_by id_total (λ (b : Given). b.1.entry)) given sorted i j d le lt) ∙ id_less _ _ before))

name_test : (name : List ℕ) → IsKeyTest same_name (same_name name)
name_test name x y h = nat_list_eq_equiv.congr name x y h

-- the names in another order, sorted, are a list of them
pub listed : (names : List Bound) (sorted : List Given) → AreDistinct names → IsPermutation names (map lent sorted) → IsSortedById sorted
    → IsListOf names (map lent sorted)
listed names sorted distinct moves up =
    let distinct' : AreDistinct (map lent sorted) = distinct_permutation nat_list_eq_equiv (keys_of names) (keys_of (map lent sorted))
    (IsPermutation-map (λ (b : Bound). b.0) names (map lent sorted) moves) distinct in
    record {
      same = λ name. lookup_permutation nat_list_eq_equiv names (map lent sorted) moves distinct' (same_name name) (name_test name);
      distinct = distinct';
      in_order = sorted_in_order sorted up;
    }

-- ---- lawful names

-- what is lawful wherever it is bound is lawful all along
pub lawful_all : (names : List Bound) → ((name : List ℕ) → IsSome (binding_of name names) → IsTrue (is_lawful_name name)) → AreLawful names
lawful_all [] h = tt
lawful_all (b ∷ bs) h = (
  h b.0 (rw (same_itself b.0) refl),
  lawful_all bs
      (λ name some. h name (later (same_name name b.0) name some)),
) where
  later : (t : Bool) (name : List ℕ) → IsSome (binding_of name bs) → IsSome (cond t (Some b.1) (binding_of name bs))
  later true name some = refl
  later false name some = some
