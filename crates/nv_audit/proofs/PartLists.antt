-- Lists of parts, sorted: two of them that have each part as often are one.
use Rattle.std.proofs.Common.{◌≡◌, ℕ, suc, ◌+◌, ◌<◌, ◌≤◌, ◌==◌, if◌then◌else◌, inl, inr, Bool, true, false, cond, List, [], ◌∷◌, length, get_or, arith, refl, ap, sym, subst, ◌∙◌, ◌⊎◌}
use Rattle.std.specs.Cmp.{IsTotalOrder, unsigned_tied}
use Rattle.std.specs.List.{AllByRecursion}
use Rattle.std.specs.List.Sorted.{IsPermutation, IsSortedBy}
use Rattle.std.specs.Ordering.{is_eq, is_lt, nat_cmp, ordering_reverse, ordering_then}
use Rattle.std.specs.declared.cmp.Ordering.{Ordering}
use Rattle.std.specs.declared.cmp.Ordering.TheVariants.{Less, Equal, Greater}
use Rattle.std.proofs.lemmas.Bool.{and_parts, eq-eqb, eqb-true, false≢true}
use Rattle.std.proofs.lemmas.Cmp.{nat_cmp_total, on_total, then_total, tied_itself}
use Rattle.std.proofs.lemmas.List.Sorted.{ranks_by, sorted_far, sum_by-IsPermutation}
use Rattle.nv_base.specs.declared.numbers.EntryId.{EntryId}
use Rattle.nv_entry.specs.declared.part.Part.{Part}
use Rattle.nv_entry.specs.declared.part.Part.TheVariants as part
use Rattle.nv_entry.specs.Held.{same_part}
use Rattle.nv_cell.proofs.Runs.{count_cons}
use Rattle.nv_audit.specs.PartLists.{HaveSameParts, is_same, order_of, part_order, times}
use Rattle.nv_audit.specs.declared.part_list.InodePart.{InodePart}
use Rattle.nv_audit.proofs.PartNames.{same_is}
use lib.Pointwise.{pointwise}

-- ---- the order is one of places

abbrev Place : Type 0
Place = ℕ × EntryId × (ℕ × ℕ)

abbrev id_cmp : EntryId → EntryId → Ordering
id_cmp a b = ordering_then (nat_cmp a.commit b.commit) (nat_cmp a.place b.place)

abbrev key_cmp : ℕ × ℕ → ℕ × ℕ → Ordering
key_cmp a b = ordering_then (nat_cmp a.0 b.0) (nat_cmp a.1 b.1)

abbrev place_cmp : Place → Place → Ordering
place_cmp a b = ordering_then (ordering_then (nat_cmp a.0 b.0) (id_cmp a.1 b.1)) (key_cmp a.2 b.2)

id_total : IsTotalOrder id_cmp
id_total =
    then_total (on_total (λ (id : EntryId). id.commit) nat_cmp_total)
    (on_total (λ (id : EntryId). id.place) nat_cmp_total)

key_total : IsTotalOrder key_cmp
key_total =
    then_total (on_total (λ (k : ℕ × ℕ). k.0) nat_cmp_total)
    (on_total (λ (k : ℕ × ℕ). k.1) nat_cmp_total)

place_total : IsTotalOrder place_cmp
place_total =
    then_total (then_total (on_total (λ (p : Place). p.0) nat_cmp_total) (on_total (λ (p : Place). p.1) id_total))
    (on_total (λ (p : Place). p.2) key_total)

both_equal : (r s : Ordering) → ordering_then r s ≡ Equal → (r ≡ Equal) × (s ≡ Equal)
both_equal Less s e = absurd (false≢true (ap is_eq e))
both_equal Equal s e = (refl, e)
both_equal Greater s e = absurd (false≢true (ap is_eq e))

same_number : (a b : ℕ) → nat_cmp a b ≡ Equal → a ≡ b
same_number a b e = eqb-true a b (sym (unsigned_tied a b) ∙ ap is_eq e)

same_place : (a b : Place) → place_cmp a b ≡ Equal → a ≡ b
same_place a b e =
    let all = both_equal _ _ e in
    let front = both_equal _ _ all.0 in
    let id = both_equal _ _ front.1 in
    let key = both_equal _ _ all.1 in
    let ino : a.0 ≡ b.0 = same_number _ _ front.0 in
    let commit : a.1.commit ≡ b.1.commit = same_number _ _ id.0 in
    let place : a.1.place ≡ b.1.place = same_number _ _ id.1 in
    let kind : a.2.0 ≡ b.2.0 = same_number _ _ key.0 in
    let page : a.2.1 ≡ b.2.1 = same_number _ _ key.1 in
    λ i. (ino i, record { commit = commit i; place = place i }, (kind i, page i))

-- ---- no two parts stand at one place

part_from : ℕ → ℕ → Part
part_from kind page =
    if kind == 0 then part.Kind else if kind == 1 then part.Mode else if kind == 2 then part.Size
    else if kind == 3 then part.Bound else part.Page page

from_place : (p : Part) → part_from (part_order p).0 (part_order p).1 ≡ p
unfolding part_from
from_place part.Kind = refl
from_place part.Mode = refl
from_place part.Size = refl
from_place part.Bound = refl
from_place (part.Page page) = refl

same_order : (a b : InodePart) → order_of a ≡ order_of b → a ≡ b
same_order a b e =
    let at : (p : Part) → part_from (part_order p).0 (part_order p).1 ≡ p = from_place in
    let part : a.part.part ≡ b.part.part =
    sym (at a.part.part) ∙ ap (λ (p : Place). part_from p.2.0 p.2.1) e ∙ at b.part.part in
    λ i. record { ino = (e i).0; part = record { entry = (e i).1; part = part i } }

abbrev pub is_less : InodePart → InodePart → Bool
is_less a b = is_lt (place_cmp (order_of a) (order_of b))

not_less_itself : (a : InodePart) → is_less a a ≡ false
not_less_itself a = ap is_lt (tied_itself place_total (order_of a))

-- of two parts, neither of which is less, each is the other
tied : (a b : InodePart) → is_less a b ≡ false → is_less b a ≡ false → a ≡ b
tied a b left right =
    same_order a b (same_place _ _ (go (place_cmp (order_of a) (order_of b)) (place_cmp (order_of b) (order_of a))
    (place_total.antisymm (order_of a) (order_of b)) left right)) where
      go : (r s : Ordering) → r ≡ ordering_reverse s → is_lt r ≡ false → is_lt s ≡ false → r ≡ Equal
      go Less s e left right = absurd (false≢true (sym left))
      go Equal s e left right = refl
      go Greater Less e left right = absurd (false≢true (sym right))
      go Greater Equal e left right = e
      go Greater Greater e left right = absurd (false≢true (ap is_lt e))

-- ---- sorted lists

-- none is less than one before it
abbrev AreUp : List InodePart → Type 0
AreUp [] = Unit {0}
AreUp (x ∷ xs) = AllByRecursion (λ y. is_less y x ≡ false) xs × AreUp xs

up_from : (xs : List InodePart)
    → ((i j : ℕ) (d : InodePart) → i ≤ j → j < length xs → is_less (get_or xs j d) (get_or xs i d) ≡ false)
    → AreUp xs
up_from [] h = tt
up_from (x ∷ xs) h = (
  all xs (λ j d lt. h 0 (suc j) d (omega arith) (omega (arith, lt))),
  up_from xs (λ i j d le lt. h (suc i) (suc j) d (omega (arith, le)) (omega (arith, lt))),
) where
  all : (ys : List InodePart) → ((j : ℕ) (d : InodePart) → j < length ys → is_less (get_or ys j d) x ≡ false)
      → AllByRecursion (λ y. is_less y x ≡ false) ys
  all [] f = tt
  all (y ∷ ys) f = (f 0 y (omega arith), all ys (λ j d lt. f (suc j) d (omega (arith, lt))))

sorted_up : (xs : List InodePart) → IsSortedBy is_less xs → AreUp xs
sorted_up xs sorted = up_from xs (sorted_far is_less (ranks_by place_total order_of) xs sorted)

-- ---- counts

same_part_itself : (p : Part) → same_part p p ≡ true
same_part_itself part.Kind = refl
same_part_itself part.Mode = refl
same_part_itself part.Size = refl
same_part_itself part.Bound = refl
same_part_itself (part.Page page) = eq-eqb page page refl

same_itself : (x : InodePart) → is_same x x ≡ true
same_itself x = rw (
  eq-eqb x.ino x.ino refl,
  eq-eqb x.part.entry.commit x.part.entry.commit refl,
  eq-eqb x.part.entry.place x.part.entry.place refl,
) (same_part_itself x.part.part)

times_first : (x : InodePart) (xs : List InodePart) → times x (x ∷ xs) ≡ 1 + times x xs
times_first x xs =
    let one = ap {B = ℕ} (λ (b : Bool). cond b 1 0) (same_itself x) in omega (arith, count_cons (is_same x) x xs, one)

-- what holds of each part of a list holds of a part that stands in it
there : (P : InodePart → Type 0) (part : InodePart) (xs : List InodePart) → AllByRecursion P xs → (times part xs ≡ 0) ⊎ P part
there P part [] h = inl refl
there P part (x ∷ xs) h = go (is_same part x) refl (there P part xs h.1) where
  go : (b : Bool) → is_same part x ≡ b → (times part xs ≡ 0) ⊎ P part → (times part (x ∷ xs) ≡ 0) ⊎ P part
  go true e rest = inr (subst P (same_is part x e) h.0)
  go false e (inl none) = inl (omega (arith, count_cons (is_same part) x xs, ap {B = ℕ} (λ (b : Bool). cond b 1 0) e, none))
  go false e (inr p) = inr p

-- the first of a sorted list is not less than a part that stands in it
first_least : (x y : InodePart) (ys : List InodePart) → AreUp (y ∷ ys) → 1 ≤ times x (y ∷ ys) → is_less x y ≡ false
first_least x y ys up some =
    elim (there (λ z. is_less z y ≡ false) x (y ∷ ys) (not_less_itself y, up.0)) [
      | inl none ↦ absurd (omega (arith, some, none))
      | inr least ↦ least
    ]

-- sorted lists that have each part as often are one
one_order : (xs ys : List InodePart) → AreUp xs → AreUp ys → HaveSameParts xs ys → xs ≡ ys
one_order [] [] up also same = refl
one_order [] (y ∷ ys) up also same =
    absurd (let none : 0 ≡ times y (y ∷ ys) = same y in omega (arith, none, times_first y ys))
one_order (x ∷ xs) [] up also same =
    absurd (let none : times x (x ∷ xs) ≡ 0 = same x in omega (arith, none, times_first x xs))
one_order (x ∷ xs) (y ∷ ys) up also same =
    let first : x ≡ y = tied x y
    (first_least x y ys also (omega (arith, same x, times_first x xs)))
    (first_least y x xs up (omega (arith, same y, times_first y ys))) in
    let rest : xs ≡ ys = one_order xs ys up.1 also.1 (λ p.
    let bit : cond (is_same p x) 1 0 ≡ cond (is_same p y) 1 0 =
    ap {B = ℕ} (λ (z : InodePart). cond (is_same p z) 1 0) first in
    omega (arith, same p, bit, count_cons (is_same p) x xs, count_cons (is_same p) y ys)) in
    λ i. first i ∷ rest i

-- a list in another order has each part as often
times_moved : (xs ys : List InodePart) (p : InodePart) → IsPermutation xs ys → times p ys ≡ times p xs
times_moved xs ys p moved = sum_by-IsPermutation (λ q. cond (is_same p q) 1 0) xs ys moved

-- lists have each part as often where they are one once they are sorted
module _ (one other first second : List InodePart) (moved : IsPermutation one first) (too : IsPermutation other second) where
  pub same_if_one : first ≡ second → HaveSameParts one other
  same_if_one e p = sym (times_moved one first p moved) ∙ ap (times p) e ∙ times_moved other second p too

  pub one_if_same : IsSortedBy is_less first → IsSortedBy is_less second → HaveSameParts one other → first ≡ second
  one_if_same up also same =
      one_order first second (sorted_up first up) (sorted_up second also)
      (λ p. times_moved one first p moved ∙ same p ∙ sym (times_moved other second p too))

-- lists are one where a test of single parts passes along them
module _ (equal : InodePart → InodePart → Bool) (tells : (a b : InodePart) → equal a b ≡ is_same b a) where
  pub one_if_equal : (xs ys : List InodePart) → pointwise equal xs ys ≡ true → xs ≡ ys
  one_if_equal [] [] e = refl
  one_if_equal [] (y ∷ ys) e = absurd (false≢true e)
  one_if_equal (x ∷ xs) [] e = absurd (false≢true e)
  one_if_equal (x ∷ xs) (y ∷ ys) e =
      let both = and_parts (equal x y) (pointwise equal xs ys) e in
      let first : x ≡ y = same_is y x (sym (tells x y) ∙ both.0) in
      let rest : xs ≡ ys = one_if_equal xs ys both.1 in
      λ i. first i ∷ rest i

  equal_itself : (xs : List InodePart) → pointwise equal xs xs ≡ true
  equal_itself [] = refl
  equal_itself (x ∷ xs) = rw (tells x x ∙ same_itself x) (equal_itself xs)

  pub equal_if_one : (xs ys : List InodePart) → xs ≡ ys → pointwise equal xs ys ≡ true
  equal_if_one xs ys e = subst (λ l. pointwise equal xs l ≡ true) e (equal_itself xs)
