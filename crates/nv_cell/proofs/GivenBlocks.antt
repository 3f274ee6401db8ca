-- Blocks that a plan gets, one after another.
use Rattle.std.proofs.Common.{◌≡◌, ℕ, ◌+◌, ◌-◌, ◌<◌, ◌≤◌, ◌==◌, ◌||◌, ◌∙◌, Bool, true, false, cond, List, [], ◌∷◌, ◌++◌, Option, Some, None, ap, append_assoc, arith, drop, length, length-append, map, refl, slice_get, subst, sym, take}
use Rattle.std.specs.Prelude.{option_to_list}
use Rattle.std.specs.List.{range_with_len}
use Rattle.std.proofs.Math.Seq.{take-add}
use Rattle.std.proofs.lemmas.Bool.{eq-eqb}
use Rattle.std.proofs.lemmas.Grind.{flat_map-append}
use Rattle.std.proofs.lemmas.List.{append-nil, length-map, map-append, take-append-drop}
use Rattle.std.proofs.lemmas.List.FromFn.{map-range_with_len_more}
use Rattle.nv_alloc.specs.Block.{BlockValue, block_by}
use Rattle.nv_alloc.specs.FreeList.{AreListsOf, FreeBlocks, free_blocks, without}
use Rattle.nv_alloc.specs.Numbers.{has, times}
use Rattle.nv_alloc.proofs.AllLists.{left_by}
use Rattle.nv_alloc.proofs.Lists.{has-times, times-append, times-cons, times-yes}
use Rattle.nv_base.specs.declared.geometry.GeometryNumbers.{GeometryNumbers}
use Rattle.nv_entry.specs.declared.item.Entry.{Entry}
use Rattle.nv_entry.specs.Covered.{part_count, part_total}
use Rattle.nv_entry.proofs.PartLists.{drop-some}
use Rattle.nv_cell.specs.declared.mark.Mark.{Mark}
use Rattle.nv_cell.specs.Filling.{AreGiven, AreOnce, AreTaken, entry_wants, log_wants, numbers_wanted, taken_from}
use Rattle.nv_cell.specs.Numbers.{part_base}
use Rattle.nv_cell.proofs.FilledSlots.{map_cut}

-- ---- numbers that are wanted

numbers_append : (xs ys : List (Option ℕ)) → numbers_wanted (xs ++ ys) ≡ numbers_wanted xs ++ numbers_wanted ys
numbers_append xs ys = flat_map-append option_to_list xs ys

times_both : (n : ℕ) (xs ys : List (Option ℕ)) → times n (numbers_wanted (xs ++ ys)) ≡ times n (numbers_wanted xs) + times n (numbers_wanted ys)
times_both n xs ys = ap (times n) (numbers_append xs ys) ∙ times-append n (numbers_wanted xs) (numbers_wanted ys)

pub once_front : (xs ys : List (Option ℕ)) → AreOnce (xs ++ ys) → AreOnce xs
once_front xs ys once n = omega (arith, once n, times_both n xs ys)

pub once_back : (xs ys : List (Option ℕ)) → AreOnce (xs ++ ys) → AreOnce ys
once_back xs ys once n = omega (arith, once n, times_both n xs ys)

has_append : (xs ys : List ℕ) (n : ℕ) → has (xs ++ ys) n ≡ (has xs n || has ys n)
has_append [] ys n = refl
has_append (x ∷ xs) ys n = go (x == n) (has_append xs ys n) where
  go : (c : Bool) → has (xs ++ ys) n ≡ (has xs n || has ys n) → (c || has (xs ++ ys) n) ≡ ((c || has xs n) || has ys n)
  go true e = refl
  go false e = e

-- ---- what is taken

both : (x y : Bool) (o : Option BlockValue) → cond y None (cond x None o) ≡ cond (x || y) None o
both true true o = refl
both true false o = refl
both false y o = refl

taken_join : (g : GeometryNumbers) (xs ys : List (Option ℕ)) (a b c : List FreeBlocks) → AreTaken g xs a b → AreTaken g ys b c
    → AreTaken g (xs ++ ys) a c
taken_join g xs ys a b c p q = record { homes = q.homes; each = each } where
  each : (n : ℕ) → block_by (free_blocks c) n ≡ cond (has (numbers_wanted (xs ++ ys)) n) None (block_by (free_blocks a) n)
  each n =
      let x = has (numbers_wanted xs) n in
      let y = has (numbers_wanted ys) n in
      let o = block_by (free_blocks a) n in
      let all : has (numbers_wanted (xs ++ ys)) n ≡ (x || y) =
      ap (λ (ns : List ℕ). has ns n) (numbers_append xs ys) ∙ has_append (numbers_wanted xs) (numbers_wanted ys) n in
      q.each n ∙ ap (λ (m : Option BlockValue). cond y None m) (p.each n) ∙ both x y o ∙ ap (λ (t : Bool). cond t None o) (sym all)

-- what is wanted later and was not wanted before is as it was
same_taken : (g : GeometryNumbers) (xs ys : List (Option ℕ)) (a b : List FreeBlocks) → AreTaken g xs a b
    → ((n : ℕ) → times n (numbers_wanted xs) + times n (numbers_wanted ys) ≤ 1) → map (taken_from b) ys ≡ map (taken_from a) ys
same_taken g xs [] a b p once = refl
same_taken g xs (None ∷ ys) a b p once = ap (λ os. taken_from a None ∷ os) (same_taken g xs ys a b p once)
same_taken g xs (Some n ∷ ys) a b p once =
    let all : times n (numbers_wanted xs) + times n (n ∷ numbers_wanted ys) ≤ 1 = once n in
    let here : times n (n ∷ numbers_wanted ys) ≡ 1 + times n (numbers_wanted ys) = times-yes n n (numbers_wanted ys) (eq-eqb n n refl) in
    let none : times n (numbers_wanted xs) ≡ 0 = omega (arith, all, here) in
    let out : has (numbers_wanted xs) n ≡ false = has-times n (numbers_wanted xs) none in
    let first : block_by (free_blocks b) n ≡ block_by (free_blocks a) n =
    p.each n ∙ ap (λ (t : Bool). cond t None (block_by (free_blocks a) n)) out in
    ap (λ o. o ∷ map (taken_from b) ys) first ∙ ap (λ os. block_by (free_blocks a) n ∷ os) (same_taken g xs ys a b p rest)
  where
    rest : (m : ℕ) → times m (numbers_wanted xs) + times m (numbers_wanted ys) ≤ 1
    rest m =
        let all : times m (numbers_wanted xs) + times m (n ∷ numbers_wanted ys) ≤ 1 = once m in
        omega (arith, all, times-cons m n (numbers_wanted ys))

-- nothing is wanted
pub taken_none : (g : GeometryNumbers) (a : List FreeBlocks) → AreListsOf g a → AreTaken g (None ∷ []) a a
taken_none g a homes = record { homes = homes; each = λ n. refl }

-- and one number
pub taken_one : (g : GeometryNumbers) (a b : List FreeBlocks) (n : ℕ) → b ≡ map (without n) a → AreListsOf g b → AreTaken g (Some n ∷ []) a b
taken_one g a b n is homes = record { homes = homes; each = each } where
  or_false : (c : Bool) → c ≡ (c || false)
  or_false true = refl
  or_false false = refl

  each : (m : ℕ) → block_by (free_blocks b) m ≡ cond (has (numbers_wanted (Some n ∷ [])) m) None (block_by (free_blocks a) m)
  each m =
      ap (λ (ls : List FreeBlocks). block_by (free_blocks ls) m) is ∙ left_by a n m
      ∙ ap (λ (t : Bool). cond t None (block_by (free_blocks a) m)) (or_false (n == m))

-- ---- what is given

pub given_none : (g : GeometryNumbers) (a : List FreeBlocks) (u : List (Option BlockValue)) → AreListsOf g a → AreGiven g [] a a u u
given_none g a u homes = record { slots = sym (append-nil u); lists = record { homes = homes; each = λ n. refl } }

pub given_join : (g : GeometryNumbers) (xs ys : List (Option ℕ)) (a b c : List FreeBlocks) (u v w : List (Option BlockValue))
    → AreGiven g xs a b u v → AreGiven g ys b c v w → AreOnce (xs ++ ys) → AreGiven g (xs ++ ys) a c u w
given_join g xs ys a b c u v w p q once = record {
  slots = q.slots
      ∙ ap (λ bs. v ++ bs) (same_taken g xs ys a b p.lists (λ n. omega (arith, once n, times_both n xs ys)))
      ∙ ap (λ bs. bs ++ map (taken_from a) ys) p.slots
      ∙ append_assoc u (map (taken_from a) xs) (map (taken_from a) ys)
      ∙ ap (λ bs. u ++ bs) (sym (map-append (taken_from a) xs ys));
  lists = taken_join g xs ys a b c p.lists q.lists;
}

pub given_len : (g : GeometryNumbers) (xs : List (Option ℕ)) (a b : List FreeBlocks) (u v : List (Option BlockValue)) → AreGiven g xs a b u v
    → length v ≡ length u + length xs
given_len g xs a b u v p =
    ap length p.slots ∙ length-append u (map (taken_from a) xs) ∙ ap (λ n. length u + n) (length-map xs (taken_from a))

-- one more part of an entry
module _ (g : GeometryNumbers) (f : ℕ → Option ℕ) (count place : ℕ) (a b c : List FreeBlocks) (u v w : List (Option BlockValue))
    (low : 1 ≤ place) (lt : place < count) (once : AreOnce (map f (range_with_len 1 (count - 1))))
    (before : AreGiven g (map f (range_with_len 1 (place - 1))) a b u v) (own : AreGiven g (f place ∷ []) b c v w) where
  more : map f (range_with_len 1 place) ≡ map f (range_with_len 1 (place - 1)) ++ f place ∷ []
  more =
      let z : place ≡ place - 1 + 1 = omega (arith, low) in
      ap (λ (k : ℕ). map f (range_with_len 1 k)) z ∙ map-range_with_len_more f 1 (place - 1) place (omega (arith, low))

  these_once : AreOnce (map f (range_with_len 1 (place - 1)) ++ f place ∷ [])
  these_once =
      let z : count - 1 ≡ place + (count - 1 - place) = omega (arith, low, lt) in
      let whole = ap (λ (k : ℕ). map f (range_with_len 1 k)) z ∙ map_cut f 1 place (count - 1 - place) in
      let front = once_front (map f (range_with_len 1 place)) (map f (range_with_len (1 + place) (count - 1 - place))) (subst AreOnce whole once) in
      subst AreOnce more front

  pub part_more : AreGiven g (map f (range_with_len 1 (place + 1 - 1))) a c u w
  part_more =
      let z : place ≡ place + 1 - 1 = omega arith in
      let all = given_join g (map f (range_with_len 1 (place - 1))) (f place ∷ []) a b c u v w before own these_once in
      subst (λ (k : ℕ). AreGiven g (map f (range_with_len 1 k)) a c u w) z (subst (λ (xs : List (Option ℕ)). AreGiven g xs a c u w) (sym more) all)

-- ---- the wants of a log, entry by entry

pub wants_append : (block : ℕ) (marks : List Mark) (first : ℕ) (xs ys : List Entry)
    → log_wants block marks first (xs ++ ys) ≡ log_wants block marks first xs ++ log_wants block marks (first + part_total xs) ys
wants_append block marks first [] ys =
    let z : first ≡ first + part_total [] = omega arith in
    ap (λ (k : ℕ). log_wants block marks k ys) z
wants_append block marks first (e ∷ xs) ys =
    let z : first + part_count e + part_total xs ≡ first + part_total (e ∷ xs) = omega arith in
    let own = entry_wants block marks first e in
    let rest = log_wants block marks (first + part_count e) xs in
    ap (λ ws. own ++ ws)
    (wants_append block marks (first + part_count e) xs ys ∙ ap (λ (k : ℕ). rest ++ log_wants block marks k ys) z)
    ∙ sym (append_assoc own rest (log_wants block marks (first + part_total (e ∷ xs)) ys))

module _ (block : ℕ) (marks : List Mark) (es : List Entry) (t : ℕ) (e : Entry) (at : slice_get es t ≡ Some e) where
  taken_next : take (t + 1) es ≡ take t es ++ e ∷ []
  taken_next = take-add t 1 es ∙ ap (λ (xs : List Entry). take t es ++ take 1 xs) (drop-some es t e at)

  pub next_wants : log_wants block marks 0 (take (t + 1) es)
      ≡ log_wants block marks 0 (take t es) ++ entry_wants block marks (part_base es t) e
  next_wants =
      let z : 0 + part_total (take t es) ≡ part_base es t = omega arith in
      ap (log_wants block marks 0) taken_next ∙ wants_append block marks 0 (take t es) (e ∷ [])
      ∙ ap (λ (k : ℕ). log_wants block marks 0 (take t es) ++ log_wants block marks k (e ∷ [])) z
      ∙ ap (λ ws. log_wants block marks 0 (take t es) ++ ws) (append-nil (entry_wants block marks (part_base es t) e))

  pub these_wants_once : AreOnce (log_wants block marks 0 es)
      → AreOnce (log_wants block marks 0 (take t es) ++ entry_wants block marks (part_base es t) e)
  these_wants_once once =
      let k = t + 1 in
      let whole : log_wants block marks 0 es ≡ log_wants block marks 0 (take k es) ++ log_wants block marks (0 + part_total (take k es)) (drop k es) =
      ap (log_wants block marks 0) (sym (take-append-drop k es)) ∙ wants_append block marks 0 (take k es) (drop k es) in
      let front = once_front (log_wants block marks 0 (take k es)) (log_wants block marks (0 + part_total (take k es)) (drop k es)) (subst AreOnce whole once) in
      subst AreOnce next_wants front

  pub own_wants_once : AreOnce (log_wants block marks 0 es) → AreOnce (entry_wants block marks (part_base es t) e)
  own_wants_once once =
      once_back (log_wants block marks 0 (take t es)) (entry_wants block marks (part_base es t) e) (these_wants_once once)
