-- Lists of block numbers, of which each is to stand once.
use Rattle.std.proofs.Common.{◌≡◌, ℕ, zero, suc, ◌+◌, ◌-◌, ◌<◌, ◌≤◌, ◌==◌, ◌++◌, inl, false, refl, inr, Bool, true, List, [], ◌∷◌, length, take, drop, get_or, set, cond, nat_lt, arith, ap, sym, subst, ◌∙◌}
use Rattle.std.specs.List.{range_with_len}
use Rattle.std.proofs.Math.Seq.{take-length}
use Rattle.std.proofs.lemmas.Bool.{cases_lt, eqb-true, le-ltb, lt-ltb, ne_eqb}
use Rattle.std.proofs.lemmas.List.{drop_more, take-append-drop, take_more}
use Rattle.nv_alloc.specs.Numbers.{IsEachOnce, times}
use Rattle.nv_alloc.proofs.Lists.{has-times, times-append, times-no, times-yes}
use Rattle.nv_audit.specs.Blocks.{AreAllSet, AreMarksOnce, AreOnceBelow, IsUnmarked}
use Rattle.nv_audit.specs.Lists.{AreMarked}
use Rattle.nv_audit.specs.Tree.{IsOnce}
use Rattle.nv_audit.proofs.Counting.{has_if_some, some_if_has, times_first}
use Rattle.nv_audit.proofs.PartBlocks.{range_split}
use Rattle.nv_audit.proofs.Reaching.{marked_more, unmarked_none}

-- ---- runs

pub range_more : (first n : ℕ) → first ≤ n → range_with_len first (n - first) ++ n ∷ [] ≡ range_with_len first (n + 1 - first)
range_more first n le =
    let count : n - first + 1 ≡ n + 1 - first = omega (arith, le) in
    let last : first + (n - first) ≡ n = omega (arith, le) in
    ap (λ (k : ℕ). range_with_len first (n - first) ++ k ∷ []) (sym last) ∙ sym (range_split first (n - first) 1)
    ∙ ap (range_with_len first) count

-- ---- numbers that are marked one by one

-- those before place i are marked, each once, and are below the end
pub record AreMarkedOnce (blocks : ℕ) (numbers : List ℕ) (i : ℕ) (marks : List Bool) : Type 0 where
  pub marked : AreMarked blocks (take i numbers) marks
  pub once : IsOnce (take i numbers)
  pub below : (n : ℕ) → blocks ≤ n → times n (take i numbers) ≡ 0

-- the list around the number at a place
cut_at : (numbers : List ℕ) (i n : ℕ) → i < length numbers → n ≡ get_or numbers i n
    → take i numbers ++ n ∷ drop (i + 1) numbers ≡ numbers
cut_at numbers i n lt is =
    let rest = drop (i + 1) numbers in
    ap (λ (m : ℕ). take i numbers ++ m ∷ rest) is ∙ ap (λ (ns : List ℕ). take i numbers ++ ns) (sym (drop_more numbers i n lt))
    ∙ take-append-drop i numbers

pub next_unmarked : (blocks : ℕ) (numbers : List ℕ) (i : ℕ) (marks : List Bool) (n : ℕ) → i < length numbers → n ≡ get_or numbers i n
    → AreMarkedOnce blocks numbers i marks → AreOnceBelow blocks numbers → IsUnmarked marks n
next_unmarked blocks numbers i marks n lt is are all =
    let before = take i numbers in
    let rest = drop (i + 1) numbers in
    let parts = ap (times n) (sym (cut_at numbers i n lt is)) ∙ times-append n before (n ∷ rest) in
    let first = times_first n rest in
    let less : n < blocks = all.within n (omega (arith, parts, first)) in
    let none : times n before ≡ 0 = omega (arith, parts, first, all.once n) in
    record {
      within = omega (arith, less, are.marked.len);
      unset = are.marked.marked n less ∙ has-times n before none;
    }

one_more_once : (m : ℕ) (before : List ℕ) (n : ℕ) → times n before ≡ 0 → IsOnce before → times m (before ++ n ∷ []) ≤ 1
one_more_once m before n none once = go (n == m) refl where
  both : times m (before ++ n ∷ []) ≡ times m before + times m (n ∷ [])
  both = times-append m before (n ∷ [])

  go : (b : Bool) → (n == m) ≡ b → times m (before ++ n ∷ []) ≤ 1
  go true e =
      let same : times m before ≡ times n before = ap (λ (k : ℕ). times k before) (sym (eqb-true n m e)) in
      let one = times-yes m n [] e in omega (arith, both, none, same, one)
  go false e = let no = times-no m n [] e in omega (arith, both, no, once m)

none_of : (m : ℕ) (before : List ℕ) (n : ℕ) → times m before ≡ 0 → n < m → times m (before ++ n ∷ []) ≡ 0
none_of m before n none lt =
    let no = times-no m n [] (ne_eqb n m (λ (is : n ≡ m). omega (arith, is, lt))) in
    omega (arith, times-append m before (n ∷ []), none, no)

take_whole : (numbers : List ℕ) (i : ℕ) → i ≡ length numbers → take i numbers ≡ numbers
take_whole numbers i end = ap (λ (k : ℕ). take k numbers) end ∙ take-length numbers

pub mark_next : (blocks : ℕ) (numbers : List ℕ) (i : ℕ) (marks : List Bool) (n : ℕ) → i < length numbers → n ≡ get_or numbers i n
    → AreMarkedOnce blocks numbers i marks → IsUnmarked marks n → AreMarkedOnce blocks numbers (i + 1) (set marks n true)
mark_next blocks numbers i marks n lt is are new =
    let before = take i numbers in
    let more : take (i + 1) numbers ≡ before ++ n ∷ [] =
    take_more numbers i n lt ∙ ap (λ (m : ℕ). before ++ m ∷ []) (sym is) in
    let less : n < blocks = omega (arith, new.within, are.marked.len) in
    let none = unmarked_none blocks before marks n are.marked less new.unset in
    record {
      marked = subst (λ (ns : List ℕ). AreMarked blocks ns (set marks n true)) (sym more) (marked_more blocks before marks n are.marked less);
      once = subst IsOnce (sym more) (λ m. one_more_once m before n none are.once);
      below = λ m from. ap (times m) more ∙ none_of m before n (are.below m from) (omega (arith, less, from));
    }

-- ---- the whole list

pub all_marked : (blocks : ℕ) (numbers : List ℕ) (i : ℕ) (marks : List Bool) → i ≡ length numbers
    → AreMarkedOnce blocks numbers i marks → AreMarksOnce blocks numbers marks
all_marked blocks numbers i marks ended are = record {
  marked = subst (λ (ns : List ℕ). AreMarked blocks ns marks) all are.marked;
  below = record {
    within = λ n some. elim (cases_lt n blocks) [
      | inl less ↦ less
      | inr from ↦
          absurd (omega (arith, some, sym (ap (times n) all) ∙ are.below n (omega (arith, from))))
    ];
    once = subst IsOnce all are.once;
  };
} where
  all : take i numbers ≡ numbers
  all = take_whole numbers i ended

pub each_once_below : (blocks : ℕ) (numbers : List ℕ) → IsEachOnce blocks numbers → AreOnceBelow blocks numbers
each_once_below blocks numbers each = record {
  within = λ n some. elim (cases_lt n blocks) [
    | inl less ↦ less
    | inr from ↦
        let none : times n numbers ≡ 0 = each n ∙ ap (λ (b : Bool). cond b 1 0) (le-ltb n blocks (omega (arith, from))) in
        absurd (omega (arith, some, none))
  ];
  once = λ n. elim (cases_lt n blocks) [
    | inl less ↦
        let one : times n numbers ≡ 1 = each n ∙ ap (λ (b : Bool). cond b 1 0) (lt-ltb n blocks less) in omega (arith, one)
    | inr from ↦
        let none : times n numbers ≡ 0 = each n ∙ ap (λ (b : Bool). cond b 1 0) (le-ltb n blocks (omega (arith, from))) in
        omega (arith, none)
  ];
}

pub each_if_set : (blocks : ℕ) (numbers : List ℕ) (marks : List Bool) → AreMarksOnce blocks numbers marks → AreAllSet marks
    → IsEachOnce blocks numbers
each_if_set blocks numbers marks are set n =
    elim (cases_lt n blocks) [
      | inl less ↦
          let marked = sym (are.marked.marked n less) ∙ set n (omega (arith, less, are.marked.len)) in
          let some = some_if_has n numbers marked in
          let one : times n numbers ≡ 1 = omega (arith, are.below.once n, some) in
          one ∙ sym (ap (λ (b : Bool). cond b 1 0) (lt-ltb n blocks less))
      | inr from ↦ none n from (times n numbers) refl
    ]
  where
    none : (n : ℕ) → blocks ≤ n → (t : ℕ) → times n numbers ≡ t → times n numbers ≡ cond (nat_lt n blocks) 1 0
    none n from zero e = e ∙ sym (ap (λ (b : Bool). cond b 1 0) (le-ltb n blocks (omega (arith, from))))
    none n from (suc t) e = absurd (let less = are.below.within n (omega (arith, e)) in omega (arith, less, from))

pub set_if_each : (blocks : ℕ) (numbers : List ℕ) (marks : List Bool) → AreMarksOnce blocks numbers marks
    → IsEachOnce blocks numbers → AreAllSet marks
set_if_each blocks numbers marks are each n lt =
    let less : n < blocks = omega (arith, lt, are.marked.len) in
    let one : times n numbers ≡ 1 = each n ∙ ap (λ (b : Bool). cond b 1 0) (lt-ltb n blocks less) in
    are.marked.marked n less ∙ has_if_some n numbers (omega (arith, one))
