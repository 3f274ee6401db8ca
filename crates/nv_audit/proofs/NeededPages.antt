-- The blocks of the pages that are needed: each is there, and no two pages have one.
use Rattle.std.proofs.Common.{◌≡◌, ℕ, zero, suc, ◌+◌, ◌<◌, ◌≤◌, ◌==◌, ◌||◌, inl, inr, Bool, true, false, cond, List, [], ◌∷◌, length, map, Option, None, Some, refl, ap, arith, sym, subst, ◌∙◌}
use Rattle.std.specs.Prelude.{All, slice_get, slice_index_or}
use Rattle.std.specs.List.{flat_map, range_with_len}
use Rattle.std.proofs.Math.Bool.{or-false}
use Rattle.std.proofs.lemmas.Bool.{cases_lt, eqb-false, eqb-true, false≢true}
use Rattle.std.proofs.lemmas.List.{get_or_past}
use Rattle.std.proofs.lemmas.Option.{same_Some}
use Rattle.nv_alloc.specs.Block.{BlockValue}
use Rattle.nv_alloc.specs.Numbers.{times}
use Rattle.nv_alloc.proofs.Lists.{times-append, times-no, times-yes}
use Rattle.nv_cell.specs.Anew.{mark_by}
use Rattle.nv_cell.specs.Cell.{CellState, log_of, page_block}
use Rattle.nv_cell.specs.Marks.{is_there, mark_at}
use Rattle.nv_cell.specs.declared.mark.Mark.{Mark}
use Rattle.nv_cell.specs.declared.mark.Mark.TheVariants.{Current, Kept, Out}
use Rattle.nv_cell.proofs.MarksAnew.{len_anew}
use Rattle.nv_entry.specs.Covered.{part_total}
use Rattle.nv_entry.specs.Held.{Retention, is_current as pair_current, is_held, is_needed}
use Rattle.nv_entry.specs.Log.{pairs}
use Rattle.nv_entry.specs.declared.held.Pair.{Pair}
use Rattle.nv_entry.specs.declared.item.Entry.{Entry}
use Rattle.nv_audit.specs.Faults.{IsNeededPage}
use Rattle.nv_audit.specs.Lists.{blocks_kept}
use Rattle.nv_audit.specs.MountedLogs.{AreAmong, HasItsBlocks, IsAmong, IsMadeOf}
use Rattle.nv_audit.specs.Tree.{IsOnce}
use Rattle.nv_audit.proofs.Counting.{one_of, range_has, times_first, two_of}
use Rattle.nv_audit.proofs.PartBlocks.{if_used, kept_numbers}

-- ---- what holds of each number of a list

pub all_times : (P : ℕ → Type 0) (ns : List ℕ) → All P ns → (n : ℕ) → 1 ≤ times n ns → P n
all_times P [] all n some = absurd (let none : 1 ≤ 0 = some in omega (arith, none))
all_times P (m ∷ ns) all n some =
    go (m == n) refl (all_times P ns (λ k d lt. all (suc k) d (omega (arith, lt))) n) where
      go : (b : Bool) → (m == n) ≡ b → (1 ≤ times n ns → P n) → P n
      go true q more = subst P (eqb-true m n q) (all 0 m (omega arith))
      go false q more = more (let no = times-no n m ns q in omega (arith, no, some))

pub times_all : (P : ℕ → Type 0) (ns : List ℕ) → ((n : ℕ) → 1 ≤ times n ns → P n) → All P ns
times_all P [] each k d lt = absurd (omega (arith, lt))
times_all P (m ∷ ns) each zero d lt = each m (let first = times_first m ns in omega (arith, first))
times_all P (m ∷ ns) each (suc k) d lt =
    times_all P ns (λ n some. each n (more n some (m == n) refl)) k d (omega (arith, lt)) where
      more : (n : ℕ) → 1 ≤ times n ns → (b : Bool) → (m == n) ≡ b → 1 ≤ times n (m ∷ ns)
      more n some true q = let yes = times-yes n m ns q in omega (arith, yes)
      more n some false q = let no = times-no n m ns q in omega (arith, no, some)

-- ---- numbers that are given by a range

module _ (f : ℕ → List ℕ) (m : ℕ) where
  none_from : (a k : ℕ) → ((n : ℕ) → a ≤ n → times m (f n) ≡ 0) → times m (flat_map f (range_with_len a k)) ≡ 0
  none_from a zero none = refl
  none_from a (suc k) none =
      let rest = none_from (a + 1) k (λ n le. none n (omega (arith, le))) in
      let first = none a (omega arith) in
      let both = times-append m (f a) (flat_map f (range_with_len (a + 1) k)) in omega (arith, rest, first, both)

  -- one of them gives it
  pub given_by : (a k : ℕ) → 1 ≤ times m (flat_map f (range_with_len a k)) → (n : ℕ) × (1 ≤ times m (f n))
  given_by a zero some = absurd (let none : 1 ≤ 0 = some in omega (arith, none))
  given_by a (suc k) some = go (times m (f a)) refl (given_by (a + 1) k) where
    both : times m (flat_map f (range_with_len a (suc k))) ≡ times m (f a) + times m (flat_map f (range_with_len (a + 1) k))
    both = times-append m (f a) (flat_map f (range_with_len (a + 1) k))

    go : (t : ℕ) → times m (f a) ≡ t
        → (1 ≤ times m (flat_map f (range_with_len (a + 1) k)) → (n : ℕ) × (1 ≤ times m (f n))) → (n : ℕ) × (1 ≤ times m (f n))
    go zero e rest = rest (omega (arith, some, both, e))
    go (suc t) e rest = (a, omega (arith, e))

  -- and it is given once, where one gives it once and no other
  pub given_once : (a k : ℕ) → ((n : ℕ) → times m (f n) ≤ 1)
      → ((n o : ℕ) → 1 ≤ times m (f n) → 1 ≤ times m (f o) → n ≡ o) → times m (flat_map f (range_with_len a k)) ≤ 1
  given_once a zero one same = omega arith
  given_once a (suc k) one same = go (times m (f a)) refl (given_once (a + 1) k one same) where
    both : times m (flat_map f (range_with_len a (suc k))) ≡ times m (f a) + times m (flat_map f (range_with_len (a + 1) k))
    both = times-append m (f a) (flat_map f (range_with_len (a + 1) k))

    others : (t : ℕ) → times m (f a) ≡ suc t → (n : ℕ) → a + 1 ≤ n → (u : ℕ) → times m (f n) ≡ u → times m (f n) ≡ 0
    others t e n le zero q = q
    others t e n le (suc u) q = absurd (let is = same a n (omega (arith, e)) (omega (arith, q)) in omega (arith, is, le))

    go : (t : ℕ) → times m (f a) ≡ t → times m (flat_map f (range_with_len (a + 1) k)) ≤ 1
        → times m (flat_map f (range_with_len a (suc k))) ≤ 1
    go zero e rest = omega (arith, rest, both, e)
    go (suc t) e rest =
        let none = none_from (a + 1) k (λ n le. others t e n le (times m (f n)) refl) in
        let most = one a in omega (arith, none, most, both)

-- ---- one mark

pub there_by : (living : List ℕ) (pair : Pair) → is_there (mark_by living pair) ≡ is_needed living pair
there_by living pair = go (pair_current pair) (is_held living pair) where
  go : (a b : Bool) → is_there (cond a Current (cond b Kept Out)) ≡ (a || b)
  go true b = refl
  go false true = refl
  go false false = refl

pub mark_of : (living : List ℕ) (ps : List Pair) (n : ℕ) (pair : Pair) → slice_get ps n ≡ Some pair
    → slice_index_or (map (mark_by living) ps) n Out ≡ mark_by living pair
mark_of living [] n pair e = cc
mark_of living (p ∷ ps) zero pair e = ap (mark_by living) (same_Some p pair e)
mark_of living (p ∷ ps) (suc n) pair e = mark_of living ps n pair e

-- ---- one page

used_some : (used : Bool) (says : Option ℕ) (m : ℕ) → 1 ≤ times m (if_used used says) → (used ≡ true) × (says ≡ Some m)
used_some false says m some = absurd (let none : 1 ≤ 0 = some in omega (arith, none))
used_some true None m some = absurd (let none : 1 ≤ 0 = some in omega (arith, none))
used_some true (Some n) m some = (refl, go (n == m) refl) where
  go : (b : Bool) → (n == m) ≡ b → Some n ≡ Some m
  go true q = ap (λ (k : ℕ). Some k) (eqb-true n m q)
  go false q = absurd (let no = times-no m n [] q in omega (arith, no, some))

some_used : (used : Bool) (says : Option ℕ) (m : ℕ) → used ≡ true → says ≡ Some m → 1 ≤ times m (if_used used says)
some_used used says m in_use is =
    let all : if_used used says ≡ m ∷ [] = ap (λ (b : Bool). if_used b says) in_use ∙ ap (if_used true) is in
    let first = times_first m [] in let same = ap (times m) all in omega (arith, first, same)

used_most : (used : Bool) (says : Option ℕ) (m : ℕ) → times m (if_used used says) ≤ 1
used_most false says m = omega arith
used_most true None m = omega arith
used_most true (Some n) m = go (n == m) refl where
  go : (b : Bool) → (n == m) ≡ b → times m (n ∷ []) ≤ 1
  go true q = let yes = times-yes m n [] q in omega (arith, yes)
  go false q = let no = times-no m n [] q in omega (arith, no)

-- ---- all pages of a cell

module _ (living : List ℕ) (blocks : List BlockValue) (cell : CellState) (made : IsMadeOf living blocks cell) where
  abbrev kept_by : Retention
  kept_by = record { block = cell.block; snapshots = living; pending = [] }

  abbrev log : List Entry
  log = log_of cell

  abbrev needed : List ℕ
  needed = blocks_kept kept_by log

  abbrev used : ℕ → Bool
  used n = is_there (mark_at cell.marks n)

  abbrev says : ℕ → Option ℕ
  says n = page_block cell.block log n

  abbrev gives : ℕ → List ℕ
  gives n = if_used (used n) (says n)

  all_given : flat_map gives (range_with_len 0 (part_total log)) ≡ needed
  all_given =
      kept_numbers kept_by used says 0 log
      (λ n pair got.
      let zeroth : 0 + n ≡ n = omega arith in
      ap used zeroth ∙ ap (λ (ms : List Mark). is_there (mark_at ms n)) made.marks
      ∙ ap is_there (mark_of living (pairs cell.block log) n pair got) ∙ there_by living pair ∙ sym (or-false (is_needed living pair)))
      (λ n lt. let zeroth : 0 + n ≡ n = omega arith in ap says zeroth)

  low : (n number : ℕ) → IsNeededPage cell n number → n < part_total log
  low n number is =
      elim (cases_lt n (length cell.marks)) [
        | inl lt ↦ omega (arith, lt, ap (λ (ms : List Mark). length ms) made.marks, len_anew living cell.block log)
        | inr from ↦ absurd (false≢true (sym (ap is_there (get_or_past cell.marks n Out (omega (arith, from)))) ∙ is.there))
      ]

  given : (n number : ℕ) → IsNeededPage cell n number → 1 ≤ times number (gives n)
  given n number is = some_used (used n) (says n) number is.there is.says

  in_range : (n number : ℕ) → IsNeededPage cell n number → 1 ≤ times n (range_with_len 0 (part_total log))
  in_range n number is = range_has 0 (part_total log) n (omega arith) (let few = low n number is in omega (arith, few))

  some_needed : (n number : ℕ) → IsNeededPage cell n number → 1 ≤ times number needed
  some_needed n number is =
      let most = one_of gives number n (range_with_len 0 (part_total log)) (in_range n number is) in
      let all = ap (times number) all_given in
      let some = given n number is in omega (arith, most, all, some)

  is_needed_at : (n number : ℕ) → 1 ≤ times number (gives n) → IsNeededPage cell n number
  is_needed_at n number some = let both = used_some (used n) (says n) number some in record { there = both.0; says = both.1 }

  pub its_blocks : AreAmong blocks needed → IsOnce needed → HasItsBlocks blocks cell
  its_blocks among once = record {
    there = λ n number is. all_times (IsAmong blocks) needed among number (some_needed n number is);
    once = λ n m number is too. same n m number is too (n == m) refl;
  } where
    same : (n m number : ℕ) → IsNeededPage cell n number → IsNeededPage cell m number → (b : Bool) → (n == m) ≡ b → n ≡ m
    same n m number is too true q = eqb-true n m q
    same n m number is too false q =
        absurd (let both = two_of gives number n m (range_with_len 0 (part_total log)) (eqb-false n m q) (in_range n number is)
        (in_range m number too) in
        let all = ap (times number) all_given in
        let one = once number in
        let first = given n number is in
        let second = given m number too in omega (arith, both, all, one, first, second))

  pub are_among_all : HasItsBlocks blocks cell → AreAmong blocks needed
  are_among_all has =
      times_all (IsAmong blocks) needed (λ number some.
      let by = given_by gives number 0 (part_total log) (let all = ap (times number) all_given in omega (arith, all, some)) in
      has.there by.0 number (is_needed_at by.0 number by.1))

  pub are_once : HasItsBlocks blocks cell → IsOnce needed
  are_once has number =
      let most = given_once gives number 0 (part_total log) (λ n. used_most (used n) (says n) number)
      (λ n m some too. has.once n m number (is_needed_at n number some) (is_needed_at m number too)) in
      let all = ap (times number) all_given in omega (arith, most, all)
