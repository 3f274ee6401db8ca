-- How many maximal runs numbers are, counted from the front.
use Rattle.std.proofs.Common.{◌≡◌, ℕ, zero, suc, ◌+◌, ◌<◌, ◌≤◌, ◌^◌, ◌==◌, Bool, true, false, cond, nat_lt, List, [], ◌∷◌, ◌++◌, length, ◌/◌, Option, Some, None, arith, refl, ap, sym, ◌∙◌}
use Rattle.std.specs.List.{AllByRecursion, flat_map}
use Rattle.std.proofs.lemmas.Bool.{eqb-true, lt-ltb}
use Rattle.nv_entry.specs.declared.item.BlockRun.{BlockRun}
use Rattle.nv_entry.specs.declared.item.Item.{Item}
use Rattle.nv_entry.specs.Sound.{write_items}
use Rattle.std.proofs.lemmas.List.{length-append}
use Rattle.nv_base.specs.declared.numbers.Handle.{Handle}
use Rattle.nv_entry.specs.declared.item.Item.TheVariants.{SetSize}
use Rattle.nv_entry.specs.declared.node.NodeCopy.{NodeCopy}
use Rattle.nv_calls.specs.AllCalls.{plan}
use Rattle.nv_calls.specs.Updates.{blank_call}
use Rattle.nv_calls.specs.declared.allocation.Allocation.{Allocation}
use Rattle.nv_calls.specs.declared.update.Update.TheVariants as update
use Rattle.nv_calls.specs.PagesWanted.{entry_counts, goes_on}
use Rattle.nv_calls.specs.Plan.{run_if, block_runs_of, stretches, with_number}

-- how many runs begin among the numbers, where the one before them would go on with `next`
abbrev pub runs_begun : Option ℕ → List ℕ → ℕ
runs_begun next [] = 0
runs_begun next (n ∷ numbers) = cond (goes_on next n) 0 1 + runs_begun (Some (n + 1)) numbers

-- the first stretch begins at the first number
begin_at : (n m : ℕ) (tail : List (ℕ × ℕ)) → (len : ℕ) × (rest : List (ℕ × ℕ)) × (with_number m tail ≡ (m, len) ∷ rest)
begin_at n m [] = (1, [], refl)
begin_at n m (t ∷ tail) = go (m + 1 == t.0) where
  go : (b : Bool) → (len : ℕ) × (rest : List (ℕ × ℕ)) × (cond b ((m, t.1 + 1) ∷ tail) ((m, 1) ∷ t ∷ tail) ≡ (m, len) ∷ rest)
  go true = (t.1 + 1, tail, refl)
  go false = (1, t ∷ tail, refl)

joined_count : (count : ℕ) → 1 + count ≡ 1 + (cond true 0 1 + count)
joined_count count = omega arith

more_by_one : (count : ℕ) → suc (1 + count) ≡ 1 + (cond false 0 1 + count)
more_by_one count = omega arith

stretch_count : (n : ℕ) (numbers : List ℕ) → length (stretches (n ∷ numbers)) ≡ 1 + runs_begun (Some (n + 1)) numbers
stretch_count n [] = refl
stretch_count n (m ∷ numbers) = go (n + 1 == m) refl (begin_at n m (stretches numbers)) (stretch_count m numbers) where
  go : (b : Bool) → (n + 1 == m) ≡ b
      → ((len : ℕ) × (rest : List (ℕ × ℕ)) × (with_number m (stretches numbers) ≡ (m, len) ∷ rest))
      → length (with_number m (stretches numbers)) ≡ 1 + runs_begun (Some (m + 1)) numbers
      → length (with_number n (with_number m (stretches numbers))) ≡ 1 + (cond (n + 1 == m) 0 1 + runs_begun (Some (m + 1)) numbers)
  go true q first more =
      let len : length ((m, first.0) ∷ first.1) ≡ 1 + runs_begun (Some (m + 1)) numbers = ap length (sym first.2) ∙ more in
      ap (λ (t : List (ℕ × ℕ)). length (with_number n t)) first.2
      ∙ ap (λ (b : Bool). length (cond b ((n, first.0 + 1) ∷ first.1) ((n, 1) ∷ (m, first.0) ∷ first.1))) q
      ∙ len ∙ joined_count (runs_begun (Some (m + 1)) numbers)
      ∙ ap (λ (b : Bool). 1 + (cond b 0 1 + runs_begun (Some (m + 1)) numbers)) (sym q)
  go false q first more =
      let len : length ((m, first.0) ∷ first.1) ≡ 1 + runs_begun (Some (m + 1)) numbers = ap length (sym first.2) ∙ more in
      ap (λ (t : List (ℕ × ℕ)). length (with_number n t)) first.2
      ∙ ap (λ (b : Bool). length (cond b ((n, first.0 + 1) ∷ first.1) ((n, 1) ∷ (m, first.0) ∷ first.1))) q
      ∙ ap suc len ∙ more_by_one (runs_begun (Some (m + 1)) numbers)
      ∙ ap (λ (b : Bool). 1 + (cond b 0 1 + runs_begun (Some (m + 1)) numbers)) (sym q)

-- stretches of small numbers are runs
fits_with : (n most : ℕ) (tail : List (ℕ × ℕ)) → n < most → AllByRecursion (λ (t : ℕ × ℕ). t.0 + t.1 ≤ most) tail
    → AllByRecursion (λ (t : ℕ × ℕ). t.0 + t.1 ≤ most) (with_number n tail)
fits_with n most [] lt all = (omega (arith, lt), tt)
fits_with n most (t ∷ tail) lt all = go (n + 1 == t.0) refl where
  go : (b : Bool) → (n + 1 == t.0) ≡ b → AllByRecursion (λ (t : ℕ × ℕ). t.0 + t.1 ≤ most) (cond b ((n, t.1 + 1) ∷ tail) ((n, 1) ∷ t ∷ tail))
  go true q = let e : n + 1 ≡ t.0 = eqb-true (n + 1) t.0 q in (omega (arith, e, all.0), all.1)
  go false q = (omega (arith, lt), all)

stretches_fit : (numbers : List ℕ) (most : ℕ) → AllByRecursion (λ (n : ℕ). n < most) numbers
    → AllByRecursion (λ (t : ℕ × ℕ). t.0 + t.1 ≤ most) (stretches numbers)
stretches_fit [] most all = tt
stretches_fit (n ∷ numbers) most all = fits_with n most (stretches numbers) all.0 (stretches_fit numbers most all.1)

runs_count : (tail : List (ℕ × ℕ)) → AllByRecursion (λ (t : ℕ × ℕ). t.0 + t.1 ≤ 2 ^ 32) tail
    → length (flat_map (λ (run : ℕ × ℕ). run_if run.0 run.1 (nat_lt (run.0 + run.1) (2 ^ 64)) refl) tail) ≡ length tail
runs_count [] all = refl
runs_count (t ∷ tail) all = go (nat_lt (t.0 + t.1) (2 ^ 64)) refl (runs_count tail all.1) where
  rest : List BlockRun
  rest = flat_map (λ (run : ℕ × ℕ). run_if run.0 run.1 (nat_lt (run.0 + run.1) (2 ^ 64)) refl) tail

  go : (b : Bool) (is : nat_lt (t.0 + t.1) (2 ^ 64) ≡ b) → length rest ≡ length tail
      → length (run_if t.0 t.1 b is ++ rest) ≡ suc (length tail)
  go true is h = ap suc h
  go false is h = let k : nat_lt (t.0 + t.1) (2 ^ 64) ≡ true = lt-ltb (t.0 + t.1) (2 ^ 64) (omega (arith, all.0)) in cc

pub count_is : (numbers : List ℕ) → AllByRecursion (λ (n : ℕ). n < 2 ^ 32) numbers → runs_begun None numbers ≡ length (block_runs_of numbers)
count_is [] all = refl
count_is (n ∷ numbers) all = sym (runs_count (stretches (n ∷ numbers)) (stretches_fit (n ∷ numbers) (2 ^ 32) all) ∙ stretch_count n numbers)

pub count_within : (next : Option ℕ) (numbers : List ℕ) → runs_begun next numbers ≤ length numbers
count_within next [] = omega arith
count_within next (n ∷ numbers) = go (goes_on next n) (count_within (Some (n + 1)) numbers) where
  go : (b : Bool) → runs_begun (Some (n + 1)) numbers ≤ length numbers
      → cond b 0 1 + runs_begun (Some (n + 1)) numbers ≤ suc (length numbers)
  go true h = omega (arith, h)
  go false h = omega (arith, h)

-- an item for each run
pub length-write : (first : ℕ) (runs : List BlockRun) (size : ℕ) → length (write_items first runs size) ≡ length runs
length-write first [] size = refl
length-write first (run ∷ runs) size = ap suc (length-write (first + run.len) runs size)

-- ---- the entries of one inode

module _ (block : ℕ) (nodes : Handle → Option NodeCopy) (taken : Allocation) (n : ℕ) (is : length taken.runs ≡ n) where
  pub write_count : (file : Handle) (offset count : ℕ) → (count == 0) ≡ false
      → (file.ino, n) ∷ (0, 0) ∷ (0, 0) ∷ [] ≡ entry_counts (plan block nodes taken (blank_call (update.Write file offset count)))
  write_count file offset zero some = cc
  write_count file offset (suc m) some =
      ap (λ (k : ℕ). (file.ino, k) ∷ (0, 0) ∷ (0, 0) ∷ []) (sym is ∙ sym (length-write _ taken.runs _))

  pub size_count : (file : Handle) (size : ℕ)
      → (file.ino, n + 1) ∷ (0, 0) ∷ (0, 0) ∷ [] ≡ entry_counts (plan block nodes taken (blank_call (update.Size file size)))
  size_count file size =
      let items : List Item = write_items (size / block) taken.runs size in
      let len : n + 1 ≡ length (items ++ SetSize size ∷ []) = omega (
        arith,
        length-append items (SetSize size ∷ []),
        length-write (size / block) taken.runs size,
        is,
      ) in
      ap (λ (k : ℕ). (file.ino, k) ∷ (0, 0) ∷ (0, 0) ∷ []) len
