-- Pools that have just the numbers not in use.
use Rattle.std.proofs.Common.{◌≡◌, ℕ, ◌+◌, ◌<◌, ◌≤◌, ◌==◌, ◌&&◌, inl, inr, Bool, false, List, [], ◌∷◌, not, arith, refl, ap, ◌∙◌}
use Rattle.std.specs.List.{AllByRecursion}
use Rattle.std.proofs.lemmas.Bool.{cases_lt, le-leb, le-ltb, lt-ltb}
use Rattle.nv_alloc.specs.InodePool.{FreeInodes, IsPool}
use Rattle.nv_alloc.specs.Numbers.{has, unused}
use Rattle.nv_alloc.proofs.FromScratch.{from_scratch}
use Rattle.nv_alloc.proofs.Lists.{has-other}
use Rattle.nv_audit.proofs.Devices.{within}

-- a list of lower numbers
none_above : (k n : ℕ) (ns : List ℕ) → AllByRecursion (λ m. m < k) ns → k ≤ n → has ns n ≡ false
none_above k n [] all le = refl
none_above k n (m ∷ ns) all le = has-other m n ns (λ (is : m ≡ n). omega (arith, is, all.0, le)) ∙ none_above k n ns all.1 le

abbrev AreUnused : ℕ → (ℕ → Bool) → FreeInodes → Type 0
AreUnused inodes is_used pool = (n : ℕ) → n < inodes → has pool.numbers n ≡ not (is_used n)

-- the pool is from scratch where it has each number below its end that is not in use
pub pool_by_numbers : (inodes : ℕ) (is_used : ℕ → Bool) (pool : FreeInodes) → IsPool pool → pool.inodes ≡ inodes
    → AreUnused inodes is_used pool → pool.numbers ≡ unused is_used 0 inodes
pool_by_numbers inodes is_used pool is same are = from_scratch is_used 0 inodes pool.numbers is.rising (λ n.
    elim (cases_lt n inodes) [
      | inl lt ↦ rw (le-leb 0 n (omega arith), lt-ltb n (0 + inodes) (omega (arith, lt))) (are n lt)
      | inr from ↦
          rw (le-leb 0 n (omega arith), le-ltb n (0 + inodes) (omega (arith, from)))
          (none_above pool.inodes n pool.numbers is.below (omega (arith, same, from)))
    ])

pub numbers_by_pool : (inodes : ℕ) (is_used : ℕ → Bool) (pool : FreeInodes) → pool.numbers ≡ unused is_used 0 inodes
    → AreUnused inodes is_used pool
numbers_by_pool inodes is_used pool is n lt =
    ap (λ (ns : List ℕ). has ns n) is ∙ within is_used 0 inodes n (omega arith) (omega (arith, lt))
