-- How many pages end a run, and how many are present.
use Rattle.std.proofs.Common.{◌≡◌, ℕ, zero, suc, ◌+◌, ◌-◌, ◌≤◌, nat_lt, Bool, true, false, cond, List, [], ◌∷◌, drop, length, max, Option, None, is_some, refl, sym, ◌∙◌, arith}
use Rattle.std.specs.List.{sum_by}
use Rattle.std.proofs.lemmas.Bool.{le-ltb, lt-ltb}
use Rattle.std.proofs.lemmas.Bool.Decides.{nat_tests}
use Rattle.std.proofs.lemmas.List.Sums.{sum_by-cons}
use Rattle.nv_findex.specs.declared.page_ref.PageRef.{PageRef}
use Rattle.nv_findex.specs.declared.page_run.PageRun.{PageRun}
use Rattle.nv_findex.specs.Pages.{ref_at, ends_run, how_many, present_from, run_count_of}
use Rattle.nv_findex.specs.Runs.{AreRuns, AreRunsFrom, IsBorder, pages_past}
use Rattle.nv_findex.proofs.Refs.{goes_head, ref_before}

pub how_many_le : (test : ℕ → Bool) (from n : ℕ) → how_many test from n ≤ n
unfolding how_many
how_many_le test from zero = omega arith
how_many_le test from (suc n) = go (test from) (how_many_le test (from + 1) n) where
  go : (b : Bool) → how_many test (from + 1) n ≤ n → cond b 1 0 + how_many test (from + 1) n ≤ suc n
  go true le = omega arith
  go false le = omega arith

-- a test of pages that counts, of each run, so many from a page on
record Counts (test : List PageRun → ℕ → Bool) (many : ℕ → PageRun → ℕ) : Type 0 where
  none : (q : ℕ) → test [] q ≡ false
  step : (p q : ℕ) (a : Option PageRef) (r : PageRun) (rs : List PageRun) → AreRunsFrom p a (r ∷ rs)
      → many q r + cond (test rs q) 1 0 ≡ cond (test (r ∷ rs) q) 1 0 + many (q + 1) r
  last : (q : ℕ) (r : PageRun) → r.end ≤ q → many q r ≡ 0

module _ (test : List PageRun → ℕ → Bool) (many : ℕ → PageRun → ℕ) (counts : Counts test many) where
  count_step : (p q : ℕ) (a : Option PageRef) (rs : List PageRun) → AreRunsFrom p a rs
      → sum_by (many q) rs ≡ cond (test rs q) 1 0 + sum_by (many (q + 1)) rs
  unfolding AreRunsFrom
  count_step p q a [] h = rw (counts.none q) refl
  count_step p q a (r ∷ rs) h =
      omega (arith, sum_by-cons (many q) r rs, sum_by-cons (many (q + 1)) r rs, counts.step p q a r rs h, count_step r.end q _ rs h.3)

  count_none : (p q : ℕ) (a : Option PageRef) (rs : List PageRun) → AreRunsFrom p a rs → 65536 ≤ q → sum_by (many q) rs ≡ 0
  unfolding AreRunsFrom
  count_none p q a [] h le = refl
  count_none p q a (r ∷ rs) h le =
      sum_by-cons (many q) r rs ∙ omega (arith, counts.last q r (omega (arith, h.1.within)), count_none r.end q _ rs h.3 le)

  count_from : (q n : ℕ) (rs : List PageRun) → AreRuns rs → 65536 ≤ q + n → how_many (test rs) q n ≡ sum_by (many q) rs
  unfolding how_many
  count_from q zero rs h end = sym (count_none 0 q None rs h (omega arith))
  count_from q (suc n) rs h end = omega (arith, count_from (q + 1) n rs h (omega arith), count_step 0 q None rs h)

runs_counted : Counts (λ rs. ends_run (ref_at rs)) (λ q r. cond (nat_lt q r.end) 1 0)
unfolding AreRunsFrom ref_at
runs_counted = record {
  none = λ q. refl;
  step = λ p q a r rs h.
      rw (goes_head p q a r rs h)
      (let some = h.1.some in let none = ref_before r.end q _ rs h.3 in grind (arith, nat_tests, none));
  last = λ q r le. rw (le-ltb q r.end le) refl;
}

pages_counted : Counts (λ rs q. is_some (ref_at rs q)) (λ q r. r.end - max r.first q)
unfolding AreRunsFrom ref_at
pages_counted = record {
  none = λ q. refl;
  step = λ p q a r rs h. let none = ref_before r.end q _ rs h.3 in grind (arith, nat_tests, none);
  last = λ q r le. omega arith;
}

runs_all : (p : ℕ) (a : Option PageRef) (rs : List PageRun) → AreRunsFrom p a rs
    → sum_by (λ (r : PageRun). cond (nat_lt 0 r.end) 1 0) rs ≡ length rs
unfolding AreRunsFrom
runs_all p a [] h = refl
runs_all p a (r ∷ rs) h = sum_by-cons _ r rs ∙ rw (lt-ltb 0 r.end (omega (arith, h.1.some))) (omega (arith, runs_all r.end _ rs h.3))

pub run_count_is : (rs : List PageRun) → AreRuns rs → run_count_of rs ≡ length rs
run_count_is rs h = count_from _ _ runs_counted 0 65536 rs h (omega arith) ∙ runs_all 0 None rs h

pub past_drop : (p n : ℕ) (rs : List PageRun) → IsBorder p n rs → pages_past p (drop n rs) ≡ pages_past p rs
unfolding IsBorder
past_drop p zero rs b = refl
past_drop p (suc n) [] b = refl
past_drop p (suc n) (r ∷ rs) b =
    past_drop p n rs b.1 ∙ omega (arith, b.0, sum_by-cons (λ (x : PageRun). x.end - max x.first p) r rs)

pub present_is : (p : ℕ) (rs : List PageRun) → AreRuns rs → present_from p rs ≡ pages_past p rs
present_is p rs h = count_from _ _ pages_counted p (65536 - p) rs h (omega arith)
