-- How many pages of a range pass a test.
use Rattle.std.proofs.Common.{◌≡◌, ℕ, zero, suc, ◌+◌, ◌-◌, ◌≤◌, ◌&&◌, Bool, true, false, cond, nat_lt, nat_le, max, arith, refl, ◌∙◌}
use Rattle.std.proofs.lemmas.Bool.{ltb-true, ltb-false, leb-true, leb-false}
use Rattle.nv_findex.specs.Pages.{how_many}

pub how_many_split : (test : ℕ → Bool) (from a b : ℕ) → how_many test from (a + b) ≡ how_many test from a + how_many test (from + a) b
unfolding how_many
how_many_split test from zero b =
    let x : 0 + b ≡ b = omega arith in
    let y : from + 0 ≡ from = omega arith in
    rw (x, y) (omega arith)
how_many_split test from (suc a) b =
    let x : suc a + b ≡ suc (a + b) = omega arith in
    let y : from + 1 + a ≡ from + suc a = omega arith in
    let ih = rw y at (how_many_split test (from + 1) a b) in
    rw x (omega (arith, ih))

pub how_many_more : (test : ℕ → Bool) (from a b : ℕ) → a ≤ b → how_many test from a ≤ how_many test from b
how_many_more test from a b le =
    let x : a + (b - a) ≡ b = omega arith in
    let s = rw x at (how_many_split test from a (b - a)) in
    omega (arith, s)

pub how_many_same : (test other : ℕ → Bool) → ((page : ℕ) → test page ≡ other page) → (from n : ℕ)
    → how_many test from n ≡ how_many other from n
unfolding how_many
how_many_same test other same from zero = refl
how_many_same test other same from (suc n) = rw (same from, how_many_same test other same (from + 1) n) refl

-- one more page passes it, behind a gap or not
pub how_many_next : (test : ℕ → Bool) (from next page : ℕ) → from ≤ next → next ≤ page → test page ≡ true
    → how_many test from (next - from) + 1 ≤ how_many test from (page + 1 - from)
unfolding how_many
how_many_next test from next page begin le is =
    let x : (page - from) + 1 ≡ page + 1 - from = omega arith in
    let y : from + (page - from) ≡ page = omega arith in
    let one : how_many test page 1 ≡ 1 = rw is refl in
    let s : how_many test from (page + 1 - from) ≡ how_many test from (page - from) + 1 =
    rw (← x) (how_many_split test from (page - from) 1 ∙ rw (y, one) refl) in
    let m = how_many_more test from (next - from) (page - from) (omega arith) in
    omega (arith, s, m)

-- those of two ranges, one behind the other, are no more than those of one over both
pub how_many_parts : (test : ℕ → Bool) (from next start end : ℕ) → from ≤ next → next ≤ start → start ≤ end
    → how_many test from (next - from) + how_many test start (end - start) ≤ how_many test from (end - from)
how_many_parts test from next start end a b c =
    let x : (start - from) + (end - start) ≡ end - from = omega arith in
    let y : from + (start - from) ≡ start = omega arith in
    let s = rw (x, y) at (how_many_split test from (start - from) (end - start)) in
    let m = how_many_more test from (next - from) (start - from) (omega arith) in
    omega (arith, s, m)

-- pages of a run are at most as many as the run has
few_in_run : (first len from n : ℕ)
    → how_many (λ page. nat_le first page && nat_lt page (first + len)) from n ≤ first + len - max first from
unfolding how_many
few_in_run first len from zero = omega arith
few_in_run first len from (suc n) = go (nat_le first from) refl (nat_lt from (first + len)) refl (few_in_run first len (from + 1) n) where
  go : (a : Bool) → nat_le first from ≡ a → (b : Bool) → nat_lt from (first + len) ≡ b
      → how_many (λ page. nat_le first page && nat_lt page (first + len)) (from + 1) n ≤ first + len - max first (from + 1)
      → cond (a && b) 1 0 + how_many (λ page. nat_le first page && nat_lt page (first + len)) (from + 1) n ≤ first + len - max first from
  go true p true q ih = omega (arith, ih, leb-true first from p, ltb-true from (first + len) q)
  go true p false q ih = omega (arith, ih, leb-true first from p, ltb-false from (first + len) q)
  go false p b q ih = omega (arith, ih, leb-false first from p)

-- a test that passes no other pages than another one and those of a run
sums : (test other in_run : ℕ → Bool) → ((page : ℕ) → cond (test page) 1 0 ≤ cond (other page) 1 0 + cond (in_run page) 1 0)
    → (from n : ℕ) → how_many test from n ≤ how_many other from n + how_many in_run from n
unfolding how_many
sums test other in_run h from zero = omega arith
sums test other in_run h from (suc n) = omega (arith, h from, sums test other in_run h (from + 1) n)

pub how_many_added : (test other : ℕ → Bool) (first len : ℕ)
    → ((page : ℕ) → cond (test page) 1 0 ≤ cond (other page) 1 0 + cond (nat_le first page && nat_lt page (first + len)) 1 0)
    → (from n : ℕ) → how_many test from n ≤ how_many other from n + len
how_many_added test other first len h from n =
    omega (arith, sums test other (λ page. nat_le first page && nat_lt page (first + len)) h from n, few_in_run first len from n)
