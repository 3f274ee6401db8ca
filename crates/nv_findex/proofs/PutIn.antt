-- A run put in place of what runs had of its pages.
use Rattle.std.proofs.Common.{◌≡◌, ℕ, ◌+◌, ◌-◌, ◌≤◌, ◌&&◌, Bool, true, false, cond, List, [], ◌∷◌, ◌++◌, length, nat_le, nat_lt, Option, Some, None, refl, ap, sym, ◌∙◌, arith, subst}
use Rattle.std.proofs.lemmas.Bool.{and_parts, eqb-true, eq-eqb}
use Rattle.std.proofs.lemmas.Bool.Decides.{nat_tests}
use Rattle.nv_base.proofs.Ids.{Decides-same}
use Rattle.nv_findex.specs.declared.page_ref.PageRef.{PageRef}
use Rattle.nv_findex.specs.declared.page_run.PageRun.{PageRun}
use Rattle.nv_findex.specs.Pages.{IsRun, is_followed, ref_at, run_ref}
use Rattle.nv_findex.specs.Runs.{AreRuns, AreRunsFrom, IsBorder, IsPut, before, behind, goes_on, join}
use Rattle.nv_findex.proofs.Refs.{ref_before}
use Rattle.nv_findex.proofs.Parts.{before_ref, before_runs, behind_ref, behind_runs}

-- a run whose places begin at 0 follows on nothing
first_place : (a : Option PageRef) (r : PageRun) → r.start.place ≡ 0 → is_followed a (Some r.start) ≡ false
first_place None r z = refl
first_place (Some a) r z = grind (arith, nat_tests)

-- where one run goes on in another, their pages are those of one
pub record GoesOn (r s : PageRun) : Type 0 where
  pub border : r.end ≡ s.first
  pub entry : r.start.entry ≡ s.start.entry
  pub place : r.start.place + (r.end - r.first) ≡ s.start.place

pub goes_on_tells : (r s : PageRun) → goes_on r s ≡ true → GoesOn r s
goes_on_tells r s on =
    let parts = and_parts _ _ on in let same = and_parts _ _ parts.1 in
    record { border = eqb-true _ _ parts.0; entry = (Decides-same r.start.entry s.start.entry).0 same.0; place = eqb-true _ _ same.1 }

joined_ref : (r s : PageRun) (q : ℕ) → IsRun r → GoesOn r s → s.first ≤ q → run_ref r q ≡ run_ref s q
joined_ref r s q h on le =
    let place : r.start.place + (q - r.first) ≡ s.start.place + (q - s.first) = omega (arith, h, on) in
    rw (on.entry, place) refl

join_runs : (m : ℕ) (a : Option PageRef) (r : PageRun) (ss : List PageRun) → IsRun r → r.start.place ≡ 0 → AreRunsFrom r.end None ss
    → m ≤ r.first → AreRunsFrom m a (join r ss)
unfolding AreRunsFrom join
join_runs m a r [] h z k le = (le, h, λ e. first_place a r z, tt)
join_runs m a r (s ∷ ss) h z k le = go (goes_on r s) refl where
  apart : r.end ≡ s.first → goes_on r s ≡ false → is_followed (Some (run_ref r (r.end - 1))) (Some s.start) ≡ false
  apart e off =
      let place : r.start.place + (r.end - 1 - r.first) + 1 ≡ r.start.place + (r.end - r.first) = omega (arith, h.some) in
      let border = eq-eqb r.end s.first e in
      rw place (rw border at off)

  go : (b : Bool) → goes_on r s ≡ b → AreRunsFrom m a (cond b ((record r { end = s.end }) ∷ ss) (r ∷ s ∷ ss))
  go true t =
      let on = goes_on_tells r s t in (
        le,
        record { some = omega (arith, h.some, k.1.some, on); within = k.1.within; places = omega (arith, h, k.1, on) },
        λ e. first_place a r z,
        rw (joined_ref r s (s.end - 1) h on (omega (arith, k.1.some))) k.3,
      )
  go false t = (le, h, λ e. first_place a r z, (k.0, k.1, λ e. apart e t, k.3))

join_ref : (r : PageRun) (ss : List PageRun) (q : ℕ) → IsRun r → AreRunsFrom r.end None ss → ref_at (join r ss) q ≡ ref_at (r ∷ ss) q
unfolding AreRunsFrom ref_at join
join_ref r [] q h k = refl
join_ref r (s ∷ ss) q h k = go (goes_on r s) refl where
  go : (b : Bool) → goes_on r s ≡ b → ref_at (cond b ((record r { end = s.end }) ∷ ss) (r ∷ s ∷ ss)) q ≡ ref_at (r ∷ s ∷ ss) q
  go true b =
      let on = goes_on_tells r s b in let border = on.border in let low = h.some in let high = k.1.some in
      let same = joined_ref r s q h on in
      grind (arith, nat_tests, same)
  go false b = refl

with_ref : (r : PageRun) (rs : List PageRun) (n m q : ℕ) → AreRuns rs → IsRun r → r.start.place ≡ 0 → IsBorder r.first n rs
    → IsBorder r.end m rs → ref_at (before r.first n rs ++ join r (behind r.end m rs)) q
    ≡ cond (nat_le r.first q && nat_lt q r.end) (Some (run_ref r q)) (ref_at rs q)
unfolding ref_at
with_ref r rs n m q h k z b c =
    let back = behind_runs r.end 0 m None rs h c in
    before_ref r.first q n rs _ b (ref_before r.first q None _ (join_runs r.first None r _ k z back (omega arith)))
    ∙ rw (join_ref r (behind r.end m rs) q k back)
    (let some = k.some in let rest = behind_ref r.end q m rs c in grind (arith, nat_tests, rest))

pub put_is : (r : PageRun) (rs new : List PageRun) (n m : ℕ) → AreRuns rs → IsRun r → r.start.place ≡ 0 → IsBorder r.first n rs
    → IsBorder r.end m rs → new ≡ before r.first n rs ++ join r (behind r.end m rs) → length new ≤ length rs + 2 → IsPut r rs new
put_is r rs new n m h k z b c e le = record {
  runs = subst AreRuns (sym e)
      (before_runs r.first 0 n None rs _ h b (omega arith) (λ p a. join_runs p a r _ k z (behind_runs r.end 0 m None rs h c)));
  pages = λ q. ap (λ (l : List PageRun). ref_at l q) e ∙ with_ref r rs n m q h k z b c;
  count = le;
}
