-- The last run of a list.
use Rattle.std.proofs.Common.{◌≡◌, ℕ, zero, suc, ◌-◌, ◌<◌, true, false, List, [], ◌∷◌, ◌++◌, length, get_or, set, take, drop, arith, refl, ap, sym, subst}
use Rattle.nv_book.specs.declared.run.RecordRun.{RecordRun}
use Rattle.nv_book.specs.Runs.{IsRun, AreRuns, put, joins, joined, joins_last}

last-put-at : (rs : List RecordRun) (k : ℕ) (x s : RecordRun) → length rs ≡ suc k → x ≡ get_or rs k x → joins x s ≡ true →
    set rs k (joined x s) ≡ put rs s
unfolding put
last-put-at [] k x s n e j = cc
last-put-at (r ∷ []) zero x s n e j = rw (← e, j) refl
last-put-at (r ∷ []) (suc k) x s n e j = absurd (omega (arith, n))
last-put-at (r ∷ q ∷ rs) zero x s n e j = absurd (omega (arith, n))
last-put-at (r ∷ q ∷ rs) (suc k) x s n e j = ap (λ us. r ∷ us) (last-put-at (q ∷ rs) k x s (omega (arith, n)) e j)

last-joins-at : (rs : List RecordRun) (k : ℕ) (x s : RecordRun) → length rs ≡ suc k → x ≡ get_or rs k x → joins_last rs s ≡ joins x s
unfolding joins_last
last-joins-at [] k x s n e = cc
last-joins-at (r ∷ []) zero x s n e = rw (e) refl
last-joins-at (r ∷ []) (suc k) x s n e = absurd (omega (arith, n))
last-joins-at (r ∷ q ∷ rs) zero x s n e = absurd (omega (arith, n))
last-joins-at (r ∷ q ∷ rs) (suc k) x s n e = last-joins-at (q ∷ rs) k x s (omega (arith, n)) e

last-run-at : (rs : List RecordRun) (k : ℕ) (x : RecordRun) → length rs ≡ suc k → x ≡ get_or rs k x → AreRuns rs → IsRun x
unfolding AreRuns
last-run-at [] k x n e h = cc
last-run-at (r ∷ []) zero x n e h = subst IsRun (sym e) h.0
last-run-at (r ∷ []) (suc k) x n e h = absurd (omega (arith, n))
last-run-at (r ∷ q ∷ rs) zero x n e h = absurd (omega (arith, n))
last-run-at (r ∷ q ∷ rs) (suc k) x n e h = last-run-at (q ∷ rs) k x (omega (arith, n)) e h.2

pub last-put : (rs : List RecordRun) (x s : RecordRun) → 0 < length rs → x ≡ get_or rs (length rs - 1) x → joins x s ≡ true →
    set rs (length rs - 1) (joined x s) ≡ put rs s
last-put rs x s n e j = last-put-at rs (length rs - 1) x s (omega (arith, n)) e j

pub last-joins : (rs : List RecordRun) (x s : RecordRun) → 0 < length rs → x ≡ get_or rs (length rs - 1) x → joins_last rs s ≡ joins x s
last-joins rs x s n e = last-joins-at rs (length rs - 1) x s (omega (arith, n)) e

pub last-run : (rs : List RecordRun) (x : RecordRun) → 0 < length rs → x ≡ get_or rs (length rs - 1) x → AreRuns rs → IsRun x
last-run rs x n e h = last-run-at rs (length rs - 1) x (omega (arith, n)) e h

pub none-joins : (rs : List RecordRun) (s : RecordRun) → length rs ≡ 0 → joins_last rs s ≡ false
unfolding joins_last
none-joins [] s n = refl
none-joins (r ∷ rs) s n = absurd (omega (arith, n))

pub put-apart : (rs : List RecordRun) (s : RecordRun) → joins_last rs s ≡ false → put rs s ≡ rs ++ s ∷ []
unfolding put joins_last
put-apart [] s j = refl
put-apart (r ∷ []) s j = rw j refl
put-apart (r ∷ q ∷ rs) s j = ap (λ us. r ∷ us) (put-apart (q ∷ rs) s j)

pub put-length : (rs : List RecordRun) (s : RecordRun) → joins_last rs s ≡ true → length (put rs s) ≡ length rs
unfolding put joins_last
put-length [] s j = cc
put-length (r ∷ []) s j = rw j refl
put-length (r ∷ q ∷ rs) s j = ap suc (put-length (q ∷ rs) s j)

-- the first of some runs, and the others
pub first-run : (rs : List RecordRun) (x : RecordRun) → 0 < length rs → x ≡ get_or rs 0 x → AreRuns rs →
    (rs ≡ x ∷ drop 1 rs) × (take 1 rs ≡ x ∷ []) × IsRun x × AreRuns (drop 1 rs)
unfolding AreRuns
first-run [] x n e h = absurd (omega (arith, n))
first-run (r ∷ rs) x n e h = (ap (λ u. u ∷ rs) (sym e), ap (λ u. u ∷ []) (sym e), subst IsRun (sym e) h.0, h.2)
