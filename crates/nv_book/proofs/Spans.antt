-- Blocks that begin to be held and blocks that are held no more, by the places of snapshots.
use Rattle.std.proofs.Common.{◌≡◌, ℕ, zero, suc, ◌+◌, ◌<◌, ◌≤◌, Bool, true, false, cond, List, [], ◌∷◌, length, filter, get_or, set, take, nat_lt, arith}
use Rattle.std.specs.List.{sum, sum_by}
use Rattle.std.specs.List.Sorted.{IsNonDecreasingBy}
use Rattle.std.proofs.lemmas.Bool.{le-ltb, lt-ltb}
use Rattle.std.proofs.lemmas.List.{get_or-map, length-append, length-map}
use Rattle.std.proofs.lemmas.List.Sums.{sum_by-cons}
use Rattle.nv_epoch.specs.Holders.{IsRising}
use Rattle.nv_book.specs.declared.held_spans.HeldSpans.{HeldSpans}
use Rattle.nv_book.specs.declared.manifest.Manifest.{Manifest}
use Rattle.nv_book.specs.declared.record.Record.{Record}
use Rattle.nv_book.specs.declared.run.RecordRun.{RecordRun}
use Rattle.nv_book.specs.HeldSpans.{HasRoom}
use Rattle.nv_book.specs.Manifests.{snapshots}
use Rattle.nv_book.specs.Records.{is_page}
use Rattle.nv_book.specs.Runs.{pages_of, pages_where, record_on, records_of, run_records, series}

-- the sum of the first numbers, where one at a place grows
pub sum-set : (xs : List ℕ) (place n blocks : ℕ) → place < length xs →
    sum (take n (set xs place (get_or xs place 0 + blocks))) ≡ sum (take n xs) + cond (nat_lt place n) blocks 0
sum-set [] place n blocks in' = absurd (omega (arith, in'))
sum-set (x ∷ xs) place zero blocks in' = rw (le-ltb place 0 (omega arith)) (omega arith)
sum-set (x ∷ xs) zero (suc n) blocks in' =
    rw (lt-ltb 0 (suc n) (omega arith))
    (omega (arith, sum_by-cons (λ (m : ℕ). m) (x + blocks) (take n xs), sum_by-cons (λ (m : ℕ). m) x (take n xs)))
sum-set (x ∷ xs) (suc place) (suc n) blocks in' =
    let ys : List ℕ = set xs place (get_or xs place 0 + blocks) in
    let rest : sum (take n ys) ≡ sum (take n xs) + cond (nat_lt place n) blocks 0 =
    sum-set xs place n blocks (omega (arith, in')) in
    grind (arith, sum_by-cons (λ (m : ℕ). m) x (take n ys), sum_by-cons (λ (m : ℕ). m) x (take n xs), rest)

-- the snapshots of manifests, by their places

abbrev pub blank : Manifest
blank = record { snapshot = 0; records = [] }

pub snapshot-at : (ms : List Manifest) (k : ℕ) (d : Manifest) → k < length ms → get_or (snapshots ms) k 0 ≡ (get_or ms k d).snapshot
snapshot-at ms k d in' = get_or-map (λ (m : Manifest). m.snapshot) ms k d 0 in'

pub snapshots_rise : (ms : List Manifest) → IsRising (snapshots ms) → IsNonDecreasingBy (λ (m : Manifest). m.snapshot) ms
snapshots_rise [] rising i j d le in' = absurd (omega (arith, in'))
snapshots_rise (m ∷ ms) rising zero zero d le in' = omega arith
snapshots_rise (m ∷ ms) rising (suc i) zero d le in' = absurd (omega (arith, le))
snapshots_rise (m ∷ ms) rising zero (suc j) d le in' =
    let above = rising.0 j 0 (omega (arith, in', length-map ms (λ (n : Manifest). n.snapshot))) in
    omega (arith, above, snapshot-at ms j d (omega (arith, in')))
snapshots_rise (m ∷ ms) rising (suc i) (suc j) d le in' = snapshots_rise ms rising.1 i j d (omega (arith, le)) (omega (arith, in'))

-- room for more is room for less
pub room-for-less : {spans : HeldSpans} {places more : ℕ} (less : ℕ) → less ≤ more → HasRoom spans places more → HasRoom spans places less
room-for-less less le room = record {
  begun_places = room.begun_places;
  over_places = room.over_places;
  begun_fits = omega (arith, le, room.begun_fits);
  over_fits = omega (arith, le, room.over_fits);
}

-- the blocks of runs, by the first of them
pub pages-of-first : (p : Record → Bool) (r : RecordRun) (rs : List RecordRun) →
    pages_where p (r ∷ rs) ≡ cond (p r.first) (pages_of r) 0 + pages_where p rs
pages-of-first p r rs = go (p r.first) where
  go : (b : Bool) → sum_by pages_of (cond b (r ∷ filter (λ (run : RecordRun). p run.first) rs) (filter (λ (run : RecordRun). p run.first) rs))
      ≡ cond b (pages_of r) 0 + pages_where p rs
  go true = sum_by-cons pages_of r (filter (λ (run : RecordRun). p run.first) rs)
  go false = omega arith

pages-le : (n : ℕ) (r : Record) → n + 1 ≤ length (series n r)
unfolding series
pages-le zero r = omega arith
pages-le (suc n) r = omega (arith, pages-le n (record_on 1 r))

-- the blocks of runs are at most as many as their records
pub pages-le-records : (rs : List RecordRun) → sum_by pages_of rs ≤ length (records_of rs)
unfolding records_of
pages-le-records [] = omega arith
pages-le-records (r ∷ rs) =
    let all : length (records_of (r ∷ rs)) ≡ length (run_records r) + length (records_of rs) = length-append (run_records r) (records_of rs) in
    let one : pages_of r ≤ r.more + 1 = go (is_page r.first.part) in
    omega (arith, sum_by-cons pages_of r rs, pages-le r.more r.first, pages-le-records rs, one, all)
  where
    go : (b : Bool) → cond b (r.more + 1) 0 ≤ r.more + 1
    go true = omega arith
    go false = omega arith
