-- How many records and blocks there are.
use Rattle.std.proofs.Common.{◌≡◌, ℕ, zero, suc, ◌+◌, ◌<◌, ◌≤◌, Bool, true, false, cond, not, List, [], ◌∷◌, ◌++◌, length, filter, get_or, drop, take, Option, Some, None, arith, refl, ap, ◌∙◌}
use Rattle.std.specs.List.{sum_by}
use Rattle.std.proofs.lemmas.List.Filters.{length-filter_both}
use Rattle.std.proofs.lemmas.List.Sums.{count_by-le-length, sum_by-append, sum_by-cons, sum_by-le-sum_by, sum_by-take-drop, sum_by_more, sum_by_more_le, sum_by_push}
use Rattle.nv_entry.specs.declared.part.Part.{Part}
use Rattle.nv_entry.specs.declared.part.Part.TheVariants.{Kind, Mode, Size, Bound, Page}
use Rattle.nv_book.specs.declared.manifest.Manifest.{Manifest}
use Rattle.nv_book.specs.declared.record.Record.{Record}
use Rattle.nv_book.specs.declared.run.RecordRun.{RecordRun}
use Rattle.nv_book.specs.Manifests.{held_of, record_count, run_total, total}
use Rattle.nv_book.specs.Records.{block_count, goes_on_in, is_born_by, is_held_by, is_page, let_go, moved_down, run_count_of}
use Rattle.nv_book.specs.Runs.{pages_of, part_on, record_on, records_of, run_records, series}
use Rattle.nv_book.proofs.Series.{filter-append}

-- the runs are at most as many as the records

pub runs-le-records : (rs : List Record) → run_count_of rs ≤ length rs
runs-le-records [] = omega arith
runs-le-records (r ∷ rs) = go (goes_on_in r rs) (runs-le-records rs) where
  go : (b : Bool) → run_count_of rs ≤ length rs → cond b 0 1 + run_count_of rs ≤ length (r ∷ rs)
  go true h = omega (arith, h)
  go false h = omega (arith, h)

pub all-runs-le-records : (ms : List Manifest) → run_total ms ≤ record_count ms
all-runs-le-records ms = sum_by-le-sum_by (λ (m : Manifest). run_count_of m.records) (λ (m : Manifest). length m.records) ms
    (λ m. runs-le-records m.records)

-- what moves down and what is let go are all there is

pub moved-and-let_go : (older : Option ℕ) (rs : List Record) → length (moved_down older rs) + length (let_go older rs) ≡ length rs
moved-and-let_go older rs = length-filter_both (λ r. is_born_by older r) (λ r. not (is_born_by older r)) (λ r. refl) rs

pub blocks-le-records : (p : Record → Bool) (rs : List Record) → block_count (filter p rs) ≤ length rs
blocks-le-records p rs =
    omega (arith, count_by-le-length (λ (r : Record). is_page r.part) (filter p rs), length-filter_both p (λ r. not (p r)) (λ r. refl) rs)

pub let-go-none : (rs : List Record) → let_go None rs ≡ rs
let-go-none [] = refl
let-go-none (r ∷ rs) = ap (λ us. r ∷ us) (let-go-none rs)

-- the blocks of runs that pass a test, where the records of one run pass it together

module _ (p : Record → Bool) (together : (r : Record) → p (record_on 1 r) ≡ p r) where
  same-kind : (a : Part) → is_page (part_on 1 a) ≡ is_page a
  same-kind (Page q) = refl
  same-kind Kind = refl
  same-kind Mode = refl
  same-kind Size = refl
  same-kind Bound = refl

  -- one record more in front
  one-more : (n : ℕ) (r : Record) (rest : List Record) (a b : Bool) → is_page r.part ≡ b →
      block_count rest ≡ cond a (cond b (n + 1) 0) 0 → block_count (cond a (r ∷ rest) rest) ≡ cond a (cond b (suc n + 1) 0) 0
  one-more n r rest false b e h = h
  one-more n r rest true b e h = sum_by-cons (λ (u : Record). cond (is_page u.part) 1 0) r rest ∙ go b e h where
    go : (b : Bool) → is_page r.part ≡ b → block_count rest ≡ cond b (n + 1) 0 →
        cond (is_page r.part) 1 0 + block_count rest ≡ cond b (suc n + 1) 0
    go true e h = rw e (omega (arith, h))
    go false e h = rw e (omega (arith, h))

  of-series : (n : ℕ) (r : Record) → block_count (filter p (series n r)) ≡ cond (p r) (cond (is_page r.part) (n + 1) 0) 0
  unfolding series
  of-series zero r = go (p r) (is_page r.part) refl where
    go : (a b : Bool) → is_page r.part ≡ b → block_count (cond a (r ∷ []) []) ≡ cond a (cond b 1 0) 0
    go false b e = refl
    go true true e = rw e refl
    go true false e = rw e refl
  of-series (suc n) r =
      let h : block_count (filter p (series n (record_on 1 r))) ≡ cond (p r) (cond (is_page r.part) (n + 1) 0) 0
      = of-series n (record_on 1 r)
      ∙ (ap (λ a. cond a (cond (is_page (part_on 1 r.part)) (n + 1) 0) 0) (together r)
      ∙ ap (λ b. cond (p r) (cond b (n + 1) 0) 0) (same-kind r.part)) in
      one-more n r (filter p (series n (record_on 1 r))) (p r) (is_page r.part) refl h

  pub of-runs : (rs : List RecordRun) → sum_by pages_of (filter (λ (run : RecordRun). p run.first) rs) ≡ block_count (filter p (records_of rs))
  unfolding records_of
  of-runs [] = refl
  of-runs (r ∷ rs) =
      let e : block_count (filter p (run_records r ++ records_of rs))
      ≡ block_count (filter p (run_records r)) + block_count (filter p (records_of rs))
      = ap block_count (filter-append p (run_records r) (records_of rs))
      ∙ sum_by-append (λ (u : Record). cond (is_page u.part) 1 0) (filter p (run_records r)) (filter p (records_of rs)) in
      let k = of-series r.more r.first in
      let h = of-runs rs in
      go (p r.first) (filter (λ (run : RecordRun). p run.first) rs) ∙ omega (arith, e, k, h)
    where
      go : (a : Bool) (rest : List RecordRun) →
          sum_by pages_of (cond a (r ∷ rest) rest) ≡ cond a (cond (is_page r.first.part) (r.more + 1) 0) 0 + sum_by pages_of rest
      go true rest = sum_by-cons pages_of r rest
      go false rest = omega arith

pub held-together : (s : ℕ) (r : Record) → is_held_by s (record_on 1 r) ≡ is_held_by s r
held-together s r = refl

pub let_go-together : (older : Option ℕ) (r : Record) → not (is_born_by older (record_on 1 r)) ≡ not (is_born_by older r)
let_go-together None r = refl
let_go-together (Some s) r = refl

pub none-moves-down : (rs : List Record) → length (moved_down None rs) ≡ 0
none-moves-down [] = refl
none-moves-down (r ∷ rs) = none-moves-down rs

-- an empty manifest adds nothing to a sum
pub total-made : (f : List Record → ℕ) (ms : List Manifest) (m : Manifest) → total f (ms ++ m ∷ []) ≡ total f ms + f m.records
total-made f ms m = sum_by_push (λ (u : Manifest). f u.records) ms m

-- a sum over some manifests, and over those behind them, with the next
pub total-more : (f : List Record → ℕ) (ms : List Manifest) (i : ℕ) (m : Manifest) → i < length ms → m ≡ get_or ms i m →
    total f (take (i + 1) ms) ≡ total f (take i ms) + f m.records
total-more f ms i m h e =
    let q : f m.records ≡ f (get_or ms i m).records = ap (λ (u : Manifest). f u.records) e in
    omega (arith, q, sum_by_more (λ (u : Manifest). f u.records) ms i m h)

pub total-left : (f : List Record → ℕ) (ms : List Manifest) (i : ℕ) (m : Manifest) → i < length ms → m ≡ get_or ms i m →
    total f (drop i ms) ≡ f m.records + total f (drop (i + 1) ms)
total-left f ms i m h e =
    let g : Manifest → ℕ = λ u. f u.records in
    omega (arith, total-more f ms i m h e, sum_by-take-drop g ms i, sum_by-take-drop g ms (i + 1))

-- what s holds of some manifests and of the next is at most all records
pub held-more : (s : ℕ) (ms : List Manifest) (i : ℕ) (m : Manifest) → i < length ms → m ≡ get_or ms i m →
    held_of s (take i ms) + block_count (filter (is_held_by s) m.records) ≤ record_count ms
held-more s ms i m h e =
    let held : Manifest → ℕ = λ u. block_count (filter (is_held_by s) u.records) in
    let q : held m ≡ held (get_or ms i m) = ap held e in
    omega (
      arith,
      q,
      sum_by_more_le held ms i m h,
      sum_by-le-sum_by held (λ (u : Manifest). length u.records) ms
          (λ u. blocks-le-records (is_held_by s) u.records),
    )
