-- The records that runs stand for.
use Rattle.std.proofs.Common.{◌≡◌, ℕ, zero, suc, ◌+◌, ◌-◌, ◌<◌, ◌≤◌, ◌==◌, ◌&&◌, Bool, true, false, cond, List, [], ◌∷◌, ◌++◌, length, get_or, set, drop, filter, not, Option, Some, None, arith, refl, ap, sym, ◌∙◌, subst, append_assoc}
use Rattle.std.proofs.lemmas.List.{append-nil}
use Rattle.std.proofs.lemmas.Bool.{eqb-true, eq-eqb}
use Rattle.nv_base.specs.declared.numbers.EntryId.{EntryId}
use Rattle.nv_entry.specs.declared.part.Part.{Part}
use Rattle.nv_entry.specs.declared.part.Part.TheVariants.{Kind, Mode, Size, Bound, Page}
use Rattle.nv_book.specs.declared.record.Record.{Record}
use Rattle.nv_book.specs.declared.run.RecordRun.{RecordRun}
use Rattle.nv_book.specs.Records.{goes_on, goes_on_in, is_next_page, is_same_entry, run_count_of, is_born_by}
use Rattle.nv_book.specs.Runs.{IsRun, AreLeft, AreRuns, records_left, PageRun, put, joins, joins_in, joined, part_on, record_on, series, records_of, run_records, last_of, rest_of}

and-left : (a b : Bool) → (a && b) ≡ true → a ≡ true
and-left true b h = refl
and-left false b h = h

and-right : (a b : Bool) → (a && b) ≡ true → b ≡ true
and-right true b h = h
and-right false b h = cc

next-part : (a b : Part) → is_next_page a b ≡ true → b ≡ part_on 1 a
next-part (Page p) (Page q) h = ap Page (sym (eqb-true (p + 1) q h))
next-part (Page p) Kind h = cc
next-part (Page p) Mode h = cc
next-part (Page p) Size h = cc
next-part (Page p) Bound h = cc
next-part Kind b h = cc
next-part Mode b h = cc
next-part Size b h = cc
next-part Bound b h = cc

same-entry : (a b : EntryId) → is_same_entry a b ≡ true → a ≡ b
same-entry a b h =
    let c : a.commit ≡ b.commit = eqb-true a.commit b.commit (and-left _ _ h) in
    let p : a.place ≡ b.place = eqb-true a.place b.place (and-right (a.commit == b.commit) _ h) in
    rw (← c, ← p) refl

-- what goes on is the record of the next page
pub next-record : (a b : Record) → goes_on a b ≡ true → b ≡ record_on 1 a
next-record a b h =
    let h1 : (is_same_entry a.entry b.entry && ((a.birth == b.birth) && ((a.death == b.death) && is_next_page a.part b.part)))
    ≡ true = and-right (a.ino == b.ino) _ h in
    let h2 : ((a.birth == b.birth) && ((a.death == b.death) && is_next_page a.part b.part))
    ≡ true = and-right (is_same_entry a.entry b.entry) _ h1 in
    let h3 : ((a.death == b.death) && is_next_page a.part b.part) ≡ true = and-right (a.birth == b.birth) _ h2 in
    let i : a.ino ≡ b.ino = eqb-true a.ino b.ino (and-left _ _ h) in
    let e : a.entry ≡ b.entry = same-entry a.entry b.entry (and-left _ _ h1) in
    let f : a.birth ≡ b.birth = eqb-true a.birth b.birth (and-left _ _ h2) in
    let d : a.death ≡ b.death = eqb-true a.death b.death (and-left _ _ h3) in
    let n : b.part ≡ part_on 1 a.part = next-part a.part b.part (and-right (a.death == b.death) _ h3) in
    rw (i, e, f, d, ← n) refl

part-on-on : (m n : ℕ) (a : Part) → part_on m (part_on n a) ≡ part_on (n + m) a
part-on-on m n (Page p) = ap Page (omega arith)
part-on-on m n Kind = refl
part-on-on m n Mode = refl
part-on-on m n Size = refl
part-on-on m n Bound = refl

record-on-on : (m n : ℕ) (r : Record) → record_on m (record_on n r) ≡ record_on (n + m) r
record-on-on m n r = ap (λ p. record r { part = p }) (part-on-on m n r.part)

part-on-zero : (a : Part) → part_on 0 a ≡ a
part-on-zero (Page p) = ap Page (omega arith)
part-on-zero Kind = refl
part-on-zero Mode = refl
part-on-zero Size = refl
part-on-zero Bound = refl

record-on-zero : (r : Record) → record_on 0 r ≡ r
record-on-zero r = ap (λ p. record r { part = p }) (part-on-zero r.part)

series-append : (m n : ℕ) (a b : Record) → goes_on (record_on m a) b ≡ true → series (m + (1 + n)) a ≡ series m a ++ series n b
unfolding series
series-append zero n a b h =
    let e : 0 + (1 + n) ≡ suc n = omega arith in
    let k : b ≡ record_on 1 a = next-record (record_on 0 a) b h ∙ ap (record_on 1) (record-on-zero a) in
    rw (e, k) refl
series-append (suc m) n a b h =
    let e : suc m + (1 + n) ≡ suc (m + (1 + n)) = omega arith in
    let f : record_on m (record_on 1 a) ≡ record_on (suc m) a = record-on-on m 1 a ∙ ap (λ k. record_on k a) (omega arith) in
    rw e (ap (λ rs. a ∷ rs) (series-append m n (record_on 1 a) b (subst (λ u. goes_on u b ≡ true) (sym f) h)))

pub joined-records : (r s : RecordRun) → joins r s ≡ true → run_records (joined r s) ≡ run_records r ++ run_records s
joined-records r s h = series-append r.more s.more r.first s.first h

pub put-records : (rs : List RecordRun) (s : RecordRun) → records_of (put rs s) ≡ records_of rs ++ run_records s
unfolding put records_of
put-records [] s = append-nil (run_records s)
put-records (r ∷ []) s = go (joins r s) refl where
  go : (b : Bool) → joins r s ≡ b → records_of (cond b (joined r s ∷ []) (r ∷ s ∷ [])) ≡ run_records r ++ [] ++ run_records s
  go true j = append-nil (run_records (joined r s))
      ∙ (joined-records r s j ∙ ap (λ us. us ++ run_records s) (sym (append-nil (run_records r))))
  go false j = ap (λ us. run_records r ++ us) (append-nil (run_records s))
      ∙ ap (λ us. us ++ run_records s) (sym (append-nil (run_records r)))
put-records (r ∷ q ∷ rs) s = ap (λ us. run_records r ++ us) (put-records (q ∷ rs) s)
    ∙ sym (append_assoc (run_records r) (records_of (q ∷ rs)) (run_records s))

joined-part : (m n : ℕ) (a b : Part) → PageRun n b → is_next_page (part_on m a) b ≡ true → PageRun (m + (1 + n)) a
joined-part m n (Page p) (Page q) k h = let e : p + m + 1 ≡ q = eqb-true (p + m + 1) q h in omega (arith, e, k)
joined-part m n (Page p) Kind k h = cc
joined-part m n (Page p) Mode k h = cc
joined-part m n (Page p) Size k h = cc
joined-part m n (Page p) Bound k h = cc
joined-part m n Kind b k h = cc
joined-part m n Mode b k h = cc
joined-part m n Size b k h = cc
joined-part m n Bound b k h = cc

pub joined-run : (r s : RecordRun) → IsRun s → joins r s ≡ true → IsRun (joined r s)
joined-run r s k h = record {
  pages = joined-part r.more s.more r.first.part s.first.part k.pages
      (and-right (r.first.death == s.first.death) _
      (and-right (r.first.birth == s.first.birth) _
      (and-right (is_same_entry r.first.entry s.first.entry) _ (and-right (r.first.ino == s.first.ino) _ h))));
}

put-first : (r q s : RecordRun) (rs : List RecordRun) → joins_in r (put (q ∷ rs) s) ≡ joins r q
unfolding put
put-first r q s [] = go (joins q s) where
  go : (b : Bool) → joins_in r (cond b (joined q s ∷ []) (q ∷ s ∷ [])) ≡ joins r q
  go true = refl
  go false = refl
put-first r q s (t ∷ ts) = refl

pub put-runs : (rs : List RecordRun) (s : RecordRun) → AreRuns rs → IsRun s → AreRuns (put rs s)
unfolding put AreRuns
put-runs [] s h k = (k, refl, tt)
put-runs (r ∷ []) s h k = go (joins r s) refl where
  go : (b : Bool) → joins r s ≡ b → AreRuns (cond b (joined r s ∷ []) (r ∷ s ∷ []))
  go true j = (joined-run r s k j, refl, tt)
  go false j = (h.0, j, (k, refl, tt))
put-runs (r ∷ q ∷ rs) s h k = (h.0, put-first r q s rs ∙ h.1, put-runs (q ∷ rs) s h.2 k)

born-on : (older : Option ℕ) (r : Record) → is_born_by older (record_on 1 r) ≡ is_born_by older r
born-on None r = refl
born-on (Some s) r = refl

-- the records of a run were born together
filter-series : (older : Option ℕ) (n : ℕ) (r : Record) →
    filter (λ t. is_born_by older t) (series n r) ≡ cond (is_born_by older r) (series n r) []
unfolding series
filter-series older zero r = refl
filter-series older (suc n) r =
    go (is_born_by older r) (filter-series older n (record_on 1 r) ∙ ap (λ b. cond b (series n (record_on 1 r)) []) (born-on older r))
  where
    go : (b : Bool) → filter (λ t. is_born_by older t) (series n (record_on 1 r)) ≡ cond b (series n (record_on 1 r)) [] →
        cond b (r ∷ filter (λ t. is_born_by older t) (series n (record_on 1 r)))
        (filter (λ t. is_born_by older t) (series n (record_on 1 r))) ≡ cond b (r ∷ series n (record_on 1 r)) []
    go true e = ap (λ us. r ∷ us) e
    go false e = e

not-filter-series : (older : Option ℕ) (n : ℕ) (r : Record) →
    filter (λ t. not (is_born_by older t)) (series n r) ≡ cond (is_born_by older r) [] (series n r)
unfolding series
not-filter-series older zero r = go (is_born_by older r) where
  go : (b : Bool) → cond (not b) (r ∷ []) [] ≡ cond b [] (r ∷ [])
  go true = refl
  go false = refl
not-filter-series older (suc n) r =
    go (is_born_by older r) (not-filter-series older n (record_on 1 r) ∙ ap (λ b. cond b [] (series n (record_on 1 r))) (born-on older r))
  where
    go : (b : Bool) → filter (λ t. not (is_born_by older t)) (series n (record_on 1 r)) ≡ cond b [] (series n (record_on 1 r)) →
        cond (not b) (r ∷ filter (λ t. not (is_born_by older t)) (series n (record_on 1 r)))
        (filter (λ t. not (is_born_by older t)) (series n (record_on 1 r))) ≡ cond b [] (r ∷ series n (record_on 1 r))
    go true e = e
    go false e = ap (λ us. r ∷ us) e

pub filter-run : (older : Option ℕ) (r : RecordRun) →
    filter (λ t. is_born_by older t) (run_records r) ≡ cond (is_born_by older r.first) (run_records r) []
filter-run older r = filter-series older r.more r.first

pub not-filter-run : (older : Option ℕ) (r : RecordRun) →
    filter (λ t. not (is_born_by older t)) (run_records r) ≡ cond (is_born_by older r.first) [] (run_records r)
not-filter-run older r = not-filter-series older r.more r.first

pub filter-append : (p : Record → Bool) (xs ys : List Record) → filter p (xs ++ ys) ≡ filter p xs ++ filter p ys
filter-append p [] ys = refl
filter-append p (x ∷ xs) ys = go (p x) (filter-append p xs ys) where
  go : (b : Bool) → filter p (xs ++ ys) ≡ filter p xs ++ filter p ys →
      cond b (x ∷ filter p (xs ++ ys)) (filter p (xs ++ ys)) ≡ cond b (x ∷ filter p xs) (filter p xs) ++ filter p ys
  go true e = ap (λ us. x ∷ us) e
  go false e = e

cut-series : (n : ℕ) (r : Record) → 0 < n → series n r ≡ r ∷ series (n - 1) (record_on 1 r)
unfolding series
cut-series zero r h = absurd (omega (arith, h))
cut-series (suc n) r h = let e : suc n - 1 ≡ n = omega arith in rw e refl

-- a run without its first record
pub cut-first : (r : RecordRun) (rs : List RecordRun) → 0 < r.more → records_of (r ∷ rs) ≡ r.first ∷ records_of (rest_of r ∷ rs)
unfolding records_of
cut-first r rs h = ap (λ us. us ++ records_of rs) (cut-series r.more r.first h)

single-first : (r : RecordRun) (rs : List RecordRun) → r.more ≤ 0 → records_of (r ∷ rs) ≡ r.first ∷ records_of rs
unfolding records_of series
single-first r rs h = let e : r.more ≡ 0 = omega (arith, h) in ap (λ n. series n r.first ++ records_of rs) e

part-cut : (n : ℕ) (a : Part) → PageRun n a → 0 < n → PageRun (n - 1) (part_on 1 a)
part-cut n (Page p) h k = omega (arith, h, k)
part-cut n Kind h k = absurd (omega (arith, h, k))
part-cut n Mode h k = absurd (omega (arith, h, k))
part-cut n Size h k = absurd (omega (arith, h, k))
part-cut n Bound h k = absurd (omega (arith, h, k))

-- a run and its rest, before other runs
pub rest-none : (r : RecordRun) (rs : List RecordRun) → r.more ≤ 0 → run_records r ++ records_of rs ≡ r.first ∷ records_of rs
unfolding records_of
rest-none r rs h = single-first r rs h

pub rest-some : (r : RecordRun) (rs : List RecordRun) → 0 < r.more → run_records r ++ records_of rs ≡ r.first ∷ run_records (rest_of r) ++ records_of rs
unfolding records_of
rest-some r rs h = cut-first r rs h

pub rest-run : (r : RecordRun) → IsRun r → 0 < r.more → IsRun (rest_of r)
rest-run r h k = record { pages = part-cut r.more r.first.part h.pages k }

-- the first of the runs is begun, where none was before
pub begin-run : (begun : Option RecordRun) (runs rest : List RecordRun) (run : RecordRun) → begun ≡ None → AreLeft begun runs → runs ≡ run ∷ rest →
    IsRun run × AreRuns rest × (records_left begun runs ≡ run_records run ++ records_of rest)
unfolding AreRuns records_of
begin-run begun runs rest run none left steps =
    let h : AreRuns (run ∷ rest) = subst AreRuns steps (subst (λ b. AreLeft b runs) none left) in
    (h.0, h.2, ap (λ b. records_left b runs) none ∙ ap records_of steps)

pub none-left : (begun : Option RecordRun) (runs : List RecordRun) → begun ≡ None → runs ≡ [] → records_left begun runs ≡ []
unfolding records_of
none-left begun runs none empty = ap (λ b. records_left b runs) none ∙ ap records_of empty

last-cut : (r : RecordRun) → 0 < r.more → last_of (rest_of r) ≡ last_of r
last-cut r k = record-on-on (r.more - 1) 1 r.first ∙ ap (λ n. record_on n r.first) (omega (arith, k))

pub cut-runs : (r : RecordRun) (rs : List RecordRun) → 0 < r.more → AreRuns (r ∷ rs) → AreRuns (rest_of r ∷ rs)
unfolding AreRuns
cut-runs r [] k h = (record { pages = part-cut r.more r.first.part h.0.pages k }, refl, tt)
cut-runs r (q ∷ rs) k h =
    (record { pages = part-cut r.more r.first.part h.0.pages k }, ap (λ t. goes_on t q.first) (last-cut r k) ∙ h.1, h.2)

pub cut-list : (rs : List RecordRun) (x : RecordRun) → 0 < length rs → x ≡ get_or rs 0 x → AreRuns rs → 0 < x.more →
    (records_of rs ≡ x.first ∷ records_of (set rs 0 (rest_of x))) × AreRuns (set rs 0 (rest_of x))
cut-list [] x n e h k = absurd (omega (arith, n))
cut-list (r ∷ rs) x n e h k =
    (ap (λ u. records_of (u ∷ rs)) (sym e) ∙ cut-first x rs k, cut-runs x rs k (subst (λ u. AreRuns (u ∷ rs)) (sym e) h))

pub drop-list : (rs : List RecordRun) (x : RecordRun) → 0 < length rs → x ≡ get_or rs 0 x → AreRuns rs → x.more ≤ 0 →
    (records_of rs ≡ x.first ∷ records_of (drop 1 (set rs 0 x))) × AreRuns (drop 1 (set rs 0 x))
unfolding AreRuns
drop-list [] x n e h k = absurd (omega (arith, n))
drop-list (r ∷ rs) x n e h k = (ap (λ u. records_of (u ∷ rs)) (sym e) ∙ single-first x rs k, h.2)

-- how many runs there are is told by the records
first-of : (x : Record) (n : ℕ) (r : Record) (rest : List Record) → goes_on_in x (series n r ++ rest) ≡ goes_on x r
unfolding series
first-of x zero r rest = refl
first-of x (suc n) r rest = refl

goes-next : (n : ℕ) (r : Record) → PageRun (suc n) r.part → goes_on r (record_on 1 r) ≡ true
goes-next n r h =
    let i : (r.ino == r.ino) ≡ true = eq-eqb r.ino r.ino refl in
    let c : (r.entry.commit == r.entry.commit) ≡ true = eq-eqb r.entry.commit r.entry.commit refl in
    let p : (r.entry.place == r.entry.place) ≡ true = eq-eqb r.entry.place r.entry.place refl in
    let b : (r.birth == r.birth) ≡ true = eq-eqb r.birth r.birth refl in
    let d : (r.death == r.death) ≡ true = eq-eqb r.death r.death refl in
    rw (i, c, p, b, d) (next r.part h) where
      next : (a : Part) → PageRun (suc n) a → is_next_page a (part_on 1 a) ≡ true
      next (Page p) h = eq-eqb (p + 1) (p + 1) refl
      next Kind h = absurd (omega (arith, h))
      next Mode h = absurd (omega (arith, h))
      next Size h = absurd (omega (arith, h))
      next Bound h = absurd (omega (arith, h))

part-next : (n : ℕ) (a : Part) → PageRun (suc n) a → PageRun n (part_on 1 a)
part-next n (Page p) h = omega (arith, h)
part-next n Kind h = absurd (omega (arith, h))
part-next n Mode h = absurd (omega (arith, h))
part-next n Size h = absurd (omega (arith, h))
part-next n Bound h = absurd (omega (arith, h))

count-series : (n : ℕ) (r : Record) (rest : List Record) → PageRun n r.part → goes_on_in (record_on n r) rest ≡ false →
    run_count_of (series n r ++ rest) ≡ 1 + run_count_of rest
unfolding series
count-series zero r rest h e =
    let f : goes_on_in r rest ≡ false = subst (λ u. goes_on_in u rest ≡ false) (record-on-zero r) e in
    rw f refl
count-series (suc n) r rest h e =
    let f : goes_on_in r (series n (record_on 1 r) ++ rest) ≡ true = first-of r n (record_on 1 r) rest ∙ goes-next n r h in
    let g : record_on n (record_on 1 r) ≡ record_on (suc n) r = record-on-on n 1 r ∙ ap (λ k. record_on k r) (omega arith) in
    let k : run_count_of (series n (record_on 1 r) ++ rest) ≡ 1 + run_count_of rest =
    count-series n (record_on 1 r) rest (part-next n r.part h) (subst (λ u. goes_on_in u rest ≡ false) (sym g) e) in
    rw f (omega (arith, k))

ends-in : (r : RecordRun) (rs : List RecordRun) → joins_in r rs ≡ false → goes_on_in (last_of r) (records_of rs) ≡ false
unfolding records_of
ends-in r [] h = refl
ends-in r (q ∷ rs) h = first-of (last_of r) q.more q.first (records_of rs) ∙ h

pub count-runs : (rs : List RecordRun) → AreRuns rs → run_count_of (records_of rs) ≡ length rs
unfolding records_of AreRuns
count-runs [] h = refl
count-runs (r ∷ rs) h =
    let k : run_count_of (series r.more r.first ++ records_of rs) ≡ 1 + run_count_of (records_of rs) =
    count-series r.more r.first (records_of rs) h.0.pages (ends-in r rs h.1) in
    let n : run_count_of (records_of rs) ≡ length rs = count-runs rs h.2 in
    omega (arith, k, n)
