-- The record list as a list: how its records are counted, what the manifests and the deferred list have of it, and what
-- a retire, a drop and a pick leave of it.
use Rattle.std.proofs.Common.{◌≡◌, ℕ, zero, suc, ◌+◌, ◌<◌, ◌==◌, ◌++◌, ◌∙◌, Bool, true, false, cond, not, List, [], ◌∷◌, Option, Some, None, ap, arith, filter, length, length-append, if◌then◌else◌, map, refl}
use Rattle.std.specs.Prelude.{is_none}
use Rattle.std.specs.List.{All, AllByRecursion, Contains}
use Rattle.std.proofs.lemmas.Bool.{eq-eqb, ne_eqb}
use Rattle.std.proofs.lemmas.List.Elements.{All-contains, filter-append}
use Rattle.nv_book.specs.Listed.{IsRecordList, all_records, is_snapshot, kept_by, manifest_told, not_kept_by, unheld, with_moved, without_first}
use Rattle.nv_book.specs.Records.{holder_of}
use Rattle.nv_book.specs.declared.manifest.Manifest.{Manifest}
use Rattle.nv_book.specs.declared.record.Record.{Record}
use Rattle.nv_epoch.specs.Holders.{IsRising, holds}
use Rattle.nv_epoch.proofs.Last.{last_passes}
use Rattle.nv_machine.proofs.EachElement.{all_append, all_filter}

-- ---- how many of a list pass a test

abbrev pub count : {X : Type 0} → (X → Bool) → List X → ℕ
count p rs = length (filter p rs)

abbrev pub one : Bool → ℕ
one b = cond b 1 0

pub count_append : {X : Type 0} (p : X → Bool) (xs ys : List X) → count p (xs ++ ys) ≡ count p xs + count p ys
count_append {X} p xs ys = ap (λ (l : List X). length l) (filter-append p xs ys) ∙ length-append (filter p xs) (filter p ys)

pub count_cons : {X : Type 0} (p : X → Bool) (r : X) (rs : List X) → count p (r ∷ rs) ≡ one (p r) + count p rs
count_cons p r rs = go (p r) where
  go : (b : Bool) → length (cond b (r ∷ filter p rs) (filter p rs)) ≡ one b + count p rs
  go true = omega arith
  go false = omega arith

-- two tests that say the same of each
pub count_same : {X : Type 0} (p q : X → Bool) (xs : List X) → AllByRecursion (λ x. p x ≡ q x) xs → count p xs ≡ count q xs
count_same p q [] h = refl
count_same p q (x ∷ xs) h = omega (arith, count_cons p x xs, count_cons q x xs, ap one h.0, count_same p q xs h.1)

-- of records that pass another test and those that do not
pub count_parted : (p q : Record → Bool) (rs : List Record)
    → count p (filter (λ r. not (q r)) rs) + count p (filter q rs) ≡ count p rs
count_parted p q [] = refl
count_parted p q (r ∷ rs) = go (q r) (count_parted p q rs) where
  go : (b : Bool) → count p (filter (λ r. not (q r)) rs) + count p (filter q rs) ≡ count p rs
      → count p (cond (not b) (r ∷ filter (λ r. not (q r)) rs) (filter (λ r. not (q r)) rs))
      + count p (cond b (r ∷ filter q rs) (filter q rs)) ≡ count p (r ∷ rs)
  go true more = omega (arith, more, count_cons p r (filter q rs), count_cons p r rs)
  go false more = omega (arith, more, count_cons p r (filter (λ r. not (q r)) rs), count_cons p r rs)

-- ---- a drop moves records to the end

pub count_moved : (p : Record → Bool) (s : ℕ) (living : List ℕ) (rs : List Record) → count p (with_moved s living rs) ≡ count p rs
count_moved p s living rs =
    count_append p (not_kept_by s living rs) (kept_by s living rs) ∙ count_parted p (λ r. is_snapshot s (holder_of living r)) rs

pub all_moved : (P : Record → Type 0) (s : ℕ) (living : List ℕ) (rs : List Record) → AllByRecursion P rs
    → AllByRecursion P (with_moved s living rs)
all_moved P s living rs h =
    all_append P (not_kept_by s living rs) (kept_by s living rs) (all_filter P _ rs h) (all_filter P _ rs h)

-- ---- a pick takes out the first that no living snapshot holds

-- with it the records are as many
pub count_first : (p : Record → Bool) (living : List ℕ) (d : Record) (ds rs : List Record) → unheld living rs ≡ d ∷ ds
    → count p rs ≡ one (p d) + count p (without_first living rs)
count_first p living d ds [] e = cc
count_first p living d ds (r ∷ rs) e = go (is_none (holder_of living r)) e (count_first p living d ds rs) where
  go : (b : Bool) → cond b (r ∷ unheld living rs) (unheld living rs) ≡ d ∷ ds
      → (unheld living rs ≡ d ∷ ds → count p rs ≡ one (p d) + count p (without_first living rs))
      → count p (r ∷ rs) ≡ one (p d) + count p (cond b rs (r ∷ without_first living rs))
  go true e more = let same : r ≡ d = cc in count_cons p r rs ∙ ap (λ (x : Record). one (p x) + count p rs) same
  go false e more = omega (arith, more e, count_cons p r rs, count_cons p r (without_first living rs))

pub all_first : (P : Record → Type 0) (living : List ℕ) (rs : List Record) → AllByRecursion P rs
    → AllByRecursion P (without_first living rs)
all_first P living [] h = tt
all_first P living (r ∷ rs) h = go (is_none (holder_of living r)) (all_first P living rs h.1) where
  go : (b : Bool) → AllByRecursion P (without_first living rs) → AllByRecursion P (cond b rs (r ∷ without_first living rs))
  go true more = h.1
  go false more = (h.0, more)

-- and where there is none the list stays
pub none_first : (living : List ℕ) (rs : List Record) → unheld living rs ≡ [] → without_first living rs ≡ rs
none_first living [] e = refl
none_first living (r ∷ rs) e = go (is_none (holder_of living r)) e (none_first living rs) where
  go : (b : Bool) → cond b (r ∷ unheld living rs) (unheld living rs) ≡ []
      → (unheld living rs ≡ [] → without_first living rs ≡ rs) → cond b rs (r ∷ without_first living rs) ≡ r ∷ rs
  go true e more = cc
  go false e more = ap (λ (l : List Record). r ∷ l) (more e)

-- the one that it takes was on the list, and no living snapshot holds it
pub unheld_pass : (living : List ℕ) (rs : List Record) → AllByRecursion (λ r. holder_of living r ≡ None) (unheld living rs)
unheld_pass living [] = tt
unheld_pass living (r ∷ rs) = go (holder_of living r) refl (unheld_pass living rs) where
  go : (o : Option ℕ) → holder_of living r ≡ o → AllByRecursion (λ r. holder_of living r ≡ None) (unheld living rs)
      → AllByRecursion (λ r. holder_of living r ≡ None) (cond (is_none o) (r ∷ unheld living rs) (unheld living rs))
  go None e more = (e, more)
  go (Some t) e more = more

pub first_unheld : (living : List ℕ) (d : Record) (ds rs : List Record) → unheld living rs ≡ d ∷ ds → holder_of living d ≡ None
first_unheld living d ds rs e =
    let all : AllByRecursion (λ r. holder_of living r ≡ None) (d ∷ ds) = rw e at (unheld_pass living rs) in all.0

pub first_among : (P : Record → Type 0) (living : List ℕ) (d : Record) (ds rs : List Record) → unheld living rs ≡ d ∷ ds
    → AllByRecursion P rs → P d
first_among P living d ds rs e all =
    let some : AllByRecursion P (d ∷ ds) = rw e at (all_filter P (λ r. is_none (holder_of living r)) rs all) in some.0

-- ---- the manifests and the deferred list have each record once

-- how often a snapshot of a list is the holder
abbrev matches : Option ℕ → List ℕ → ℕ
matches o [] = 0
matches o (s ∷ ss) = one (is_snapshot s o) + matches o ss

no_matches : (ss : List ℕ) → matches None ss ≡ 0
no_matches [] = refl
no_matches (s ∷ ss) = omega (arith, no_matches ss)

above_matches : (t : ℕ) (ss : List ℕ) → All (λ s. t < s) ss → matches (Some t) ss ≡ 0
above_matches t [] above = refl
above_matches t (s ∷ ss) above =
    let lt : t < s = above 0 0 (omega arith) in
    let more = above_matches t ss (λ k d there. above (suc k) d (omega (arith, there))) in
    rw (ne_eqb s t (λ e. absurd (omega (arith, lt, e)))) (omega (arith, more))

one_match : (t : ℕ) (ss : List ℕ) → IsRising ss → Contains ss t → matches (Some t) ss ≡ 1
one_match t [] rising (k, lt, at) = absurd (omega (arith, lt))
one_match t (s ∷ ss) rising (zero, lt, at) =
    let same : s ≡ t = at in
    let more = above_matches t ss (rw same at rising.0) in
    rw (same, eq-eqb t t refl) (omega (arith, more))
one_match t (s ∷ ss) rising (suc k, lt, at) =
    let there : Contains ss t = (k, omega (arith, lt), at) in
    let more = one_match t ss rising.1 there in
    let below : s < t = All-contains (λ u. s < u) ss t rising.0 there in
    rw (ne_eqb s t (λ e. absurd (omega (arith, below, e)))) (omega (arith, more))

abbrev told : List ℕ → List Record → List ℕ → List Record
told living rs ss = all_records (map (manifest_told living rs) ss)

-- a record more is told once by each snapshot that is its holder
told_more : (p : Record → Bool) (living : List ℕ) (r : Record) (rs : List Record) (ss : List ℕ)
    → count p (told living (r ∷ rs) ss) ≡ (if p r then matches (holder_of living r) ss else 0) + count p (told living rs ss)
told_more p living r rs [] = go (p r) where
  go : (b : Bool) → 0 ≡ cond b 0 0 + 0
  go true = omega arith
  go false = omega arith
told_more p living r rs (s ∷ ss) =
    go (p r) (is_snapshot s (holder_of living r)) refl (told_more p living r rs ss) where
      others : ℕ
      others = count p (told living rs ss)

      go : (b c : Bool) → p r ≡ b
          → count p (told living (r ∷ rs) ss) ≡ cond b (matches (holder_of living r) ss) 0 + count p (told living rs ss)
          → count p (cond c (r ∷ kept_by s living rs) (kept_by s living rs) ++ told living (r ∷ rs) ss)
          ≡ cond b (one c + matches (holder_of living r) ss) 0 + count p (kept_by s living rs ++ told living rs ss)
      go true true e more = omega (
        arith,
        more,
        ap one e,
        count_cons p r (kept_by s living rs),
        count_append p (r ∷ kept_by s living rs) (told living (r ∷ rs) ss),
        count_append p (kept_by s living rs) (told living rs ss),
      )
      go false true e more = omega (
        arith,
        more,
        ap one e,
        count_cons p r (kept_by s living rs),
        count_append p (r ∷ kept_by s living rs) (told living (r ∷ rs) ss),
        count_append p (kept_by s living rs) (told living rs ss),
      )
      go true false e more = omega (
        arith,
        more,
        count_append p (kept_by s living rs) (told living (r ∷ rs) ss),
        count_append p (kept_by s living rs) (told living rs ss),
      )
      go false false e more = omega (
        arith,
        more,
        count_append p (kept_by s living rs) (told living (r ∷ rs) ss),
        count_append p (kept_by s living rs) (told living rs ss),
      )

-- who holds a record lives
lives : (living : List ℕ) (r : Record) (t : ℕ) → holder_of living r ≡ Some t → Contains living t
lives living r t e = (last_passes (holds r.birth r.death) living t e).0

count_told : (p : Record → Bool) (living : List ℕ) (rs : List Record) → IsRising living
    → count p (told living rs living) + count p (unheld living rs) ≡ count p rs
count_told p living [] rising = none living where
  none : (ss : List ℕ) → count p (told living [] ss) + 0 ≡ 0
  none [] = omega arith
  none (s ∷ ss) = none ss
count_told p living (r ∷ rs) rising = go (holder_of living r) refl (p r) refl (told_more p living r rs living)
    (count_told p living rs rising) where
      go : (o : Option ℕ) → holder_of living r ≡ o → (b : Bool) → p r ≡ b
          → count p (told living (r ∷ rs) living) ≡ cond b (matches o living) 0 + count p (told living rs living)
          → count p (told living rs living) + count p (unheld living rs) ≡ count p rs
          → count p (told living (r ∷ rs) living) + count p (cond (is_none o) (r ∷ unheld living rs) (unheld living rs)) ≡ count p (r ∷ rs)
      go None e true q here more =
          omega (arith, here, more, no_matches living, ap one q, count_cons p r rs, count_cons p r (unheld living rs))
      go None e false q here more = omega (arith, here, more, ap one q, count_cons p r rs, count_cons p r (unheld living rs))
      go (Some t) e true q here more =
          omega (arith, here, more, one_match t living rising (lives living r t e), ap one q, count_cons p r rs)
      go (Some t) e false q here more = omega (arith, here, more, ap one q, count_cons p r rs)

-- so what is filed is counted as the list is, and what holds of each on the list holds of each that is filed
pub count_filed : (p : Record → Bool) (living : List ℕ) (ms : List Manifest) (ds rs : List Record) → IsRising living
    → IsRecordList living ms ds rs → count p (all_records ms) + count p ds ≡ count p rs
count_filed p living ms ds rs rising h = rw (h.manifests_are, h.deferred_is) (count_told p living rs rising)

all_told : (P : Record → Type 0) (living : List ℕ) (rs : List Record) (ss : List ℕ) → AllByRecursion P rs
    → AllByRecursion P (told living rs ss)
all_told P living rs [] h = tt
all_told P living rs (s ∷ ss) h =
    all_append P (kept_by s living rs) (told living rs ss) (all_filter P (λ r. is_snapshot s (holder_of living r)) rs h)
    (all_told P living rs ss h)

pub all_filed : (P : Record → Type 0) (living : List ℕ) (ms : List Manifest) (ds rs : List Record)
    → IsRecordList living ms ds rs → AllByRecursion P rs → AllByRecursion P (all_records ms ++ ds)
all_filed P living ms ds rs h all =
    all_append P (all_records ms) ds (rw h.manifests_are (all_told P living rs living all))
    (rw h.deferred_is (all_filter P (λ r. is_none (holder_of living r)) rs all))

-- ---- what stands in a manifest has a living holder

pub record HasHolder (living : List ℕ) (d : Record) : Type 0 where
  pub snapshot : ℕ
  pub is : holder_of living d ≡ Some snapshot

held_kept : (s : ℕ) (living : List ℕ) (rs : List Record) → AllByRecursion (HasHolder living) (kept_by s living rs)
held_kept s living [] = tt
held_kept s living (r ∷ rs) = go (holder_of living r) refl (held_kept s living rs) where
  both : (b : Bool) → HasHolder living r → AllByRecursion (HasHolder living) (kept_by s living rs)
      → AllByRecursion (HasHolder living) (cond b (r ∷ kept_by s living rs) (kept_by s living rs))
  both true own more = (own, more)
  both false own more = more

  go : (o : Option ℕ) → holder_of living r ≡ o → AllByRecursion (HasHolder living) (kept_by s living rs)
      → AllByRecursion (HasHolder living) (cond (is_snapshot s o) (r ∷ kept_by s living rs) (kept_by s living rs))
  go None e more = more
  go (Some t) e more = both (s == t) (record { snapshot = t; is = e }) more

held_told : (living : List ℕ) (rs : List Record) (ss : List ℕ) → AllByRecursion (HasHolder living) (told living rs ss)
held_told living rs [] = tt
held_told living rs (s ∷ ss) =
    all_append (HasHolder living) (kept_by s living rs) (told living rs ss) (held_kept s living rs) (held_told living rs ss)

pub held_filed : (living : List ℕ) (ms : List Manifest) (ds rs : List Record) → IsRecordList living ms ds rs
    → AllByRecursion (HasHolder living) (all_records ms)
held_filed living ms ds rs h = rw h.manifests_are (held_told living rs living)
