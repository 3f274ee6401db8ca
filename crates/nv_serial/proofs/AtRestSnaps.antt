-- How many blocks a living snapshot holds by the manifests, and alone, is what it holds of the one
-- record list.
use Rattle.std.proofs.Common.{◌≡◌, ◌≢◌, ℕ, ◌&&◌, ◌==◌, ◌∙◌, Bool, true, false, cond, List, [], ◌∷◌, Option, Some, None, ap, arith, filter, map, nat_le, not, refl, sym, inl, inr}
use Rattle.std.specs.Prelude.{is_none, ◌⊎◌}
use Rattle.std.specs.List.{AllByRecursion, Contains}
use Rattle.std.proofs.lemmas.Bool.{eqb-false, eqb-true}
use Rattle.std.proofs.lemmas.List.Sums.{length-filter, sum_by-cons}
use Rattle.nv_base.specs.declared.geometry.GeometryNumbers.{GeometryNumbers}
use Rattle.nv_book.specs.Listed.{IsRecordList, all_records, is_snapshot, kept_by, manifest_told, unheld}
use Rattle.nv_book.specs.Manifests.{gain_of, held_of, records_at}
use Rattle.nv_book.specs.Records.{block_count, holder_of, is_born_by, is_held_by, is_page, let_go}
use Rattle.nv_book.specs.declared.manifest.Manifest.{Manifest}
use Rattle.nv_book.specs.declared.record.Record.{Record}
use Rattle.nv_book.proofs.Filing.{Removes}
use Rattle.nv_epoch.specs.Holders as holders
use Rattle.nv_epoch.specs.Holders.{IsRising, if_born_by, next_older, without}
use Rattle.nv_epoch.specs.SnapList.{ids}
use Rattle.nv_epoch.proofs.Last.{contains_cases, last_passes, none_passes}
use Rattle.nv_machine.specs.Starts.{IsStart}
use Rattle.nv_machine.specs.World.{World}
use Rattle.nv_machine.proofs.FiledDrops.{removes}
use Rattle.nv_machine.proofs.FiledLists.{count, count_append, count_cons, count_filed, count_same, one, unheld_pass}
use Rattle.nv_serial.specs.Reports.{gain_by, held_by}
use Rattle.nv_serial.specs.Serial.{Serial}
use Rattle.nv_serial.proofs.AtRestLogs.{living_is, told_by}

-- ---- how many pass

each : {X : Type 0} (P : X → Type 0) (xs : List X) → ((x : X) → P x) → AllByRecursion P xs
each P [] all = tt
each P (x ∷ xs) all = (all x, each P xs all)

count_both : (p h : Record → Bool) (xs : List Record) → count p (filter h xs)
    ≡ count (λ x. p x && h x) xs
count_both p h [] = refl
count_both p h (x ∷ xs) = go (h x) refl (count_both p h xs) where
  go : (b : Bool) → h x ≡ b → count p (filter h xs) ≡ count (λ x. p x && h x) xs
      → count p (cond b (x ∷ filter h xs) (filter h xs)) ≡ count (λ x. p x && h x) (x ∷ xs)
  go true is more =
      let same : one (p x && h x) ≡ one (p x) = ap (λ (b : Bool). one (p x && b)) is
      ∙ ap one (and_true (p x)) in
      omega (arith, count_cons p x (filter h xs), count_cons (λ x. p x && h x) x xs, same, more)
    where
      and_true : (b : Bool) → (b && true) ≡ b
      and_true true = refl
      and_true false = refl
  go false is more =
      let none : one (p x && h x) ≡ 0 = ap (λ (b : Bool). one (p x && b)) is ∙ and_false (p x) in
      omega (arith, count_cons (λ x. p x && h x) x xs, none, more)
    where
      and_false : (b : Bool) → one (b && false) ≡ 0
      and_false true = refl
      and_false false = refl

count_none : (p : Record → Bool) (xs : List Record) → AllByRecursion (λ x. p x ≡ false) xs
    → count p xs ≡ 0
count_none p [] none = refl
count_none p (x ∷ xs) none = omega (arith, count_cons p x xs, ap one none.0, count_none p xs none.1)

-- the records of pages among those that pass
abbrev paged : (Record → Bool) → Record → Bool
paged h d = is_page d.part && h d

blocks_counted : (h : Record → Bool) (rs : List Record) → block_count (filter h rs)
    ≡ count (paged h) rs
blocks_counted h rs = sym (length-filter (λ (d : Record). is_page d.part) (filter h rs))
    ∙ count_both (λ d. is_page d.part) h rs

manifests_held : (n : ℕ) (ms : List Manifest) → held_of n ms ≡ count (paged (is_held_by n))
    (all_records ms)
manifests_held n [] = refl
manifests_held n (m ∷ ms) =
    omega (
      arith,
      sum_by-cons (λ (m : Manifest). block_count (filter (is_held_by n) m.records)) m ms,
      blocks_counted (is_held_by n) m.records,
      manifests_held n ms,
      count_append (paged (is_held_by n)) m.records (all_records ms),
    )

-- ---- one living snapshot

module _ (living : List ℕ) (n : ℕ) (rs : List Record) (rising : IsRising living)
    (lives : Contains living n) where
  off : (d : Record) → holder_of living d ≡ None → is_held_by n d ≡ false
  off d none = (none_passes (holders.holds d.birth d.death) living none).fails n lives

  none_held : (ds : List Record) → AllByRecursion (λ d. holder_of living d ≡ None) ds
      → AllByRecursion (λ d. paged (is_held_by n) d ≡ false) ds
  none_held [] all = tt
  none_held (d ∷ ds) all = (
    ap (λ (b : Bool). is_page d.part && b) (off d all.0)
        ∙ no (is_page d.part),
    none_held ds all.1,
  ) where
    no : (b : Bool) → (b && false) ≡ false
    no true = refl
    no false = refl

  pub held_is : (ms : List Manifest) (ds : List Record) → IsRecordList living ms ds rs
      → held_of n ms ≡ block_count (filter (is_held_by n) rs)
  held_is ms ds list =
      let none : count (paged (is_held_by n)) ds ≡ 0 =
      ap (count (paged (is_held_by n))) list.deferred_is
      ∙ count_none (paged (is_held_by n)) (unheld living rs)
      (none_held (unheld living rs) (unheld_pass living rs)) in
      omega (
        arith,
        manifests_held n ms,
        none,
        count_filed (paged (is_held_by n)) living ms ds rs rising list,
        blocks_counted (is_held_by n) rs,
      )

  -- ---- what it holds alone

  at_own : (ss : List ℕ) → Contains ss n → records_at n (map (manifest_told living rs) ss)
      ≡ kept_by n living rs
  at_own [] there = absurd (let lt = there.1 in omega (arith, lt))
  at_own (t ∷ ss) there = go (t == n) refl (contains_cases t ss n there) (at_own ss) where
    go : (b : Bool) → (t == n) ≡ b → (n ≡ t) ⊎ Contains ss n
        → (Contains ss n → records_at n (map (manifest_told living rs) ss) ≡ kept_by n living rs)
        → cond b (kept_by t living rs) (records_at n (map (manifest_told living rs) ss))
        ≡ kept_by n living rs
    go true is there more = ap (λ (u : ℕ). kept_by u living rs) (eqb-true t n is)
    go false is (inl same) more = absurd (eqb-false t n is (sym same))
    go false is (inr later) more = more later

  none_if : (o : Option ℕ) (d : Record) → is_none (if_born_by d.birth o) ≡ not (is_born_by o d)
  none_if None d = refl
  none_if (Some t) d = go (nat_le d.birth t) where
    go : (b : Bool) → is_none (cond b (Some t) None) ≡ not b
    go true = refl
    go false = refl

  abbrev alone : Record → Bool
  alone d = is_held_by n d && is_none (holder_of (without n living) d)

  abbrev goes : Record → Bool
  goes d = not (is_born_by (next_older living n) d) && is_snapshot n (holder_of living d)

  goes_alone : (d : Record) → goes d ≡ alone d
  goes_alone d = go (holder_of living d) refl where
    moves : Removes living n
    moves = removes living n rising

    no : (b : Bool) → (b && false) ≡ false
    no true = refl
    no false = refl

    yes_and : (b : Bool) → (b && true) ≡ b
    yes_and true = refl
    yes_and false = refl

    go : (o : Option ℕ) → holder_of living d ≡ o
        → (not (is_born_by (next_older living n) d) && is_snapshot n o) ≡ alone d
    go None is =
        no (not (is_born_by (next_older living n) d))
        ∙ sym (ap (λ (b : Bool). b && is_none (holder_of (without n living) d)) (off d is))
    go (Some t) is = by (n == t) refl where
      by : (b : Bool) → (n == t) ≡ b → (not (is_born_by (next_older living n) d) && b) ≡ alone d
      by true same =
          let own : holder_of living d ≡ Some n = is
          ∙ ap (λ (u : ℕ). Some u) (sym (eqb-true n t same)) in
          yes_and (not (is_born_by (next_older living n) d))
          ∙ sym (none_if (next_older living n) d) ∙ sym (ap is_none (moves.own d.birth d.death own))
          ∙ sym (ap (λ (b : Bool). b && is_none (holder_of (without n living) d))
          (last_passes (holders.holds d.birth d.death) living n own).1)
      by false other =
          let apart : t ≢ n = λ e. eqb-false n t other (sym e) in
          no (not (is_born_by (next_older living n) d))
          ∙ sym (no (is_held_by n d))
          ∙ sym (ap (λ (o : Option ℕ). is_held_by n d && is_none o) (moves.others t d.birth d.death
          apart is))

  pub gain_is : (ms : List Manifest) (ds : List Record) → IsRecordList living ms ds rs
      → gain_of n (next_older living n) ms ≡ block_count (filter alone rs)
  gain_is ms ds list =
      let h : Record → Bool = λ d. not (is_born_by (next_older living n) d) in
      let kept : Record → Bool = λ d. is_snapshot n (holder_of living d) in
      ap (λ (xs : List Record). block_count (let_go (next_older living n) xs))
      (ap (records_at n) list.manifests_are ∙ at_own living lives)
      ∙ blocks_counted h (filter kept rs)
      ∙ count_both (paged h) kept rs
      ∙ count_same (λ d. paged h d && kept d) (paged alone) rs
      (each (λ d. (paged h d && kept d) ≡ paged alone d) rs (λ d.
      turned (is_page d.part) (h d) (kept d) ∙ ap (λ (b : Bool). is_page d.part && b)
      (goes_alone d)))
      ∙ sym (blocks_counted alone rs)
    where
      turned : (a b c : Bool) → ((a && b) && c) ≡ (a && (b && c))
      turned true b c = refl
      turned false b c = refl

-- ---- a world at rest

module _ (g : GeometryNumbers) (w : World) (rs : List Record) (is : IsStart g w rs) where
  abbrev s : Serial
  s = told_by g w rs

  -- WHAT A SNAPSHOT HOLDS, and what it alone holds
  pub held_reported : (n : ℕ) → Contains (ids w.shared.book.snaps) n
      → held_of n w.shared.book.manifests ≡ held_by s n
  held_reported n lives =
      held_is (ids w.shared.book.snaps) n rs is.rising lives w.shared.book.manifests
      w.shared.book.deferred is.list

  pub gain_reported : (n : ℕ) → Contains (ids w.shared.book.snaps) n
      → gain_of n (next_older (ids w.shared.book.snaps) n) w.shared.book.manifests ≡ gain_by s n
  gain_reported n lives =
      gain_is (ids w.shared.book.snaps) n rs is.rising lives w.shared.book.manifests
      w.shared.book.deferred is.list
      ∙ ap (λ (ns : List ℕ). block_count
      (filter (λ (d : Record). is_held_by n d && is_none (holder_of (without n ns) d)) rs))
      (sym (living_is g w rs is))
