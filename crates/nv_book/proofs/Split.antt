-- A list that is moved to the ends of two others.
use Rattle.std.proofs.Common.{◌≡◌, ℕ, ◌+◌, ◌≤◌, true, false, not, List, [], ◌∷◌, ◌++◌, length, filter, Option, cond, arith, refl, ap, sym, ◌∙◌, append_assoc}
use Rattle.std.proofs.lemmas.List.{append-nil}
use Rattle.nv_book.specs.declared.record.Record.{Record}
use Rattle.nv_book.specs.declared.run.RecordRun.{RecordRun}
use Rattle.nv_book.specs.Records.{is_born_by}
use Rattle.nv_book.specs.Runs.{IsRun, AreRuns, put, run_records, records_of}
use Rattle.nv_book.proofs.Series.{put-records, put-runs, filter-run, not-filter-run, filter-append}

abbrev pub born : Option ℕ → List RecordRun → List Record
born older rs = filter (λ r. is_born_by older r) (records_of rs)

abbrev pub others : Option ℕ → List RecordRun → List Record
others older rs = filter (λ r. not (is_born_by older r)) (records_of rs)

pub record IsMoving (older : Option ℕ) (from₀ kept₀ deferred₀ from kept deferred : List RecordRun) : Type 0 where
  pub from_runs : AreRuns from
  pub kept_runs : AreRuns kept
  pub deferred_runs : AreRuns deferred
  pub kept_records : records_of kept ++ born older from ≡ records_of kept₀ ++ born older from₀
  pub deferred_records : records_of deferred ++ others older from ≡ records_of deferred₀ ++ others older from₀
  pub room : length from + length kept + length deferred ≤ length from₀ + length kept₀ + length deferred₀

pub begins : (older : Option ℕ) (from kept deferred : List RecordRun) → AreRuns from → AreRuns kept → AreRuns deferred →
    IsMoving older from kept deferred from kept deferred
begins older from kept deferred f k d =
    record { from_runs = f; kept_runs = k; deferred_runs = d; kept_records = refl; deferred_records = refl; room = omega arith }

module _ (older : Option ℕ) (from₀ kept₀ deferred₀ from kept deferred : List RecordRun) (r : RecordRun)
    (m : IsMoving older from₀ kept₀ deferred₀ (r ∷ from) kept deferred) (run : IsRun r) (rest : AreRuns from) where
  born-rest : born older (r ∷ from) ≡ cond (is_born_by older r.first) (run_records r) [] ++ born older from
  unfolding records_of
  born-rest = filter-append (λ t. is_born_by older t) (run_records r) (records_of from)
      ∙ ap (λ us. us ++ born older from) (filter-run older r)

  others-rest : others older (r ∷ from) ≡ cond (is_born_by older r.first) [] (run_records r) ++ others older from
  unfolding records_of
  others-rest = filter-append (λ t. not (is_born_by older t)) (run_records r) (records_of from)
      ∙ ap (λ us. us ++ others older from) (not-filter-run older r)

  pub keeps : is_born_by older r.first ≡ true → length (put kept r) ≤ length kept + 1 →
      IsMoving older from₀ kept₀ deferred₀ from (put kept r) deferred
  keeps b room =
      let e : born older (r ∷ from) ≡ run_records r ++ born older from = born-rest
      ∙ ap (λ b. cond b (run_records r) [] ++ born older from) b in
      let f : others older (r ∷ from) ≡ others older from = others-rest ∙ ap (λ b. cond b [] (run_records r) ++ others older from) b in
      let room₀ = m.room in
      record {
        from_runs = rest;
        kept_runs = put-runs kept r m.kept_runs run;
        deferred_runs = m.deferred_runs;
        kept_records = ap (λ us. us ++ born older from) (put-records kept r)
            ∙ (append_assoc (records_of kept) (run_records r) (born older from)
            ∙ (ap (λ us. records_of kept ++ us) (sym e) ∙ m.kept_records));
        deferred_records = ap (λ us. records_of deferred ++ us) (sym f) ∙ m.deferred_records;
        room = omega (arith, room, room₀);
      }

  pub defers : is_born_by older r.first ≡ false → length (put deferred r) ≤ length deferred + 1 →
      IsMoving older from₀ kept₀ deferred₀ from kept (put deferred r)
  defers b room =
      let e : born older (r ∷ from) ≡ born older from = born-rest ∙ ap (λ b. cond b (run_records r) [] ++ born older from) b in
      let f : others older (r ∷ from) ≡ run_records r ++ others older from = others-rest
      ∙ ap (λ b. cond b [] (run_records r) ++ others older from) b in
      let room₀ = m.room in
      record {
        from_runs = rest;
        kept_runs = m.kept_runs;
        deferred_runs = put-runs deferred r m.deferred_runs run;
        kept_records = ap (λ us. records_of kept ++ us) (sym e) ∙ m.kept_records;
        deferred_records = ap (λ us. us ++ others older from) (put-records deferred r)
            ∙ (append_assoc (records_of deferred) (run_records r) (others older from)
            ∙ (ap (λ us. records_of deferred ++ us) (sym f) ∙ m.deferred_records));
        room = omega (arith, room, room₀);
      }

pub done : (older : Option ℕ) (from₀ kept₀ deferred₀ from kept deferred : List RecordRun) →
    IsMoving older from₀ kept₀ deferred₀ from kept deferred → length from ≡ 0 →
    (records_of kept ≡ records_of kept₀ ++ born older from₀) × (records_of deferred ≡ records_of deferred₀ ++ others older from₀)
unfolding records_of
done older from₀ kept₀ deferred₀ [] kept deferred m n =
    (sym (append-nil (records_of kept)) ∙ m.kept_records, sym (append-nil (records_of deferred)) ∙ m.deferred_records)
done older from₀ kept₀ deferred₀ (r ∷ from) kept deferred m n = absurd (omega (arith, n))
