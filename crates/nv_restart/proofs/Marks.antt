-- Marks and records anew of a cut log: a part that is kept has one record, which is of its pair.
use Rattle.std.proofs.Common.{◌≡◌, ℕ, zero, suc, ◌+◌, ◌-◌, ◌<◌, ◌≤◌, ◌==◌, ◌&&◌, ◌∙◌, ◌⊎◌, inl, inr, Bool, true, false, cond, filter, not, List, [], ◌∷◌, Option, Some, None, ap, arith, map, nat_le, refl, subst, sym}
use Rattle.std.specs.Prelude.{if◌then◌else◌, ◌||◌, slice_get, slice_index_or}
use Rattle.std.specs.List.{AllByRecursion}
use Rattle.std.proofs.lemmas.Bool.{cases_lt, eqb-false, eqb-true, le-leb, lt-leb}
use Rattle.nv_audit.proofs.NeededPages.{mark_of}
use Rattle.nv_cell.specs.Anew.{mark_by, marks_anew}
use Rattle.nv_audit.specs.Mounted.{is_recorded, log_records, record_by}
use Rattle.nv_book.specs.Records.{is_held_by}
use Rattle.nv_book.specs.declared.record.Record.{Record}
use Rattle.nv_cell.specs.Marks.{bit, is_current, is_killed, mark_at}
use Rattle.nv_cell.specs.Named.{number_named}
use Rattle.nv_cell.specs.Numbers.{is_number}
use Rattle.nv_cell.specs.declared.mark.Mark.{Mark}
use Rattle.nv_cell.specs.declared.mark.Mark.TheVariants.{Current, Kept, Out}
use Rattle.nv_cell.proofs.MarksAnew.{current_anew, len_anew}
use Rattle.nv_cell.proofs.NamedPairs.{its_number}
use Rattle.nv_entry.specs.Covered.{is_covered, part_total}
use Rattle.nv_entry.specs.Held.{holds, is_current as pair_current, is_held, pair_name}
use Rattle.nv_entry.specs.Log.{IsLog, pairs}
use Rattle.nv_entry.specs.declared.held.Pair.{Pair}
use Rattle.nv_entry.specs.declared.item.Entry.{Entry}
use Rattle.nv_machine.specs.Recorded.{is_marked_kept}
use Rattle.nv_machine.proofs.FiledLists.{count, count_cons, one}
use Rattle.nv_machine.proofs.FiledMarks.{is_filed_on}
use Rattle.nv_machine.proofs.Lists.{self}
use Rattle.nv_machine.proofs.MarksInUse.{same_default}
use Rattle.nv_machine.proofs.Pairs.{IsRecordOf}

-- ---- one mark

kept_by : (living : List ℕ) (pair : Pair) → is_marked_kept (mark_by living pair) ≡ is_recorded living pair
kept_by living pair = go (pair_current pair) (is_held living pair) where
  go : (a b : Bool) → is_marked_kept (if a then Current else if b then Kept else Out) ≡ (not a && b)
  go true b = refl
  go false true = refl
  go false false = refl

not_killed : (living : List ℕ) (pair : Pair) → is_killed (mark_by living pair) ≡ false
not_killed living pair = go (pair_current pair) (is_held living pair) where
  go : (a b : Bool) → is_killed (if a then Current else if b then Kept else Out) ≡ false
  go true b = refl
  go false true = refl
  go false false = refl

out_by : (living : List ℕ) (pair : Pair) → mark_by living pair ≡ Out → is_held living pair ≡ false
out_by living pair e = go (pair_current pair) (is_held living pair) refl e where
  go : (a b : Bool) → is_held living pair ≡ b
      → (if a then Current else if b then Kept else Out) ≡ Out → is_held living pair ≡ false
  go true b q e = cc
  go false true q e = cc
  go false false q e = q

-- ---- all marks

every_mark : (P : Mark → Type 0) (living : List ℕ) (ps : List Pair)
    → ((pair : Pair) → P (mark_by living pair)) → P Out → (n : ℕ)
    → P (slice_index_or (map (mark_by living) ps) n Out)
every_mark P living [] all out n = out
every_mark P living (p ∷ ps) all out zero = all p
every_mark P living (p ∷ ps) all out (suc n) = every_mark P living ps all out n

module _ (living : List ℕ) (block : ℕ) (log : List Entry) where
  pub none_killed : (n : ℕ) → is_killed (mark_at (marks_anew living block log) n) ≡ false
  none_killed =
      every_mark (λ m. is_killed m ≡ false) living (pairs block log) (not_killed living) refl

  pub out_unheld : (n : ℕ) (pair : Pair) → slice_get (pairs block log) n ≡ Some pair
      → mark_at (marks_anew living block log) n ≡ Out → is_held living pair ≡ false
  out_unheld n pair got e =
      out_by living pair (sym (mark_of living (pairs block log) n pair got) ∙ e)

  pub current_marks : (n : ℕ) → n < part_total log
      → is_current (mark_at (marks_anew living block log) n) ≡ not (is_covered block log n)
  current_marks n lt =
      ap is_current (sym (same_default (marks_anew living block log) n
      (omega (arith, lt, len_anew living block log))))
      ∙ current_anew living block log n lt

-- ---- each kept part has one record

module _ (living : List ℕ) (ino : ℕ) (log : List Entry) (n : ℕ) where
  abbrev filed : Record → Bool
  filed = is_filed_on ino log n

  -- of the pairs from the k-th on
  counted : (k : ℕ) (ps : List Pair)
      → ((i : ℕ) (pair : Pair) → slice_get ps i ≡ Some pair
      → number_named log (pair_name pair) ≡ Some (k + i))
      → count filed (map (record_by ino) (filter (is_recorded living) ps))
      ≡ cond (nat_le k n) (bit (is_marked_kept (slice_index_or (map (mark_by living) ps) (n - k) Out))) 0
  counted k [] named = go (nat_le k n) where
    go : (b : Bool) → 0 ≡ cond b (bit false) 0
    go true = refl
    go false = refl
  counted k (pair ∷ ps) named =
      by (is_recorded living pair) refl (k == n) refl (counted (k + 1) ps later) where
        later : (i : ℕ) (other : Pair) → slice_get ps i ≡ Some other
            → number_named log (pair_name other) ≡ Some (k + 1 + i)
        later i other e = named (suc i) other e ∙ ap (λ (m : ℕ). Some m) (omega arith)

        its : filed (record_by ino pair) ≡ (k == n)
        its =
            ap (λ (b : Bool). b && is_number (number_named log (pair_name pair)) n) (self ino)
            ∙ ap (λ (o : Option ℕ). is_number o n) (named 0 pair refl
            ∙ ap (λ (m : ℕ). Some m) (omega arith))

        by : (r : Bool) → is_recorded living pair ≡ r → (s : Bool) → (k == n) ≡ s
            → count filed (map (record_by ino) (filter (is_recorded living) ps))
            ≡ cond (nat_le (k + 1) n)
            (bit (is_marked_kept (slice_index_or (map (mark_by living) ps) (n - (k + 1)) Out))) 0
            → count filed
            (map (record_by ino)
            (cond r (pair ∷ filter (is_recorded living) ps) (filter (is_recorded living) ps)))
            ≡ cond (nat_le k n)
            (bit (is_marked_kept
            (slice_index_or (mark_by living pair ∷ map (mark_by living) ps) (n - k) Out)))
            0
        by r p true q more =
            let same = eqb-true k n q in
            let none : count filed (map (record_by ino) (filter (is_recorded living) ps)) ≡ 0 =
            more ∙ ap (λ (b : Bool).
            cond b (bit (is_marked_kept (slice_index_or (map (mark_by living) ps) (n - (k + 1)) Out))) 0)
            (past (k + 1) (omega (arith, same))) in
            let zeroth : n - k ≡ 0 = omega (arith, same) in
            own r p none
            ∙ sym (ap (λ (b : Bool).
            cond b (bit
            (is_marked_kept (slice_index_or (mark_by living pair ∷ map (mark_by living) ps) (n - k)
            Out))) 0)
            (upto k (omega (arith, same)))
            ∙ ap (λ (i : ℕ).
            bit (is_marked_kept (slice_index_or (mark_by living pair ∷ map (mark_by living) ps) i Out)))
            zeroth
            ∙ ap bit (kept_by living pair ∙ p)) where
              past : (m : ℕ) → n < m → nat_le m n ≡ false
              past m lt = lt-leb m n lt

              upto : (m : ℕ) → m ≤ n → nat_le m n ≡ true
              upto m le = le-leb m n le

              own : (r : Bool) → is_recorded living pair ≡ r
                  → count filed (map (record_by ino) (filter (is_recorded living) ps)) ≡ 0
                  → count filed
                  (map (record_by ino)
                  (cond r (pair ∷ filter (is_recorded living) ps) (filter (is_recorded living) ps)))
                  ≡ bit r
              own true p none =
                  omega (
                    arith,
                    count_cons filed (record_by ino pair)
                        (map (record_by ino) (filter (is_recorded living) ps)),
                    ap one (its ∙ q),
                    none,
                  )
              own false p none = none
        by r p false q more = other r p ∙ more ∙ shifted (cases_lt k n) where
          other : (r : Bool) → is_recorded living pair ≡ r
              → count filed
              (map (record_by ino)
              (cond r (pair ∷ filter (is_recorded living) ps) (filter (is_recorded living) ps)))
              ≡ count filed (map (record_by ino) (filter (is_recorded living) ps))
          other true p =
              omega (
                arith,
                count_cons filed (record_by ino pair)
                    (map (record_by ino) (filter (is_recorded living) ps)),
                ap one (its ∙ q),
              )
          other false p = refl

          shifted : (k < n) ⊎ (n ≤ k)
              → cond (nat_le (k + 1) n)
              (bit (is_marked_kept (slice_index_or (map (mark_by living) ps) (n - (k + 1)) Out))) 0
              ≡ cond (nat_le k n)
              (bit (is_marked_kept
              (slice_index_or (mark_by living pair ∷ map (mark_by living) ps) (n - k) Out))) 0
          shifted (inl lt) =
              let a : nat_le (k + 1) n ≡ true = le-leb (k + 1) n (omega (arith, lt)) in
              let b : nat_le k n ≡ true = le-leb k n (omega (arith, lt)) in
              let step : n - k ≡ suc (n - (k + 1)) = omega (arith, lt) in
              ap (λ (c : Bool).
              cond c (bit (is_marked_kept (slice_index_or (map (mark_by living) ps) (n - (k + 1)) Out))) 0)
              a
              ∙ sym (ap (λ (c : Bool).
              cond c (bit
              (is_marked_kept (slice_index_or (mark_by living pair ∷ map (mark_by living) ps) (n - k)
              Out))) 0) b
              ∙ ap (λ (i : ℕ).
              bit (is_marked_kept (slice_index_or (mark_by living pair ∷ map (mark_by living) ps) i Out)))
              step)
          shifted (inr ge) =
              let ne = eqb-false k n q in
              let a : nat_le (k + 1) n ≡ false = lt-leb (k + 1) n (omega (arith, ge)) in
              let b : nat_le k n ≡ false = lt-leb k n (omega (arith, ge, ne)) in
              ap (λ (c : Bool).
              cond c (bit (is_marked_kept (slice_index_or (map (mark_by living) ps) (n - (k + 1)) Out))) 0)
              a
              ∙ sym (ap (λ (c : Bool).
              cond c (bit
              (is_marked_kept (slice_index_or (mark_by living pair ∷ map (mark_by living) ps) (n - k)
              Out))) 0) b)

-- EACH PART IS RECORDED as often as its mark says
pub recorded_anew : (living : List ℕ) (ino block : ℕ) (log : List Entry) (n : ℕ) → IsLog log
    → count (is_filed_on ino log n) (log_records block living ino log)
    ≡ bit (is_marked_kept (mark_at (marks_anew living block log) n))
recorded_anew living ino block log n is =
    counted living ino log n 0 (pairs block log) (λ i pair e. its_number block log is i pair e
    ∙ ap (λ (m : ℕ). Some m) (omega arith))
    ∙ ap (λ (b : Bool).
    cond b (bit (is_marked_kept (slice_index_or (map (mark_by living) (pairs block log)) (n - 0) Out))) 0)
    (le-leb 0 n (omega arith))
    ∙ ap (λ (i : ℕ). bit (is_marked_kept (slice_index_or (map (mark_by living) (pairs block log)) i Out)))
    (omega arith)

-- ---- each record is of its pair

-- a snapshot holds the record exactly where it holds the pair
same_holders : (living : List ℕ) (ino : ℕ) (pair : Pair) (death : ℕ) → pair.death ≡ Some death
    → AllByRecursion (λ s. is_held_by s (record_by ino pair) ≡ holds s pair) living
same_holders [] ino pair death e = tt
same_holders (s ∷ living) ino pair death e = (rw e refl, same_holders living ino pair death e)

module _ (living : List ℕ) (ino block : ℕ) (log : List Entry) where
  -- of a pair that is recorded
  own : (n : ℕ) (pair : Pair) → slice_get (pairs block log) n ≡ Some pair
      → is_recorded living pair ≡ true
      → IsRecordOf living block log (record_by ino pair)
  own n pair got rec = at pair.death refl where
    at : (d : Option ℕ) → pair.death ≡ d → IsRecordOf living block log (record_by ino pair)
    at None e =
        absurd (none
        (subst (λ (o : Option ℕ). is_recorded living (record pair { death = o }) ≡ true) e
        rec)) where
          none : is_recorded living (record pair { death = None }) ≡ true → ⊥
          none f = cc
    at (Some death) e = record {
      n = n;
      pair = pair;
      is = got;
      name = refl;
      birth_is = refl;
      died = ap (λ (o : Option ℕ). pair_current (record pair { death = o })) e;
      holders = same_holders living ino pair death e;
    }

  some_told : (ps : List Pair) (k : ℕ)
      → ((i : ℕ) (pair : Pair) → slice_get ps i ≡ Some pair
      → slice_get (pairs block log) (k + i) ≡ Some pair)
      → AllByRecursion (IsRecordOf living block log)
      (map (record_by ino) (filter (is_recorded living) ps))
  some_told [] k at = tt
  some_told (pair ∷ ps) k at = go (is_recorded living pair) refl
      (some_told ps (k + 1) (λ i p e. ap (slice_get (pairs block log)) (omega arith)
      ∙ at (suc i) p e)) where
        go : (b : Bool) → is_recorded living pair ≡ b
            → AllByRecursion (IsRecordOf living block log)
            (map (record_by ino) (filter (is_recorded living) ps))
            → AllByRecursion (IsRecordOf living block log)
            (map (record_by ino)
            (cond b (pair ∷ filter (is_recorded living) ps) (filter (is_recorded living) ps)))
        go true q rest = (own (k + 0) pair (at 0 pair refl) q, rest)
        go false q rest = rest

  pub told_anew : AllByRecursion (IsRecordOf living block log) (log_records block living ino log)
  told_anew =
      some_told (pairs block log) 0 (λ i pair e. ap (slice_get (pairs block log)) (omega arith) ∙ e)
