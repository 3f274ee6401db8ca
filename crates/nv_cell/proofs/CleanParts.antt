-- What a cleaning leaves of parts, by the numbers that they had.
use Rattle.std.proofs.Common.{◌≡◌, ℕ, zero, suc, ◌∙◌, Bool, true, false, List, [], ◌∷◌, Option, Some, None, ap, get_or, inl, inr, length, refl, slice_get, subst, sym}
use Rattle.std.specs.List.{AllByRecursion}
use Rattle.std.specs.Option.{option_map}
use Rattle.std.proofs.lemmas.Bool.{cases_lt, false≢true}
use Rattle.std.proofs.lemmas.List.{get_or_past}
use Rattle.std.proofs.lemmas.Option.{same_Some}
use Rattle.nv_cell.specs.Cell.{CellState, log_of}
use Rattle.nv_cell.specs.Cleaned.{HasDeadPair, HasNumber, KeepsRecords, WasPair}
use Rattle.nv_cell.specs.Killed.{part_of_pair}
use Rattle.nv_cell.specs.Marks.{is_there, mark_at}
use Rattle.nv_cell.specs.Named.{number_named}
use Rattle.nv_cell.specs.Numbers.{is_number}
use Rattle.nv_cell.specs.Removal.{left_in, part_flags, source}
use Rattle.nv_cell.specs.declared.mark.Mark.{Mark}
use Rattle.nv_cell.specs.declared.mark.Mark.TheVariants.{Out}
use Rattle.nv_cell.proofs.NamedParts.{are_pairs}
use Rattle.nv_cell.proofs.Removing.{AreTaken, few, some}
use Rattle.nv_cell.proofs.Renumbered.{Was, name_left, pair_was, part_left, test_left}
use Rattle.nv_cell.proofs.Sources.{at_source}
use Rattle.nv_entry.specs.Clean.{select}
use Rattle.nv_entry.specs.Held.{Retention, holds, is_current, pair_name}
use Rattle.nv_entry.specs.Laws.{KeepsReads, pairs_where}
use Rattle.nv_entry.specs.Log.{IsLog, pairs}
use Rattle.nv_entry.specs.declared.held.Pair.{Pair}
use Rattle.nv_entry.specs.declared.item.Entry.{Entry}
use Rattle.nv_entry.specs.declared.part.PartId.{PartId}
use Rattle.nv_log.specs.Chain.{ChainState, left_of, log}
use Rattle.nv_log.proofs.Flags.{gone_at, left_of-select}

-- an item that stays has a number among those that are left
number_left : (flags : List Bool) (was : ℕ) → get_or flags was true ≡ true → HasNumber flags was
number_left [] was stays = record { n = was; is = refl }
number_left (true ∷ flags) zero stays = record { n = zero; is = refl }
number_left (true ∷ flags) (suc was) stays =
    let left = number_left flags was stays in
    record { n = suc left.n; is = ap suc left.is }
number_left (false ∷ flags) zero stays = absurd (false≢true stays)
number_left (false ∷ flags) (suc was) stays =
    let left = number_left flags was stays in
    record { n = left.n; is = ap suc left.is }

-- two steps of holders
joined : (f g h : ℕ → Bool) (ss : List ℕ) → AllByRecursion (λ s. f s ≡ g s) ss
    → AllByRecursion (λ s. h s ≡ g s) ss
    → AllByRecursion (λ s. f s ≡ h s) ss
joined f g h [] a b = tt
joined f g h (s ∷ ss) a b = (a.0 ∙ sym b.0, joined f g h ss a.1 b.1)

module _ {flags : List Bool} {cell : CellState} {chain : ChainState}
    (taken : AreTaken flags cell chain) (r : Retention)
    (is : IsLog (log_of cell)) (size : r.block ≡ cell.block)
    (reads : KeepsReads r (log_of cell) (select flags (log_of cell))) where
  abbrev old : List Entry
  old = log_of cell

  abbrev left : List Entry
  left = left_of flags (log_of cell)

  abbrev fs : List Bool
  fs = part_flags flags (log_of cell)

  selected : left ≡ select flags old
  selected = left_of-select flags old taken.left.flags_len

  -- a test that passes the same pairs of both logs
  same_pairs : (test : Pair → Bool)
      → pairs_where test r.block (select flags old) ≡ pairs_where test r.block old
      → pairs_where test cell.block left ≡ pairs_where test cell.block old
  same_pairs test same =
      subst (λ (block : ℕ). pairs_where test block left ≡ pairs_where test block old) size
      (ap (pairs_where test r.block) selected ∙ same)

  holders : (n : ℕ) (pair : Pair) → slice_get (pairs cell.block left) n ≡ Some pair
      → (w : Was cell.block flags old n pair) → (ss : List ℕ)
      → AllByRecursion
      (λ s. pairs_where (holds s) r.block (select flags old) ≡ pairs_where (holds s) r.block old) ss
      → AllByRecursion (λ s. holds s pair ≡ holds s w.old) ss
  holders n pair got w [] all = tt
  holders n pair got w (s ∷ ss) all = (
    test_left (holds s) cell.block flags old n pair is (same_pairs (holds s) all.0) got w,
    holders n pair got w ss all.1,
  )

  was : (n : ℕ) (pair : Pair) → slice_get (pairs cell.block left) n ≡ Some pair
      → WasPair r.snapshots cell.block old (source fs n) pair
  was n pair got =
      let w = pair_was cell.block flags old n pair got in
      record {
        old = w.old;
        is = w.is;
        name = w.name;
        birth = w.birth;
        current = test_left is_current cell.block flags old n pair is
            (same_pairs is_current reads.current) got w;
        holders = holders n pair got w r.snapshots reads.holders;
      }

  there : (n : ℕ) → is_there (mark_at cell.marks n) ≡ true → HasNumber fs n
  there n h = number_left fs n (stays (get_or fs n true) refl) where
    out_not : mark_at cell.marks n ≡ Out → ⊥
    out_not e = false≢true (ap is_there (sym e) ∙ h)

    stays : (b : Bool) → get_or fs n true ≡ b → b ≡ true
    stays true e = refl
    stays false e = absurd (elim (cases_lt n (length cell.marks)) [
      | inl lt ↦ out_not (gone_at (λ (m : Mark). m ≡ Out) fs cell.marks n Out taken.may.out lt e)
      | inr ge ↦ out_not (get_or_past cell.marks n Out ge)
    ])

  -- the pair with a new number is the one that had the old number
  pair_at : (n : ℕ) (pair : Pair) → slice_get (pairs cell.block old) (source fs n) ≡ Some pair
      → (p : Pair) × (slice_get (pairs cell.block left) n ≡ Some p)
  pair_at n pair got = go (slice_get (pairs cell.block left) n) refl where
    part : option_map part_of_pair (slice_get (pairs cell.block left) n) ≡ Some (part_of_pair pair)
    part =
        sym (are_pairs cell.block left n) ∙ part_left flags old n
        ∙ are_pairs cell.block old (source fs n)
        ∙ ap (option_map part_of_pair) got

    go : (o : Option Pair) → slice_get (pairs cell.block left) n ≡ o
        → (p : Pair) × (slice_get (pairs cell.block left) n ≡ Some p)
    go None e = absurd (none (ap (option_map part_of_pair) (sym e) ∙ part)) where
      none : option_map part_of_pair None ≡ Some (part_of_pair pair) → ⊥
      none q = cc
    go (Some p) e = (p, e)

  recorded : (id : PartId) (birth : ℕ) (is_held_by : ℕ → Bool)
      → (h : HasDeadPair r.snapshots cell.block old id birth is_held_by)
      → is_there (mark_at cell.marks h.n) ≡ true
      → HasDeadPair r.snapshots cell.block left id birth is_held_by
  recorded id birth is_held_by h stays =
      let number = there h.n stays in
      let at = ap (slice_get (pairs cell.block old)) number.is ∙ h.is in
      let found = pair_at number.n h.pair at in
      let w = was number.n found.0 found.1 in
      let same : w.old ≡ h.pair = same_Some w.old h.pair (sym w.is ∙ at) in
      record {
        n = number.n;
        pair = found.0;
        is = found.1;
        name = sym w.name ∙ ap pair_name same ∙ h.name;
        birth_is = sym w.birth ∙ ap (λ (p : Pair). p.birth) same ∙ h.birth_is;
        died = w.current ∙ ap is_current same ∙ h.died;
        holders = joined is_held_by (λ s. holds s h.pair) (λ s. holds s found.0) r.snapshots
            h.holders
            (subst (λ (p : Pair). AllByRecursion (λ s. holds s found.0 ≡ holds s p) r.snapshots)
            same w.holders);
      }

  pub cleaned_records : KeepsRecords r flags cell (left_in flags chain cell)
  cleaned_records =
      let log_is : log chain ≡ left = taken.left.log_is ∙ sym selected in
      record {
        marks = λ n. at_source fs cell.marks n Out (few taken);
        blocks = λ n. at_source fs cell.blocks n None (some taken);
        names = λ id n. ap (λ (l : List Entry). is_number (number_named l id) n) log_is
            ∙ name_left flags old id n is;
        pairs = λ n pair got. was n pair
            (subst (λ (l : List Entry). slice_get (pairs cell.block l) n ≡ Some pair) log_is got);
        there = there;
        recorded = λ id birth is_held_by h stays.
            subst (λ (l : List Entry). HasDeadPair r.snapshots cell.block l id birth is_held_by)
            (sym log_is)
            (recorded id birth is_held_by h stays);
      }
