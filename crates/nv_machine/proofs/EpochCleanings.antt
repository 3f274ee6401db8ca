-- A cleaning keeps the copy of an earlier epoch whose parts are there.
use Rattle.std.proofs.Common.{◌≡◌, ◌∙◌, ℕ, suc, Bool, true, List, [], ◌∷◌, Some, ap, arith, refl, slice_get, sym, ◌-◌, ◌<◌, ◌≤◌, ◌||◌, ◌++◌, false, if◌then◌else◌, nat_lt, Option, None, inl, inr}
use Rattle.std.specs.List.{AllByRecursion}
use Rattle.std.proofs.lemmas.List.{get_or_default}
use Rattle.nv_cell.specs.Cell.{CellState, IsCell, log_of}
use Rattle.nv_cell.specs.Marks.{is_there, mark_at}
use Rattle.nv_cell.specs.Retained.{retention_by_marks}
use Rattle.nv_cell.specs.declared.mark.Mark.TheVariants.{Current, Out}
use Rattle.nv_cell.proofs.MarksKeep.{are_marks}
use Rattle.nv_entry.specs.Held.{holds, keeps, is_before_death}
use Rattle.nv_entry.specs.Laws.{SpansAreKept}
use Rattle.nv_entry.specs.Log.{pairs, up_to, first_cover, pair_of}
use Rattle.nv_entry.specs.Node.{node_now}
use Rattle.nv_entry.specs.declared.held.Pair.{Pair}
use Rattle.nv_entry.specs.declared.item.Entry.{Entry}
use Rattle.nv_machine.specs.Reads.{bytes_among}
use Rattle.nv_machine.proofs.CleanedCells.{Cleans, cleaned_bytes, new_log, old_log}
use Rattle.nv_machine.proofs.EpochLogs.{IsHeldAt, copy_at, log_at, splits, up_to_within}
use Rattle.nv_machine.proofs.FiledMarks.{pair_low}
use Rattle.std.specs.Option.{option_map}
use Rattle.std.specs.Prelude.{nat_le}
use Rattle.std.proofs.lemmas.Bool.{and_parts, cases_lt, le-ltb, leb-true, ltb-false, ltb-true, true≢false}
use Rattle.std.proofs.lemmas.Option.{get_or_from_slice_get, same_Some}
use Rattle.nv_cell.proofs.NamedParts.{pair_first, pair_later}
use Rattle.nv_entry.specs.Covered.{any_cover, is_covered, part_count, part_key, part_total}
use Rattle.nv_entry.specs.Keys.{Key, covers, key_of, parts_of}
use Rattle.nv_entry.specs.Later.{AreAfter}
use Rattle.nv_entry.specs.declared.part.Part.{Part}
use Rattle.nv_entry.specs.declared.part.Part.TheVariants as part

-- ---- the pairs that an epoch holds are of parts that its log has and has not covered

-- a pair of entries of later epochs was born later
born_after : (block epoch : ℕ) (rest : List Entry) (n : ℕ) (pair : Pair) → AreAfter epoch rest
    → slice_get (pairs block rest) n ≡ Some pair → epoch < pair.birth
born_after block epoch [] n pair after is = cc
born_after block epoch (e ∷ rest) n pair after is = elim (cases_lt n (part_count e)) [
  | inl lt ↦ own (slice_get (parts_of e.item) n) (sym (pair_first block e rest n lt) ∙ is)
  | inr ge ↦ born_after block epoch rest (n - part_count e) pair after.1 (sym (pair_later block e rest n ge) ∙ is)
] where
  own : (o : Option Part) → option_map (pair_of block e rest) o ≡ Some pair → epoch < pair.birth
  own None q = cc
  own (Some p) q =
      let same = ap (λ (x : Pair). x.birth) (same_Some _ pair q) in let lt = after.0 in omega (arith, lt, same)

-- a key that the epoch's log covers has had its death by then
dies_by : (block epoch : ℕ) (log rest : List Entry) (key : Key) → AllByRecursion (λ (e : Entry). e.epoch ≤ epoch) log
    → any_cover block log key ≡ true → is_before_death epoch (first_cover block (log ++ rest) key) ≡ false
dies_by block epoch [] rest key all is = cc
dies_by block epoch (e ∷ log) rest key all is =
    go (covers block e.item key) is (λ more. dies_by block epoch log rest key all.1 more)
  where
    go : (b : Bool) → (b || any_cover block log key) ≡ true
        → (any_cover block log key ≡ true → is_before_death epoch (first_cover block (log ++ rest) key) ≡ false)
        → is_before_death epoch (if b then Some e.epoch else first_cover block (log ++ rest) key) ≡ false
    go true is rec = le-ltb epoch e.epoch all.0
    go false is rec = rec is

-- the part of a pair that the epoch holds, by its number
pub record IsUncovered (block : ℕ) (log : List Entry) (n : ℕ) : Type 0 where
  pub low : n < part_total log
  pub uncovered : is_covered block log n ≡ false

pub held_uncovered : (block epoch : ℕ) (log rest : List Entry) (n : ℕ) (pair : Pair)
    → AllByRecursion (λ (e : Entry). e.epoch ≤ epoch) log → AreAfter epoch rest
    → slice_get (pairs block (log ++ rest)) n ≡ Some pair → holds epoch pair ≡ true → IsUncovered block log n
held_uncovered block epoch [] rest n pair all after is held =
    let born = leb-true pair.birth epoch (and_parts (nat_le pair.birth epoch) (is_before_death epoch pair.death) held).0 in
    let late = born_after block epoch rest n pair after is in
    absurd (omega (arith, born, late))
held_uncovered block epoch (e ∷ log) rest n pair all after is held =
    go (nat_lt n (part_count e)) refl
    (λ q. held_uncovered block epoch log rest (n - part_count e) pair all.1 after q held)
  where
    lives : is_before_death epoch pair.death ≡ true
    lives = (and_parts (nat_le pair.birth epoch) (is_before_death epoch pair.death) held).1

    own : (p : Part) → part_key e n ≡ key_of e.item p → pair_of block e (log ++ rest) p ≡ pair → (c : Bool)
        → any_cover block log (part_key e n) ≡ c → c ≡ false
    own p key same false q = refl
    own p key same true q =
        absurd (true≢false (sym lives ∙ ap (λ (x : Pair). is_before_death epoch x.death) (sym same)
        ∙ dies_by block epoch log rest (key_of e.item p) all.1
        (ap (any_cover block log) (sym key) ∙ q)))

    at : (o : Option Part) → slice_get (parts_of e.item) n ≡ o → option_map (pair_of block e (log ++ rest)) o ≡ Some pair
        → any_cover block log (part_key e n) ≡ false
    at None got q = cc
    at (Some p) got q =
        own p (ap (key_of e.item) (get_or_from_slice_get (parts_of e.item) n p part.Kind got)) (same_Some _ pair q)
        (any_cover block log (part_key e n)) refl

    go : (b : Bool) → nat_lt n (part_count e) ≡ b
        → (slice_get (pairs block (log ++ rest)) (n - part_count e) ≡ Some pair → IsUncovered block log (n - part_count e))
        → IsUncovered block (e ∷ log) n
    go true q rec =
        let lt = ltb-true n (part_count e) q in record {
          low = omega (arith, lt);
          uncovered = ap (λ (b : Bool). if b then any_cover block log (part_key e n) else is_covered block log (n - part_count e)) q
              ∙ at (slice_get (parts_of e.item) n) refl (sym (pair_first block e (log ++ rest) n lt) ∙ is);
        }
    go false q rec =
        let ge = ltb-false n (part_count e) q in
        let more = rec (sym (pair_later block e (log ++ rest) n ge) ∙ is) in
        let low = more.low in record {
          low = omega (arith, low, ge);
          uncovered = ap (λ (b : Bool). if b then any_cover block log (part_key e n) else is_covered block log (n - part_count e)) q
              ∙ more.uncovered;
        }

-- ---- what a cleaning keeps

each_pair : (P : Pair → Type 0) (ps : List Pair) → ((n : ℕ) (pair : Pair) → slice_get ps n ≡ Some pair → P pair) → AllByRecursion P ps
each_pair P [] each = tt
each_pair P (p ∷ ps) each = (each 0 p refl, each_pair P ps (λ n. each (suc n)))

module _ (epoch : ℕ) (flags : List Bool) (old new : CellState) (c : Cleans (retention_by_marks old) flags old new)
    (is : IsCell old) (held : IsHeldAt epoch old) where
  entries : log_of old ≡ old.chain.entries
  entries = old_log (retention_by_marks old) flags old new c

  -- each pair that the epoch holds is there
  held_there : (n : ℕ) (pair : Pair) → slice_get (pairs old.block (log_of old)) n ≡ Some pair → holds epoch pair ≡ true
      → is_there (mark_at old.marks n) ≡ true
  held_there n pair got holding =
      let s = splits epoch old.chain.entries is.chain.rising in
      let part = held_uncovered old.block epoch (log_at epoch old) s.rest n pair (up_to_within epoch old.chain.entries) s.later
      (ap (λ (l : List Entry). slice_get (pairs old.block l) n) (s.is ∙ sym entries) ∙ got) holding in
      ap is_there (sym (get_or_default old.marks n Current Out
      (let low = pair_low old.block (log_of old) n pair got in omega (arith, low, is.marks.len))))
      ∙ held n part.low part.uncovered

  spans_kept : SpansAreKept (retention_by_marks old) epoch (log_of old)
  spans_kept =
      each_pair (λ (pair : Pair). holds epoch pair ≡ true → keeps (retention_by_marks old) pair ≡ true) (pairs old.block (log_of old))
      (λ n pair got holding. sym ((are_marks old is).there n pair got) ∙ held_there n pair got holding)

  pub cleaned_copy : copy_at epoch new ≡ copy_at epoch old
  cleaned_copy =
      ap (λ (bytes : ℕ → List ℕ). node_now bytes new.block (log_at epoch new)) (cleaned_bytes (retention_by_marks old) flags old new c)
      ∙ ap (λ (l : List Entry). node_now (bytes_among old.blocks) new.block (up_to epoch l))
      (sym (new_log (retention_by_marks old) flags old new c))
      ∙ c.nodes.kept epoch spans_kept (bytes_among old.blocks)
      ∙ ap (λ (l : List Entry). node_now (bytes_among old.blocks) old.block (up_to epoch l)) entries
