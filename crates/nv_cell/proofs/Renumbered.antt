-- The parts of a log that is left, by the numbers that they had.
use Rattle.std.proofs.Common.{◌≡◌, ℕ, ◌+◌, ◌-◌, ◌&&◌, ◌∙◌, Bool, true, false, List, [], ◌∷◌, Option, Some, None, ap, arith, nat_lt, refl, slice_get, sym}
use Rattle.std.specs.List.{list_any}
use Rattle.std.specs.Option.{option_map}
use Rattle.std.proofs.lemmas.Bool.{eq-eqb, le-ltb, ltb-false, ltb-true}
use Rattle.std.proofs.lemmas.Option.{same_Some}
use Rattle.nv_cell.specs.Killed.{part_of_pair}
use Rattle.nv_cell.specs.Named.{number_named}
use Rattle.nv_cell.specs.Numbers.{is_number, killed_part}
use Rattle.nv_cell.specs.Removal.{part_flags, source}
use Rattle.nv_cell.specs.declared.killed.KilledPart.{KilledPart}
use Rattle.nv_cell.proofs.NamedParts.{are_pairs, name_told, number_told}
use Rattle.nv_cell.proofs.Sources.{source_behind, source_front, source_goes}
use Rattle.nv_entry.specs.Covered.{part_count}
use Rattle.nv_base.specs.Ids.{is_same_id}
use Rattle.nv_entry.specs.Held.{has_name, pair_name, same_part}
use Rattle.nv_entry.specs.Laws.{pairs_where}
use Rattle.nv_entry.specs.Log.{IsLog, pairs}
use Rattle.nv_entry.specs.declared.held.Pair.{Pair}
use Rattle.nv_entry.specs.declared.item.Entry.{Entry}
use Rattle.nv_entry.specs.declared.part.PartId.{PartId}
use Rattle.nv_log.specs.Chain.{left_of}
use Rattle.nv_log.proofs.Logs.{IsLog-left_of}
use Rattle.nv_cell.proofs.NamedPairs.{is_where, number_is}

-- a part that is left is the part that it was, of the same birth
pub part_left : (flags : List Bool) (es : List Entry) (n : ℕ)
    → killed_part (left_of flags es) n ≡ killed_part es (source (part_flags flags es) n)
part_left [] es n = refl
part_left (b ∷ flags) [] n = refl
part_left (false ∷ flags) (e ∷ es) n =
    let s = source_goes (part_count e) (part_flags flags es) n in
    let m = source (part_flags flags es) n in
    let a : nat_lt (part_count e + m) (part_count e) ≡ false =
    le-ltb (part_count e + m) (part_count e) (omega arith) in
    let d : part_count e + m - part_count e ≡ m = omega arith in
    rw (s, a, d) (part_left flags es n)
part_left (true ∷ flags) (e ∷ es) n =
    go (nat_lt n (part_count e)) refl (part_left flags es (n - part_count e)) where
      go : (b : Bool) → nat_lt n (part_count e) ≡ b
          → killed_part (left_of flags es) (n - part_count e)
          ≡ killed_part es (source (part_flags flags es) (n - part_count e))
          → killed_part (left_of (true ∷ flags) (e ∷ es)) n
          ≡ killed_part (e ∷ es) (source (part_flags (true ∷ flags) (e ∷ es)) n)
      go true q same =
          let s = source_front (part_count e) (part_flags flags es) n (ltb-true n (part_count e) q) in
          rw (s, q) refl
      go false q same =
          let s = source_behind (part_count e) (part_flags flags es) n (ltb-false n (part_count e) q) in
          let m = source (part_flags flags es) (n - part_count e) in
          let a : nat_lt (part_count e + m) (part_count e) ≡ false =
          le-ltb (part_count e + m) (part_count e) (omega arith) in
          let d : part_count e + m - part_count e ≡ m = omega arith in
          rw (s, a, d, q) same

-- a number by a name
named_by : (log : List Entry) (id : PartId) (n : ℕ) → IsLog log
    → option_map (λ (k : KilledPart). k.part) (killed_part log n) ≡ Some id
    → number_named log id ≡ Some n
named_by log id n is h = go (killed_part log n) refl h where
  go : (o : Option KilledPart) → killed_part log n ≡ o
      → option_map (λ (k : KilledPart). k.part) o ≡ Some id → number_named log id ≡ Some n
  go None e f = cc
  go (Some k) e f = ap (number_named log) (sym (same_Some k.part id f)) ∙ number_told log n k is e

same_tests : (b c : Bool) → (b ≡ true → c ≡ true) → (c ≡ true → b ≡ true) → b ≡ c
same_tests true true f g = refl
same_tests false false f g = refl
same_tests true false f g = sym (f refl)
same_tests false true f g = g refl

is_self : (o : Option ℕ) (n : ℕ) → o ≡ Some n → is_number o n ≡ true
is_self o n e = ap (λ (x : Option ℕ). is_number x n) e ∙ eq-eqb n n refl

pub name_left : (flags : List Bool) (es : List Entry) (id : PartId) (n : ℕ) → IsLog es
    → is_number (number_named (left_of flags es) id) n
    ≡ is_number (number_named es id) (source (part_flags flags es) n)
name_left flags es id n is =
    let m = source (part_flags flags es) n in
    same_tests (is_number (number_named (left_of flags es) id) n) (is_number (number_named es id) m)
    (λ e. is_self (number_named es id) m (named_by es id m is
    (ap (option_map (λ (k : KilledPart). k.part)) (sym (part_left flags es n))
    ∙ name_told (left_of flags es) id n (number_is (number_named (left_of flags es) id) n e))))
    (λ e. is_self (number_named (left_of flags es) id) n
    (named_by (left_of flags es) id n (IsLog-left_of flags es is)
    (ap (option_map (λ (k : KilledPart). k.part)) (part_left flags es n)
    ∙ name_told es id m (number_is (number_named es id) m e))))

-- ---- pairs

-- a pair that is left, and the pair that it was
pub record Was (block : ℕ) (flags : List Bool) (es : List Entry) (n : ℕ)
    (pair : Pair) : Type 0 where
  pub old : Pair
  pub is : slice_get (pairs block es) (source (part_flags flags es) n) ≡ Some old
  pub name : pair_name old ≡ pair_name pair
  pub birth : old.birth ≡ pair.birth

pub pair_was : (block : ℕ) (flags : List Bool) (es : List Entry) (n : ℕ) (pair : Pair)
    → slice_get (pairs block (left_of flags es)) n ≡ Some pair → Was block flags es n pair
pair_was block flags es n pair got =
    go (slice_get (pairs block es) (source (part_flags flags es) n)) refl where
      same : option_map part_of_pair (slice_get (pairs block es) (source (part_flags flags es) n))
          ≡ Some (part_of_pair pair)
      same = sym (are_pairs block es (source (part_flags flags es) n)) ∙ sym (part_left flags es n)
          ∙ are_pairs block (left_of flags es) n
          ∙ ap (option_map part_of_pair) got

      go : (o : Option Pair) → slice_get (pairs block es) (source (part_flags flags es) n) ≡ o
          → Was block flags es n pair
      go None e = absurd (none (ap (option_map part_of_pair) (sym e) ∙ same)) where
        none : option_map part_of_pair None ≡ Some (part_of_pair pair) → ⊥
        none q = cc
      go (Some old) e =
          let is : part_of_pair old ≡ part_of_pair pair =
          same_Some _ _ (ap (option_map part_of_pair) (sym e) ∙ same) in
          record {
            old = old;
            is = e;
            name = ap (λ (k : KilledPart). k.part) is;
            birth = ap (λ (k : KilledPart). k.birth) is;
          }

-- where a test passes the same pairs of both logs by name, it says the same of both
pub test_left : (test : Pair → Bool) (block : ℕ) (flags : List Bool) (es : List Entry) (n : ℕ)
    (pair : Pair) → IsLog es
    → pairs_where test block (left_of flags es) ≡ pairs_where test block es
    → slice_get (pairs block (left_of flags es)) n ≡ Some pair → (w : Was block flags es n pair)
    → test pair ≡ test w.old
test_left test block flags es n pair is same got w =
    sym (is_where test block (left_of flags es) n pair (IsLog-left_of flags es is) got)
    ∙ ap (list_any (has_name pair)) same
    ∙ ap (λ (id : PartId). list_any
    (λ (x : PartId). is_same_id x.entry id.entry && same_part x.part id.part)
    (pairs_where test block es)) (sym w.name)
    ∙ is_where test block es (source (part_flags flags es) n) w.old is w.is
