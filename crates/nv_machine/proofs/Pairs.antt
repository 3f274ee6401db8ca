-- Pairs of a log by their numbers and names, and what more entries leave of them.
use Rattle.std.proofs.Common.{◌≡◌, ℕ, ◌+◌, ◌<◌, ◌≤◌, ◌&&◌, ◌++◌, ◌∙◌, Bool, true, false, List, [], ◌∷◌, Option, Some, None, ap, filter, if◌then◌else◌, nat_le, refl, slice_get, sym}
use Rattle.std.specs.List.{AllByRecursion}
use Rattle.std.specs.Option.{IsSome, option_map}
use Rattle.std.proofs.lemmas.Bool.{false≢true, le-ltb}
use Rattle.std.proofs.lemmas.Option.{same_Some}
use Rattle.nv_base.specs.Ids.{is_same_id}
use Rattle.nv_book.specs.Records.{is_held_by}
use Rattle.nv_book.specs.declared.record.Record.{Record}
use Rattle.nv_calls.specs.Retiring.{name_of, record_of}
use Rattle.nv_cell.specs.Killed.{part_of_pair}
use Rattle.nv_cell.specs.Named.{number_named, place_of_part}
use Rattle.nv_cell.specs.Numbers.{is_number, killed_part}
use Rattle.nv_cell.specs.declared.killed.KilledPart.{KilledPart}
use Rattle.nv_cell.specs.Cleaned.{HasDeadPair}
use Rattle.nv_cell.proofs.DeadPairs.{dropped, made, more_entries}
use Rattle.nv_cell.proofs.NamedPairs.{its_number, name_is, number_is, own_name}
use Rattle.nv_cell.proofs.NamedParts.{are_pairs, name_told, names_of_parts}
use Rattle.nv_entry.specs.Covered.{part_count, part_total}
use Rattle.nv_entry.specs.Held.{has_name, holds, is_before_death, pair_name}
use Rattle.nv_entry.specs.Log.{IsLog, pairs}
use Rattle.nv_entry.specs.declared.held.Pair.{Pair}
use Rattle.nv_entry.specs.declared.item.Entry.{Entry}
use Rattle.nv_entry.specs.declared.part.PartId.{PartId}
use Rattle.nv_machine.proofs.Lists.{self}

-- ---- the pair of a number

pub pair_there : (block : ℕ) (log : List Entry) (n : ℕ) → IsLog log → n < part_total log → IsSome (slice_get (pairs block log) n)
pair_there block log n is lt = go (slice_get (pairs block log) n) (are_pairs block log n) ((names_of_parts log is).there n lt) where
  go : (o : Option Pair) → killed_part log n ≡ option_map part_of_pair o → IsSome (killed_part log n) → IsSome o
  go None e there = absurd (false≢true (rw e at there))
  go (Some pair) e there = refl

module _ (block : ℕ) (log : List Entry) (is : IsLog log) (n : ℕ) (pair : Pair) (got : slice_get (pairs block log) n ≡ Some pair) where
  at_number : killed_part log n ≡ Some (part_of_pair pair)
  at_number = are_pairs block log n ∙ ap (option_map part_of_pair) got

  pub its_name : (id : PartId) → number_named log id ≡ Some n → id ≡ pair_name pair
  its_name id e = same_Some id (pair_name pair) (sym (name_told log id n e) ∙ ap (option_map (λ (k : KilledPart). k.part)) at_number)

  pub named_same : (id : PartId) → has_name pair id ≡ is_number (number_named log id) n
  named_same id = go (has_name pair id) (is_number (number_named log id) n) refl refl where
    go : (b c : Bool) → has_name pair id ≡ b → is_number (number_named log id) n ≡ c → b ≡ c
    go true true p q = refl
    go false false p q = refl
    go true false p q =
        absurd (false≢true (sym q ∙ ap (λ (i : PartId). is_number (number_named log i) n) (name_is pair id p)
        ∙ ap (λ (o : Option ℕ). is_number o n) (its_number block log is n pair got) ∙ self n))
    go false true p q =
        absurd (false≢true (sym p ∙ ap (has_name pair) (its_name id (number_is (number_named log id) n q)) ∙ own_name pair))

-- ---- more entries

pub number_front : (xs ys : List Entry) (id : PartId) (n : ℕ) → number_named xs id ≡ Some n → number_named (xs ++ ys) id ≡ Some n
number_front [] ys id n e = cc
number_front (x ∷ xs) ys id n e = go (is_same_id x.id id.entry) e (number_named xs id) refl (λ m. number_front xs ys id m) where
  more : (o : Option ℕ) → number_named xs id ≡ o → option_map (λ m. part_count x + m) o ≡ Some n
      → ((m : ℕ) → number_named xs id ≡ Some m → number_named (xs ++ ys) id ≡ Some m)
      → option_map (λ m. part_count x + m) (number_named (xs ++ ys) id) ≡ Some n
  more None q f rec = cc
  more (Some m) q f rec = rw (rec m q) f

  go : (b : Bool) → (if b then place_of_part x.item id.part else option_map (λ m. part_count x + m) (number_named xs id)) ≡ Some n
      → (o : Option ℕ) → number_named xs id ≡ o → ((m : ℕ) → number_named xs id ≡ Some m → number_named (xs ++ ys) id ≡ Some m)
      → (if b then place_of_part x.item id.part else option_map (λ m. part_count x + m) (number_named (xs ++ ys) id)) ≡ Some n
  go true f o q rec = f
  go false f o q rec = more o q (rw q at f) rec

-- ---- a killed pair, by its name

pub record HasPair (block : ℕ) (log : List Entry) (id : PartId) (birth death : ℕ) : Type 0 where
  pub n : ℕ
  pub pair : Pair
  pub is : slice_get (pairs block log) n ≡ Some pair
  pub name : pair_name pair ≡ id
  pub birth_is : pair.birth ≡ birth
  pub death_is : pair.death ≡ Some death

pub has_number : (block : ℕ) (log : List Entry) (id : PartId) (birth death : ℕ) → IsLog log → (h : HasPair block log id birth death)
    → number_named log id ≡ Some h.n
has_number block log id birth death is h =
    ap (number_named log) (sym h.name) ∙ its_number block log is h.n h.pair h.is

-- ---- the pair of a record

-- a record is of a pair of a log: of that birth and no longer current, and with the same living holders
abbrev pub IsRecordOf : List ℕ → ℕ → List Entry → Record → Type 0
IsRecordOf living block log d = HasDeadPair living block log (name_of d) d.birth (λ s. is_held_by s d)

pub record_number : (living : List ℕ) (block : ℕ) (log : List Entry) (d : Record) → IsLog log → (r : IsRecordOf living block log d)
    → number_named log (name_of d) ≡ Some r.n
record_number living block log d is r = ap (number_named log) (sym r.name) ∙ its_number block log is r.n r.pair r.is

-- that of a killed pair
pub record_killed : (living : List ℕ) (ino epoch : ℕ) (k : KilledPart) (block : ℕ) (log : List Entry)
    → HasPair block log k.part k.birth epoch → IsRecordOf living block log (record_of ino epoch k)
record_killed living ino epoch k block log h = record {
  n = h.n;
  pair = h.pair;
  is = h.is;
  name = h.name;
  birth_is = h.birth_is;
  died = rw (h.death_is) refl;
  holders = all living;
} where
  all : (ss : List ℕ) → AllByRecursion (λ s. is_held_by s (record_of ino epoch k) ≡ holds s h.pair) ss
  all [] = tt
  all (s ∷ ss) = (rw (h.birth_is, h.death_is) refl, all ss)

-- behind more entries
pub record_more : (living : List ℕ) (block : ℕ) (xs ys : List Entry) (d : Record) → IsRecordOf living block xs d
    → IsRecordOf living block (xs ++ ys) d
record_more living block xs ys d r = more_entries living block xs (name_of d) d.birth (λ s. is_held_by s d) r ys

-- where fewer snapshots live, and where one more does whose epoch is not before the deaths of both
pub record_dropped : (living : List ℕ) (stays : ℕ → Bool) (block : ℕ) (log : List Entry) (d : Record) → IsRecordOf living block log d
    → IsRecordOf (filter stays living) block log d
record_dropped living stays block log d r = dropped living block log (name_of d) d.birth (λ s. is_held_by s d) r stays

-- a new snapshot holds nothing that has died by its epoch
pub dead_then : (epoch death : ℕ) (pair : Pair) → pair.death ≡ Some death → death ≤ epoch → holds epoch pair ≡ false
dead_then epoch death pair dead le =
    never (nat_le pair.birth epoch) (is_before_death epoch pair.death) (rw dead (le-ltb epoch death le)) where
      never : (b c : Bool) → c ≡ false → (b && c) ≡ false
      never true c e = e
      never false c e = refl

pub record_made : (living : List ℕ) (epoch block : ℕ) (log : List Entry) (d : Record) → d.death ≤ epoch
    → ((n death : ℕ) (pair : Pair) → slice_get (pairs block log) n ≡ Some pair → pair.death ≡ Some death → death ≤ epoch)
    → IsRecordOf living block log d → IsRecordOf (living ++ epoch ∷ []) block log d
record_made living epoch block log d by all r =
    let its = dead_then epoch d.death (record { entry = d.entry; part = d.part; birth = d.birth; death = Some d.death }) refl by in
    made living block log (name_of d) d.birth (λ s. is_held_by s d) r epoch its (λ n pair death. all n death pair)
