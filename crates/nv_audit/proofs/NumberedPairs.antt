-- The pairs of a log by the names of their parts, and by entry.
use Rattle.std.proofs.Common.{◌≡◌, ℕ, zero, suc, ◌+◌, ◌-◌, ◌<◌, ◌≤◌, List, [], ◌∷◌, length, take, drop, Option, Some, None, arith, refl, ap, sym, ◌∙◌, slice_index_or}
use Rattle.std.specs.Prelude.{option_and_then, slice_get}
use Rattle.std.specs.Option.{option_map}
use Rattle.std.proofs.lemmas.List.{take-take}
use Rattle.std.proofs.lemmas.Option.{same_Some, slice_get-get_or, slice_get-map}
use Rattle.nv_book.specs.declared.record.Record.{Record}
use Rattle.nv_cell.specs.Cell.{CellState, log_of}
use Rattle.nv_cell.specs.Killed.{part_of_pair}
use Rattle.nv_cell.specs.Named.{number_named, place_of_part}
use Rattle.nv_cell.specs.Numbers.{killed_part, part_base}
use Rattle.nv_cell.specs.declared.killed.KilledPart.{KilledPart}
use Rattle.nv_cell.proofs.NamedParts.{are_pairs, name_told, number_told, pair_first, pair_later}
use Rattle.nv_cell.proofs.Naming.{named_here}
use Rattle.nv_entry.specs.Covered.{part_count, part_total}
use Rattle.nv_entry.specs.Held.{pair_name}
use Rattle.nv_entry.specs.Keys.{parts_of}
use Rattle.nv_entry.specs.Log.{IsLog, pair_of, pairs, pairs_of}
use Rattle.nv_entry.specs.declared.held.Pair.{Pair}
use Rattle.nv_entry.specs.declared.item.Entry.{Entry}
use Rattle.nv_entry.specs.declared.part.PartId.{PartId}
use Rattle.nv_log.specs.Chain.{place_of_id as chain_place_of}
use Rattle.nv_audit.specs.KeptParts.{IsRecordOf, pair_named}
use Rattle.nv_audit.specs.Pending.{part_of}

-- ---- names

-- the pair at the number of a name has that name
pub name_of_pair : (block : ℕ) (log : List Entry) (id : PartId) (n : ℕ) (pair : Pair) → number_named log id ≡ Some n
    → slice_get (pairs block log) n ≡ Some pair → pair_name pair ≡ id
name_of_pair block log id n pair named is =
    let told : option_map (λ (k : KilledPart). k.part) (killed_part log n) ≡ Some id = name_told log id n named in
    let own : killed_part log n ≡ Some (part_of_pair pair) = are_pairs block log n ∙ ap (option_map part_of_pair) is in
    same_Some (pair_name pair) id (sym (ap (option_map (λ (k : KilledPart). k.part)) own) ∙ told)

pub number_of_pair : (block : ℕ) (log : List Entry) (n : ℕ) (pair : Pair) → IsLog log → slice_get (pairs block log) n ≡ Some pair
    → number_named log (pair_name pair) ≡ Some n
number_of_pair block log n pair is got =
    number_told log n (part_of_pair pair) is (are_pairs block log n ∙ ap (option_map part_of_pair) got)

-- a record of a part names its pair
pub record_names : (snapshots : List ℕ) (cell : CellState) (d : Record) → IsLog (log_of cell) → (r : IsRecordOf snapshots cell d)
    → pair_named cell (part_of d) ≡ Some r.pair
record_names snapshots cell d is r =
    let number : number_named (log_of cell) (part_of d) ≡ Some r.n =
    ap (number_named (log_of cell)) (sym r.name) ∙ number_of_pair cell.block (log_of cell) r.n r.pair is r.is in
    ap (option_and_then (λ n. slice_get (pairs cell.block (log_of cell)) n)) number ∙ r.is

-- a named pair is that of a number
pub record Found (cell : CellState) (id : PartId) (pair : Pair) : Type 0 where
  pub n : ℕ
  pub number : number_named (log_of cell) id ≡ Some n
  pub is : slice_get (pairs cell.block (log_of cell)) n ≡ Some pair

pub found : (cell : CellState) (id : PartId) (pair : Pair) → pair_named cell id ≡ Some pair → Found cell id pair
found cell id pair h = go (number_named (log_of cell) id) refl h where
  go : (o : Option ℕ) → number_named (log_of cell) id ≡ o
      → option_and_then (λ n. slice_get (pairs cell.block (log_of cell)) n) o ≡ Some pair → Found cell id pair
  go None q k = cc
  go (Some n) q k = record { n = n; number = q; is = k }

-- ---- entries

-- the pairs of an entry stand from the number of its first part on
pub pair_at_number : (block : ℕ) (log : List Entry) (i p : ℕ) (e : Entry) → i < length log → e ≡ slice_index_or log i e
    → p < part_count e
    → slice_get (pairs block log) (part_base log i + p) ≡ slice_get (pairs_of block e (drop (i + 1) log)) p
pair_at_number block [] i p e lt is within = absurd (omega (arith, lt))
pair_at_number block (x ∷ log) zero p e lt is within =
    let own : part_base (x ∷ log) 0 + p ≡ p = omega arith in
    rw (is, own) (pair_first block x log p (rw is at within) ∙ sym (slice_get-map (pair_of block x log) (parts_of x.item) p))
pair_at_number block (x ∷ log) (suc i) p e lt is within =
    let past : part_count x ≤ part_base (x ∷ log) (suc i) + p = omega arith in
    let back : part_base (x ∷ log) (suc i) + p - part_count x ≡ part_base log i + p = omega arith in
    let next : suc i + 1 ≡ suc (i + 1) = omega arith in
    let rest : drop (suc i + 1) (x ∷ log) ≡ drop (i + 1) log = ap (λ (n : ℕ). drop n (x ∷ log)) next in
    rw rest (pair_later block x log (part_base (x ∷ log) (suc i) + p) past ∙ ap (slice_get (pairs block log)) back
    ∙ pair_at_number block log i p e (omega (arith, lt)) is within)

-- the numbers of the parts of an entry
pub below_total : (log : List Entry) (i p : ℕ) (e : Entry) → slice_get log i ≡ Some e → p < part_count e
    → part_base log i + p < part_total log
below_total [] i p e is within = cc
below_total (x ∷ log) zero p e is within =
    let same : x ≡ e = same_Some x e is in
    let own : part_count x ≡ part_count e = ap part_count same in
    omega (arith, own, within)
below_total (x ∷ log) (suc i) p e is within =
    let rest = below_total log i p e is within in
    omega (arith, rest)

pub below_at : (log : List Entry) (i p : ℕ) → i < length log → ((e : Entry) → slice_get log i ≡ Some e → p < part_count e)
    → part_base log i + p < part_total log
below_at [] i p lt within = absurd (omega (arith, lt))
below_at (x ∷ log) i p lt within =
    let e = slice_index_or (x ∷ log) i x in
    let got : slice_get (x ∷ log) i ≡ Some e = slice_get-get_or (x ∷ log) i x lt in
    below_total (x ∷ log) i p e got (within e got)

-- ---- the published entries

-- one of them stands before the tail
pub record Published (es : List Entry) (tail i : ℕ) : Type 0 where
  pub early : i < tail
  pub within : i < length es
  pub same : (d : Entry) → slice_index_or (take tail es) i d ≡ slice_index_or es i d

pub published : (es : List Entry) (tail i : ℕ) → i < length (take tail es) → Published es tail i
published [] zero i lt = absurd (omega (arith, lt))
published [] (suc tail) i lt = absurd (omega (arith, lt))
published (x ∷ es) zero i lt = absurd (omega (arith, lt))
published (x ∷ es) (suc tail) zero lt = record { early = omega arith; within = omega arith; same = λ d. refl }
published (x ∷ es) (suc tail) (suc i) lt =
    let rest = published es tail i (omega (arith, lt)) in
    record { early = omega (arith, rest.early); within = omega (arith, rest.within); same = rest.same }

-- the others stand behind it
pub unpublished : (es : List Entry) (tail i : ℕ) → length (take tail es) ≤ i → i < length es → tail ≤ i
unpublished [] tail i past lt = absurd (omega (arith, lt))
unpublished (x ∷ es) zero i past lt = omega arith
unpublished (x ∷ es) (suc tail) zero past lt = absurd (omega (arith, past))
unpublished (x ∷ es) (suc tail) (suc i) past lt =
    let rest = unpublished es tail i (omega (arith, past)) (omega (arith, lt)) in
    omega (arith, rest)

-- a part of a published entry by its place
pub number_here : (es : List Entry) (tail i : ℕ) (e : Entry) (id : PartId) → chain_place_of es id.entry ≡ Some i
    → i < length (take tail es) → e ≡ slice_index_or (take tail es) i e
    → number_named (take tail es) id ≡ option_map (λ n. part_base (take tail es) i + n) (place_of_part e.item id.part)
number_here es tail i e id at lt is =
    let p = published es tail i lt in
    let early : i < tail = p.early in
    let same : part_base (take tail es) i ≡ part_base es i = ap part_total (take-take i tail es (omega (arith, early))) in
    let got : slice_get es i ≡ Some e = slice_get-get_or es i e p.within ∙ ap Some (sym (is ∙ p.same e)) in
    rw same (named_here es tail i e id at early got)
