-- The pair of a part by its name, its entry and its death.
use Rattle.std.proofs.Common.{◌≡◌, ℕ, ◌+◌, ◌<◌, Option, Some, length, drop, get_or, ap, sym, ◌∙◌, slice_index_or}
use Rattle.std.specs.Prelude.{option_and_then, slice_get}
use Rattle.std.specs.Option.{option_map}
use Rattle.std.proofs.lemmas.Option.{get_or_from_slice_get, slice_get-get_or, slice_get-map}
use Rattle.nv_cell.specs.Cell.{CellState, log_of}
use Rattle.nv_cell.specs.Named.{number_named}
use Rattle.nv_cell.specs.Numbers.{part_base}
use Rattle.nv_entry.specs.Covered.{part_count}
use Rattle.nv_entry.specs.Held.{pair_name}
use Rattle.nv_entry.specs.Keys.{parts_of}
use Rattle.nv_entry.specs.Log.{pair_of, pairs}
use Rattle.nv_entry.specs.declared.held.Pair.{Pair}
use Rattle.nv_entry.specs.declared.item.Entry.{Entry}
use Rattle.nv_entry.specs.declared.part.Part.{Part}
use Rattle.nv_entry.specs.declared.part.Part.TheVariants as part
use Rattle.nv_entry.specs.declared.part.PartId.{PartId}
use Rattle.nv_audit.specs.Deaths.{deaths_of}
use Rattle.nv_audit.specs.KeptParts.{pair_named}
use Rattle.nv_audit.proofs.Covers.{death_of}
use Rattle.nv_audit.proofs.NumberedPairs.{name_of_pair, pair_at_number}

abbrev named : PartId → ℕ → Option ℕ → Pair
named id birth death = record { entry = id.entry; part = id.part; birth = birth; death = death }

pub pair_told : (cell : CellState) (id : PartId) (i p : ℕ) (e : Entry) (death : Option ℕ)
    → number_named (log_of cell) id ≡ Some (part_base (log_of cell) i + p) → i < length (log_of cell)
    → e ≡ slice_index_or (log_of cell) i e → p < part_count e
    → death ≡ slice_index_or (deaths_of cell) (part_base (log_of cell) i + p) death
    → Some (named id e.epoch death) ≡ pair_named cell id
pair_told cell id i p e death number lt is within dead =
    let log = log_of cell in
    let n : ℕ = part_base log i + p in
    let own : Part = get_or (parts_of e.item) p part.Kind in
    let pair : Pair = pair_of cell.block e (drop (i + 1) log) own in
    let got : slice_get (pairs cell.block log) n ≡ Some pair =
    pair_at_number cell.block log i p e lt is within
    ∙ slice_get-map (pair_of cell.block e (drop (i + 1) log)) (parts_of e.item) p
    ∙ ap (option_map (pair_of cell.block e (drop (i + 1) log))) (slice_get-get_or (parts_of e.item) p part.Kind within) in
    let name : pair_name pair ≡ id = name_of_pair cell.block log id n pair number got in
    let died : slice_get (deaths_of cell) n ≡ Some pair.death =
    slice_get-map death_of (pairs cell.block log) n ∙ ap (option_map death_of) got in
    let same : death ≡ pair.death = dead ∙ get_or_from_slice_get (deaths_of cell) n pair.death death died in
    ap (λ (k : PartId). Some (named k e.epoch death)) (sym name)
    ∙ ap (λ (d : Option ℕ). Some (named (pair_name pair) e.epoch d)) same
    ∙ sym (ap (option_and_then (λ m. slice_get (pairs cell.block log) m)) number ∙ got)
