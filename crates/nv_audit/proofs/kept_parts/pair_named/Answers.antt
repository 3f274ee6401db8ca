use Rattle.std.proofs.Common.{◌≡◌, ◌+◌, ◌<◌, ℕ, List, Option, Some, arith, ap, sym, ◌∙◌, length, slice_index_or}
use Rattle.std.specs.Prelude.{slice_get}
use Rattle.std.proofs.lemmas.List.{length-map}
use Rattle.std.proofs.lemmas.Option.{slice_get-get_or}
use Rattle.nv_cell.specs.Named.{number_named}
use Rattle.nv_cell.specs.Numbers.{part_base}
use Rattle.nv_entry.specs.Covered.{part_count}
use Rattle.nv_entry.specs.Log.{pairs}
use Rattle.nv_entry.specs.declared.item.Entry.{Entry}
use Rattle.nv_log.specs.Chain.{log}
use Rattle.nv_audit.specs.Deaths.{deaths_of}
use Rattle.nv_audit.proofs.Covers.{death_of}
use Rattle.nv_audit.proofs.DeadParts.{pair_told}
use Rattle.nv_audit.proofs.NumberedPairs.{below_at}
use Rattle.nv_entry.proofs.PartLists.{length-pairs}
use Rattle.nv_audit.proofs.kept_parts.pair_named.Goals as goal

pub death_at-requires : goal.death_at-requires
death_at-requires c =
    let cell = c.args.cell.now.state in
    let f = c.in_ok-found.found in
    let within = below_at (log cell.chain) f.entry f.place c.in_ok-found.ensures.within c.in_ok-found.ensures.place in
    let many = ap (λ (ds : List (Option ℕ)). length ds) c.requires.deaths ∙ length-map (pairs cell.block (log cell.chain)) death_of
    ∙ length-pairs cell.block (log cell.chain) in
    omega (arith, within, many, c.number_at-number.ensures.number)

pub returns : goal.returns
returns c =
    let cell = c.args.cell.now.state in
    let f = c.in_ok-found.found in
    let e = c.index-log-found.result in
    let all : c.log-log.result.now ≡ log cell.chain = c.log-log.ensures.value ∙ ap log c.log.ensures.state in
    let within : f.entry < length (log cell.chain) = c.in_ok-found.ensures.within in
    let is : e ≡ slice_index_or (log cell.chain) f.entry e =
    c.index-log-found.is ∙ ap (λ (l : List Entry). slice_index_or l f.entry e) all in
    let got : slice_get (log cell.chain) f.entry ≡ Some e = slice_get-get_or (log cell.chain) f.entry e within ∙ ap Some (sym is) in
    let place : f.place < part_count e = c.in_ok-found.ensures.place e got in
    let number : number_named (log cell.chain) c.args.id ≡ Some (part_base (log cell.chain) f.entry + f.place) = sym c.in_ok-found.ensures.number in
    let death = c.death_at.result in
    let dead : death ≡ slice_index_or (deaths_of cell) (part_base (log cell.chain) f.entry + f.place) death =
    c.death_at.ensures death
    ∙ ap (λ (ds : List (Option ℕ)). slice_index_or ds c.number_at-number.result death) c.requires.deaths
    ∙ ap (λ (n : ℕ). slice_index_or (deaths_of cell) n death) c.number_at-number.ensures.number in
    ap Some c.pair_from.ensures ∙ pair_told cell c.args.id f.entry f.place e death number within is place dead
