use Rattle.std.proofs.Common.{◌≡◌, ◌+◌, ◌<◌, List, None, Some, arith, ap, sym, ◌∙◌, length, slice_index_or}
use Rattle.std.specs.Option.{option_map}
use Rattle.std.proofs.lemmas.Option.{get_or_from_slice_get}
use Rattle.nv_cell.specs.Named.{place_of_part}
use Rattle.nv_cell.specs.Numbers.{part_base}
use Rattle.nv_cell.proofs.Naming.{named_nowhere, named_past, place_low}
use Rattle.nv_entry.specs.declared.item.Entry.{Entry}
use Rattle.nv_log.specs.Chain.{ChainState, log, place_of_id as chain_place_of}
use Rattle.nv_audit.proofs.NumberedPairs.{number_here, unpublished}
use Rattle.nv_audit.proofs.kept_parts.find_part.Goals as goal

pub returns-in_err-entry-clause-number : goal.returns-in_err-entry-clause-number
returns-in_err-entry-clause-number c =
    let chain = c.args.cell.now.state.chain in
    let none : chain_place_of chain.entries c.args.id.entry ≡ None =
    ap (λ (x : ChainState). chain_place_of x.entries c.args.id.entry) (sym c.log.ensures.state) ∙ sym c.place_of.ensures.value
    ∙ c.in_err-entry.was in
    rw c.from_residual.ensures (sym (named_nowhere chain.entries chain.tail c.args.id none))

pub returns-then-entry-log-clause-number : goal.returns-then-entry-log-clause-number
returns-then-entry-log-clause-number c =
    let chain = c.args.cell.now.state.chain in
    let entry = c.in_ok-entry.entry in
    let at : chain_place_of chain.entries c.args.id.entry ≡ Some entry =
    ap (λ (x : ChainState). chain_place_of x.entries c.args.id.entry) (sym c.log.ensures.state) ∙ sym c.place_of.ensures.value
    ∙ c.in_ok-entry.was in
    let all : c.log-log.result.now ≡ log chain = c.log-log.ensures.value ∙ ap log c.log-2.ensures.state in
    let len = ap (λ (l : List Entry). length l) all in
    let there = ap (λ (x : ChainState). length x.entries) c.log.ensures.state in
    sym (named_past chain.entries chain.tail entry c.args.id at
    (unpublished chain.entries chain.tail entry (omega (arith, c.if-entry-log.true, len)) (omega (arith, c.in_ok-entry.ensures.within, there))))

pub returns-in-Some-clause-number : goal.returns-in-Some-clause-number
returns-in-Some-clause-number c =
    let chain = c.args.cell.now.state.chain in
    let entry = c.in_ok-entry.entry in
    let e = c.index-log-entry.result in
    let at : chain_place_of chain.entries c.args.id.entry ≡ Some entry =
    ap (λ (x : ChainState). chain_place_of x.entries c.args.id.entry) (sym c.log.ensures.state) ∙ sym c.place_of.ensures.value
    ∙ c.in_ok-entry.was in
    let all : c.log-log.result.now ≡ log chain = c.log-log.ensures.value ∙ ap log c.log-2.ensures.state in
    let lt : entry < length (log chain) = omega (arith, c.if-entry-log.false, ap (λ (l : List Entry). length l) all) in
    let is : e ≡ slice_index_or (log chain) entry e =
    c.index-log-entry.is ∙ ap (λ (l : List Entry). slice_index_or l entry e) all in
    let named = number_here chain.entries chain.tail entry e c.args.id at lt is in
    ap (option_map (λ n. part_base (log chain) entry + n))
    (c.in-Some.ensures ∙ ap (λ (x : Entry). place_of_part x.item c.args.id.part) (sym c.index-log-entry.is)) ∙ sym named

pub returns-in-None-clause-number : goal.returns-in-None-clause-number
returns-in-None-clause-number c =
    let chain = c.args.cell.now.state.chain in
    let entry = c.in_ok-entry.entry in
    let e = c.index-log-entry.result in
    let at : chain_place_of chain.entries c.args.id.entry ≡ Some entry =
    ap (λ (x : ChainState). chain_place_of x.entries c.args.id.entry) (sym c.log.ensures.state) ∙ sym c.place_of.ensures.value
    ∙ c.in_ok-entry.was in
    let all : c.log-log.result.now ≡ log chain = c.log-log.ensures.value ∙ ap log c.log-2.ensures.state in
    let lt : entry < length (log chain) = omega (arith, c.if-entry-log.false, ap (λ (l : List Entry). length l) all) in
    let is : e ≡ slice_index_or (log chain) entry e =
    c.index-log-entry.is ∙ ap (λ (l : List Entry). slice_index_or l entry e) all in
    let named = number_here chain.entries chain.tail entry e c.args.id at lt is in
    ap (option_map (λ n. part_base (log chain) entry + n))
    (c.in-None.ensures ∙ ap (λ (x : Entry). place_of_part x.item c.args.id.part) (sym c.index-log-entry.is)) ∙ sym named

pub returns-in-Some-clause-place : goal.returns-in-Some-clause-place
returns-in-Some-clause-place c = λ e got.
    let chain = c.args.cell.now.state.chain in
    let entry = c.in_ok-entry.entry in
    let x = c.index-log-entry.result in
    let all : c.log-log.result.now ≡ log chain = c.log-log.ensures.value ∙ ap log c.log-2.ensures.state in
    let own : slice_index_or (log chain) entry x ≡ e = get_or_from_slice_get (log chain) entry e x got in
    let is : x ≡ e = c.index-log-entry.is ∙ ap (λ (l : List Entry). slice_index_or l entry x) all ∙ own in
    let placed : place_of_part e.item c.args.id.part ≡ Some c.in-Some.place =
    ap (λ (y : Entry). place_of_part y.item c.args.id.part) (sym is)
    ∙ sym (c.in-Some.ensures ∙ ap (λ (y : Entry). place_of_part y.item c.args.id.part) (sym c.index-log-entry.is)) in
    place_low e.item c.args.id.part c.in-Some.place placed
