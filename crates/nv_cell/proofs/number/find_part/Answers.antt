use Rattle.std.proofs.Common.{◌≡◌, ◌+◌, ◌<◌, None, arith, ap, sym, ◌∙◌}
use Rattle.std.specs.Option.{option_map}
use Rattle.nv_log.specs.Chain.{place_of_id as chain_place_of}
use Rattle.nv_cell.specs.Numbers.{part_base}
use Rattle.nv_cell.proofs.EntryRead.{entry_read, parts_below}
use Rattle.nv_cell.proofs.Naming.{named_here, named_nowhere, named_past, place_low}
use Rattle.nv_cell.proofs.number.find_part.Goals as goal

pub overflow_add-result : goal.overflow_add-result
overflow_add-result c =
    let chain = c.args.chain.now.state in
    let e = c.entry_at.result.now in
    let below : c.in-Some.i < chain.tail = omega (arith, c.tail.ensures.value) in
    let low = place_low e.item c.args.id.part c.in-Some-place_of.place (sym c.in-Some-place_of.ensures) in
    let parts = parts_below chain.entries c.in-Some.i chain.tail e c.entry_at.ensures below in
    omega (arith, parts, low, c.requires.small, c.first.ensures, c.requires.ends c.in-Some.i below)

pub returns-then-i-tail-clause-number : goal.returns-then-i-tail-clause-number
returns-then-i-tail-clause-number c =
    sym (named_past c.args.chain.now.state.entries c.args.chain.now.state.tail c.in-Some.i c.args.id (sym c.in-Some.ensures.value)
    (omega (arith, c.tail.ensures.value)))

pub returns-in-Some-place_of-clause-number : goal.returns-in-Some-place_of-clause-number
returns-in-Some-place_of-clause-number c =
    let es = c.args.chain.now.state.entries in
    let i = c.in-Some.i in
    let e = c.entry_at.result.now in
    let below : i < c.args.chain.now.state.tail = omega (arith, c.tail.ensures.value) in
    let f : c.first.result ≡ part_base es i = c.first.ensures ∙ c.requires.ends i below in
    let n = named_here es c.args.chain.now.state.tail i e c.args.id (sym c.in-Some.ensures.value) below c.entry_at.ensures in
    rw f (ap (option_map (λ n. part_base es i + n)) c.in-Some-place_of.ensures ∙ sym n)

pub returns-in-None-clause-number : goal.returns-in-None-clause-number
returns-in-None-clause-number c =
    let es = c.args.chain.now.state.entries in
    let i = c.in-Some.i in
    let e = c.entry_at.result.now in
    let below : i < c.args.chain.now.state.tail = omega (arith, c.tail.ensures.value) in
    let n = named_here es c.args.chain.now.state.tail i e c.args.id (sym c.in-Some.ensures.value) below c.entry_at.ensures in
    ap (option_map (λ n. part_base es i + n)) c.in-None.ensures ∙ sym n

pub returns-in_default-clause-number : goal.returns-in_default-clause-number
returns-in_default-clause-number c =
    let es = c.args.chain.now.state.entries in
    let none : chain_place_of es c.args.id.entry ≡ None = cc in
    sym (named_nowhere es c.args.chain.now.state.tail c.args.id none)

pub returns-in-Some-place_of-clause-stands : goal.returns-in-Some-place_of-clause-stands
returns-in-Some-place_of-clause-stands c =
    let e = c.entry_at.result.now in
    let p = entry_read c.args.chain.now.state.entries c.in-Some.i e c.entry_at.ensures in
    let low = place_low e.item c.args.id.part c.in-Some-place_of.place (sym c.in-Some-place_of.ensures) in
    let f = c.first.ensures ∙ c.requires.ends c.in-Some.i (omega (arith, c.tail.ensures.value)) in
    record { within = p.within; start = omega (arith, f); end = omega (arith, f, p.parts, low) }
