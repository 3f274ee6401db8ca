use Rattle.std.proofs.Common.{◌<◌, arith, length}
use Rattle.std.proofs.lemmas.Grind.{get_or_default_zero}
use Rattle.nv_cell.specs.Cell.{log_of}
use Rattle.nv_audit.proofs.NumberedPairs.{below_at}
use Rattle.nv_audit.proofs.kept_parts.number_at.Goals as goal

pub overflow_add-result : goal.overflow_add-result
overflow_add-result c =
    let cell = c.args.cell.now.state in
    let f = c.args.found in
    let firsts = c.args.parts.now.firsts.items in
    let lt = c.requires.entry in
    let within = below_at (log_of cell) f.entry f.place lt c.requires.place in
    let first = c.requires.parts.firsts.each f.entry lt in
    let there : f.entry < length firsts = omega (arith, lt, c.requires.parts.firsts.len) in
    let read = get_or_default_zero firsts f.entry c.index.result.now there in
    omega (arith, within, first, read, c.index.ensures, c.holds_together.ensures.marks.len, c.requires.parts.len, c.len-count.ensures)

pub returns-clause-number : goal.returns-clause-number
returns-clause-number c =
    let f = c.args.found in
    let firsts = c.args.parts.now.firsts.items in
    let lt = c.requires.entry in
    let first = c.requires.parts.firsts.each f.entry lt in
    let there : f.entry < length firsts = omega (arith, lt, c.requires.parts.firsts.len) in
    let read = get_or_default_zero firsts f.entry c.index.result.now there in
    omega (arith, first, read, c.index.ensures)

pub returns-clause-within : goal.returns-clause-within
returns-clause-within c =
    let cell = c.args.cell.now.state in
    let f = c.args.found in
    let firsts = c.args.parts.now.firsts.items in
    let lt = c.requires.entry in
    let within = below_at (log_of cell) f.entry f.place lt c.requires.place in
    let first = c.requires.parts.firsts.each f.entry lt in
    let there : f.entry < length firsts = omega (arith, lt, c.requires.parts.firsts.len) in
    let read = get_or_default_zero firsts f.entry c.index.result.now there in
    omega (arith, within, first, read, c.index.ensures, c.holds_together.ensures.marks.len)
