use Rattle.std.proofs.Common.{Some, arith, subst}
use Rattle.nv_findex.specs.Pages.{IsRunFrom, ref_at}
use Rattle.nv_cell.specs.Index.{IndexValue}
use Rattle.nv_cell.proofs.Publishing.{IsScan}
use Rattle.nv_cell.proofs.Stretches.{page_found, run_known, stretch_is}
use Rattle.nv_cell.proofs.read.stretch_from.Goals as goal

pub stretch_of-requires-clause-known : goal.stretch_of-requires-clause-known
stretch_of-requires-clause-known c =
    let chain = c.args.chain.now.state in
    let index = c.args.index.now in
    let scan : IsScan c.args.block chain.entries chain.tail index =
    record { log = c.holds_together.ensures.rising; scan = c.requires.index } in
    let run : IsRunFrom c.min-from.result (ref_at index.pages.pages) (Some c.in-Some.run') =
    subst (λ (v : IndexValue). IsRunFrom c.min-from.result (ref_at v.pages.pages) (Some c.in-Some.run')) c.index.view_is
    c.in-Some.ensures.run in
    run_known c.args.block chain.entries chain.tail index c.in-Some.run' scan run.0

pub stretch_of-requires-clause-small : goal.stretch_of-requires-clause-small
stretch_of-requires-clause-small c =
    let chain = c.args.chain.now.state in
    let index = c.args.index.now in
    let run' = c.in-Some.run' in
    let scan : IsScan c.args.block chain.entries chain.tail index =
    record { log = c.holds_together.ensures.rising; scan = c.requires.index } in
    let run : IsRunFrom c.min-from.result (ref_at index.pages.pages) (Some run') =
    subst (λ (v : IndexValue). IsRunFrom c.min-from.result (ref_at v.pages.pages) (Some run')) c.index.view_is c.in-Some.ensures.run in
    let found = page_found c.args.block chain.entries chain.tail index c.args.marks.now.tallies.items
    run' run'.first scan c.requires.slots run.0 (omega arith) run.0.some in
    omega (arith, found.1, c.requires.small)

pub returns-in-Some : goal.returns-in-Some
returns-in-Some c =
    let chain = c.args.chain.now.state in
    let index = c.args.index.now in
    let run' = c.in-Some.run' in
    let scan : IsScan c.args.block chain.entries chain.tail index =
    record { log = c.holds_together.ensures.rising; scan = c.requires.index } in
    let run : IsRunFrom c.min-from.result (ref_at index.pages.pages) (Some run') =
    subst (λ (v : IndexValue). IsRunFrom c.min-from.result (ref_at v.pages.pages) (Some run')) c.index.view_is c.in-Some.ensures.run in
    rw c.stretch_of.ensures
    (stretch_is c.args.block chain.entries chain.tail index c.args.marks.now.tallies.items
    run' c.min-from.result c.args.page scan c.requires.slots c.requires.small
    run c.in-Some.ensures.within (omega (arith, c.min-from.ensures, c.from.ensures)))
