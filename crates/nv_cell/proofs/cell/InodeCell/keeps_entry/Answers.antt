use Rattle.std.proofs.Common.{◌<◌, ◌∙◌, [], length, arith, ap, sym, subst}
use Rattle.std.proofs.Math.ListN.{get_or-map}
use Rattle.std.specs.List.{list_any}
use Rattle.nv_cell.specs.Cell.{CellValue}
use Rattle.nv_cell.specs.Marks.{is_there}
use Rattle.nv_cell.specs.Readers.{marks_by_entry}
use Rattle.nv_cell.specs.Tallies.{is_valid, no_tally}
use Rattle.nv_cell.specs.declared.tally.Tally.{Tally}
use Rattle.nv_cell.proofs.PageMarks.{tally_marks}
use Rattle.nv_cell.proofs.Runs.{at_index}
use Rattle.nv_cell.proofs.cell.InodeCell.keeps_entry.Goals as goal
use Rattle.nv_log.specs.Chain.{log}

pub returns : goal.returns
returns c =
    let i = c.self.inside in
    let m = i.marks in
    let chain = i.chain.state in
    let entry = c.args.entry in
    let lt = subst (λ (v : CellValue). entry < v.state.chain.tail) (sym c.self.view_is) c.requires
    in
    let there : entry < length m.tallies.items =
    omega (arith, lt, c.self.invariant.ends_len, c.self.invariant.tallied.tallies.len) in
    let tally = at_index m.tallies.items entry c.index.result.now no_tally c.index.ensures there in
    rw (← c.self.view_is)
    (ap is_valid tally
    ∙ tally_marks is_there (λ (t : Tally). t.there) chain m.ends.items m.tallies.items
    m.marks.items entry
    c.holds_together.ensures.within c.self.invariant.ends_len c.self.invariant.ends
    c.self.invariant.tallied.tallies.there lt
    ∙ sym (get_or-map (list_any is_there) (marks_by_entry (log chain) m.marks.items) entry []))
