use Rattle.std.proofs.Common.{List, ap, length, refl, subst, sym, take, ◌∙◌}
use Rattle.std.proofs.lemmas.List.{length-replicate}
use Rattle.nv_nindex.specs.NameIndex.{HaveSameBindings, Names}
use Rattle.nv_cell.specs.declared.mark.Mark.{Mark}
use Rattle.nv_cell.specs.declared.mark.Mark.TheVariants.{Current}
use Rattle.nv_cell.specs.Index.{bindings_of}
use Rattle.nv_cell.specs.Marks.{mark_at}
use Rattle.nv_cell.specs.Numbers.{part_base}
use Rattle.nv_cell.proofs.Scanning.{fresh_by}
use Rattle.nv_cell.proofs.scan.Scan.new.Goals as goal

pub returns-clause-ok : goal.returns-clause-ok
returns-clause-ok c block living =
    let es = c.args.chain.now.state.entries in
    let marks = c.in_ok-fresh_marks.ensures.marks in
    record {
      refs = c.new.ensures.refs;
      names = subst (λ (n : Names). HaveSameBindings (bindings_of (take 0 es)) n.names) (sym c.new.ensures.names) (λ m. refl);
      ends = c.in_ok-fresh_marks.ensures.ends;
      len = ap length marks ∙ length-replicate (part_base es c.args.tail) Current;
      marks = λ n lt. ap (λ (ms : List Mark). mark_at ms n) marks ∙ fresh_by living block (part_base es c.args.tail) n es lt;
    }
