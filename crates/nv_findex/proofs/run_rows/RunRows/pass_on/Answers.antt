use Rattle.std.proofs.Common.{◌∙◌, ◌+◌, ◌*◌, ◌%◌, ◌<◌, ℕ, length, set, ap, sym, subst, arith}
use Rattle.std.proofs.lemmas.List.{length-set}
use Rattle.std.specs.List.{insert}
use Rattle.nv_findex.specs.declared.page_run.PageRun.{PageRun}
use Rattle.nv_findex.specs.Rows.{RunList, AreStarts, in_rows}
use Rattle.nv_findex.proofs.Rows.{length_rows, rows_tell, starts_set}
use Rattle.nv_findex.proofs.RowPushes.{row_pass}
use Rattle.nv_findex.proofs.run_rows.RunRows.pass_on.Goals as goal

pub invariant_of-self : goal.invariant_of-self
invariant_of-self c =
    let f = c.self.inside in
    let start = (c.index.result.now + 127) % 128 in (
      subst (λ (n : ℕ). AreStarts (set f.starts.items c.args.row start) n) (sym (length-set f.runs.items (c.args.row * 128 + start) c.args.run))
          (starts_set f.starts.items (length f.runs.items) c.args.row start c.self.invariant.0 (omega arith)),
      c.self.invariant.1,
    )

pub returns-clause-len : goal.returns-clause-len
returns-clause-len c =
    let f = c.self.inside in
    let start = (c.index.result.now + 127) % 128 in
    length_rows (set f.starts.items c.args.row start) (set f.runs.items (c.args.row * 128 + start) c.args.run)
    ∙ length-set f.runs.items (c.args.row * 128 + start) c.args.run
    ∙ sym (length_rows f.starts.items f.runs.items)
    ∙ ap (λ (r : RunList). length r.items) c.self.view_is

pub returns-clause-items : goal.returns-clause-items
returns-clause-items c =
    let f = c.self.inside in
    let all = rows_tell f.starts.items f.runs.items c.self.invariant.0 in
    let row : c.args.row < length f.starts.items = omega (arith, all, ap (λ (r : RunList). length r.items) c.self.view_is) in
    let start = (c.index.result.now + 127) % 128 in
    let read = c.index.ensures ∙ (all.1.1.1 c.args.row c.index.result.now row).0 in
    ap (λ (r : RunList). insert r.items (c.args.row * 128) c.args.run) (sym c.self.view_is)
    ∙ row_pass f.starts.items c.args.row start f.runs.items c.args.run c.index-out.result.now c.self.invariant.0 row (ap (λ (s : ℕ). (s + 127) % 128) read)
    ∙ ap (λ (o : PageRun). insert (in_rows (set f.starts.items c.args.row start) (set f.runs.items (c.args.row * 128 + start) c.args.run)) (c.args.row * 128 + 128) o) (sym c.index-out.ensures)
