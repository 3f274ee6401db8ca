use Rattle.std.proofs.Common.{◌∙◌, ℕ, List, length, ap, sym, subst, arith}
use Rattle.std.specs.List.{insert}
use Rattle.nv_findex.specs.declared.page_run.PageRun.{PageRun}
use Rattle.nv_findex.specs.Rows.{RunList, AreStarts, in_rows}
use Rattle.nv_findex.proofs.Rows.{length_rows, starts_count, starts_push, starts_stay, rows_push, rest_insert}
use Rattle.nv_findex.proofs.run_rows.RunRows.insert_last.Goals as goal

pub invariant_of-self : goal.invariant_of-self
invariant_of-self c =
    let f = c.self.inside in
    let starts = f.starts.items in
    let old = length f.runs.items in
    let new = c.insert_with_room.new.runs in (
      subst (λ (l : List ℕ). AreStarts l (length new.items)) (sym c.push_reserved.ensures.items)
          (starts_push starts old (length new.items) c.self.invariant.0 (omega (arith, c.if-len.true, new.ok, f.starts.ok))),
      omega (arith, c.self.invariant.1, c.push_reserved.ensures.capacity, c.insert_with_room.ensures.capacity),
    )

pub invariant_of-self-else-len : goal.invariant_of-self-else-len
invariant_of-self-else-len c =
    let f = c.self.inside in
    let starts = f.starts.items in
    let old = length f.runs.items in
    let new = c.insert_with_room.new.runs in
    let count = starts_count starts old c.self.invariant.0 in (
      starts_stay starts old (length new.items) c.self.invariant.0
          (omega (arith, count.0, c.insert_with_room.ensures.len, new.ok, f.runs.ok))
          (omega (arith, count.1, c.insert_with_room.ensures.len, c.if-len.false, new.ok, f.runs.ok, f.starts.ok)),
      omega (arith, c.self.invariant.1, c.insert_with_room.ensures.capacity),
    )

pub returns-then-len-clause-items : goal.returns-then-len-clause-items
returns-then-len-clause-items c =
    let f = c.self.inside in
    let items = ap (λ (r : RunList). length r.items) c.self.view_is in
    let rows = length_rows f.starts.items f.runs.items in
    let count = starts_count f.starts.items (length f.runs.items) c.self.invariant.0 in
    let new = c.insert_with_room.new.runs in
    ap (λ (l : List ℕ). in_rows l new.items) c.push_reserved.ensures.items
    ∙ rows_push f.starts.items new.items
    ∙ ap (λ (l : List PageRun). in_rows f.starts.items l) c.insert_with_room.ensures.items
    ∙ rest_insert f.starts.items f.runs.items c.self.invariant.0 c.args.place c.args.run (omega (arith, c.requires.last, items, rows, count.0))
    ∙ ap (λ (r : RunList). insert r.items c.args.place c.args.run) c.self.view_is

pub returns-else-len-clause-items : goal.returns-else-len-clause-items
returns-else-len-clause-items c =
    let f = c.self.inside in
    let items = ap (λ (r : RunList). length r.items) c.self.view_is in
    let rows = length_rows f.starts.items f.runs.items in
    let count = starts_count f.starts.items (length f.runs.items) c.self.invariant.0 in
    ap (λ (l : List PageRun). in_rows f.starts.items l) c.insert_with_room.ensures.items
    ∙ rest_insert f.starts.items f.runs.items c.self.invariant.0 c.args.place c.args.run (omega (arith, c.requires.last, items, rows, count.0))
    ∙ ap (λ (r : RunList). insert r.items c.args.place c.args.run) c.self.view_is
