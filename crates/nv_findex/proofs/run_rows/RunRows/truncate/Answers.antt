use Rattle.std.proofs.Common.{◌≡◌, ◌∙◌, ◌+◌, ◌*◌, ◌/◌, ◌<◌, ℕ, List, ◌++◌, length, take, drop, vec_len, ap, sym, subst, arith}
use Rattle.std.proofs.lemmas.List.{get_or_read_under, take_all, with_items_is}
use Rattle.nv_findex.specs.declared.page_run.PageRun.{PageRun}
use Rattle.nv_findex.specs.Rows.{RunList, AreStarts, in_rows, turned}
use Rattle.nv_findex.proofs.Rows.{length_rows, starts_count, starts_stay, starts_take, rest_take, rows_cut}
use Rattle.nv_findex.proofs.run_rows.RunRows.truncate.Goals as goal

pub returns-then-len-clause-items : goal.returns-then-len-clause-items
returns-then-len-clause-items c =
    let f = c.self.inside in
    let items = ap (λ (r : RunList). length r.items) c.self.view_is in
    let rows = length_rows f.starts.items f.runs.items in
    sym (take_all c.args.len c.args.self.now.items (omega (arith, c.if-len.true, items, rows, f.runs.ok)))

pub invariant_of-self : goal.invariant_of-self
invariant_of-self c =
    let f = c.self.inside in
    let old = length f.runs.items in
    let new = c.truncate.new.self in
    let count = starts_count f.starts.items old c.self.invariant.0 in (
      starts_stay f.starts.items old (length new.items) c.self.invariant.0
          (omega (arith, c.truncate.ensures.len, new.ok, f.runs.ok, f.starts.ok))
          (omega (arith, count.1, c.truncate.ensures.len, new.ok, f.runs.ok, f.starts.ok)),
      omega (arith, c.self.invariant.1, c.truncate.ensures.capacity),
    )

pub returns-then-len-row-clause-items : goal.returns-then-len-row-clause-items
returns-then-len-row-clause-items c =
    let f = c.self.inside in
    ap (λ (l : List PageRun). in_rows f.starts.items l) c.truncate.ensures.items
    ∙ rest_take f.starts.items f.runs.items c.self.invariant.0 c.args.len (omega (arith, c.if-len-row.true, f.starts.ok))
    ∙ ap (λ (r : RunList). take c.args.len r.items) c.self.view_is

pub invariant_of-self-2 : goal.invariant_of-self-2
invariant_of-self-2 c =
    let f = c.self.inside in
    let old = length f.runs.items in
    let row = c.args.len / 128 in
    let starts = c.truncate-2.ensures in
    let runs = c.truncate-3.ensures in
    let kept = length c.truncate-3.new.self.items in
    let len : kept ≡ c.args.len = omega (arith, runs.len, c.if-len.false, c.truncate-3.new.self.ok) in (
      subst (λ (l : List ℕ). AreStarts l kept) (sym starts.items)
          (starts_take f.starts.items old row kept c.self.invariant.0 (omega (arith, c.if-len-row.false, f.starts.ok)) (omega (arith, len)) (omega (arith, len))),
      omega (arith, c.self.invariant.1, starts.capacity, runs.capacity),
    )

pub returns-clause-items : goal.returns-clause-items
returns-clause-items c =
    let f = c.self.inside in
    let starts = f.starts.items in
    let xs = f.runs.items in
    let row = c.args.len / 128 in
    let a = row * 128 in
    let turn = (λ (s : ℕ) (l : List PageRun). take a l ++ (turned s (take 128 (drop a l)) ++ drop (a + 128) l)) in
    let in' : row < vec_len f.starts = omega (arith, c.if-len-row.false) in
    let read = get_or_read_under starts row (vec_len f.starts) c.index.result.now 0 c.index.ensures in' f.starts.ok.0 in
    let is = c.turn_row.ensures ∙ ap (λ (l : List PageRun). turn c.index.result.now l) c.deref_mut.ensures.value ∙ ap (λ (s : ℕ). turn s xs) read in
    let whole = with_items_is f.runs c.turn_row.new.runs (c.turn_row.auto.runs ∙ c.deref_mut.ensures.len) in
    ap (λ (l : List ℕ). in_rows l c.truncate-3.new.self.items) c.truncate-2.ensures.items
    ∙ ap (λ (l : List PageRun). in_rows (take row starts) l) (c.truncate-3.ensures.items ∙ ap (λ (l : List PageRun). take c.args.len l) whole)
    ∙ rows_cut starts row c.args.len xs c.turn_row.new.runs c.self.invariant.0 (omega (arith, in', f.starts.ok)) (omega arith) (omega arith) is
    ∙ ap (λ (r : RunList). take c.args.len r.items) c.self.view_is
