use Rattle.std.proofs.Common.{◌≡◌, ◌∙◌, ◌+◌, ◌*◌, ◌/◌, ◌%◌, ◌<◌, ◌≤◌, ap, sym, arith, length, get_or}
use Rattle.std.specs.List.{insert}
use Rattle.nv_findex.specs.Rows.{RunList}
use Rattle.nv_findex.proofs.Rows.{rows_tell}
use Rattle.nv_findex.proofs.RowPushes.{IsPushed, pushes, row_pushed, row_pushed_over}
use Rattle.nv_findex.proofs.run_rows.RunRows.push_in_row.Goals as goal

pub returns-then-at-first-clause-items : goal.returns-then-at-first-clause-items
returns-then-at-first-clause-items c =
    let ss = c.self.inside.starts.items in
    let xs = c.self.inside.runs.items in
    let start = c.index.result.now in
    let place = c.args.place in
    let first = place / 128 * 128 in
    let all = rows_tell ss xs c.self.invariant.0 in
    let within : first + 128 ≤ length xs = omega (arith, all.0, ap (λ (r : RunList). length r.items) c.self.view_is) in
    let row : place / 128 < length ss = omega (arith, all.1.1.0) in
    let read : (start ≡ get_or ss (place / 128) 0) × (get_or ss (place / 128) 0 < 128) = omega (arith, c.index.ensures, all.1.1.1 (place / 128) start row) in
    let push = c.push_within in
    ap (λ (r : RunList). insert r.items place c.args.run) (sym c.self.view_is)
    ∙ row_pushed ss place xs c.self.invariant.0 row (first + (start + place % 128) % 128) (first + start) c.args.run push.result push.new.runs.items
    (pushes _ _ c.args.run xs push.new.runs.items push.ensures.items (omega arith) (omega arith))
    (omega arith) (omega arith) (omega arith) (omega arith) push.ensures.value

pub returns-then-start-eq0-clause-items : goal.returns-then-start-eq0-clause-items
returns-then-start-eq0-clause-items c =
    let ss = c.self.inside.starts.items in
    let xs = c.self.inside.runs.items in
    let start = c.index.result.now in
    let place = c.args.place in
    let first = place / 128 * 128 in
    let all = rows_tell ss xs c.self.invariant.0 in
    let within : first + 128 ≤ length xs = omega (arith, all.0, ap (λ (r : RunList). length r.items) c.self.view_is) in
    let row : place / 128 < length ss = omega (arith, all.1.1.0) in
    let read : (start ≡ get_or ss (place / 128) 0) × (get_or ss (place / 128) 0 < 128) = omega (arith, c.index.ensures, all.1.1.1 (place / 128) start row) in
    let push = c.push_within-out in
    ap (λ (r : RunList). insert r.items place c.args.run) (sym c.self.view_is)
    ∙ row_pushed ss place xs c.self.invariant.0 row (first + (start + place % 128) % 128) (first + 128) c.args.run push.result push.new.runs.items
    (pushes _ _ c.args.run xs push.new.runs.items push.ensures.items (omega arith) (omega arith))
    (omega arith) (omega arith) (omega arith) (omega arith) push.ensures.value

pub returns-clause-items : goal.returns-clause-items
returns-clause-items c =
    let ss = c.self.inside.starts.items in
    let xs = c.self.inside.runs.items in
    let start = c.index.result.now in
    let place = c.args.place in
    let first = place / 128 * 128 in
    let all = rows_tell ss xs c.self.invariant.0 in
    let within : first + 128 ≤ length xs = omega (arith, all.0, ap (λ (r : RunList). length r.items) c.self.view_is) in
    let row : place / 128 < length ss = omega (arith, all.1.1.0) in
    let read : (start ≡ get_or ss (place / 128) 0) × (get_or ss (place / 128) 0 < 128) = omega (arith, c.index.ensures, all.1.1.1 (place / 128) start row) in
    let one = c.push_within-out in
    let two = c.push_within-2 in
    let p : IsPushed (first + (start + place % 128) % 128) (first + 128) c.args.run xs one.new.runs.items =
    pushes _ _ c.args.run xs one.new.runs.items one.ensures.items (omega arith) (omega arith) in
    ap (λ (r : RunList). insert r.items place c.args.run) (sym c.self.view_is)
    ∙ row_pushed_over ss place xs c.self.invariant.0 row (first + (start + place % 128) % 128) (first + 128) (first + start) c.args.run one.result two.result
    one.new.runs.items two.new.runs.items p (pushes _ _ one.result one.new.runs.items two.new.runs.items two.ensures.items (omega arith) (omega (arith, p.len)))
    (omega arith) (omega arith) (omega arith) (omega arith) (omega arith) one.ensures.value two.ensures.value
