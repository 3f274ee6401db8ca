use Rattle.std.proofs.Common.{◌∙◌, ◌<◌, ◌≤◌, ◌+◌, ◌++◌, List, ap, append-nil, append_assoc, arith, drop, length, length-take, sym, take}
use Rattle.std.proofs.lemmas.List.{drop_all}
use Rattle.nv_calls.specs.Ready.{CellCommitValue, plan_at}
use Rattle.nv_cell.specs.declared.killed.KilledPart.{KilledPart}
use Rattle.nv_trace.proofs.JsonWorlds.{killed_more, killed_of}
use Rattle.nv_trace.proofs.json_world.killed_parts.Goals as goal

pub loop-j-preserved : goal.loop-j-preserved
loop-j-preserved c =
    let commit = c.args.commit.now in
    let j = c.loop-j.j in
    let before = c.loop-j.parts.items in
    let under : j < commit.published = omega (arith, c.loop-j-test.true, c.min-j-end.ensures, c.published.ensures) in
    let lt : j < length commit.plans = omega (arith, c.loop-j-test.true, c.min-j-end.ensures, c.planned.ensures) in
    let killed = (plan_at commit.plans j).killed in
    let left = killed_of (drop (j + 1) (take commit.published commit.plans)) in
    ap (λ (parts : List KilledPart). parts ++ left)
    (c.in_ok-extend_from_slice.ensures.items ∙ ap (λ (parts : List KilledPart). before ++ parts) c.killed_of.ensures)
    ∙ append_assoc before killed left ∙ ap (λ (parts : List KilledPart). before ++ parts) (sym (killed_more commit j under lt))
    ∙ c.loop-j.invariant

pub returns : goal.returns
returns c =
    let commit = c.args.commit.now in
    let first = take commit.published commit.plans in
    let j = c.loop-j.j in
    let before = c.loop-j.parts.items in
    let past : length first ≤ j =
    omega (arith, c.loop-j-test.false, c.min-j-end.ensures, c.published.ensures, c.planned.ensures, length-take commit.published commit.plans) in
    sym (append-nil before) ∙ sym (ap (λ (plans : List CellCommitValue). before ++ killed_of plans) (drop_all j first past))
    ∙ c.loop-j.invariant
