use Rattle.std.proofs.Common.{refl}
use Rattle.nv_mount_tool.proofs.Serving.{next_served, none_served, nothing_served, on_ok_never, served_more}
use Rattle.nv_mount_tool.proofs.serve.Serving.answer_all.Goals as goal

pub loop-preserved : goal.loop-preserved
loop-preserved g c =
    served_more _ _ _ _ _ _ _ _ _ c.loop.invariant
    (next_served _ _ _ _ _ _ c.in_ok-answer_next.ensures.ok c.if-branch.true)

pub returns-in_err-answer_next-clause-served : goal.returns-in_err-answer_next-clause-served
returns-in_err-answer_next-clause-served g c = (
  c.loop.self.mount,
  on_ok_never c.from_residual.result _ _ c.from_residual.ensures.1,
  served_more _ _ _ _ _ _ _ _ _ c.loop.invariant
      (nothing_served _ _ _ _ _ c.in_err-answer_next.ensures.err),
)

pub returns-clause-served : goal.returns-clause-served
returns-clause-served g c = (
  c.answer_next.new.self.mount,
  refl,
  served_more _ _ _ _ _ _ _ _ _ c.loop.invariant
      (none_served _ _ _ _ _ _ _ c.in_ok-answer_next.ensures.ok c.if-branch.false),
)
