use Rattle.std.proofs.Common.{◌∙◌}
use Rattle.nv_script.proofs.Known.{writes_more}
use Rattle.nv_script.proofs.send.send.Goals as goal

pub loop-rest-preserved : goal.loop-rest-preserved
loop-rest-preserved g c = record {
  sent = writes_more _ _ _ c.args.bytes.now c.loop-rest.rest.now c.in-Ok.count c.loop-rest.invariant.sent c.in-Ok.ensures.bytes;
  failed = c.in-Ok.ensures.ok ∙ c.loop-rest.invariant.failed;
  same = c.in-Ok.ensures.same ∙ c.loop-rest.invariant.same;
}
