use Rattle.std.proofs.Common.{ℕ, List, ap}
use Rattle.std.specs.Prelude.{codes}
use Rattle.nv_script.specs.Json.{quoted}
use Rattle.nv_script.specs.Words.{escaped}
use Rattle.nv_trace.proofs.AnswerLines.{on_ok}
use Rattle.nv_trace.proofs.Pushes.{piece}
use Rattle.nv_trace.proofs.json_log.push_unbind.Goals as goal

pub returns : goal.returns
returns c =
    on_ok c.push_name.result
    (λ pushed. piece c.args.out.now.items c.extend_from_slice.new.self.items c.push_name.new.out.items (codes "\"item\":\"unbind\",\"name\":")
    (quoted (escaped c.bytes.result.now)) (quoted (escaped c.args.name.now)) c.in_ok-extend_from_slice.ensures.items pushed
    (ap (λ (bytes : List ℕ). quoted (escaped bytes)) c.bytes.ensures.value))
    c.push_name.ensures
