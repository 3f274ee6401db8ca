use Rattle.std.proofs.Common.{◌≡◌, ◌≤◌, ◌++◌, length}
use Rattle.nv_script.specs.Json.{answer_lines}
use Rattle.nv_trace.proofs.json.push_answer_lines.Given as goal

abbrev pub invariant-loop-end : goal.invariant-loop-end
invariant-loop-end l = record {
  told : l.out.items ++ answer_lines l.number l.rest ≡ l.fn.out.items ++ answer_lines l.number l.text;
  within : length l.rest ≤ length l.text;
}

abbrev pub decreases-loop-end : goal.decreases-loop-end
decreases-loop-end l = length l.rest
