-- stat: kind, mode, size and the commit that changed the node last.
use Rattle.std.specs.Prelude.{Option, Some, None}
use Rattle.nv_base.specs.declared.numbers.Handle.{Handle}
use Rattle.nv_entry.specs.declared.node.NodeCopy.{NodeCopy}
use Rattle.nv_calls.specs.declared.answer.Answer.{Answer}
use Rattle.nv_calls.specs.declared.answer.Answer.TheVariants as answer
use Rattle.nv_calls.specs.Plain.{PlainNode}
use Rattle.nv_calls.specs.Refusals.{Check, kind_of, passes, want_node}

-- what a `stat` is refused for
abbrev pub stat_refusal : (Handle → Option NodeCopy) → Handle → Check
stat_refusal nodes handle = want_node (kind_of (nodes handle)) passes

-- what a `stat` is answered
abbrev pub stat_answer : Option PlainNode → Answer
stat_answer None = answer.Nothing
stat_answer (Some p) = answer.Stat p.node.kind p.node.mode p.node.size p.changed
