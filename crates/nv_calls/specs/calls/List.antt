-- list: the names of a directory in order.
use Rattle.std.specs.Prelude.{Option}
use Rattle.nv_base.specs.declared.numbers.Handle.{Handle}
use Rattle.nv_entry.specs.declared.node.NodeCopy.{NodeCopy}
use Rattle.nv_entry.specs.Tree.{names_of_node}
use Rattle.nv_calls.specs.declared.answer.Answer.{Answer}
use Rattle.nv_calls.specs.declared.answer.Answer.TheVariants as answer
use Rattle.nv_calls.specs.Refusals.{Check, kind_of, passes, want_directory}

-- what a `list` is refused for
abbrev pub list_refusal : (Handle → Option NodeCopy) → Handle → Check
list_refusal nodes dir = want_directory (kind_of (nodes dir)) passes

-- what a `list` is answered: the names in order
abbrev pub list_answer : Option NodeCopy → Answer
list_answer node = answer.Names (names_of_node node)
