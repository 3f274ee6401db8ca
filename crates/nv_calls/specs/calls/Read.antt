-- read: the bytes from an offset on, at most so many, none past the size.
use Rattle.std.specs.Prelude.{ℕ, Option}
use Rattle.nv_base.specs.declared.numbers.Handle.{Handle}
use Rattle.nv_entry.specs.declared.node.NodeCopy.{NodeCopy}
use Rattle.nv_entry.specs.Bytes.{read_at}
use Rattle.nv_calls.specs.declared.answer.Answer.{Answer}
use Rattle.nv_calls.specs.declared.answer.Answer.TheVariants as answer
use Rattle.nv_calls.specs.Refusals.{Check, bytes_of, kind_of, passes, want_file}

-- what a `read` is refused for
abbrev pub read_refusal : (Handle → Option NodeCopy) → Handle → Check
read_refusal nodes file = want_file (kind_of (nodes file)) passes

-- what a `read` is answered
abbrev pub read_answer : ℕ → ℕ → Option NodeCopy → Answer
read_answer offset count node = answer.Bytes (read_at offset count (bytes_of node))
