-- lookup: the handle that a name is bound to; and the looks of other calls, which are refused alike.
use Rattle.std.specs.Prelude.{ℕ, List, Option, Some, None}
use Rattle.nv_base.specs.declared.numbers.Handle.{Handle}
use Rattle.nv_entry.specs.declared.node.NodeCopy.{NodeCopy}
use Rattle.nv_calls.specs.declared.answer.Answer.{Answer}
use Rattle.nv_calls.specs.declared.answer.Answer.TheVariants as answer
use Rattle.nv_calls.specs.Refusals.{Check, kind_of, lookup, passes, want_bound, want_directory, want_lawful}

-- what a `lookup` is refused for
abbrev pub lookup_refusal : (Handle → Option NodeCopy) → Handle → List ℕ → Check
lookup_refusal nodes dir name =
    want_directory (kind_of (nodes dir))
    (want_lawful name
    (want_bound (lookup nodes dir name) (λ to. passes)))

-- what a `lookup` is answered
abbrev pub lookup_answer : Option Handle → Answer
lookup_answer None = answer.Nothing
lookup_answer (Some to) = answer.Made to
