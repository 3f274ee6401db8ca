-- mkdir: as create, but the new node is a directory.
use Rattle.std.specs.Prelude.{ℕ, List, Option}
use Rattle.nv_base.specs.declared.node.Kind.TheVariants.{Dir}
use Rattle.nv_base.specs.declared.numbers.Handle.{Handle}
use Rattle.nv_entry.specs.declared.node.NodeCopy.{NodeCopy}
use Rattle.nv_calls.specs.Plain.{Change}
use Rattle.nv_calls.specs.declared.plan.InodePlan.{InodePlan}
use Rattle.nv_calls.specs.Refusals.{Check}
use Rattle.nv_calls.specs.calls.Create.{begin_effect, begin_plan, create_refusal}

-- what a `mkdir` is refused for by the nodes
abbrev pub mkdir_refusal : (Handle → Option NodeCopy) → Handle → List ℕ → Check
mkdir_refusal nodes dir name = create_refusal nodes dir name

-- what a `mkdir` changes
abbrev pub mkdir_effect : Handle → List ℕ → ℕ → Handle → List Change
mkdir_effect dir name mode made = begin_effect Dir dir name mode made

-- what a `mkdir` appends
abbrev pub mkdir_plan : Handle → List ℕ → ℕ → Handle → List InodePlan
mkdir_plan dir name mode made = begin_plan Dir dir name mode made
