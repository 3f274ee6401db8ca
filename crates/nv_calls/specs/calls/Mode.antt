-- mode: sets the mode.
use Rattle.std.specs.Prelude.{ℕ, List, [], ◌∷◌, Option}
use Rattle.nv_base.specs.declared.numbers.Handle.{Handle}
use Rattle.nv_entry.specs.declared.item.Item.TheVariants.{SetMode}
use Rattle.nv_entry.specs.declared.node.NodeCopy.{NodeCopy}
use Rattle.nv_calls.specs.Plain.{Change, change, with_mode}
use Rattle.nv_calls.specs.declared.plan.InodePlan.{InodePlan}
use Rattle.nv_calls.specs.Plan.{planned}
use Rattle.nv_calls.specs.Refusals.{Check, kind_of, passes, want_node}

-- what a `mode` is refused for
abbrev pub mode_refusal : (Handle → Option NodeCopy) → Handle → Check
mode_refusal nodes handle = want_node (kind_of (nodes handle)) passes

-- what a `mode` changes
abbrev pub mode_effect : Handle → ℕ → List Change
mode_effect handle mode = change handle (with_mode mode) ∷ []

-- what a `mode` appends
abbrev pub mode_plan : Handle → ℕ → List InodePlan
mode_plan handle mode = planned handle (SetMode mode ∷ []) ∷ []
