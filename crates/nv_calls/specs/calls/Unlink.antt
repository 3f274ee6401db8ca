-- unlink: a file's name leaves its list, and the file goes.
use Rattle.std.specs.Prelude.{ℕ, List, [], ◌∷◌, Option, Some, None}
use Rattle.nv_base.specs.declared.numbers.Handle.{Handle}
use Rattle.nv_entry.specs.declared.item.Item.TheVariants.{Unbind, Gone}
use Rattle.nv_entry.specs.declared.node.NodeCopy.{NodeCopy}
use Rattle.nv_entry.specs.Index.{without}
use Rattle.nv_calls.specs.Plain.{Change, change, goes, with_names}
use Rattle.nv_calls.specs.declared.plan.InodePlan.{InodePlan}
use Rattle.nv_calls.specs.Plan.{planned}
use Rattle.nv_calls.specs.Refusals.{Check, kind_of, passes, want_bound, want_file}

-- the tests of what the name leads to
abbrev pub unlink_late : (Handle → Option NodeCopy) → Option Handle → Check
unlink_late nodes bound = want_bound bound (λ to. want_file (kind_of (nodes to)) passes)

-- the name leaves, and what it led to goes
abbrev pub leave_effect : Handle → List ℕ → Option Handle → List Change
leave_effect dir name None = []
leave_effect dir name (Some to) = change dir (with_names (without name)) ∷ change to goes ∷ []

-- the items of a node that goes, and of its name
abbrev pub leave_plan : Handle → List ℕ → Option Handle → List InodePlan
leave_plan dir name None = []
leave_plan dir name (Some to) = planned dir (Unbind name ∷ []) ∷ planned to (Gone ∷ []) ∷ []
