-- create: a new empty file, whose name goes last.
use Rattle.std.specs.Prelude.{ℕ, is_some, List, [], ◌∷◌, Option}
use Rattle.nv_base.specs.declared.fault.Fault.TheVariants as fault
use Rattle.nv_base.specs.declared.node.Kind.{Kind}
use Rattle.nv_base.specs.declared.node.Kind.TheVariants.{File}
use Rattle.nv_base.specs.declared.numbers.Handle.{Handle}
use Rattle.nv_entry.specs.declared.item.Item.TheVariants.{Init, Bind}
use Rattle.nv_entry.specs.declared.node.NodeCopy.{NodeCopy}
use Rattle.nv_entry.specs.Index.{with_last}
use Rattle.nv_calls.specs.Plain.{Change, begins, change, with_names}
use Rattle.nv_calls.specs.declared.plan.InodePlan.{InodePlan}
use Rattle.nv_calls.specs.Plan.{planned}
use Rattle.nv_calls.specs.Refusals.{Check, kind_of, lookup, passes, refuse_if, want_directory, want_lawful}

-- what a `create` is refused for by the nodes
abbrev pub create_refusal : (Handle → Option NodeCopy) → Handle → List ℕ → Check
create_refusal nodes dir name =
    want_directory (kind_of (nodes dir))
    (want_lawful name
    (refuse_if (is_some (lookup nodes dir name)) fault.Exists passes))

-- ---- a new node of a kind, as mkdir makes one too

-- a new node of a kind, and its name in a directory
abbrev pub begin_effect : Kind → Handle → List ℕ → ℕ → Handle → List Change
begin_effect kind dir name mode made = change dir (with_names (with_last name made)) ∷ change made (begins kind mode) ∷ []

-- the items of a new node, and of its name in a directory
abbrev pub begin_plan : Kind → Handle → List ℕ → ℕ → Handle → List InodePlan
begin_plan kind dir name mode made = planned dir (Bind name made ∷ []) ∷ planned made (Init kind mode ∷ []) ∷ []

-- ---- a new file

-- what a `create` changes
abbrev pub create_effect : Handle → List ℕ → ℕ → Handle → List Change
create_effect dir name mode made = begin_effect File dir name mode made

-- what a `create` appends
abbrev pub create_plan : Handle → List ℕ → ℕ → Handle → List InodePlan
create_plan dir name mode made = begin_plan File dir name mode made
