-- rename: onto its own place nothing; else the first name leaves, a file at the second goes, and the second goes last.
use Rattle.std.specs.Prelude.{ℕ, ◌&&◌, ◌||◌, Bool, true, false, if◌then◌else◌, not, List, [], ◌∷◌, Option, Some, None}
use Rattle.nv_base.specs.Names.{same_name}
use Rattle.nv_base.specs.declared.fault.Fault.TheVariants as fault
use Rattle.nv_base.specs.declared.node.Kind.{Kind}
use Rattle.nv_base.specs.declared.numbers.Handle.{Handle}
use Rattle.nv_entry.specs.declared.item.Item.TheVariants.{Bind, Unbind, Gone}
use Rattle.nv_entry.specs.declared.node.NodeCopy.{NodeCopy}
use Rattle.nv_entry.specs.Index.{with_last, without}
use Rattle.nv_calls.specs.Plain.{Change, change, goes, same_handle, with_names}
use Rattle.nv_calls.specs.declared.plan.InodePlan.{InodePlan}
use Rattle.nv_calls.specs.Plan.{planned}
use Rattle.nv_calls.specs.Refusals.{Check, and_then, is_directory, kind_of, passes, refuse_if, want_bound, want_directory, want_lawful, want_node}
use Rattle.nv_calls.specs.calls.Lookup.{lookup_refusal}
use Rattle.nv_calls.specs.declared.looked.LookupResult.{LookupResult}

-- both names are one, in one directory
abbrev pub own_place : Handle → List ℕ → Handle → List ℕ → Bool
own_place from old to new = same_handle from to && same_name old new

-- a check that passes in this case, and else goes on
abbrev pub pass_if : Bool → Check → Check
pass_if true next = passes
pass_if false next = next

-- what stands at the second name: a file may replace a file
abbrev pub replaced_refusal : (Handle → Option NodeCopy) → Option Kind → Option Handle → Check
replaced_refusal nodes moved None = passes
replaced_refusal nodes moved (Some other) =
    want_node (kind_of (nodes other)) (refuse_if (is_directory moved || is_directory (kind_of (nodes other))) fault.Exists passes)

-- the tests before the names are compared with what the looks found: all of the first name, and of
-- the second all except that it is bound
abbrev pub rename_early : (Handle → Option NodeCopy) → Handle → List ℕ → Handle → List ℕ → Check
rename_early nodes from old to new = and_then (lookup_refusal nodes from old) (want_directory (kind_of (nodes to)) (want_lawful new passes))

-- the tests of what is moved: a directory may not move to another parent
abbrev pub moved_refusal : (Handle → Option NodeCopy) → Handle → Handle → Option Handle → Handle → Check
moved_refusal nodes from to other moved =
    want_node (kind_of (nodes moved))
    (refuse_if (is_directory (kind_of (nodes moved)) && not (same_handle from to)) fault.MoveDirectory
    (replaced_refusal nodes (kind_of (nodes moved)) other))

-- the tests of what the names lead to
abbrev pub rename_late : (Handle → Option NodeCopy) → Handle → List ℕ → Handle → List ℕ → LookupResult → Check
rename_late nodes from old to new looked =
    want_bound looked.first (λ moved. pass_if (own_place from old to new) (moved_refusal nodes from to looked.second moved))

-- ---- what becomes of the directories and of a replaced file

-- the node that a moved name takes the place of goes
abbrev pub replaced_effect : Option Handle → List Change
replaced_effect None = []
replaced_effect (Some other) = change other goes ∷ []

-- within one directory both names change in one list
abbrev pub move_effect : Bool → Handle → List ℕ → Handle → List ℕ → Handle → List Change → List Change
move_effect true from old to new moved rest = change from (with_names (λ names. with_last new moved (without old names))) ∷ rest
move_effect false from old to new moved rest = change from (with_names (without old)) ∷ change to (with_names (with_last new moved)) ∷ rest

-- what a `rename` changes where the old name is bound
abbrev pub bound_effect : Handle → List ℕ → Handle → List ℕ → Option Handle → Option Handle → List Change
bound_effect from old to new None other = []
bound_effect from old to new (Some moved) other = move_effect (same_handle from to) from old to new moved (replaced_effect other)

-- what a `rename` changes: nothing where it goes to its own place
abbrev pub rename_effect : Handle → List ℕ → Handle → List ℕ → LookupResult → List Change
rename_effect from old to new looked =
    if own_place from old to new then [] else bound_effect from old to new looked.first looked.second

-- ---- its plan

-- the item of the node that a moved name takes the place of
abbrev pub replaced_plan : Option Handle → List InodePlan
replaced_plan None = []
replaced_plan (Some other) = planned other (Gone ∷ []) ∷ []

-- the items of a name that moves, within one directory or to another
abbrev pub move_plan : Bool → Handle → List ℕ → Handle → List ℕ → Handle → List InodePlan → List InodePlan
move_plan true from old to new moved rest = planned from (Unbind old ∷ Bind new moved ∷ []) ∷ rest
move_plan false from old to new moved rest = planned from (Unbind old ∷ []) ∷ planned to (Bind new moved ∷ []) ∷ rest

-- what a `rename` appends where the old name is bound
abbrev pub bound_plan : Handle → List ℕ → Handle → List ℕ → Option Handle → Option Handle → List InodePlan
bound_plan from old to new None other = []
bound_plan from old to new (Some moved) other = move_plan (same_handle from to) from old to new moved (replaced_plan other)

-- what a `rename` appends: nothing where it goes to its own place.
-- Example: `x` in the directory 1.1 is bound to 2.1, and is renamed to `x` in the root. The name
-- leaves 1.1, and goes last in the root. The plan is Unbind{x} for 1.1 and Bind{x, 2.1} for 0.1.
abbrev pub rename_plan : Handle → List ℕ → Handle → List ℕ → LookupResult → List InodePlan
rename_plan from old to new looked =
    if own_place from old to new then [] else bound_plan from old to new looked.first looked.second
