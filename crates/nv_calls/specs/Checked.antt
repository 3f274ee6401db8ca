-- How the check of a call ends it: by a refusal of the plain world, then for want of a number for a new inode.
use Rattle.std.specs.Prelude.{ℕ, ◌&&◌, ◌||◌, Bool, true, false, is_some, not, Option, None, Some, Ok, Err}
use Rattle.nv_base.specs.declared.fault.Fault.TheVariants as fault
use Rattle.nv_base.specs.declared.numbers.Handle.{Handle}
use Rattle.nv_entry.specs.declared.node.NodeCopy.{NodeCopy}
use Rattle.nv_calls.specs.declared.check_end.CheckEnd.{CheckEnd}
use Rattle.nv_calls.specs.declared.check_end.CheckEnd.TheVariants as ends
use Rattle.nv_calls.specs.declared.looked.LookupResult.{LookupResult}
use Rattle.nv_calls.specs.declared.update.Update.{Update}
use Rattle.nv_calls.specs.AllCalls.{early, is_nothing, late, looked, refusal}
use Rattle.nv_calls.specs.Plain.{same_handle}
use Rattle.nv_calls.specs.Prepared.{makes}
use Rattle.nv_calls.specs.Refusals.{Check, and_then, passes, refuse_if}
use Rattle.nv_calls.specs.Updates.{blank_call}

-- ---- the order of its tests

-- two look-ups found the same
abbrev pub same_found : Option Handle → Option Handle → Bool
same_found None None = true
same_found None (Some other) = false
same_found (Some handle) None = false
same_found (Some handle) (Some other) = same_handle handle other

-- the names are bound as the looks found them
abbrev pub same_looked : LookupResult → LookupResult → Bool
same_looked now before = same_found now.first before.first && same_found now.second before.second

-- how a check ends a call, if it does.
-- The tests before the names are compared come first, then a name that was bound anew, and then
-- the other tests. Want of an inode number comes next, and last that there is nothing to commit.
abbrev pub check_ends : Check → Bool → Check → Bool → Bool → Option CheckEnd
check_ends (Err fault) same tests numbered nothing = Some (ends.Refuses fault)
check_ends (Ok passed) false tests numbered nothing = Some ends.BoundAnew
check_ends (Ok passed) true (Err fault) numbered nothing = Some (ends.Refuses fault)
check_ends (Ok passed) true (Ok all) false nothing = Some (ends.Refuses fault.NoInode)
check_ends (Ok passed) true (Ok all) true true = Some ends.Answers
check_ends (Ok passed) true (Ok all) true false = None

-- how the check over these nodes ends a call, where this is what its looks found
abbrev pub ends_over : ℕ → (Handle → Option NodeCopy) → LookupResult → Bool → Update → Option CheckEnd
ends_over block nodes before numbered u =
    check_ends (early nodes (blank_call u)) (same_looked (looked nodes (blank_call u)) before) (late block nodes before (blank_call u))
    (numbered || not (makes u)) (is_nothing (blank_call u))

-- the refusal by which a check ends, where a name that was bound anew is refused `Contended`
abbrev pub refusal_by : Option CheckEnd → Check
refusal_by None = passes
refusal_by (Some (ends.Refuses fault)) = Err fault
refusal_by (Some ends.BoundAnew) = Err fault.Contended
refusal_by (Some ends.Answers) = passes

-- ---- its refusals

-- why a call is refused at its check, where its names lead to what its looks found.
-- The plain world's refusal comes first, then `NoInode` for a new inode without a number.
abbrev pub check_refusal : ℕ → (Handle → Option NodeCopy) → Option ℕ → Update → Check
check_refusal block nodes number u =
    and_then (refusal block nodes (blank_call u)) (refuse_if (makes u && not (is_some number)) fault.NoInode passes)
