-- The calls of the plain world on files and directories, by the step that decides: what its looks find, refusal at the
-- check, effect at the commit, and answer; and the plan of each. No changes: no commit.
use Rattle.std.specs.Prelude.{◌≡◌, ℕ, ◌/◌, ◌<◌, ◌&&◌, nat_lt, Bool, true, false, List, [], ◌∷◌, length, Option, None, is_some}
use Rattle.nv_base.specs.declared.limits.TheConstants.{FILE_PAGES}
use Rattle.nv_base.specs.declared.numbers.Handle.{Handle}
use Rattle.nv_entry.specs.declared.node.NodeCopy.{NodeCopy}
use Rattle.nv_entry.specs.Node.{block_now}
use Rattle.nv_entry.specs.Sound.{HaveText, blocks_of}
use Rattle.nv_calls.specs.declared.answer.Answer.{Answer}
use Rattle.nv_calls.specs.declared.answer.Answer.TheVariants as answers
use Rattle.nv_calls.specs.declared.call.Call.{Call}
use Rattle.nv_calls.specs.declared.call.Call.TheVariants as call
use Rattle.nv_calls.specs.declared.looked.LookupResult.{LookupResult}
use Rattle.nv_calls.specs.declared.plan.InodePlan.{InodePlan}
use Rattle.nv_calls.specs.declared.allocation.Allocation.{Allocation}
use Rattle.nv_calls.specs.Plain.{Change, PlainNode, node_in}
use Rattle.nv_calls.specs.Plan.{AreMaximal}
use Rattle.nv_calls.specs.Refusals.{Check, and_then, bytes_of, found, lookup, passes}
use Rattle.nv_calls.specs.Slots.{IsFree, InodeSlot}
use Rattle.nv_calls.specs.calls.Create.{create_effect, create_plan, create_refusal}
use Rattle.nv_calls.specs.calls.List.{list_answer, list_refusal}
use Rattle.nv_calls.specs.calls.Lookup.{lookup_answer, lookup_refusal}
use Rattle.nv_calls.specs.calls.Mkdir.{mkdir_effect, mkdir_plan, mkdir_refusal}
use Rattle.nv_calls.specs.calls.Mode.{mode_effect, mode_plan, mode_refusal}
use Rattle.nv_calls.specs.calls.Read.{read_answer, read_refusal}
use Rattle.nv_calls.specs.calls.Rename.{own_place, rename_early, rename_effect, rename_late, rename_plan}
use Rattle.nv_calls.specs.calls.Rmdir.{rmdir_late}
use Rattle.nv_calls.specs.calls.Size.{HaveCut, size_blocks, size_effect, size_plan, size_refusal}
use Rattle.nv_calls.specs.calls.Stat.{stat_answer, stat_refusal}
use Rattle.nv_calls.specs.calls.Unlink.{leave_effect, leave_plan, unlink_late}
use Rattle.nv_calls.specs.calls.Write.{write_blocks, write_effect, write_plan, write_refusal}

-- ---- looks

-- what the names of a call lead to, where it looks them up before it locks
abbrev pub looked : (Handle → Option NodeCopy) → Call → LookupResult
looked nodes (call.Unlink dir name) = record { first = found nodes dir name; second = None }
looked nodes (call.Rmdir dir name) = record { first = found nodes dir name; second = None }
looked nodes (call.Rename from old to new) = record { first = found nodes from old; second = found nodes to new }
looked nodes other = record { first = None; second = None }

-- why a call is refused at its first look: by the tests of its first name
abbrev pub look_refusal : (Handle → Option NodeCopy) → Call → Check
look_refusal nodes (call.Unlink dir name) = lookup_refusal nodes dir name
look_refusal nodes (call.Rmdir dir name) = lookup_refusal nodes dir name
look_refusal nodes (call.Rename from old to new) = lookup_refusal nodes from old
look_refusal nodes other = passes

-- ---- the check

-- the tests of a check that stand before its names are compared with what the looks found
abbrev pub early : (Handle → Option NodeCopy) → Call → Check
early nodes (call.Unlink dir name) = lookup_refusal nodes dir name
early nodes (call.Rmdir dir name) = lookup_refusal nodes dir name
early nodes (call.Rename from old to new) = rename_early nodes from old to new
early nodes other = passes

-- the tests of a check that stand behind that comparison, by what the names lead to
abbrev pub late : ℕ → (Handle → Option NodeCopy) → LookupResult → Call → Check
late block nodes looked (call.Create dir name mode) = create_refusal nodes dir name
late block nodes looked (call.Mkdir dir name mode) = mkdir_refusal nodes dir name
late block nodes looked (call.Write file offset text) = write_refusal block nodes file offset text
late block nodes looked (call.Read file offset count) = read_refusal nodes file
late block nodes looked (call.Size file size) = size_refusal block nodes file size
late block nodes looked (call.Mode handle mode) = mode_refusal nodes handle
late block nodes looked (call.Stat handle) = stat_refusal nodes handle
late block nodes looked (call.List dir) = list_refusal nodes dir
late block nodes looked (call.Lookup dir name) = lookup_refusal nodes dir name
late block nodes looked (call.SnapshotOrCleaner c) = passes
late block nodes looked (call.Unlink dir name) = unlink_late nodes looked.first
late block nodes looked (call.Rmdir dir name) = rmdir_late nodes looked.first
late block nodes looked (call.Rename from old to new) = rename_late nodes from old to new looked

-- why a call is refused: the first of its tests that fails, by the nodes at `check`.
-- That inode numbers, blocks or commit numbers run out is decided elsewhere.
abbrev pub refusal : ℕ → (Handle → Option NodeCopy) → Call → Check
refusal block nodes c = and_then (early nodes c) (late block nodes (looked nodes c) c)

-- ---- effect and answer

-- what a commit changes, where a new inode has the handle `made`: each change is of one handle.
-- A call without a change makes no commit.
abbrev pub effect : (Handle → Option NodeCopy) → Handle → Call → List Change
effect nodes made (call.Create dir name mode) = create_effect dir name mode made
effect nodes made (call.Mkdir dir name mode) = mkdir_effect dir name mode made
effect nodes made (call.Write file offset text) = write_effect file offset text
effect nodes made (call.Size file size) = size_effect file size
effect nodes made (call.Mode handle mode) = mode_effect handle mode
effect nodes made (call.Unlink dir name) = leave_effect dir name (found nodes dir name)
effect nodes made (call.Rmdir dir name) = leave_effect dir name (found nodes dir name)
effect nodes made (call.Rename from old to new) = rename_effect from old to new (looked nodes (call.Rename from old to new))
effect nodes made other = []

-- what a call is answered, by the nodes and by the handle that it makes
abbrev pub answer : (Handle → Option PlainNode) → Handle → Call → Answer
answer nodes made (call.Create dir name mode) = answers.Made made
answer nodes made (call.Mkdir dir name mode) = answers.Made made
answer nodes made (call.Write file offset text) = answers.Count (length text)
answer nodes made (call.Read file offset count) = read_answer offset count (node_in nodes file)
answer nodes made (call.Stat handle) = stat_answer (nodes handle)
answer nodes made (call.List dir) = list_answer (node_in nodes dir)
answer nodes made (call.Lookup dir name) = lookup_answer (lookup (node_in nodes) dir name)
answer nodes made other = answers.Nothing

-- ---- plan

-- there is no byte
abbrev pub is_empty : List ℕ → Bool
is_empty [] = true
is_empty (byte ∷ rest) = false

-- a call that commits nothing, where it is not refused.
-- Such are a call that only reads, a write of no bytes, and a rename onto its own place. So are
-- calls on snapshots and cleaners, which have no effect on nodes.
abbrev pub is_nothing : Call → Bool
is_nothing (call.Create dir name mode) = false
is_nothing (call.Mkdir dir name mode) = false
is_nothing (call.Write file offset text) = is_empty text
is_nothing (call.Size file size) = false
is_nothing (call.Mode handle mode) = false
is_nothing (call.Unlink dir name) = false
is_nothing (call.Rmdir dir name) = false
is_nothing (call.Rename from old to new) = own_place from old to new
is_nothing other = true

-- whether a file has the page that its new size ends in; false for other calls
abbrev pub ends_in_page : (Handle → ℕ → Bool) → ℕ → Call → Bool
ends_in_page has_page block (call.Size file size) = nat_lt (size / block) FILE_PAGES && has_page file (size / block)
ends_in_page has_page block other = false

-- whether a file's log has a block for the page that its new size ends in; false for other calls
abbrev pub present_in : ℕ → (ℕ → InodeSlot) → Call → Bool
present_in block slots (call.Size file size) = is_some (block_now block (slots file.ino).log (size / block))
present_in block slots other = false

-- how many data blocks a call takes
abbrev pub blocks_wanted : ℕ → (Handle → Option NodeCopy) → Bool → Call → ℕ
blocks_wanted block nodes present (call.Write file offset text) = write_blocks block offset text
blocks_wanted block nodes present (call.Size file size) = size_blocks block nodes file size present
blocks_wanted block nodes present other = 0

-- the items that a call appends, inode by inode.
-- `Allocation` has what was taken for it: the handle of a new inode, and the fresh block runs.
abbrev pub plan : ℕ → (Handle → Option NodeCopy) → Allocation → Call → List InodePlan
plan block nodes taken (call.Create dir name mode) = create_plan dir name mode taken.made
plan block nodes taken (call.Mkdir dir name mode) = mkdir_plan dir name mode taken.made
plan block nodes taken (call.Write file offset text) = write_plan block nodes file offset text taken.runs
plan block nodes taken (call.Size file size) = size_plan block file size taken.runs
plan block nodes taken (call.Mode handle mode) = mode_plan handle mode
plan block nodes taken (call.Unlink dir name) = leave_plan dir name (found nodes dir name)
plan block nodes taken (call.Rmdir dir name) = leave_plan dir name (found nodes dir name)
plan block nodes taken (call.Rename from old to new) = rename_plan from old to new (looked nodes (call.Rename from old to new))
plan block nodes taken other = []

-- `is_nothing` tells whether a call commits something
pub record IsToldNothing (block : ℕ) (nodes : Handle → Option NodeCopy) (taken : Allocation) (c : Call) : Type 0 where
  -- a call of nothing changes no node
  pub no_effect : is_nothing c ≡ true → effect nodes taken.made c ≡ []
  -- a call of nothing appends to no log
  pub no_plan : is_nothing c ≡ true → plan block nodes taken c ≡ []
  -- any other call changes a node
  pub some_effect : is_nothing c ≡ false → 0 < length (effect nodes taken.made c)
  -- any other call appends to a log
  pub some_plan : is_nothing c ≡ false → 0 < length (plan block nodes taken c)

-- the block runs that a write has taken and filled
pub record HasPages (bytes : ℕ → List ℕ) (block : ℕ) (taken : Allocation) (offset : ℕ) (text before : List ℕ) : Type 0 where
  -- each run has a block, and none goes on where the one before it ends
  pub maximal : AreMaximal taken.runs
  -- where the text has a byte, the blocks have its pages as they are after the write
  pub filled : 0 < length text → HaveText bytes block offset text before (blocks_of taken.runs)

-- what was taken is what the call needs, and the fresh blocks are filled.
-- A new inode needs an empty inode slot. A write needs maximal block runs, filled with its pages
-- as they are afterwards. A size that cuts a page needs a block with what is left of it.
abbrev pub IsReady : (ℕ → List ℕ) → ℕ → (ℕ → InodeSlot) → (Handle → Option NodeCopy) → Allocation → Call → Type 0
IsReady bytes block slots nodes taken (call.Create dir name mode) = IsFree slots taken.made
IsReady bytes block slots nodes taken (call.Mkdir dir name mode) = IsFree slots taken.made
IsReady bytes block slots nodes taken (call.Write file offset text) = HasPages bytes block taken offset text (bytes_of (nodes file))
IsReady bytes block slots nodes taken (call.Size file size) =
    HaveCut bytes block size (present_in block slots (call.Size file size)) (bytes_of (nodes file)) taken.runs
IsReady bytes block slots nodes taken other = Unit {0}
