-- The calls on files and directories of a world with numbers: one definition for all.
use Rattle.std.specs.Prelude.{ℕ, ◌+◌, Bool, true, false, nat_le, List, [], ◌∷◌, drop, length, take, Option, Some, None, Ok, Err}
use Rattle.nv_base.specs.declared.fault.Fault.TheVariants.{CommitLimit, NoInode, NoSpace}
use Rattle.nv_base.specs.declared.limits.TheConstants.{NUMBER}
use Rattle.nv_base.specs.declared.numbers.Handle.{Handle}
use Rattle.nv_calls.specs.AllCalls.{answer, blocks_wanted, is_nothing, plan, present_in, refusal}
use Rattle.nv_calls.specs.Plan.{block_runs_of}
use Rattle.nv_calls.specs.Refusals.{Check}
use Rattle.nv_calls.specs.Slots.{InodeSlot}
use Rattle.nv_calls.specs.declared.allocation.Allocation.{Allocation}
use Rattle.nv_calls.specs.declared.call.Call.{Call}
use Rattle.nv_calls.specs.declared.call.Call.TheVariants as call
use Rattle.nv_calls.specs.declared.plan.InodePlan.{InodePlan}
use Rattle.nv_entry.specs.Tree.{root}
use Rattle.nv_serial.specs.Committed.{committed, needs}
use Rattle.nv_serial.specs.Free.{pool_of, row_of}
use Rattle.nv_serial.specs.Serial.{Outcome, Serial, copies_now, log_in, refused, slot_of, told}

-- ---- what a call takes

-- the call makes an inode
abbrev pub makes_inode : Call → Bool
makes_inode (call.Create dir name mode) = true
makes_inode (call.Mkdir dir name mode) = true
makes_inode other = false

-- the handle of a call's new inode: the lowest free number, with its slot's generation.
-- A call that makes no inode has the root's handle, which nothing reads.
abbrev pub handle_for : Bool → List ℕ → Serial → Option Handle
handle_for false numbers s = Some root
handle_for true [] s = None
handle_for true (ino ∷ numbers) s = Some (record { ino = ino; generation = (slot_of s ino).generation })

-- the inode slots of the plain world, by number
abbrev pub inode_slots : Serial → ℕ → InodeSlot
inode_slots s ino = record { generation = (slot_of s ino).generation; log = log_in s ino }

-- how many data blocks a call takes
abbrev pub wanted : Serial → Call → ℕ
wanted s c = blocks_wanted s.numbers.block (copies_now s) (present_in s.numbers.block (inode_slots s) c) c

-- what a call takes: the handle of a new inode, and the first blocks of the row as data
abbrev pub taken_for : Serial → ℕ → Handle → Call → Allocation
taken_for s actor made c = record { made = made; runs = block_runs_of (take (wanted s c) (row_of s actor)) }

-- the plan of a call, with what it takes from the row
abbrev pub plan_for : Serial → ℕ → Handle → Call → List InodePlan
plan_for s actor made c = plan s.numbers.block (copies_now s) (taken_for s actor made c) c

-- the blocks that a call may take as log pages: those of the row behind its data
abbrev pub log_pages_for : Serial → ℕ → Call → List ℕ
log_pages_for s actor c = drop (wanted s c) (row_of s actor)

-- the row is long enough for a call's data and log pages together
abbrev pub fits : Serial → ℕ → Handle → Call → Bool
fits s actor made c = nat_le (wanted s c + needs s (plan_for s actor made c)) (length (row_of s actor))

-- ---- want of an inode number, of blocks or of a commit number; or a commit

-- a call that has an inode number, by whether the row suffices and the commit limit is reached
abbrev pub commit_if : (fits limit : Bool) → Serial → ℕ → Handle → Call → Outcome
commit_if false limit s actor made c = refused NoSpace s
commit_if true true s actor made c = refused CommitLimit s
commit_if true false s actor made c =
    told (answer s.plain.nodes made c) (committed s made c (plan_for s actor made c) (log_pages_for s actor c))

-- a call that commits: refused where no inode number is free for it, and else by what it takes
abbrev pub commit_with : Option Handle → Serial → ℕ → Call → Outcome
commit_with None s actor c = refused NoInode s
commit_with (Some made) s actor c = commit_if (fits s actor made c) (nat_le NUMBER s.plain.commit) s actor made c

-- a call that passes its check: one that commits nothing is answered, and any other commits
abbrev pub pass : Bool → Serial → ℕ → Call → Outcome
pass true s actor c = told (answer s.plain.nodes root c) s
pass false s actor c = commit_with (handle_for (makes_inode c) (pool_of s) s) s actor c

-- a call by what the plain world says of it: a refusal comes first
abbrev pub if_passes : Check → Serial → ℕ → Call → Outcome
if_passes (Err fault) s actor c = refused fault s
if_passes (Ok passed) s actor c = pass (is_nothing c) s actor c

-- a call on files and directories.
-- It is refused first for what the plain world refuses it for. One that commits nothing is
-- answered then. Any other may be refused for want of an inode number, of blocks, or of a commit
-- number, in this order.
abbrev pub on_files : Serial → ℕ → Call → Outcome
on_files s actor c = if_passes (refusal s.numbers.block (copies_now s) c) s actor c
