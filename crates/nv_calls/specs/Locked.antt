-- The handles that a call locks, and that it reads no others.
use Rattle.std.specs.Prelude.{◌≡◌, ℕ, ◌<◌, ◌⊎◌, ◌==◌, if◌then◌else◌, nat_lt, Bool, List, [], ◌∷◌, ◌++◌, length, map, Option, Some, None, Contains}
use Rattle.std.specs.List.{AllByRecursion}
use Rattle.nv_base.specs.declared.numbers.Handle.{Handle}
use Rattle.nv_entry.specs.declared.node.NodeCopy.{NodeCopy}
use Rattle.nv_entry.specs.Sound.{blocks_of}
use Rattle.nv_calls.specs.declared.call.Call.{Call}
use Rattle.nv_calls.specs.declared.call.Call.TheVariants as call
use Rattle.nv_calls.specs.declared.looked.LookupResult.{LookupResult}
use Rattle.nv_calls.specs.declared.plan.InodePlan.{InodePlan}
use Rattle.nv_calls.specs.declared.allocation.Allocation.{Allocation}
use Rattle.nv_calls.specs.AllCalls.{answer, blocks_wanted, early, effect, looked, plan, refusal}
use Rattle.nv_calls.specs.Plain.{PlainNode, node_in}
use Rattle.nv_calls.specs.Plan.{plan_blocks}

-- the handle, if there is one, as a list
abbrev pub if_any : Option Handle → List Handle
if_any None = []
if_any (Some handle) = handle ∷ []

-- the handle of a new inode, where a call makes one: its number is taken before the call locks
abbrev pub handles_made_by : Handle → Call → List Handle
handles_made_by made (call.Create dir name mode) = made ∷ []
handles_made_by made (call.Mkdir dir name mode) = made ∷ []
handles_made_by made other = []

-- the handles that a call reads: those that it names, and what its looks found
abbrev pub handles : LookupResult → Call → List Handle
handles looked (call.Create dir name mode) = dir ∷ []
handles looked (call.Mkdir dir name mode) = dir ∷ []
handles looked (call.Write file offset text) = file ∷ []
handles looked (call.Read file offset count) = file ∷ []
handles looked (call.Size file size) = file ∷ []
handles looked (call.Mode handle mode) = handle ∷ []
handles looked (call.Stat handle) = handle ∷ []
handles looked (call.List dir) = dir ∷ []
handles looked (call.Lookup dir name) = dir ∷ []
handles looked (call.SnapshotOrCleaner c) = []
handles looked (call.Unlink dir name) = dir ∷ if_any looked.first
handles looked (call.Rmdir dir name) = dir ∷ if_any looked.first
handles looked (call.Rename from old to new) = from ∷ to ∷ if_any looked.first ++ if_any looked.second

-- the handles that a call locks: those that it reads, and that of a new inode
abbrev pub locks : LookupResult → Handle → Call → List Handle
locks looked made c = handles_made_by made c ++ handles looked c

-- the handle in which a call looks its first name up
abbrev pub first_look : Call → List Handle
first_look (call.Unlink dir name) = dir ∷ []
first_look (call.Rmdir dir name) = dir ∷ []
first_look (call.Rename from old to new) = from ∷ []
first_look other = []

-- two worlds have the same under some handles
abbrev pub Agree : {A : Type 0} → (Handle → A) → (Handle → A) → List Handle → Type 0
Agree nodes other list = AllByRecursion (λ (handle : Handle). other handle ≡ nodes handle) list

-- a call is the same in two plain worlds
pub record SameCall (block : ℕ) (nodes other : Handle → Option PlainNode) (taken : Allocation) (c : Call) : Type 0 where
  -- its looks find the same
  pub found : looked (node_in other) c ≡ looked (node_in nodes) c
  -- its tests before the comparison of names say the same
  pub early : early (node_in other) c ≡ early (node_in nodes) c
  -- it is refused alike, or passes in both
  pub refusal : refusal block (node_in other) c ≡ refusal block (node_in nodes) c
  -- it changes the same
  pub effect : effect (node_in other) taken.made c ≡ effect (node_in nodes) taken.made c
  -- it appends the same items
  pub plan : plan block (node_in other) taken c ≡ plan block (node_in nodes) taken c
  -- it is answered the same
  pub answer : answer other taken.made c ≡ answer nodes taken.made c
  -- it reads under the same handles
  pub handles : handles (looked (node_in other) c) c ≡ handles (looked (node_in nodes) c) c
  -- it takes the same number of data blocks
  pub wanted : (present : Bool) → blocks_wanted block (node_in other) present c ≡ blocks_wanted block (node_in nodes) present c

-- a plan keeps to what its call locks and takes
pub record KeepsToIts (nodes : Handle → Option NodeCopy) (c : Call) (taken : Allocation) (plan : List InodePlan) : Type 0 where
  -- each plan is of a handle that the call locks
  pub handles : AllByRecursion (λ (p : InodePlan). Contains (locks (looked nodes c) taken.made c) p.handle) plan
  -- the items put pages in all blocks that were taken, or in none
  pub blocks : (plan_blocks plan ≡ blocks_of taken.runs) ⊎ (plan_blocks plan ≡ [])
  -- a plan of two inodes or more uses no block
  pub several : 1 < length plan → plan_blocks plan ≡ []

-- ---- slots

-- a rising list of numbers with one more, which stands there once
abbrev pub with_slot : ℕ → List ℕ → List ℕ
with_slot n [] = n ∷ []
with_slot n (m ∷ slots) = if n == m then m ∷ slots else if nat_lt n m then n ∷ m ∷ slots else m ∷ with_slot n slots

-- the inode slots of these numbers, where so many are there; a number out of range has none
abbrev pub slots_in : ℕ → List ℕ → List ℕ
slots_in inodes [] = []
slots_in inodes (ino ∷ rest) = if nat_lt ino inodes then with_slot ino (slots_in inodes rest) else slots_in inodes rest

-- the number, if there is one, as a list
abbrev pub if_number : Option ℕ → List ℕ
if_number None = []
if_number (Some ino) = ino ∷ []

-- the slots that a call locks, of so many: those of its handles, of what its looks found, and of the number in its hand
abbrev pub slots_among : ℕ → Option ℕ → LookupResult → Call → List ℕ
slots_among inodes number looked c = slots_in inodes (if_number number ++ map (λ (h : Handle). h.ino) (handles looked c))
