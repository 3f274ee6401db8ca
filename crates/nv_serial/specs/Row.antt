-- What a call that is made alone takes: the free blocks in the order of a circle of lists, the first ones as data and the
-- next ones as log pages.
use Rattle.std.specs.Prelude.{◌≡◌, ℕ, zero, suc, ◌+◌, ◌%◌, ◌++◌, List, [], drop, length, slice_index_or, take}
use Rattle.nv_alloc.specs.Block.{BlockValue, numbers_of}
use Rattle.nv_alloc.specs.FreeList.{FreeBlocks}
use Rattle.nv_base.specs.declared.numbers.Handle.{Handle}
use Rattle.nv_calls.specs.AllCalls.{blocks_wanted, plan}
use Rattle.nv_calls.specs.Plan.{block_runs_of}
use Rattle.nv_calls.specs.declared.call.Call.{Call}
use Rattle.nv_calls.specs.declared.plan.InodePlan.{InodePlan}
use Rattle.nv_machine.specs.Reads.{copies, has_last_page}
use Rattle.nv_machine.specs.World.{Shared, no_list}

-- the numbers of so many lists, from one place of the circle on, of which an actor's own is the first
abbrev pub row : (cpus actor from count : ℕ) → List FreeBlocks → List ℕ
row cpus actor from zero lists = []
row cpus actor from (suc count) lists =
    numbers_of (slice_index_or lists ((actor + from) % cpus) no_list).blocks ++ row cpus actor (suc from) count lists

-- THE ROW of an actor: all free blocks, in the order in which it takes them
abbrev pub row_at : Shared → ℕ → List ℕ
row_at s actor = row (length s.lists) actor 0 (length s.lists) s.lists

-- how many data blocks a call wants, by the nodes of now
abbrev pub data_for : ℕ → Shared → Call → ℕ
data_for block s c = blocks_wanted block (copies s) (has_last_page block s c) c

-- the plan with the first numbers of the row as data
abbrev pub plan_by_row : ℕ → Shared → ℕ → Call → Handle → List InodePlan
plan_by_row block s actor c made = plan block (copies s) (record {
  made = made;
  runs = block_runs_of (take (data_for block s c) (row_at s actor));
}) c

-- a call has taken the first blocks of the row of its actor
pub record IsPlannedByRow (block : ℕ) (s : Shared) (actor : ℕ) (c : Call) (lists : List FreeBlocks) (pages : List BlockValue)
    (made : Handle) (plans : List InodePlan) : Type 0 where
  -- the plan has the first numbers of the row as data
  pub plan_is : plans ≡ plan_by_row block s actor c made
  -- the log pages in the hand, and then what the lists have left, are the rest of the row
  pub pages_are : numbers_of pages ++ row (length s.lists) actor 0 (length s.lists) lists ≡ drop (data_for block s c) (row_at s actor)
