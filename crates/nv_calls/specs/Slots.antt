-- Slots of inodes, the plain nodes that they give, and what a commit publishes in them.
use Rattle.std.specs.Prelude.{◌≡◌, ℕ, ◌+◌, ◌<◌, ◌≤◌, ◌==◌, if◌then◌else◌, nat_lt, List, [], ◌∷◌, ◌++◌, length, Option, None}
use Rattle.std.specs.List.{AllByRecursion, sum_by}
use Rattle.nv_base.specs.declared.numbers.Handle.{Handle}
use Rattle.nv_entry.specs.declared.item.Entry.{Entry}
use Rattle.nv_entry.specs.declared.item.Item.{Item}
use Rattle.nv_entry.specs.Log.{IsLog, up_to}
use Rattle.nv_entry.specs.Node.{node_now}
use Rattle.nv_entry.specs.Sound.{IsSound}
use Rattle.nv_calls.specs.Plain.{Change, PlainNode, node_in, nodes_after, stamped}
use Rattle.nv_calls.specs.declared.plan.InodePlan.{InodePlan}
use Rattle.nv_calls.specs.Plan.{AllFit}

-- an inode slot, as the plain world reads it
pub record InodeSlot : Type 0 where
  -- the generation of its inode, or of the next one where it has none
  pub generation : ℕ
  -- the log of its inode, which has no entry where there is no inode
  pub log : List Entry

-- the commit of a log's last entry
abbrev pub last_commit : List Entry → ℕ
last_commit [] = 0
last_commit (e ∷ []) = e.id.commit
last_commit (e ∷ f ∷ later) = last_commit (f ∷ later)

-- the plain node under a handle: that of its slot, where the generation is the slot's
abbrev pub node_under : (ℕ → List ℕ) → ℕ → (ℕ → InodeSlot) → Handle → Option PlainNode
node_under bytes block slots handle =
    if handle.generation == (slots handle.ino).generation
    then stamped (last_commit (slots handle.ino).log) (node_now bytes block (slots handle.ino).log)
    else None

-- the handle that the next inode of an empty slot has
pub record IsFree (slots : ℕ → InodeSlot) (made : Handle) : Type 0 where
  -- the slot of that number has no inode
  pub empty : (slots made.ino).log ≡ []
  -- the handle is of the slot's generation
  pub own : made.generation ≡ (slots made.ino).generation

-- ---- commits

-- the entries of items in one log, whose places in the commit go on from one
abbrev pub entries_of : ℕ → ℕ → ℕ → List Item → List Entry
entries_of commit epoch place [] = []
entries_of commit epoch place (item ∷ items) =
    record { id = record { commit = commit; place = place }; epoch = epoch; item = item } ∷ entries_of commit epoch (place + 1) items

-- the items that a plan has for a slot
abbrev pub items_for : List InodePlan → ℕ → List Item
items_for [] ino = []
items_for (p ∷ plan) ino = if p.handle.ino == ino then p.items else items_for plan ino

-- where the entries of a slot begin in a commit, whose entries go by rising inode number: behind those of lower numbers
abbrev pub place_in : List InodePlan → ℕ → ℕ
place_in plan ino = sum_by (λ (p : InodePlan). if nat_lt p.handle.ino ino then length p.items else 0) plan

-- the places of a plan's entries, slot by slot, are the numbers from 0 on
pub record ArePlaced (plan : List InodePlan) : Type 0 where
  -- the entries of slot 0 begin at place 0
  pub first : place_in plan 0 ≡ 0
  -- the entries of each slot begin where those of the slot before it end
  pub next : (ino : ℕ) → place_in plan (ino + 1) ≡ place_in plan ino + length (items_for plan ino)

-- an inode slot after a commit of a plan, which appends the items of the plan
abbrev pub published : ℕ → ℕ → List InodePlan → (ℕ → InodeSlot) → ℕ → InodeSlot
published commit epoch plan slots ino = record {
  generation = (slots ino).generation;
  log = (slots ino).log ++ entries_of commit epoch (place_in plan ino) (items_for plan ino);
}

-- what is planned for one inode
pub record IsPlanned (slots : ℕ → InodeSlot) (p : InodePlan) : Type 0 where
  -- there is an item
  pub some : 0 < length p.items
  -- the handle is of the slot's generation
  pub own : p.handle.generation ≡ (slots p.handle.ino).generation

-- what a commit needs of a plan that is to have an effect
pub record IsPlan (bytes : ℕ → List ℕ) (block : ℕ) (slots : ℕ → InodeSlot) (plan : List InodePlan) (effect : List Change) : Type 0 where
  -- each plan has an item, and a handle of its slot's generation
  pub all : AllByRecursion (IsPlanned slots) plan
  -- the items of each plan do to its node what the effect says
  pub fit : AllFit bytes block (node_in (node_under bytes block slots)) plan effect

-- a log that may get the entries of a commit of that number, in that epoch
pub record IsBefore (commit epoch : ℕ) (log : List Entry) : Type 0 where
  -- ids rise along the log, and epochs never fall
  pub ordered : IsLog log
  -- each entry is of an earlier commit, and of no later epoch
  pub earlier : AllByRecursion (λ (e : Entry). (e.id.commit < commit) × (e.epoch ≤ epoch)) log

-- what a commit of a plan does
pub record Commits (bytes : ℕ → List ℕ) (block commit epoch : ℕ) (slots : ℕ → InodeSlot) (plan : List InodePlan) (effect : List Change)
    : Type 0 where
  -- each node becomes what the effect says, and all others stay
  pub nodes : (handle : Handle) → node_under bytes block (published commit epoch plan slots) handle
      ≡ nodes_after commit effect (node_under bytes block slots) handle
  -- each log is sound afterwards
  pub sound : (ino : ℕ) → IsSound bytes block (published commit epoch plan slots ino).log
  -- each log has the same entries up to any earlier epoch
  pub earlier : (at ino : ℕ) → at < epoch → up_to at (published commit epoch plan slots ino).log ≡ up_to at (slots ino).log
