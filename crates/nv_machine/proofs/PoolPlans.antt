-- At most one inode of a plan leaves, and a plan that makes an inode is written in two.
use Rattle.std.proofs.Common.{◌≡◌, ℕ, ◌==◌, ◌∙◌, Bool, true, false, cond, List, [], ◌∷◌, Option, Some, None, refl, sym}
use Rattle.std.specs.List.{AllByRecursion}
use Rattle.std.proofs.lemmas.Bool.{eqb-true, false≢true}
use Rattle.nv_base.specs.declared.numbers.Handle.{Handle}
use Rattle.nv_calls.specs.AllCalls.{plan}
use Rattle.nv_calls.specs.Locked.{handles}
use Rattle.nv_calls.specs.Plain.{same_handle}
use Rattle.nv_calls.specs.Refusals.{found}
use Rattle.nv_calls.specs.Slots.{entries_of, items_for}
use Rattle.nv_calls.specs.calls.Rename.{bound_plan, move_plan, own_place, replaced_plan}
use Rattle.nv_calls.specs.calls.Unlink.{leave_plan}
use Rattle.nv_calls.specs.declared.call.Call.{Call}
use Rattle.nv_calls.specs.declared.call.Call.TheVariants as call
use Rattle.nv_calls.specs.declared.plan.InodePlan.{InodePlan}
use Rattle.nv_calls.specs.declared.allocation.Allocation.{Allocation}
use Rattle.nv_cell.specs.Readers.{is_gone}
use Rattle.nv_entry.specs.declared.item.Item.{Item}
use Rattle.nv_entry.specs.declared.node.NodeCopy.{NodeCopy}
use Rattle.nv_machine.specs.Hands.{makes_inode}
use Rattle.nv_machine.specs.Reads.{is_written}
use Rattle.nv_machine.specs.Sequence.{beginning, nothing_looked}
use Rattle.nv_machine.specs.Step.{handle_at}
use Rattle.nv_machine.proofs.Lists.{self}

-- ---- inodes that leave

-- the entries of the items for a slot say that its inode is gone, wherever they stand in a commit
abbrev pub Leaves : List Item → ℕ → ℕ → ℕ → Type 0
Leaves items commit epoch place = is_gone (entries_of commit epoch place items) ≡ true

-- of a plan one inode leaves at most
abbrev pub LeavesOne : List InodePlan → Type 0
LeavesOne plan = (commit epoch p q i j : ℕ) → Leaves (items_for plan i) commit epoch p → Leaves (items_for plan j) commit epoch q → i ≡ j

-- that of a number, if any
abbrev OnlyLeaves : ℕ → List InodePlan → Type 0
OnlyLeaves k plan = AllByRecursion (λ (p : InodePlan). (commit epoch place : ℕ) → Leaves p.items commit epoch place → p.handle.ino ≡ k) plan

abbrev OneLeaves : List InodePlan → Type 0
OneLeaves plan = (k : ℕ) × OnlyLeaves k plan

leaving : (k : ℕ) (plan : List InodePlan) → OnlyLeaves k plan → (commit epoch place i : ℕ) → Leaves (items_for plan i) commit epoch place
    → i ≡ k
leaving k [] only commit epoch place i h = absurd (false≢true h)
leaving k (p ∷ plan) only commit epoch place i h = go (p.handle.ino == i) refl h (leaving k plan only.1 commit epoch place i) where
  go : (b : Bool) → (p.handle.ino == i) ≡ b → Leaves (cond b p.items (items_for plan i)) commit epoch place
      → (Leaves (items_for plan i) commit epoch place → i ≡ k) → i ≡ k
  go true q h more = sym (eqb-true p.handle.ino i q) ∙ only.0 commit epoch place h
  go false q h more = more h

replaced_leaves : (other : Option Handle) → OneLeaves (replaced_plan other)
replaced_leaves None = (0, tt)
replaced_leaves (Some other) = (other.ino, (λ commit epoch place h. refl, tt))

moved_leaves : (same : Bool) (from : Handle) (old : List ℕ) (to : Handle) (new : List ℕ) (moved : Handle) (other : Option Handle)
    → OneLeaves (move_plan same from old to new moved (replaced_plan other))
moved_leaves true from old to new moved other =
    let rest = replaced_leaves other in
    (rest.0, (λ commit epoch place h. absurd (false≢true h), rest.1))
moved_leaves false from old to new moved other =
    let rest = replaced_leaves other in
    (rest.0, (λ commit epoch place h. absurd (false≢true h), (λ commit epoch place h. absurd (false≢true h), rest.1)))

renamed_leaves : (own : Bool) (from : Handle) (old : List ℕ) (to : Handle) (new : List ℕ) (bound other : Option Handle)
    → OneLeaves (cond own [] (bound_plan from old to new bound other))
renamed_leaves true from old to new bound other = (0, tt)
renamed_leaves false from old to new None other = (0, tt)
renamed_leaves false from old to new (Some moved) other = moved_leaves (same_handle from to) from old to new moved other

left_leaves : (dir : Handle) (name : List ℕ) (bound : Option Handle) → OneLeaves (leave_plan dir name bound)
left_leaves dir name None = (0, tt)
left_leaves dir name (Some to) = (to.ino, (λ commit epoch place h. absurd (false≢true h), (λ commit epoch place h. refl, tt)))

one_leaves : (block : ℕ) (nodes : Handle → Option NodeCopy) (taken : Allocation) (c : Call) → OneLeaves (plan block nodes taken c)
one_leaves block nodes taken (call.Create dir name mode) =
    (0, (λ commit epoch place h. absurd (false≢true h), (λ commit epoch place h. absurd (false≢true h), tt)))
one_leaves block nodes taken (call.Mkdir dir name mode) =
    (0, (λ commit epoch place h. absurd (false≢true h), (λ commit epoch place h. absurd (false≢true h), tt)))
one_leaves block nodes taken (call.Write file offset []) = (0, tt)
one_leaves block nodes taken (call.Write file offset (byte ∷ rest)) = (file.ino, (λ commit epoch place h. refl, tt))
one_leaves block nodes taken (call.Size file size) = (file.ino, (λ commit epoch place h. refl, tt))
one_leaves block nodes taken (call.Mode handle mode) = (handle.ino, (λ commit epoch place h. refl, tt))
one_leaves block nodes taken (call.Unlink dir name) = left_leaves dir name (found nodes dir name)
one_leaves block nodes taken (call.Rmdir dir name) = left_leaves dir name (found nodes dir name)
one_leaves block nodes taken (call.Rename from old to new) =
    renamed_leaves (own_place from old to new) from old to new (found nodes from old) (found nodes to new)
one_leaves block nodes taken (call.Read file offset count) = (0, tt)
one_leaves block nodes taken other = (0, tt)

pub plan_leaves : (block : ℕ) (nodes : Handle → Option NodeCopy) (taken : Allocation) (c : Call) → LeavesOne (plan block nodes taken c)
plan_leaves block nodes taken c commit epoch p q i j first second =
    let only = one_leaves block nodes taken c in
    leaving only.0 (plan block nodes taken c) only.1 commit epoch p i first
    ∙ sym (leaving only.0 (plan block nodes taken c) only.1 commit epoch q j second)

-- ---- a new inode

-- the directory in which a call makes an inode
abbrev pub parent_of : Call → Handle
parent_of c = handle_at (handles nothing_looked c) 0

-- a plan that makes an inode has items for it and for its directory
pub record MakesIn (plan : List InodePlan) (made parent : ℕ) : Type 0 where
  pub own : is_written plan made ≡ true
  pub above : is_written plan parent ≡ true

pub plan_makes : (block : ℕ) (nodes : Handle → Option NodeCopy) (taken : Allocation) (c : Call) → makes_inode (beginning c) ≡ true
    → ((parent_of c).ino == taken.made.ino) ≡ false → MakesIn (plan block nodes taken c) taken.made.ino (parent_of c).ino
plan_makes block nodes taken (call.Create dir name mode) makes ne =
    record { own = rw (ne, self taken.made.ino) refl; above = rw (self dir.ino) refl }
plan_makes block nodes taken (call.Mkdir dir name mode) makes ne =
    record { own = rw (ne, self taken.made.ino) refl; above = rw (self dir.ino) refl }
plan_makes block nodes taken other makes ne = absurd (false≢true makes)
