-- No more than one inode of a plan goes.
use Rattle.std.proofs.Common.{◌≡◌, ℕ, ◌+◌, ◌/◌, ◌==◌, Bool, true, false, cond, List, [], ◌∷◌, ◌++◌, Option, Some, None, refl, ap, sym, ◌∙◌}
use Rattle.std.specs.Prelude.{unwrap_or}
use Rattle.std.specs.List.{AllByRecursion}
use Rattle.std.specs.Option.{option_map}
use Rattle.std.proofs.lemmas.Bool.{eqb-true}
use Rattle.nv_base.specs.declared.numbers.Handle.{Handle}
use Rattle.nv_entry.specs.declared.item.Item.{Item}
use Rattle.nv_entry.specs.declared.item.Item.TheVariants.{Bind, SetSize, Unbind}
use Rattle.nv_entry.specs.declared.item.BlockRun.{BlockRun}
use Rattle.nv_entry.specs.declared.node.NodeCopy.{NodeCopy}
use Rattle.nv_entry.specs.Sound.{write_items}
use Rattle.nv_cell.specs.Readers.{is_last_word}
use Rattle.nv_calls.specs.AllCalls.{plan}
use Rattle.nv_calls.specs.CanCommit.{goes}
use Rattle.nv_calls.specs.Plain.{same_handle}
use Rattle.nv_calls.specs.Refusals.{found}
use Rattle.nv_calls.specs.Slots.{items_for}
use Rattle.nv_calls.specs.declared.call.Call.{Call}
use Rattle.nv_calls.specs.declared.call.Call.TheVariants as call
use Rattle.nv_calls.specs.declared.plan.InodePlan.{InodePlan}
use Rattle.nv_calls.specs.declared.allocation.Allocation.{Allocation}
use Rattle.nv_calls.specs.calls.Rename.{bound_plan, move_plan, own_place, replaced_plan}
use Rattle.nv_calls.specs.calls.Unlink.{leave_plan}
use Rattle.nv_calls.proofs.Grown.{last_behind, last_step}

-- the number of the only inode of a plan that goes
pub record OneGoes (plan : List InodePlan) : Type 0 where
  pub ino : ℕ
  pub only : AllByRecursion (λ (p : InodePlan). goes p.items ≡ true → p.handle.ino ≡ ino) plan

abbrev says : Option Item → Bool
says last = unwrap_or (option_map is_last_word last) false

goes_step : (x y : Item) (ys : List Item) → goes (x ∷ y ∷ ys) ≡ goes (y ∷ ys)
goes_step x y ys = ap says (last_step x y ys)

writes_stay : (first : ℕ) (runs : List BlockRun) (size : ℕ) → goes (write_items first runs size) ≡ true → ⊥
writes_stay first [] size h = cc
writes_stay first (run ∷ []) size h = cc
writes_stay first (run ∷ next ∷ runs) size h =
    writes_stay (first + run.len) (next ∷ runs) size
    (sym (goes_step _ _ (write_items (first + run.len + next.len) runs size)) ∙ h)

size_stays : (items : List Item) (size : ℕ) → goes (items ++ SetSize size ∷ []) ≡ true → ⊥
size_stays items size h =
    let last : goes (SetSize size ∷ []) ≡ true = sym (ap says (last_behind items (SetSize size) [])) ∙ h in
    cc

none_go : OneGoes []
none_go = record { ino = 0; only = tt }

leave_goes : (dir : Handle) (name : List ℕ) (bound : Option Handle) → OneGoes (leave_plan dir name bound)
leave_goes dir name None = none_go
leave_goes dir name (Some to) = record { ino = to.ino; only = (λ h. cc, (λ h. refl, tt)) }

replaced_goes : (other : Option Handle) → OneGoes (replaced_plan other)
replaced_goes None = none_go
replaced_goes (Some to) = record { ino = to.ino; only = (λ h. refl, tt) }

move_goes : (same : Bool) (from : Handle) (old : List ℕ) (to : Handle) (new : List ℕ) (moved : Handle) (rest : List InodePlan)
    → OneGoes rest → OneGoes (move_plan same from old to new moved rest)
move_goes true from old to new moved rest one = record {
  ino = one.ino;
  only = (λ h. let last : goes (Bind new moved ∷ []) ≡ true = sym (goes_step (Unbind old) (Bind new moved) []) ∙ h in cc, one.only);
}
move_goes false from old to new moved rest one = record { ino = one.ino; only = (λ h. cc, (λ h. cc, one.only)) }

bound_goes : (own : Bool) (from : Handle) (old : List ℕ) (to : Handle) (new : List ℕ) (bound other : Option Handle)
    → OneGoes (cond own [] (bound_plan from old to new bound other))
bound_goes true from old to new bound other = none_go
bound_goes false from old to new None other = none_go
bound_goes false from old to new (Some moved) other =
    move_goes (same_handle from to) from old to new moved (replaced_plan other) (replaced_goes other)

pub one_goes : (block : ℕ) (nodes : Handle → Option NodeCopy) (taken : Allocation) (c : Call) → OneGoes (plan block nodes taken c)
one_goes block nodes taken (call.Create dir name mode) = record { ino = 0; only = (λ h. cc, (λ h. cc, tt)) }
one_goes block nodes taken (call.Mkdir dir name mode) = record { ino = 0; only = (λ h. cc, (λ h. cc, tt)) }
one_goes block nodes taken (call.Write file offset []) = none_go
one_goes block nodes taken (call.Write file offset (byte ∷ rest)) =
    record { ino = 0; only = (λ h. absurd (writes_stay _ taken.runs _ h), tt) }
one_goes block nodes taken (call.Read file offset count) = none_go
one_goes block nodes taken (call.Size file size) = record {
  ino = 0;
  only = (λ h. absurd (size_stays (write_items (size / block) taken.runs size) size h), tt);
}
one_goes block nodes taken (call.Mode handle mode) = record { ino = 0; only = (λ h. cc, tt) }
one_goes block nodes taken (call.Stat handle) = none_go
one_goes block nodes taken (call.List dir) = none_go
one_goes block nodes taken (call.Lookup dir name) = none_go
one_goes block nodes taken (call.SnapshotOrCleaner c) = none_go
one_goes block nodes taken (call.Unlink dir name) = leave_goes dir name (found nodes dir name)
one_goes block nodes taken (call.Rmdir dir name) = leave_goes dir name (found nodes dir name)
one_goes block nodes taken (call.Rename from old to new) =
    bound_goes (own_place from old to new) from old to new (found nodes from old) (found nodes to new)

-- an inode whose items make it go is that one
pub goes_for : (plan : List InodePlan) (n ino : ℕ) → AllByRecursion (λ (p : InodePlan). goes p.items ≡ true → p.handle.ino ≡ n) plan
    → goes (items_for plan ino) ≡ true → ino ≡ n
goes_for [] n ino all h = cc
goes_for (p ∷ plan) n ino all h = go (p.handle.ino == ino) refl h (goes_for plan n ino all.1) where
  go : (b : Bool) → (p.handle.ino == ino) ≡ b → goes (cond b p.items (items_for plan ino)) ≡ true
      → (goes (items_for plan ino) ≡ true → ino ≡ n) → ino ≡ n
  go true q e rest = sym (eqb-true p.handle.ino ino q) ∙ all.0 e
  go false q e rest = rest e
