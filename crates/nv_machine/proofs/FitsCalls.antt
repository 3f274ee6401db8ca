-- What a call that passes its check plans, of which nodes, and when what it has taken is what it needs.
use Rattle.std.proofs.Common.{◌≡◌, ◌⊎◌, ℕ, ◌<◌, ◌∙◌, Bool, true, false, cond, List, [], ◌∷◌, Option, Some, None, inl, inr, length, refl, sym}
use Rattle.std.specs.List.{AllByRecursion}
use Rattle.nv_base.specs.declared.node.Kind.TheVariants.{File, Dir}
use Rattle.nv_base.specs.declared.numbers.Handle.{Handle}
use Rattle.nv_calls.specs.AllCalls.{blocks_wanted, plan, refusal}
use Rattle.nv_calls.specs.Plain.{node_in, same_handle}
use Rattle.nv_calls.specs.Plan.{plan_blocks}
use Rattle.nv_calls.specs.Refusals.{Check, found, kind_of, passes, want_bound}
use Rattle.nv_calls.specs.Slots.{InodeSlot, node_under}
use Rattle.nv_calls.specs.calls.Rename.{bound_plan, move_plan, moved_refusal, own_place, pass_if, replaced_plan, replaced_refusal}
use Rattle.nv_calls.specs.calls.Unlink.{leave_plan}
use Rattle.nv_calls.specs.declared.call.Call.{Call}
use Rattle.nv_calls.specs.declared.call.Call.TheVariants as call
use Rattle.nv_calls.specs.declared.plan.InodePlan.{InodePlan}
use Rattle.nv_calls.specs.declared.allocation.Allocation.{Allocation}
use Rattle.nv_calls.proofs.Keeps.{bound_none, cut_blocks-are, leave_none, write_blocks-are}
use Rattle.nv_calls.proofs.Passed.{IsThere, both_passed, directory_passed, elsewhere, file_passed, look_passed, moved_passed, names_passed, node_passed, there}
use Rattle.nv_entry.specs.Sound.{blocks_of}
use Rattle.std.proofs.lemmas.List.{append-nil}
use Rattle.nv_entry.specs.declared.node.NodeCopy.{NodeCopy}
use Rattle.nv_machine.specs.Hands.{makes_inode}
use Rattle.nv_machine.specs.Sequence.{beginning}

-- ---- plans are of nodes that are there, and of the new one

abbrev pub IsOfNode : (Handle → Option NodeCopy) → Bool → Handle → InodePlan → Type 0
IsOfNode nodes makes made p = ((makes ≡ true) × (p.handle ≡ made)) ⊎ IsThere (nodes p.handle)

module _ (bytes : ℕ → List ℕ) (block : ℕ) (slots : ℕ → InodeSlot) (taken : Allocation) (some : 0 < block) where
  abbrev nodes : Handle → Option NodeCopy
  nodes = node_in (node_under bytes block slots)

  abbrev Are : Bool → List InodePlan → Type 0
  Are makes plan = AllByRecursion (IsOfNode nodes makes taken.made) plan

  leave_there : (dir : Handle) (name : List ℕ) (bound : Option Handle) (next : Handle → Check) → IsThere (nodes dir)
      → ((to : Handle) → next to ≡ passes → IsThere (nodes to)) → want_bound bound next ≡ passes → Are false (leave_plan dir name bound)
  leave_there dir name None next d each h = tt
  leave_there dir name (Some to) next d each h = (inr d, (inr (each to h), tt))

  replaced_there : (moved : _) (other : Option Handle) → replaced_refusal nodes moved other ≡ passes → Are false (replaced_plan other)
  replaced_there moved None h = tt
  replaced_there moved (Some other) h = (inr (node_passed (nodes other) _ h).0, tt)

  move_there : (same : Bool) (from : Handle) (old : List ℕ) (to : Handle) (new : List ℕ) (moved : Handle) (rest : List InodePlan)
      → IsThere (nodes from) → IsThere (nodes to) → Are false rest → Are false (move_plan same from old to new moved rest)
  move_there true from old to new moved rest f t all = (inr f, all)
  move_there false from old to new moved rest f t all = (inr f, (inr t, all))

  bound_there : (own : Bool) (from : Handle) (old : List ℕ) (to : Handle) (new : List ℕ) (bound other : Option Handle)
      → own_place from old to new ≡ own → IsThere (nodes from) → IsThere (nodes to)
      → want_bound bound (λ moved. pass_if (own_place from old to new) (moved_refusal nodes from to other moved)) ≡ passes
      → Are false (cond own [] (bound_plan from old to new bound other))
  bound_there true from old to new bound other is f t h = tt
  bound_there false from old to new None other is f t h = tt
  bound_there false from old to new (Some moved) other is f t h =
      let m = moved_passed block nodes from old to new moved other
      (elsewhere (own_place from old to new) (moved_refusal nodes from to other moved) is h) in
      move_there (same_handle from to) from old to new moved (replaced_plan other) f t (replaced_there (kind_of (nodes moved)) other m.1)

  write_there : (file : Handle) (offset : ℕ) (text : List ℕ) → refusal block nodes (call.Write file offset text) ≡ passes
      → Are false (plan block nodes taken (call.Write file offset text))
  write_there file offset [] h = tt
  write_there file offset (byte ∷ rest) h = (inr (there File (nodes file) (file_passed (nodes file) _ h).0), tt)

  pub planned_there : (c : Call) → refusal block nodes c ≡ passes → Are (makes_inode (beginning c)) (plan block nodes taken c)
  planned_there (call.Create dir name mode) h = (inr (there Dir (nodes dir) (directory_passed (nodes dir) _ h).0), (inl (refl, refl), tt))
  planned_there (call.Mkdir dir name mode) h = (inr (there Dir (nodes dir) (directory_passed (nodes dir) _ h).0), (inl (refl, refl), tt))
  planned_there (call.Write file offset text) h = write_there file offset text h
  planned_there (call.Size file size) h = (inr (there File (nodes file) (file_passed (nodes file) _ h).0), tt)
  planned_there (call.Mode handle mode) h = (inr (node_passed (nodes handle) _ h).0, tt)
  planned_there (call.Unlink dir name) h =
      let both = both_passed _ _ h in
      leave_there dir name (found nodes dir name) _ (there Dir (nodes dir) (look_passed nodes dir name both.0).0)
      (λ to next. there File (nodes to) (file_passed (nodes to) passes next).0) both.1
  planned_there (call.Rmdir dir name) h =
      let both = both_passed _ _ h in
      leave_there dir name (found nodes dir name) _ (there Dir (nodes dir) (look_passed nodes dir name both.0).0)
      (λ to next. there Dir (nodes to) (directory_passed (nodes to) _ next).0) both.1
  planned_there (call.Rename from old to new) h =
      let names = names_passed block nodes from old to new h in
      bound_there (own_place from old to new) from old to new (found nodes from old) (found nodes to new) refl
      (there Dir (nodes from) names.0) (there Dir (nodes to) names.1) names.4
  planned_there other h = tt

-- ---- a plan uses all blocks of a call that has as many as it wants

no_length : (xs : List ℕ) → length xs ≡ 0 → xs ≡ []
no_length [] e = refl
no_length (x ∷ xs) e = cc

pub plan_all : (block : ℕ) (nodes : Handle → Option NodeCopy) (taken : Allocation) (present : Bool) (c : Call)
    → length (blocks_of taken.runs) ≡ blocks_wanted block nodes present c
    → plan_blocks (plan block nodes taken c) ≡ blocks_of taken.runs
plan_all block nodes taken present (call.Write file offset (byte ∷ rest)) e = append-nil _ ∙ write_blocks-are _ taken.runs _
plan_all block nodes taken present (call.Size file size) e = append-nil _ ∙ cut_blocks-are _ taken.runs size
plan_all block nodes taken present (call.Unlink dir name) e =
    leave_none block nodes taken dir name (found nodes dir name) ∙ sym (no_length (blocks_of taken.runs) e)
plan_all block nodes taken present (call.Rmdir dir name) e =
    leave_none block nodes taken dir name (found nodes dir name) ∙ sym (no_length (blocks_of taken.runs) e)
plan_all block nodes taken present (call.Rename from old to new) e =
    bound_none block nodes taken from old to new (own_place from old to new) (found nodes from old) (found nodes to new)
    ∙ sym (no_length (blocks_of taken.runs) e)
plan_all block nodes taken present other e = sym (no_length (blocks_of taken.runs) e)
