-- It is told of a call whether it commits nothing.
use Rattle.std.proofs.Common.{◌≡◌, ℕ, ◌<◌, Bool, true, false, cond, List, [], ◌∷◌, length, Option, Some, None, arith, refl}
use Rattle.nv_base.specs.declared.numbers.Handle.{Handle}
use Rattle.nv_entry.specs.declared.node.NodeCopy.{NodeCopy}
use Rattle.nv_calls.specs.AllCalls.{IsToldNothing, effect, is_nothing, plan, refusal}
use Rattle.nv_calls.specs.declared.call.Call.{Call}
use Rattle.nv_calls.specs.declared.call.Call.TheVariants as call
use Rattle.nv_calls.specs.declared.allocation.Allocation.{Allocation}
use Rattle.nv_calls.specs.Plain.{same_handle}
use Rattle.nv_calls.specs.Refusals.{Check, found, passes, want_bound}
use Rattle.nv_calls.specs.calls.Lookup.{lookup_refusal}
use Rattle.nv_calls.specs.calls.Rename.{bound_effect, bound_plan, move_effect, move_plan, own_place, rename_early, replaced_effect, replaced_plan}
use Rattle.nv_calls.specs.calls.Unlink.{leave_effect, leave_plan}
use Rattle.nv_calls.proofs.Passed.{both_passed}

module _ (block : ℕ) (nodes : Handle → Option NodeCopy) (taken : Allocation) where
  abbrev IsTold : Call → Type 0
  IsTold c = IsToldNothing block nodes taken c

  -- a call that always commits, and one that never does
  commits : (c : Call) → is_nothing c ≡ false → 0 < length (effect nodes taken.made c) → 0 < length (plan block nodes taken c) → IsTold c
  commits c some e p = record { no_effect = λ h. cc; no_plan = λ h. cc; some_effect = λ h. e; some_plan = λ h. p }

  nothing : (c : Call) → is_nothing c ≡ true → effect nodes taken.made c ≡ [] → plan block nodes taken c ≡ [] → IsTold c
  nothing c none e p = record { no_effect = λ h. e; no_plan = λ h. p; some_effect = λ h. cc; some_plan = λ h. cc }

  -- a name that leads somewhere
  leaves : (dir : Handle) (name : List ℕ) (bound : Option Handle) (next : Handle → Check) → want_bound bound next ≡ passes
      → (0 < length (leave_effect dir name bound)) × (0 < length (leave_plan dir name bound))
  leaves dir name None next h = cc
  leaves dir name (Some to) next h = (omega arith, omega arith)

  moves : (same : Bool) (from : Handle) (old : List ℕ) (to : Handle) (new : List ℕ) (moved : Handle) (other : Option Handle)
      → (0 < length (move_effect same from old to new moved (replaced_effect other)))
      × (0 < length (move_plan same from old to new moved (replaced_plan other)))
  moves true from old to new moved other = (omega arith, omega arith)
  moves false from old to new moved other = (omega arith, omega arith)

  bound_moves : (from : Handle) (old : List ℕ) (to : Handle) (new : List ℕ) (bound other : Option Handle) (next : Handle → Check)
      → want_bound bound next ≡ passes
      → (0 < length (bound_effect from old to new bound other)) × (0 < length (bound_plan from old to new bound other))
  bound_moves from old to new None other next h = cc
  bound_moves from old to new (Some moved) other next h = moves (same_handle from to) from old to new moved other

  own_or_not : (own : Bool) (from : Handle) (old : List ℕ) (to : Handle) (new : List ℕ) (bound other : Option Handle)
      → own_place from old to new ≡ own → (0 < length (bound_effect from old to new bound other))
      × (0 < length (bound_plan from old to new bound other))
      → (own ≡ true → cond own [] (bound_effect from old to new bound other) ≡ [])
      × (own ≡ true → cond own [] (bound_plan from old to new bound other) ≡ [])
      × (own ≡ false → 0 < length (cond own [] (bound_effect from old to new bound other)))
      × (own ≡ false → 0 < length (cond own [] (bound_plan from old to new bound other)))
  own_or_not true from old to new bound other is some = (λ h. refl, λ h. refl, λ h. cc, λ h. cc)
  own_or_not false from old to new bound other is some = (λ h. cc, λ h. cc, λ h. some.0, λ h. some.1)

  pub told_nothing : (c : Call) → refusal block nodes c ≡ passes → IsTold c
  told_nothing (call.Create dir name mode) h = commits (call.Create dir name mode) refl (omega arith) (omega arith)
  told_nothing (call.Mkdir dir name mode) h = commits (call.Mkdir dir name mode) refl (omega arith) (omega arith)
  told_nothing (call.Write file offset []) h = nothing (call.Write file offset []) refl refl refl
  told_nothing (call.Write file offset (byte ∷ rest)) h = commits (call.Write file offset (byte ∷ rest)) refl (omega arith) (omega arith)
  told_nothing (call.Read file offset count) h = nothing (call.Read file offset count) refl refl refl
  told_nothing (call.Size file size) h = commits (call.Size file size) refl (omega arith) (omega arith)
  told_nothing (call.Mode handle mode) h = commits (call.Mode handle mode) refl (omega arith) (omega arith)
  told_nothing (call.Stat handle) h = nothing (call.Stat handle) refl refl refl
  told_nothing (call.List dir) h = nothing (call.List dir) refl refl refl
  told_nothing (call.Lookup dir name) h = nothing (call.Lookup dir name) refl refl refl
  told_nothing (call.SnapshotOrCleaner c) h = nothing (call.SnapshotOrCleaner c) refl refl refl
  told_nothing (call.Unlink dir name) h =
      let both = both_passed (lookup_refusal nodes dir name) _ h in
      let some = leaves dir name (found nodes dir name) _ both.1 in
      commits (call.Unlink dir name) refl some.0 some.1
  told_nothing (call.Rmdir dir name) h =
      let both = both_passed (lookup_refusal nodes dir name) _ h in
      let some = leaves dir name (found nodes dir name) _ both.1 in
      commits (call.Rmdir dir name) refl some.0 some.1
  told_nothing (call.Rename from old to new) h =
      let both = both_passed (rename_early nodes from old to new) _ h in
      let some = bound_moves from old to new (found nodes from old) (found nodes to new) _ both.1 in
      let own = own_or_not (own_place from old to new) from old to new (found nodes from old) (found nodes to new) refl some in
      record { no_effect = own.0; no_plan = own.1; some_effect = own.2; some_plan = own.3 }
