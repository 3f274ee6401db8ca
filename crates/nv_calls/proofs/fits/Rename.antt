-- A rename that is not refused has a plan with its effect.
use Rattle.std.proofs.Common.{◌≡◌, ℕ, ◌<◌, Bool, true, false, cond, List, [], ◌∷◌, Option, Some, None, refl}
use Rattle.nv_base.specs.declared.node.Kind.{Kind}
use Rattle.nv_base.specs.declared.node.Kind.TheVariants.{Dir}
use Rattle.nv_base.specs.declared.numbers.Handle.{Handle}
use Rattle.nv_entry.specs.declared.item.Item.TheVariants.{Bind}
use Rattle.nv_entry.specs.declared.node.NodeCopy.{NodeCopy}
use Rattle.nv_entry.specs.Index.{with_last}
use Rattle.nv_calls.specs.Plain.{Change, change, node_in, same_handle, with_names}
use Rattle.nv_calls.specs.declared.plan.InodePlan.{InodePlan}
use Rattle.nv_calls.specs.Plan.{planned}
use Rattle.nv_calls.specs.AllCalls.{looked, refusal}
use Rattle.nv_calls.specs.declared.call.Call.TheVariants as call
use Rattle.nv_calls.specs.Refusals.{found, kind_of, passes, want_bound}
use Rattle.nv_calls.specs.Slots.{IsPlan, InodeSlot, node_under}
use Rattle.nv_calls.specs.calls.Rename.{bound_effect, bound_plan, move_effect, move_plan, moved_refusal, own_place, pass_if, rename_effect, rename_plan, replaced_effect, replaced_plan, replaced_refusal}
use Rattle.nv_calls.proofs.Items.{and_bind, and_gone, and_move, and_unbind, no_plan}
use Rattle.nv_calls.proofs.Passed.{HasKind, elsewhere, moved_passed, names_passed, node_passed}

module _ (bytes : ℕ → List ℕ) (block : ℕ) (slots : ℕ → InodeSlot) (some : 0 < block) (from : Handle) (old : List ℕ) (to : Handle)
    (new : List ℕ) where
  abbrev nodes : Handle → Option NodeCopy
  nodes = node_in (node_under bytes block slots)

  abbrev Plans : List InodePlan → List Change → Type 0
  Plans plan effect = IsPlan bytes block slots plan effect

  replaced_fits : (moved : Option Kind) (other : Option Handle) → replaced_refusal nodes moved other ≡ passes
      → Plans (replaced_plan other) (replaced_effect other)
  replaced_fits moved None h = no_plan bytes block slots some
  replaced_fits moved (Some other) h =
      and_gone bytes block slots some other [] [] (node_passed (nodes other) _ h).0 (no_plan bytes block slots some)

  move_fits : (same : Bool) (moved : Handle) (plan : List InodePlan) (effect : List Change) → HasKind Dir (nodes from)
      → HasKind Dir (nodes to)
      → Plans plan effect → Plans (move_plan same from old to new moved plan) (move_effect same from old to new moved effect)
  move_fits true moved plan effect f t rest = and_move bytes block slots some from old new moved plan effect f rest
  move_fits false moved plan effect f t rest =
      and_unbind bytes block slots some from old (planned to (Bind new moved ∷ []) ∷ plan)
      (change to (with_names (with_last new moved)) ∷ effect) f
      (and_bind bytes block slots some to new moved plan effect t rest)

  bound_fits : (own : Bool) (bound other : Option Handle) → own_place from old to new ≡ own → HasKind Dir (nodes from)
      → HasKind Dir (nodes to)
      → want_bound bound (λ moved. pass_if (own_place from old to new) (moved_refusal nodes from to other moved)) ≡ passes
      → Plans (cond own [] (bound_plan from old to new bound other)) (cond own [] (bound_effect from old to new bound other))
  bound_fits own None other is f t h = cc
  bound_fits true (Some moved) other is f t h = no_plan bytes block slots some
  bound_fits false (Some moved) other is f t h =
      let m = moved_passed block nodes from old to new moved other
      (elsewhere (own_place from old to new) (moved_refusal nodes from to other moved) is h) in
      move_fits (same_handle from to) moved (replaced_plan other) (replaced_effect other) f t
      (replaced_fits (kind_of (nodes moved)) other m.1)

  pub rename_fits : refusal block nodes (call.Rename from old to new) ≡ passes
      → Plans (rename_plan from old to new (looked nodes (call.Rename from old to new)))
      (rename_effect from old to new (looked nodes (call.Rename from old to new)))
  rename_fits passed =
      let names = names_passed block nodes from old to new passed in
      bound_fits (own_place from old to new) (found nodes from old) (found nodes to new) refl names.0 names.1 names.4
