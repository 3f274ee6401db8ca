-- An unlink or an rmdir that is not refused has a plan with its effect.
use Rattle.std.proofs.Common.{◌≡◌, ℕ, ◌<◌, List, [], ◌∷◌, Option, Some, None}
use Rattle.nv_base.specs.declared.node.Kind.TheVariants.{File, Dir}
use Rattle.nv_base.specs.declared.numbers.Handle.{Handle}
use Rattle.nv_entry.specs.declared.item.Item.TheVariants.{Gone}
use Rattle.nv_entry.specs.declared.node.NodeCopy.{NodeCopy}
use Rattle.nv_calls.specs.Plain.{change, goes, node_in}
use Rattle.nv_calls.specs.Plan.{planned}
use Rattle.nv_calls.specs.AllCalls.{refusal}
use Rattle.nv_calls.specs.declared.call.Call.TheVariants as call
use Rattle.nv_calls.specs.Refusals.{Check, found, passes, want_bound}
use Rattle.nv_calls.specs.Slots.{IsPlan, InodeSlot, node_under}
use Rattle.nv_calls.specs.calls.Lookup.{lookup_refusal}
use Rattle.nv_calls.specs.calls.Unlink.{leave_effect, leave_plan}
use Rattle.nv_calls.proofs.Items.{and_gone, and_unbind, no_plan}
use Rattle.nv_calls.proofs.Passed.{HasKind, IsThere, both_passed, directory_passed, file_passed, look_passed, there}

module _ (bytes : ℕ → List ℕ) (block : ℕ) (slots : ℕ → InodeSlot) (some : 0 < block) (dir : Handle) (name : List ℕ) where
  abbrev nodes : Handle → Option NodeCopy
  nodes = node_in (node_under bytes block slots)

  leave_fits : (bound : Option Handle) (next : Handle → Check) → HasKind Dir (nodes dir)
      → ((to : Handle) → next to ≡ passes → IsThere (nodes to)) → want_bound bound next ≡ passes
      → IsPlan bytes block slots (leave_plan dir name bound) (leave_effect dir name bound)
  leave_fits None next d is_there h = cc
  leave_fits (Some to) next d is_there h =
      and_unbind bytes block slots some dir name (planned to (Gone ∷ []) ∷ []) (change to goes ∷ []) d
      (and_gone bytes block slots some to [] [] (is_there to h) (no_plan bytes block slots some))

  pub unlink_fits : refusal block nodes (call.Unlink dir name) ≡ passes
      → IsPlan bytes block slots (leave_plan dir name (found nodes dir name)) (leave_effect dir name (found nodes dir name))
  unlink_fits passed =
      let both = both_passed (lookup_refusal nodes dir name) _ passed in
      leave_fits (found nodes dir name) _ (look_passed nodes dir name both.0).0
      (λ to h. there File (nodes to) (file_passed (nodes to) passes h).0) both.1

  pub rmdir_fits : refusal block nodes (call.Rmdir dir name) ≡ passes
      → IsPlan bytes block slots (leave_plan dir name (found nodes dir name)) (leave_effect dir name (found nodes dir name))
  rmdir_fits passed =
      let both = both_passed (lookup_refusal nodes dir name) _ passed in
      leave_fits (found nodes dir name) _ (look_passed nodes dir name both.0).0
      (λ to h. there Dir (nodes to) (directory_passed (nodes to) _ h).0) both.1
