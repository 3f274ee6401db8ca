-- The tests of a look pass where a call passed its check, and the look then finds what the name is bound to.
use Rattle.std.proofs.Common.{◌≡◌, ◌⊎◌, inl, inr, ℕ, Bool, List, not, Option, Some, ap, sym, ◌∙◌}
use Rattle.std.specs.Prelude.{IsTrue}
use Rattle.nv_base.specs.Names.{is_lawful_name}
use Rattle.nv_base.specs.declared.fault.Fault.TheVariants as fault
use Rattle.nv_base.specs.declared.node.Kind.{Kind}
use Rattle.nv_base.specs.declared.node.Kind.TheVariants.{Dir}
use Rattle.nv_base.specs.declared.numbers.Handle.{Handle}
use Rattle.nv_entry.specs.declared.node.NodeCopy.{NodeCopy}
use Rattle.nv_calls.specs.AllCalls.{refusal}
use Rattle.nv_calls.specs.Refusals.{Check, and_find, found, found_by, kind_of, lookup, passes, refuse_if, want_directory, want_lawful}
use Rattle.nv_calls.specs.Updates.{blank_call}
use Rattle.nv_calls.specs.calls.Lookup.{lookup_refusal}
use Rattle.nv_calls.specs.declared.call.Call.TheVariants as call
use Rattle.nv_calls.specs.declared.update.Update.{Update}
use Rattle.nv_calls.specs.declared.update.Update.TheVariants as update
use Rattle.nv_calls.proofs.Passed.{HasKind, both_passed, look_passed}

module _ (nodes : Handle → Option NodeCopy) where
  -- the tests of a look
  abbrev tests : Handle → List ℕ → Check
  tests dir name = want_directory (kind_of (nodes dir)) (want_lawful name passes)

  pub finds : (dir : Handle) (name : List ℕ) → tests dir name ≡ passes → lookup nodes dir name ≡ found nodes dir name
  finds dir name allowed = sym (ap (λ (test : Check). found_by (and_find test (lookup nodes dir name))) allowed)

  pub may_look : (dir : Handle) (name : List ℕ) → HasKind Dir (nodes dir) → IsTrue (is_lawful_name name) → tests dir name ≡ passes
  may_look dir name there lawful =
      ap (λ (node : Option NodeCopy). want_directory (kind_of node) (want_lawful name passes)) there.is
      ∙ ap (λ (kind : Kind). want_directory (Some kind) (want_lawful name passes)) there.kind_is
      ∙ ap (λ (b : Bool). refuse_if (not b) fault.BadName passes) lawful

  may_look_first : (dir : Handle) (name : List ℕ) → lookup_refusal nodes dir name ≡ passes → tests dir name ≡ passes
  may_look_first dir name passed = let l = look_passed nodes dir name passed in may_look dir name l.0 l.1

  -- so does that of the name that a call takes out
  pub may_leave : (block : ℕ) (u : Update) (dir : Handle) (name : List ℕ) → (u ≡ update.Unlink dir name) ⊎ (u ≡ update.Rmdir dir name)
      → refusal block nodes (blank_call u) ≡ passes → tests dir name ≡ passes
  may_leave block u dir name (inl is) passed =
      let own : refusal block nodes (call.Unlink dir name) ≡ passes = rw is at passed in
      may_look_first dir name (both_passed (lookup_refusal nodes dir name) _ own).0
  may_leave block u dir name (inr is) passed =
      let own : refusal block nodes (call.Rmdir dir name) ≡ passes = rw is at passed in
      may_look_first dir name (both_passed (lookup_refusal nodes dir name) _ own).0
