-- How the tests of a check end a call.
use Rattle.std.proofs.Common.{◌≡◌, ℕ, ◌&&◌, ◌||◌, ◌==◌, ◌∙◌, Bool, true, false, not, [], Option, Some, None, refl, ap, ap₂, sym}
use Rattle.std.specs.Prelude.{is_some, Ok, Err}
use Rattle.std.specs.Result.{result_err}
use Rattle.std.proofs.lemmas.Bool.{and_parts, eqb-true, eq-eqb}
use Rattle.nv_base.specs.declared.fault.Fault.{Fault}
use Rattle.nv_base.specs.declared.fault.Fault.TheVariants as fault
use Rattle.nv_base.specs.declared.numbers.Handle.{Handle}
use Rattle.nv_entry.specs.declared.node.NodeCopy.{NodeCopy}
use Rattle.nv_calls.specs.AllCalls.{early, is_nothing, late, looked, refusal}
use Rattle.nv_calls.specs.Checked.{check_ends, check_refusal, ends_over, refusal_by, same_found, same_looked}
use Rattle.nv_calls.specs.Nodes.{nodes_in}
use Rattle.nv_calls.specs.Plain.{same_handle}
use Rattle.nv_calls.specs.Prepared.{makes}
use Rattle.nv_calls.specs.Refusals.{Check, and_then, passes, refuse_if}
use Rattle.nv_calls.specs.Updates.{blank_call}
use Rattle.nv_calls.specs.declared.call.Call.{Call}
use Rattle.nv_calls.specs.declared.looked.LookupResult.{LookupResult}
use Rattle.nv_calls.specs.declared.update.Update.{Update}
use Rattle.nv_calls.specs.declared.update.Update.TheVariants as update
use Rattle.nv_calls.proofs.Commits.{handle-same}

-- ---- what the looks found

handle_self : (h : Handle) → same_handle h h ≡ true
handle_self h = rw (eq-eqb h.ino h.ino refl) (eq-eqb h.generation h.generation refl)

found_self : (o : Option Handle) → same_found o o ≡ true
found_self None = refl
found_self (Some h) = handle_self h

pub looked_self : (l : LookupResult) → same_looked l l ≡ true
looked_self l = rw (found_self l.first) (found_self l.second)

pub handle_is : (a b : Handle) → same_handle a b ≡ true → a ≡ b
handle_is a b h =
    let parts = and_parts (a.ino == b.ino) (a.generation == b.generation) h in
    handle-same a b (eqb-true a.ino b.ino parts.0) (eqb-true a.generation b.generation parts.1)

found_is : (a b : Option Handle) → same_found a b ≡ true → a ≡ b
found_is None None h = refl
found_is None (Some b) h = cc
found_is (Some a) None h = cc
found_is (Some a) (Some b) h = ap Some (handle_is a b h)

pub looked_is : (a b : LookupResult) → same_looked a b ≡ true → a ≡ b
looked_is a b h =
    let parts = and_parts (same_found a.first b.first) (same_found a.second b.second) h in
    ap₂ (λ (first second : Option Handle). let made : LookupResult = record { first = first; second = second } in made)
    (found_is a.first b.first parts.0) (found_is a.second b.second parts.1)

-- ---- by the tests alone

-- one of all refuses, where the names are as they were
refuses : (e l : Check) (numbered nothing : Bool) → refusal_by (check_ends e true l numbered nothing)
    ≡ and_then (and_then e l) (refuse_if (not numbered) fault.NoInode passes)
refuses (Err f) l numbered nothing = refl
refuses (Ok passed) (Err f) numbered nothing = refl
refuses (Ok passed) (Ok all) false nothing = refl
refuses (Ok passed) (Ok all) true true = refl
refuses (Ok passed) (Ok all) true false = refl

-- ---- over nodes

numbered_by : (has makes : Bool) → not (has || not makes) ≡ (makes && not has)
numbered_by true true = refl
numbered_by true false = refl
numbered_by false true = refl
numbered_by false false = refl

module _ (block : ℕ) (n : Handle → Option NodeCopy) (before : LookupResult) (number : Option ℕ) (u : Update) where
  abbrev c : Call
  c = blank_call u

  abbrev numbered : Bool
  numbered = is_some number || not (makes u)

  abbrev refused : Check
  refused = refusal_by (ends_over block n before (is_some number) u)

  pub told : looked n c ≡ before → refused ≡ check_refusal block n number u
  told same =
      ap (λ (b : Bool). refusal_by (check_ends (early n c) b (late block n before c) numbered (is_nothing c)))
      (ap (λ (l : LookupResult). same_looked l before) same ∙ looked_self before)
      ∙ refuses (early n c) (late block n before c) numbered (is_nothing c)
      ∙ ap₂ (λ (l : LookupResult) (lacks : Bool). and_then (and_then (early n c) (late block n l c)) (refuse_if lacks fault.NoInode passes))
      (sym same) (numbered_by (is_some number) (makes u))

-- with no cells a handle leads nowhere
pub stale_none : (block : ℕ) (u : Update) → refusal block (nodes_in []) (blank_call u) ≡ Err fault.Stale
stale_none block (update.Create dir name mode) = refl
stale_none block (update.Mkdir dir name mode) = refl
stale_none block (update.Write file offset count) = refl
stale_none block (update.Size file size) = refl
stale_none block (update.Mode handle mode) = refl
stale_none block (update.Unlink dir name) = refl
stale_none block (update.Rmdir dir name) = refl
stale_none block (update.Rename from old to new) = refl

-- a test that passes with others passes alone
pub passes_first : (test next : Check) → and_then test next ≡ passes → test ≡ passes
passes_first (Ok passed) next h = refl
passes_first (Err f) next h = cc

-- and two that no fault refuses pass together
pub passes_both : (test next : Check) → test ≡ passes → result_err next ≡ None → and_then test next ≡ passes
passes_both (Ok passed) (Ok all) h none = refl
passes_both (Ok passed) (Err f) h none = cc
passes_both (Err f) next h none = cc
