-- A check refuses its call for the first rule that applies, of which want of a number is the last.
use Rattle.std.proofs.Common.{◌≡◌, ◌∙◌, ℕ, Bool, true, false, cond, List, [], ◌∷◌, ◌++◌, Some, ap, not, refl, sym}
use Rattle.std.specs.Prelude.{Err, Ok}
use Rattle.nv_base.specs.declared.fault.Fault.TheVariants.{NoInode}
use Rattle.nv_calls.specs.AllCalls.{early, effect, late, looked, refusal}
use Rattle.nv_calls.specs.Plain.{Change}
use Rattle.nv_calls.specs.Refusals.{Check as Tests, and_then, passes}
use Rattle.nv_calls.specs.Rules.{first_rules, first_that_applies, looks_up, rules, second_rules}
use Rattle.nv_calls.proofs.Rules.{by_rules, early_by_rules, joined}
use Rattle.nv_machine.specs.CheckOrder.{bound_anew, number_rule, tests_of}
use Rattle.nv_machine.specs.Kinds.{check_ending}
use Rattle.nv_machine.specs.Reads.{copies}
use Rattle.nv_machine.specs.Sequence.{beginning}
use Rattle.nv_machine.specs.Step.{ending_at, is_numbered, made_in, same_looked}
use Rattle.nv_machine.specs.World.{HandState, Running, Shared}

in_order : (first rest : Tests) (same numbered : Bool) (changes : List Change) → same ≡ true
    → tests_of (check_ending first same (and_then first rest) numbered changes)
    ≡ and_then (and_then first rest) (cond (not numbered) (Err NoInode) passes)
in_order (Err fault) rest same numbered changes is = refl
in_order (Ok passed) rest false numbered changes is = cc
in_order (Ok passed) (Err fault) true numbered changes is = refl
in_order (Ok passed) (Ok all) true false changes is = refl
in_order (Ok passed) (Ok all) true true [] is = refl
in_order (Ok passed) (Ok all) true true (change ∷ changes) is = refl

anew : (first tests : Tests) (same numbered : Bool) (changes : List Change) → same ≡ false
    → check_ending first same tests numbered changes ≡ Some (bound_anew first)
anew (Err fault) tests same numbered changes is = refl
anew (Ok passed) tests false numbered changes is = refl
anew (Ok passed) tests true numbered changes is = cc

module _ (block : ℕ) (s : Shared) (h : HandState) (r : Running) where
  pub refused_in_order : same_looked (looked (copies s) r.call) r.looked ≡ true
      → tests_of (ending_at block s h r) ≡ first_that_applies (rules block (copies s) r.call ++ number_rule h r ∷ [])
  refused_in_order same =
      in_order (early (copies s) r.call) (late block (copies s) (looked (copies s) r.call) r.call) _
      (is_numbered (beginning r.call) h.ino) (effect (copies s) (made_in s h.ino r.made) r.call) same
      ∙ ap (λ (tests : Tests). and_then tests (cond (not (is_numbered (beginning r.call) h.ino)) (Err NoInode) passes))
      (by_rules block (copies s) r.call)
      ∙ sym (joined (rules block (copies s) r.call) (number_rule h r ∷ []))

  pub refused_anew : looks_up r.call ≡ true → same_looked (looked (copies s) r.call) r.looked ≡ false
      → ending_at block s h r
      ≡ Some (bound_anew (first_that_applies (first_rules (copies s) r.call ++ second_rules (copies s) r.call)))
  refused_anew looks other =
      anew (early (copies s) r.call) (refusal block (copies s) r.call) _ (is_numbered (beginning r.call) h.ino)
      (effect (copies s) (made_in s h.ino r.made) r.call) other
      ∙ ap (λ (tests : Tests). Some (bound_anew tests)) (early_by_rules (copies s) r.call looks)
