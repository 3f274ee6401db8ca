use Rattle.std.proofs.Common.{◌≡◌, ◌∙◌, ◌++◌, [], ◌∷◌, List, ap, sym, ℕ}
use Rattle.nv_base.specs.Names.{same_name}
use Rattle.nv_example_store.specs.Keys.{scratch}
use Rattle.nv_example_store.proofs.ReadSteps.{key_kept, key_left}
use Rattle.nv_example_store.proofs.steps.keys_among.Goals.{then-not-is_scratch+in_ok-copied+in_ok-push, else-not-is_scratch}
use Rattle.nv_example_store.proofs.steps.keys_among.Goals as goal

pub loop-bound-preserved : goal.loop-bound-preserved
loop-bound-preserved c =
    let names = c.args.names.now in
    let i = c.loop-bound.bound-index in
    let d = c.bound-item.result in
    let tested : c.is_scratch.result ≡ same_name d.name scratch =
    c.is_scratch.ensures ∙ ap (λ (n : List ℕ). same_name n scratch) c.bytes.ensures.value in
    elim c.if-not-is_scratch.branch [
      | then-not-is_scratch+in_ok-copied+in_ok-push w ↦
          ap (λ v. v.items) w.keys-is ∙ w.in_ok-push.ensures.items
          ∙ ap (λ (n : List ℕ). c.loop-bound.keys.items ++ n ∷ []) w.in_ok-copied.ensures
          ∙ key_kept names i d c.loop-bound.keys.items c.loop-bound-test.true c.bound-item.is (sym tested ∙ w.if-not-is_scratch.true)
          c.loop-bound.invariant
      | else-not-is_scratch w ↦
          ap (λ v. v.items) w.keys-is
          ∙ key_left names i d c.loop-bound.keys.items c.loop-bound-test.true c.bound-item.is (sym tested ∙ w.if-not-is_scratch.false)
          c.loop-bound.invariant
    ]
