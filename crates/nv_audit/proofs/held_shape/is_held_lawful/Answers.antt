use Rattle.std.proofs.Common.{◌≡◌, ℕ, Bool, true, false, not, List, refl, subst, sym, ◌∙◌}
use Rattle.std.specs.Prelude.{◌↔◌, IsTrue, None}
use Rattle.std.proofs.lemmas.Bool.{false≢true}
use Rattle.nv_entry.specs.Shape.{AreLawful, items_of}
use Rattle.nv_entry.specs.declared.item.Entry.{Entry}
use Rattle.nv_audit.proofs.held_shape.is_held_lawful.Goals as goal

pub returns-then-are_lawful_from-clause-ok : goal.returns-then-are_lawful_from-clause-ok
returns-then-are_lawful_from-clause-ok c =
    let own = c.args.logged.now in
    let given : AreLawful c.block_bytes.result (items_of c.log.result.now) None =
    c.are_lawful_from.ensures.0 c.if-are_lawful_from.true in
    let lawful : AreLawful own.block (items_of own.log) None =
    subst (λ (b : ℕ). AreLawful b (items_of own.log) None) c.block_bytes.ensures.value
    (subst (λ (es : List Entry). AreLawful c.block_bytes.result (items_of es) None) c.log.ensures.value given) in
    (λ is held. lawful, λ all. refl)

-- where a log is not lawful, it is so only where nothing of it is held
only_unheld : (held is : Bool) (Law : Type 0) → held ≡ is → (Law → ⊥) → IsTrue (not held) ↔ (is ≡ true → Law)
only_unheld true is Law same none = (λ f. absurd (false≢true f), λ law. absurd (none (law (sym same))))
only_unheld false is Law same none = (λ f yes. absurd (false≢true (same ∙ yes)), λ law. refl)

pub returns-clause-ok : goal.returns-clause-ok
returns-clause-ok c =
    let own = c.args.logged.now in
    let given = λ (lawful : AreLawful own.block (items_of own.log) None).
    subst (λ (es : List Entry). AreLawful c.block_bytes.result (items_of es) None) (sym c.log.ensures.value)
    (subst (λ (b : ℕ). AreLawful b (items_of own.log) None) (sym c.block_bytes.ensures.value) lawful) in
    only_unheld c.in_ok-held.held _ (AreLawful own.block (items_of own.log) None) c.in_ok-held.ensures.ok
    (λ lawful. false≢true (sym c.if-are_lawful_from.false ∙ c.are_lawful_from.ensures.1 (given lawful)))
