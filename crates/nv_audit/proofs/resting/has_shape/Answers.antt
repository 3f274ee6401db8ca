use Rattle.std.proofs.Common.{ℕ, List, ap, subst, sym, ◌∙◌}
use Rattle.std.specs.Prelude.{◌↔◌, IsTrue}
use Rattle.std.proofs.lemmas.Bool.{false≢true}
use Rattle.nv_cell.specs.Cell.{log_of}
use Rattle.nv_cell.specs.Shape.{IsLeftShaped}
use Rattle.nv_entry.specs.declared.item.Entry.{Entry}
use Rattle.nv_log.specs.Chain.{log}
use Rattle.nv_audit.specs.LogShape.{IsHeldLawful}
use Rattle.nv_audit.specs.Logged.{LoggedValue}
use Rattle.nv_audit.proofs.resting.has_shape.Goals as goal

pub returns-then-not-is_left_shaped-clause-ok : goal.returns-then-not-is_left_shaped-clause-ok
returns-then-not-is_left_shaped-clause-ok c =
    let cell = c.args.cell.now.state in
    let left : IsTrue c.is_left_shaped.result ↔ IsLeftShaped cell.block (log_of cell) =
    subst (λ (b : ℕ). IsTrue c.is_left_shaped.result ↔ IsLeftShaped b (log_of cell)) c.block_bytes.ensures.value
    (subst (λ (es : List Entry). IsTrue c.is_left_shaped.result ↔ IsLeftShaped c.block_bytes.result es)
    (c.log-2.ensures.value ∙ ap log c.log.ensures.state) c.is_left_shaped.ensures) in (
      λ has. absurd (false≢true has),
      λ has. absurd (false≢true (sym c.if-not-is_left_shaped.true ∙ left.1 has.shape)),
    )

pub returns-clause-ok : goal.returns-clause-ok
returns-clause-ok c =
    let cell = c.args.cell.now.state in
    let left : IsTrue c.is_left_shaped.result ↔ IsLeftShaped cell.block (log_of cell) =
    subst (λ (b : ℕ). IsTrue c.is_left_shaped.result ↔ IsLeftShaped b (log_of cell)) c.block_bytes.ensures.value
    (subst (λ (es : List Entry). IsTrue c.is_left_shaped.result ↔ IsLeftShaped c.block_bytes.result es)
    (c.log-2.ensures.value ∙ ap log c.log.ensures.state) c.is_left_shaped.ensures) in
    let held : IsTrue c.in_ok-lawful.lawful ↔ IsHeldLawful cell.block c.args.snapshots.now (log_of cell) =
    subst (λ (l : LoggedValue). IsTrue c.in_ok-lawful.lawful ↔ IsHeldLawful l.block c.args.snapshots.now l.log) c.of-logged.ensures
    c.in_ok-lawful.ensures.ok in (
      λ has. record { shape = left.0 c.if-not-is_left_shaped.false; held = held.0 has },
      λ has. held.1 has.held,
    )
