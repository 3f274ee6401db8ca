use Rattle.std.proofs.Common.{◌≡◌, sym, subst, ◌∙◌}
use Rattle.std.specs.Prelude.{◌↔◌, IfOk, IsTrue}
use Rattle.std.proofs.lemmas.Bool.{false≢true}
use Rattle.nv_alloc.specs.Block.{AreSized}
use Rattle.nv_cell.specs.Cell.{CellState}
use Rattle.nv_audit.specs.Image.{SlotImageValue}
use Rattle.nv_audit.specs.Logged.{logged}
use Rattle.nv_audit.specs.MountedLogs.{HasItsBlocks, IsMadeOf, IsRunOf}
use Rattle.nv_audit.proofs.Runs.{run_told}
use Rattle.nv_audit.proofs.faults.runs.is_run_good.Goals as goal

pub ends_at_size-requires : goal.ends_at_size-requires
ends_at_size-requires c =
    subst (λ (s : SlotImageValue). AreSized c.args.own.now.block s.blocks) (sym c.slot.view_is) c.requires

pub returns-then-not-has-clause-ok : goal.returns-then-not-has-clause-ok
returns-then-not-has-clause-ok c cell made same =
    let living = c.args.snapshots.now in
    let shown = subst (λ (s : SlotImageValue). IsMadeOf living s.blocks cell) (sym c.slot.view_is) made in (
      λ t. absurd (false≢true t),
      λ run. absurd (false≢true (sym c.if-not-has.true ∙ (c.in_ok-has.ensures.ok cell shown same).1
          (subst (λ (s : SlotImageValue). HasItsBlocks s.blocks cell) (sym c.slot.view_is) run.its))),
    )

pub returns-clause-ok : goal.returns-clause-ok
returns-clause-ok c =
    let living = c.args.snapshots.now in
    let own = c.args.own.now in
    subst (λ (s : SlotImageValue). IfOk c.ends_at_size.result (λ good. (cell : CellState) → IsMadeOf living s.blocks cell
    → own ≡ logged cell → IsTrue good ↔ IsRunOf s.blocks cell)) c.slot.view_is
    (run_told living c.slot.inside.blocks own c.ends_at_size.result c.ends_at_size.ensures.ok
    (λ cell made same. (c.in_ok-has.ensures.ok cell made same).0 c.if-not-has.false))
