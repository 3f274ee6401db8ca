use Rattle.std.proofs.Common.{ℕ, ◌+◌, ap, ◌∙◌}
use Rattle.nv_audit.specs.Image.{SlotImageValue}
use Rattle.nv_audit.proofs.MountedLogs.{erased_told}
use Rattle.nv_audit.proofs.mounted.erased_logged.Goals as goal

pub returns : goal.returns
returns c =
    erased_told c.args.block c.args.slot.now c.new-next.result c.new.result
    (c.new-next.ensures ∙ ap (λ (n : ℕ). n + 1) (c.number.ensures ∙ ap (λ (s : SlotImageValue). s.generation) c.slot.view_is))
    c.new.ensures
