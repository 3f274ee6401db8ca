use Rattle.std.proofs.Common.{ap, sym, subst}
use Rattle.nv_cell.proofs.ValuesNow.{IsLog-take}
use Rattle.nv_entry.specs.Log.{IsLog}
use Rattle.nv_audit.specs.Image.{SlotImageValue}
use Rattle.nv_audit.proofs.MountedLogs.{front_told}
use Rattle.nv_audit.proofs.mounted.front_logged.Goals as goal

pub new-requires-clause-rising : goal.new-requires-clause-rising
new-requires-clause-rising c =
    subst IsLog (sym c.front.ensures) (IsLog-take c.args.tail c.args.slot.now.chain.entries c.requires.ordered)

pub returns : goal.returns
returns c =
    front_told c.args.block c.args.tail c.args.slot.now c.slot.inside.generation c.front.result.now c.new.result
    (ap (λ (s : SlotImageValue). s.generation) c.slot.view_is) c.front.ensures c.new.ensures
