use Rattle.std.proofs.Common.{sym, ap, subst, ◌∙◌}
use Rattle.nv_cell.proofs.ValuesNow.{IsLog-take}
use Rattle.nv_entry.specs.Log.{IsLog}
use Rattle.nv_log.specs.Chain.{log}
use Rattle.nv_audit.proofs.logged.Logged.of.Goals as goal

pub new-requires-clause-rising : goal.new-requires-clause-rising
new-requires-clause-rising c =
    let cell = c.args.cell.now.state in
    subst IsLog (sym (c.log-2.ensures.value ∙ ap log c.log.ensures.state))
    (IsLog-take cell.chain.tail cell.chain.entries c.holds_together.ensures.chain.rising)
