use Rattle.nv_calls.proofs.Tails.{tails_differ}
use Rattle.nv_calls.proofs.journal.open_journal.Goals as goal

pub open_journal-requires-clause-distinct : goal.open_journal-requires-clause-distinct
open_journal-requires-clause-distinct g c =
    rw c.tails_of-tails.ensures
    (tails_differ (g.C.Cells.cells c.args.cells.now) c.args.plans.now c.requires.cells.rising c.requires.placed)
