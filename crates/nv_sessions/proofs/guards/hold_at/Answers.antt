use Rattle.std.proofs.Common.{◌∙◌, sym}
use Rattle.std.proofs.lemmas.Bool.{false≢true}
use Rattle.nv_sessions.proofs.guards.hold_at.Goals as goal

pub returns-then-not-has_cell_of-clause-misplaced : goal.returns-then-not-has_cell_of-clause-misplaced
returns-then-not-has_cell_of-clause-misplaced g c =
    (c.deref.result.now, λ both. false≢true (sym c.if-not-has_cell_of.true ∙ c.has_cell_of.ensures.1 both))
