use Rattle.nv_sessions.proofs.KnownFromStart.{known_from_start}
use Rattle.nv_sessions.proofs.unlocked_parts.UnlockedParts.add_up.Goals as goal

pub returns-clause-versions : goal.returns-clause-versions
returns-clause-versions g c = known_from_start g.C.Commits.opened _ c.args.self.cells.items c.gather_cells.ensures.met
