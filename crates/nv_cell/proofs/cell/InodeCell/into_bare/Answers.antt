use Rattle.std.proofs.Common.{refl}
use Rattle.nv_cell.proofs.cell.InodeCell.into_bare.Goals as goal

pub returns-clause-generation : goal.returns-clause-generation
returns-clause-generation c = rw (← c.self.view_is) refl

pub returns-clause-chain : goal.returns-clause-chain
returns-clause-chain c = rw (← c.self.view_is) refl

pub returns-clause-spare : goal.returns-clause-spare
returns-clause-spare c = rw (← c.self.view_is) refl

pub returns-clause-blocks : goal.returns-clause-blocks
returns-clause-blocks c = rw (← c.self.view_is) refl

pub returns-clause-slots : goal.returns-clause-slots
returns-clause-slots c = rw (← c.self.view_is) c.self.invariant.slots
