use Rattle.nv_cell.proofs.DeadPairs as dead
use Rattle.nv_cell.proofs.clean_laws.records_keep_their_pairs.Goals as goal

pub returns-clause-entries : goal.returns-clause-entries
returns-clause-entries c = dead.more_entries

pub returns-clause-dropped : goal.returns-clause-dropped
returns-clause-dropped c = dead.dropped

pub returns-clause-made : goal.returns-clause-made
returns-clause-made c = dead.made
