use Rattle.nv_entry.proofs.ByFlags as by
use Rattle.nv_entry.proofs.laws.walks_go_by_flags.Goals as goal

pub returns-clause-entries : goal.returns-clause-entries
returns-clause-entries c = by.entries_by_flags

pub returns-clause-pages : goal.returns-clause-pages
returns-clause-pages c = by.pages_by_flags
