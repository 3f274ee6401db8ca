use Rattle.nv_cell.proofs.CleanNodes.{cleaned_nodes}
use Rattle.nv_cell.proofs.Cleaning.{entries_taken, pages_taken}
use Rattle.nv_cell.proofs.clean_laws.cleaning_keeps_nodes.Goals as goal

pub returns-clause-entries : goal.returns-clause-entries
returns-clause-entries c = λ r cell flags pages is len may size reads.
    cleaned_nodes (entries_taken flags pages cell is len may) r size reads

pub returns-clause-pages : goal.returns-clause-pages
returns-clause-pages c = λ r cell stays is len published may size reads.
    cleaned_nodes (pages_taken stays cell is len published may) r size reads
