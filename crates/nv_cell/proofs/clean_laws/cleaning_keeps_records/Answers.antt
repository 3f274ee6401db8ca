use Rattle.nv_cell.proofs.CleanParts.{cleaned_records}
use Rattle.nv_cell.proofs.Cleaning.{entries_taken, pages_taken}
use Rattle.nv_cell.proofs.ValuesNow.{IsLog-take}
use Rattle.nv_cell.proofs.clean_laws.cleaning_keeps_records.Goals as goal

pub returns-clause-entries : goal.returns-clause-entries
returns-clause-entries c = λ r cell flags pages is len may size reads.
    cleaned_records (entries_taken flags pages cell is len may) r
    (IsLog-take cell.chain.tail cell.chain.entries is.chain.rising) size reads

pub returns-clause-pages : goal.returns-clause-pages
returns-clause-pages c = λ r cell stays is len published may size reads.
    cleaned_records (pages_taken stays cell is len published may) r
    (IsLog-take cell.chain.tail cell.chain.entries is.chain.rising) size reads
