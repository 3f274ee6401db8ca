use Rattle.std.proofs.Common.{◌≡◌, ◌+◌, ◌++◌, Bool, List, drop, length, map, min, sum}
use Rattle.nv_cell.specs.Cell.{log_of}
use Rattle.nv_cell.specs.Readers.{there_flags}
use Rattle.nv_clean.specs.Cover.{Covers}
use Rattle.nv_clean.specs.Plans.{pages_staying}
use Rattle.nv_entry.specs.ByFlags.{pages_stay_by}
use Rattle.nv_entry.specs.Clean.{pages_by, select}
use Rattle.nv_log.specs.Chain.{log_pages, start_of}
use Rattle.nv_clean.proofs.walk.pages_walked.Given as goal

abbrev pub invariant-loop-k : goal.invariant-loop-k
invariant-loop-k l = record {
  flags : List Bool;
  at : length flags ≡ min (start_of l.cell.state.chain l.k) l.cell.state.chain.tail;
  total : length flags + sum (drop l.k (map length (log_pages l.cell.state.chain))) ≡ length (log_of l.cell.state);
  covers : Covers l.cell.state.block (select flags (log_of l.cell.state)) l.cover;
  walk : l.stays.items ++ pages_stay_by l.cell.state.block (drop (length flags) (there_flags l.cell.state)) (select flags (log_of l.cell.state))
      (pages_by (drop l.k (map length (log_pages l.cell.state.chain))) (drop (length flags) (log_of l.cell.state)))
      ≡ pages_staying l.cell.state;
}
