use Rattle.std.proofs.Common.{◌≡◌, ◌+◌, ◌≤◌, drop, min}
use Rattle.nv_clean.proofs.Pages.{gone_count}
use Rattle.nv_log.specs.Chain.{log_pages, start_of}
use Rattle.nv_clean.proofs.fast.entries_going.Given as goal

abbrev pub invariant-loop-k : goal.invariant-loop-k
invariant-loop-k l =
    let chain = l.cell.state.chain in
    record {
      count : l.entries + gone_count (drop l.k l.stays) (drop l.k (log_pages chain)) ≡ gone_count l.stays (log_pages chain);
      few : l.entries ≤ min (start_of chain l.k) chain.tail;
    }
