use Rattle.std.proofs.Common.{◌≤◌, ◌-◌, length}
use Rattle.nv_findex.specs.Runs.{EndsBefore, EndsBehind}
use Rattle.nv_findex.proofs.search.ended_in.Given as goal

abbrev pub invariant-search : goal.invariant-search
invariant-search l = record {
  order : l.low ≤ l.high;
  within : l.high ≤ length l.runs.items;
  front : EndsBefore l.page l.low l.runs.items;
  behind : EndsBehind l.page l.high l.runs.items;
}

abbrev pub decreases-search : goal.decreases-search
decreases-search l = l.high - l.low
