use Rattle.std.proofs.Common.{◌≡◌, ◌-◌, ◌^◌, min}
use Rattle.nv_cell.specs.Numbers.{part_base}
use Rattle.nv_cell.proofs.scan.count_parts.Given as goal

abbrev pub invariant-loop-t : goal.invariant-loop-t
invariant-loop-t l = l.total ≡ min (part_base l.chain.state.entries l.t) (2 ^ 64 - 1)
