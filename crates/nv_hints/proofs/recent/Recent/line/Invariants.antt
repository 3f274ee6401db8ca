use Rattle.std.proofs.Common.{◌≤◌, List, ℕ, length}
use Rattle.nv_hints.specs.Recent.{Keeps}
use Rattle.nv_hints.proofs.Windows.{IsAtLine}
use Rattle.nv_hints.proofs.recent.Recent.line.Given as goal

abbrev pub invariant-loop-passed : goal.invariant-loop-passed
invariant-loop-passed l = record {
  within : length l.rest ≤ length l.self.kept;
  place : (all : List ℕ) → Keeps all l.self → IsAtLine all l.rest l._passed;
}
