use Rattle.std.proofs.Common.{◌≡◌, ◌⊎◌, vec_len}
use Rattle.nv_sessions.specs.ShowRuns.{IsMarked}
use Rattle.nv_sessions.proofs.ShowTurns.{HasCome}
use Rattle.nv_sessions.proofs.snapshots.show_tree.Given as goal

-- the visits that were made lead from the first show to this one, and no other slots are marked
abbrev pub invariant-loop-visit : goal.invariant-loop-visit
invariant-loop-visit g l = record {
  come : HasCome l.fn.service.geometry.numbers l.fn.snapshot l.fn.first (IsMarked l.met.items) l.showing;
  room : (vec_len l.met ≡ 0) ⊎ (vec_len l.met ≡ l.fn.service.geometry.numbers.inodes);
}
