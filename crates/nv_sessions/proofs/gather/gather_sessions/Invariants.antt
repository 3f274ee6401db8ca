use Rattle.std.proofs.Common.{◌≡◌, ℕ, ◌+◌, ◌≤◌, slice_index, All, sum_by, length}
use Rattle.nv_sessions.specs.Sessions.{SessionValue}
use Rattle.nv_sessions.proofs.gather.gather_sessions.Given as goal

abbrev pub invariant-loop-session : goal.invariant-loop-session
invariant-loop-session g l = record {
  parts : l.commits.parts ≡ l.initial.commits.parts + length l.yielded;
  amount : l.commits.amount
      ≡ l.initial.commits.amount + sum_by (λ (s : SessionValue). s.commits) l.yielded;
  snap_parts : l.snapped.parts ≡ l.initial.snapped.parts + length l.yielded;
  snap_amount : l.snapped.amount
      ≡ l.initial.snapped.amount + sum_by (λ (s : SessionValue). s.snapped) l.yielded;
  block_parts : l.blocks.parts ≡ l.initial.blocks.parts + length l.yielded;
  block_amount : l.initial.blocks.amount ≤ l.blocks.amount;
  before : (i : ℕ) → slice_index l.initial.notes i ≤ slice_index l.notes i;
  seen : All (λ (s : SessionValue). (i : ℕ) → slice_index s.seen i ≤ slice_index l.notes i) l.yielded;
}
