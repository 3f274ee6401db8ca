use Rattle.std.proofs.Common.{◌≡◌, drop}
use Rattle.nv_audit.specs.Histories.{kind_at, kind_from}
use Rattle.nv_audit.proofs.histories.History.kind_at.Given as goal

abbrev pub invariant-loop-change : goal.invariant-loop-change
invariant-loop-change l = kind_from l.epoch (drop l.change-index l.self.kinds.items) l.kind ≡ kind_at l.epoch l.self.kinds.items
