use Rattle.std.proofs.Common.{refl}
use Rattle.nv_sessions.proofs.Noting.{none_noted}
use Rattle.nv_sessions.proofs.seen_versions.SeenVersions.new.Goals as goal

pub invariant_of-result : goal.invariant_of-result
invariant_of-result g c = none_noted _ _ _ refl
