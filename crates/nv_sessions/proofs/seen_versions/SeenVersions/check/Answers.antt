use Rattle.std.proofs.Common.{ℕ, List, subst, sym}
use Rattle.nv_sessions.specs.SeenVersions.{AreNoted}
use Rattle.nv_sessions.proofs.seen_versions.SeenVersions.check.Goals as goal

pub invariant_of-self : goal.invariant_of-self
invariant_of-self g c =
    subst (λ (seen : List ℕ). AreNoted g.C.Commits.opened seen c.self.inside.slots) (sym c.check_seen.ensures.seen) c.self.invariant
