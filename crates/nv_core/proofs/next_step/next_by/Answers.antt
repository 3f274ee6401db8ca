use Rattle.std.proofs.Common.{length, subst}
use Rattle.nv_core.specs.Shown.{shared_of}
use Rattle.nv_core.specs.Worlds.{ShowsCall}
use Rattle.nv_core.specs.declared.reservation.Reservation.{Reservation}
use Rattle.nv_core.proofs.NextSteps.{alone_told, commit_told}
use Rattle.nv_core.proofs.next_step.next_by.Goals as goal

pub returns-in-Hand : goal.returns-in-Hand
returns-in-Hand c r shows =
    alone_told (shared_of c.args.shared.now) (length c.args.shared.now.lists.items) c.args.actor c.in-Hand.hand c.args.running.now r
    c.alone.result (subst (λ (h : Reservation). ShowsCall h c.args.running.now r) c.in-Hand.is shows) c.alone.ensures.name
    c.alone.ensures.waits c.alone.ensures.commits

pub returns-in-Commit : goal.returns-in-Commit
returns-in-Commit c r shows =
    commit_told (shared_of c.args.shared.now) (length c.args.shared.now.lists.items) c.args.actor c.in-Commit.commit c.args.running.now r
    c.name_in.result c.committed.result (subst (λ (h : Reservation). ShowsCall h c.args.running.now r) c.in-Commit.is shows)
    c.name_in.ensures c.committed.ensures
