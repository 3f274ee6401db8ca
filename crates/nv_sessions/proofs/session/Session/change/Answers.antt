use Rattle.std.proofs.Common.{subst}
use Rattle.std.specs.Prelude.{IfOk}
use Rattle.nv_base.specs.Refusals.{KeepsOnErr}
use Rattle.nv_sessions.specs.Sessions.{IsChangedBy, SessionValue, at_seat, held_by, with_held}
use Rattle.nv_sessions.proofs.SeatCalls.{changed_counting, counting, kept_counting}
use Rattle.nv_sessions.proofs.session.Session.change.Goals as goal

pub returns-clause-ok : goal.returns-clause-ok
returns-clause-ok g c =
    let opening = g.C.Commits.commit in
    let seat = c.self.inside.seat in
    let then = c.rounds-hand.new.seat in
    let snapped = c.self.inside.snapped.amount in
    let held = held_by c.self.inside.hand seat.giving in
    let left = held_by c.replace.new.dest c.give_back.new.giving in
    let before = at_seat seat.number seat.commits.amount seat.notes in
    let after = at_seat then.number then.commits.amount then.notes in
    subst (λ (s : SessionValue). IfOk c.rounds-hand.result.1 (IsChangedBy opening s (counting snapped left after) c.args.update))
    c.self.view_is
    (changed_counting opening snapped held left before after c.args.update c.rounds-hand.result.1 c.rounds-hand.ensures.changed)

pub returns-clause-same : goal.returns-clause-same
returns-clause-same g c =
    let seat = c.self.inside.seat in
    let then = c.rounds-hand.new.seat in
    let snapped = c.self.inside.snapped.amount in
    let left = held_by c.replace.new.dest c.give_back.new.giving in
    let before = at_seat seat.number seat.commits.amount seat.notes in
    let after = at_seat then.number then.commits.amount then.notes in
    subst (λ (s : SessionValue). KeepsOnErr c.rounds-hand.result.1 (with_held left s) (counting snapped left after)) c.self.view_is
    (kept_counting snapped left before after c.rounds-hand.result.1 c.rounds-hand.ensures.same)
