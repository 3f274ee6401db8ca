use Rattle.std.proofs.Common.{refl, subst, sym}
use Rattle.nv_core.proofs.PassTurns.{owes_given, rest_ready, turns_enter, turns_leave, turns_ready}
use Rattle.nv_core.proofs.Turns.{told_same}
use Rattle.nv_core.specs.Rooms.{HasRooms}
use Rattle.nv_core.specs.Steps.{IsHandover}
use Rattle.nv_core.specs.Turns.{IsTurn}
use Rattle.nv_core.specs.Worlds.{ShowsCall}
use Rattle.nv_core.specs.declared.reservation.Reservation.{Reservation}
use Rattle.nv_core.specs.declared.reservation.Reservation.TheVariants as reserved
use Rattle.nv_core.proofs.step.handover_step.Goals as goal

pub returns-in-Hand-clause-turn : goal.returns-in-Hand-clause-turn
returns-in-Hand-clause-turn c r shows =
    let sh = c.args.shared.now in let ru = c.args.running.now in
    let at = c.in-Hand.is in
    let gives = c.ready.ensures in
    subst (λ (h : Reservation). IsTurn c.args.actor sh h r c.ready.result c.ready.new.shared c.ready.new.reserved c.ready.new.running) (sym at)
    (turns_ready c.args.actor sh c.in-Hand._hand ru r (c.ready.new.reserved, c.ready.result) c.ready.new.shared c.ready.new.running
    (subst (λ (h : Reservation). IsHandover h ru) at c.requires.passes) (subst (λ (h : Reservation). ShowsCall h ru r) at shows)
    gives.slots gives.told
    (λ told is. (gives.turn told is, gives.plans told is, gives.placed told is)))

pub returns-in-Hand-clause-rest : goal.returns-in-Hand-clause-rest
returns-in-Hand-clause-rest c r shows =
    let ru = c.args.running.now in
    let at = c.in-Hand.is in
    rest_ready c.args.actor c.args.shared.now c.ready.new.shared ru r c.in-Hand._hand
    (subst (λ (h : Reservation). IsHandover h ru) at c.requires.passes) (subst (λ (h : Reservation). ShowsCall h ru r) at shows)
    c.ready.ensures.rest c.ready.ensures.book

pub returns-in-Ready-clause-turn : goal.returns-in-Ready-clause-turn
returns-in-Ready-clause-turn c r shows =
    let sh = c.args.shared.now in let ru = c.args.running.now in
    let at = c.in-Ready.is in
    let gives = c.enter.ensures in
    subst (λ (h : Reservation). IsTurn c.args.actor sh h r c.enter.result c.enter.new.shared c.enter.new.reserved c.enter.new.running) (sym at)
    (turns_enter c.args.actor sh c.in-Ready._held ru r (c.enter.new.reserved, c.enter.result) c.enter.new.shared c.enter.new.running
    (subst (λ (h : Reservation). ShowsCall h ru r) at shows) gives.slots
    (λ told is. told_same ru c.enter.new.running told c.enter.ensures.request is)
    (λ told of placed. (gives.turn told of, gives.told told of, gives.placed told of placed)))

pub returns-in-Commit-clause-turn : goal.returns-in-Commit-clause-turn
returns-in-Commit-clause-turn c r shows =
    let sh = c.args.shared.now in let ru = c.args.running.now in
    let at = c.in-Commit.is in
    let gives = c.leave.ensures in
    rw gives.left (subst (λ (h : Reservation). IsTurn c.args.actor sh h r c.leave.result c.leave.new.shared
    (reserved.Hand c.in-Commit._commit.hand) c.leave.new.running) (sym at)
    (turns_leave c.args.actor sh c.in-Commit._commit ru r (c.in-Commit._commit.hand, c.leave.result) c.leave.new.shared c.leave.new.running
    (subst (λ (h : Reservation). IsHandover h ru) at c.requires.passes) (subst (λ (h : Reservation). ShowsCall h ru r) at shows)
    (λ told is. told_same ru c.leave.new.running told c.leave.ensures.request is)
    (λ told is. gives.turn told
    (owes_given ru told (subst (λ (h : Reservation). HasRooms sh h ru) at c.requires.rooms).0 is))))

pub ready-requires-clause-hand : goal.ready-requires-clause-hand
ready-requires-clause-hand c = (c.in-Hand._hand, refl)

pub ready-requires-clause-next : goal.ready-requires-clause-next
ready-requires-clause-next c = subst (λ (h : Reservation). IsHandover h c.args.running.now) c.in-Hand.is c.requires.passes

pub enter-requires-clause-ready : goal.enter-requires-clause-ready
enter-requires-clause-ready c = (c.in-Ready._held, refl)

pub leave-requires-clause-step : goal.leave-requires-clause-step
leave-requires-clause-step c = (
  c.in-Commit._commit,
  refl,
  subst (λ (h : Reservation). IsHandover h c.args.running.now) c.in-Commit.is c.requires.passes,
)
