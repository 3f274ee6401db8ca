use Rattle.std.proofs.Common.{◌∙◌, ap, inl, refl, subst, sym}
use Rattle.std.proofs.lemmas.Bool.{leb-false}
use Rattle.nv_alloc.specs.declared.hand.Hand.{Hand}
use Rattle.nv_base.specs.declared.limits.TheConstants.{NUMBER}
use Rattle.nv_calls.specs.Commit.{begun, stamp_of}
use Rattle.nv_core.specs.Appends.{IsPlacedBy}
use Rattle.nv_core.specs.Rooms.{HasRooms, IsHandOf, hand_held}
use Rattle.nv_core.specs.Shown.{slots_in}
use Rattle.nv_core.specs.Steps.{GivenBy}
use Rattle.nv_core.specs.GhostCalls.{IsReservationOf}
use Rattle.nv_core.specs.declared.reservation.Reservation.{Reservation}
use Rattle.nv_core.proofs.Appends.{begin_place}
use Rattle.nv_core.proofs.Enters.{begun_commit, entered_rooms, enters, given_ends, last_below, refuses, told_why}
use Rattle.nv_core.proofs.Stages.{none_there}
use Rattle.nv_core.proofs.kinds.enter.enter.Goals as goal

pub returns-in-Ok-clause-turn : goal.returns-in-Ok-clause-turn
returns-in-Ok-clause-turn c told is =
    let at = c.in-Ready.is in let ready = c.in-Ready.ready in let slots = slots_in c.args.running.now.slots in
    rw (c.replace_with.ensures ready refl) (rw at (inl (enters c.args.shared.now ready c.args.running.now c.args.actor c.need.result
    c.enter.new.self (begun (stamp_of c.enter.new.self.state) ready) told
    (none_there c.args.shared.now.holder (sym c.is_some.ensures ∙ c.if-is_some.false))
    (last_below c.enter.result c.args.shared.now.book.state.commit c.args.shared.now.book.state.commit c.in-Ok._fixed c.in-Ok.is
    refl
    c.keeps_its_limit.ensures c.enter.ensures.limit.1)
    c.in-Ok.ensures.ok refl (subst (λ (h : Reservation). IsReservationOf slots h told) at is))))

pub returns-in-Ok-clause-told : goal.returns-in-Ok-clause-told
returns-in-Ok-clause-told c told is =
    let at = c.in-Ready.is in let ready = c.in-Ready.ready in let slots = slots_in c.args.running.now.slots in
    rw (c.replace_with.ensures ready refl) (begun_commit c.args.shared.now ready c.args.running.now c.args.actor c.need.result
    c.enter.new.self (begun (stamp_of c.enter.new.self.state) ready) told c.in-Ok.ensures.ok refl
    (subst (λ (h : Reservation). IsReservationOf slots h told) at is))

pub returns-in-Hand-clause-turn : goal.returns-in-Hand-clause-turn
returns-in-Hand-clause-turn c told is =
    let at = c.in-Ready.is in let ready = c.in-Ready.ready in
    rw at (refuses c.args.shared.now ready.hand c.args.running.now c.args.actor c.enter.new.self c.in-Hand.hand told
    c.in-Err.fault _ (none_there c.args.shared.now.holder (sym c.is_some.ensures ∙ c.if-is_some.false)) c.in-Err.ensures.same
    (ap (λ (h : Reservation). hand_held h) (sym c.in-Hand.is ∙ c.replace_with-in-Err.ensures ready refl))
    (c.refuse.ensures.turn told)
    (told_why c.enter.result c.in-Err.fault c.args.shared.now.book.state.commit c.args.shared.now.book.state.commit c.in-Err.is c.enter.ensures.limit.0
    c.enter.ensures.limit.1 c.in-Err.ensures.err refl c.keeps_its_limit.ensures))

pub returns-in-Ok-clause-placed : goal.returns-in-Ok-clause-placed
returns-in-Ok-clause-placed c told is placed =
    let at = c.in-Ready.is in let ready = c.in-Ready.ready in let slots = slots_in c.args.running.now.slots in
    let plan = subst (λ (h : Reservation). IsPlacedBy slots h told) at placed in
    rw (c.replace_with.ensures ready refl) (
      plan,
      begin_place slots ready (stamp_of c.enter.new.self.state) told
          c.args.running.now.slots.rising (subst (λ (h : Reservation). IsReservationOf slots h told) at is) plan,
    )

pub returns-in-Ok-clause-rooms : goal.returns-in-Ok-clause-rooms
returns-in-Ok-clause-rooms c =
    let sh = c.args.shared.now in let ru = c.args.running.now in let at = c.in-Ready.is in let ready = c.in-Ready.ready in
    let below = leb-false NUMBER sh.book.state.commit
    (last_below c.enter.result sh.book.state.commit sh.book.state.commit c.in-Ok._fixed c.in-Ok.is
    refl
    c.keeps_its_limit.ensures c.enter.ensures.limit.1) in
    rw (c.replace_with.ensures ready refl) (entered_rooms sh ru ready c.args.actor c.need.result c.enter.new.self
    (begun (stamp_of c.enter.new.self.state) ready) (subst (λ (h : Reservation). HasRooms sh h ru) at c.requires.rooms) c.need.ensures
    (subst (λ (h : Reservation). GivenBy sh h ru c.args.actor) at c.requires.given
    (none_there sh.holder (sym c.is_some.ensures ∙ c.if-is_some.false)) below)
    c.in-Ok.ensures.ok refl)

pub refuse-requires-clause-call : goal.refuse-requires-clause-call
refuse-requires-clause-call c =
    let rooms = subst (λ (h : Reservation). HasRooms c.args.shared.now h c.args.running.now) c.in-Ready.is c.requires.rooms in
    given_ends c.args.running.now _ rooms.0 (λ is. cc)

pub refuse-requires-clause-sized : goal.refuse-requires-clause-sized
refuse-requires-clause-sized c =
    let at = c.in-Ready.is in let ready = c.in-Ready.ready in
    let rooms = subst (λ (h : Reservation). HasRooms c.args.shared.now h c.args.running.now) at c.requires.rooms in
    subst (λ (h : Hand). IsHandOf c.args.shared.now.geometry.numbers h)
    (sym (ap (λ (h : Reservation). hand_held h) (sym c.in-Hand.is ∙ c.replace_with-in-Err.ensures ready refl))) rooms.2
