use Rattle.std.proofs.Common.{◌≡◌, ◌∙◌, Bool, ap, refl, subst, sym}
use Rattle.std.proofs.lemmas.Bool.{eq-eqb}
use Rattle.nv_alloc.specs.declared.hand.Hand.{Hand}
use Rattle.nv_machine.specs.World.{HandState}
use Rattle.nv_steps.specs.Hands.{hand_of}
use Rattle.nv_steps.specs.OnBook.{IsPickTurn, drain_of, on_book, room_behind, was_granted}
use Rattle.nv_steps.proofs.BookTurns.{pick_refused}
use Rattle.nv_steps.proofs.picks.pick.Goals as goal

pub returns-in-Ok-clause-turn : goal.returns-in-Ok-clause-turn
returns-in-Ok-clause-turn c numbers actor left r before =
    let old = c.args.book.now.state in
    let new = c.take_first.new.book.state in
    let result = c.take_first.result in
    let after = hand_of c.make_room.new.hand in
    let draining = drain_of c.args.released left in
    let kept : after ≡ hand_of c.args.hand.now = ap (λ (x : Hand). hand_of x) c.in-Ok.ensures.ok in
    subst (λ (h : HandState). IsPickTurn numbers actor (on_book r h (was_granted result) old new) draining result after) kept
    (subst (λ (granted : Bool). IsPickTurn numbers actor (on_book r after granted old new) draining result after)
    (sym c.take_first.ensures.granted) (c.take_first.ensures.turn numbers actor left after r before))

pub returns-in-Ok-clause-hand : goal.returns-in-Ok-clause-hand
returns-in-Ok-clause-hand c =
    let hand = c.args.hand.now in
    c.in-Ok.ensures.ok
    ∙ ap (λ (granted : Bool). record hand { «data» = record hand.«data» { room = room_behind c.args.released granted hand.«data».room } })
    (sym c.take_first.ensures.granted)

pub returns-in-Err-clause-turn : goal.returns-in-Err-clause-turn
returns-in-Err-clause-turn c numbers actor left r before =
    let old = c.args.book.now.state in
    let why = c.in-Err.ensures.err in
    pick_refused numbers actor r old old (drain_of c.args.released left) before (hand_of c.args.hand.now)
    (hand_of c.make_room.new.hand) c.in-Err.fault c.requires.empty (ap (λ (x : Hand). hand_of x) c.in-Err.ensures.same)
    (eq-eqb c.args.released 0 why.1) why.0 refl

pub returns-in-Err-clause-hand : goal.returns-in-Err-clause-hand
returns-in-Err-clause-hand c = c.in-Err.ensures.same
