use Rattle.std.proofs.Common.{◌<◌, ◌∙◌, None, Some, inl, inr, ap, arith, refl, subst, sym}
use Rattle.std.specs.Prelude.{is_some}
use Rattle.std.proofs.lemmas.List.{length-take}
use Rattle.nv_alloc.specs.declared.hand.Hand.{Hand}
use Rattle.nv_core.proofs.CheckTurns.{drains, no_chain, owes, turn_ends, turn_goes, turn_refuses, wants}
use Rattle.nv_core.proofs.Nodes.{lent_are}
use Rattle.nv_core.specs.Rooms.{HasRoomFor, pages_to_take}
use Rattle.nv_core.specs.Shown.{hand_of, shared_of, shown, slots_in, turn_of}
use Rattle.nv_core.specs.GhostCalls.{IsChangeWith, IsShownCallOf}
use Rattle.nv_core.specs.declared.running.Running.{Running}
use Rattle.nv_core.specs.declared.shared.Shared.{Shared}
use Rattle.nv_core.proofs.kinds.check.check.Goals as goal

pub end-requires-clause-drains : goal.end-requires-clause-drains
end-requires-clause-drains c =
    drains c.args.shared.now c.args.hand.now c.args.running.now c.note_made.new.running c.is_some.result (Some c.in-Err.ending)
    c.note_made.ensures (c.is_some.ensures ∙ ap is_some c.ino.ensures) c.requires.change c.requires.can c.in-Err.ensures.ends
    c.in-Err.ending c.note_made.new.running.request c.args.hand.now refl

pub returns-in-Err-clause-turn : goal.returns-in-Err-clause-turn
returns-in-Err-clause-turn c told is =
    inl (turn_ends c.args.shared.now c.args.hand.now c.args.running.now c.note_made.new.running c.is_some.result (Some c.in-Err.ending)
    c.note_made.ensures (c.is_some.ensures ∙ ap is_some c.ino.ensures) c.requires.change c.requires.can c.in-Err.ensures.ends told is
    c.test.new.shared c.in-Err.ending _ c.test.ensures.same refl
    (c.end.ensures.turn told (owes c.args.shared.now c.args.hand.now c.args.running.now c.note_made.new.running c.is_some.result (Some c.in-Err.ending)
    c.note_made.ensures (c.is_some.ensures ∙ ap is_some c.ino.ensures) c.requires.change c.requires.can c.in-Err.ensures.ends told
    c.in-Err.ending is)))

pub make_room-requires-clause-can : goal.make_room-requires-clause-can
make_room-requires-clause-can c =
    wants c.args.shared.now c.args.hand.now c.args.running.now c.note_made.new.running c.is_some.result None
    c.note_made.ensures (c.is_some.ensures ∙ ap is_some c.ino.ensures) c.requires.change c.requires.can c.in-Ok.ensures.ends
    c.test.new.shared c.args.hand.now c.in-Ok.wanted
    (lent_are (slots_in c.args.running.now.slots) c.args.shared.now.cells.items
    (omega (arith, c.args.running.now.slots.few, length-take c.args.running.now.slots.count c.args.running.now.slots.inos))
    c.args.running.now.slots.rising)
    c.test.ensures.same refl (no_chain c.args.hand.now c.requires.can.empty) refl c.in-Ok.ensures.wanted

pub returns-in-Err-make_room-clause-turn : goal.returns-in-Err-make_room-clause-turn
returns-in-Err-make_room-clause-turn c told is =
    inr (turn_refuses c.args.shared.now c.args.hand.now c.args.running.now c.note_made.new.running c.is_some.result None
    c.note_made.ensures (c.is_some.ensures ∙ ap is_some c.ino.ensures) c.requires.change c.requires.can c.in-Ok.ensures.ends told is
    c.make_room.new.shared (hand_of c.make_room.new.hand) c.in-Err-make_room.fault _ c.in-Ok.wanted
    (c.make_room.ensures.same ∙ c.test.ensures.same) (ap hand_of c.make_room.ensures.hand)
    c.in-Err-make_room.ensures.err refl c.in-Ok.ensures.wanted
    (wants c.args.shared.now c.args.hand.now c.args.running.now c.note_made.new.running c.is_some.result None
    c.note_made.ensures (c.is_some.ensures ∙ ap is_some c.ino.ensures) c.requires.change c.requires.can c.in-Ok.ensures.ends
    c.args.shared.now c.args.hand.now c.in-Ok.wanted
    (lent_are (slots_in c.args.running.now.slots) c.args.shared.now.cells.items
    (omega (arith, c.args.running.now.slots.few, length-take c.args.running.now.slots.count c.args.running.now.slots.inos))
    c.args.running.now.slots.rising)
    refl refl (no_chain c.args.hand.now c.requires.can.empty) refl c.in-Ok.ensures.wanted)
    (λ nil. subst (λ (x : Shared). IsChangeWith (λ u. 0 < pages_to_take x (slots_in c.note_made.new.running.slots) c.args.hand.now u)
    c.note_made.new.running.request) c.test.ensures.same (c.in-Err-make_room.ensures.some nil))
    (c.refuse.ensures.turn told))

pub want_blocks-requires-clause-can : goal.want_blocks-requires-clause-can
want_blocks-requires-clause-can c =
    wants c.args.shared.now c.args.hand.now c.args.running.now c.note_made.new.running c.is_some.result None
    c.note_made.ensures (c.is_some.ensures ∙ ap is_some c.ino.ensures) c.requires.change c.requires.can c.in-Ok.ensures.ends
    c.make_room.new.shared c.make_room.new.hand c.in-Ok.wanted
    (lent_are (slots_in c.args.running.now.slots) c.args.shared.now.cells.items
    (omega (arith, c.args.running.now.slots.few, length-take c.args.running.now.slots.count c.args.running.now.slots.inos))
    c.args.running.now.slots.rising)
    (c.make_room.ensures.same ∙ c.test.ensures.same) (ap (λ (h : Hand). h.ino) c.make_room.ensures.hand)
    (ap (λ (h : Hand). h.chain) c.make_room.ensures.hand ∙ no_chain c.args.hand.now c.requires.can.empty)
    refl c.in-Ok.ensures.wanted

pub want_blocks-requires-clause-room : goal.want_blocks-requires-clause-room
want_blocks-requires-clause-room c =
    subst (λ (x : Shared). HasRoomFor c.in-Ok.wanted x c.make_room.new.hand c.note_made.new.running) (sym c.make_room.ensures.same)
    c.in_default.ensures.ok

pub returns-clause-turn : goal.returns-clause-turn
returns-clause-turn c told is =
    inl (turn_goes c.args.shared.now c.args.hand.now c.args.running.now c.note_made.new.running c.is_some.result None
    c.note_made.ensures (c.is_some.ensures ∙ ap is_some c.ino.ensures) c.requires.change c.requires.can c.in-Ok.ensures.ends told is
    c.make_room.new.shared (hand_of c.make_room.new.hand) c.in-Ok.wanted _
    (c.make_room.ensures.same ∙ c.test.ensures.same) (ap hand_of c.make_room.ensures.hand) refl c.in-Ok.ensures.wanted
    (c.want_blocks.ensures.turn told (subst (λ (x : Running). IsShownCallOf x told) (sym c.note_made.ensures) is))
    ∙ ap (λ (x : Shared). turn_of c.want_blocks.result c.want_blocks.new.running.answer (shared_of x)
    (hand_of c.make_room.new.hand) (shown told c.want_blocks.new.running))
    (sym c.want_blocks.ensures.same))
