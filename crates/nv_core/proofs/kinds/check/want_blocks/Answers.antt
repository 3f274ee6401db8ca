use Rattle.std.proofs.Common.{arith}
use Rattle.nv_core.proofs.CheckTurns.{has_its_blocks, takes_blocks, wants_none}
use Rattle.nv_core.proofs.kinds.check.want_blocks.Goals as goal

pub want_pages-requires-clause-can : goal.want_pages-requires-clause-can
want_pages-requires-clause-can c =
    has_its_blocks c.args.shared.now c.args.hand.now c.args.running.now c.args.wanted c.if-wanted-eq0.true c.requires.empty
    (c.requires.room.own c.if-wanted-eq0.true) c.requires.can

pub returns-then-wanted-eq0-clause-turn : goal.returns-then-wanted-eq0-clause-turn
returns-then-wanted-eq0-clause-turn c told is =
    wants_none c.args.wanted c.args.shared.now.geometry.numbers.block _ _ _ _ c.if-wanted-eq0.true (c.want_pages.ensures.turn told is)

pub returns-clause-rooms : goal.returns-clause-rooms
returns-clause-rooms c =
    takes_blocks c.args.shared.now c.args.hand.now c.args.running.now c.args.wanted c.requires.limits c.requires.home c.requires.sized
    c.requires.call c.requires.empty c.requires.room.blocks (c.requires.room.most (omega (arith, c.if-wanted-eq0.false))) c.requires.can
