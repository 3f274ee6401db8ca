use Rattle.std.proofs.Common.{arith}
use Rattle.nv_sessions.proofs.TakenCells.{places_count, places_more}
use Rattle.nv_sessions.proofs.held.PlaceGuards.add.Goals as goal

pub push_reserved-requires : goal.push_reserved-requires
push_reserved-requires g c =
    let many = places_count c.args.self.now.guards.items c.args.list.now.cells.items c.requires.places in
    omega (arith, many, c.requires.few, c.args.self.now.wide, c.args.list.now.cells.ok)

pub returns-clause-places : goal.returns-clause-places
returns-clause-places g c =
    places_more c.args.self.now.guards.items c.push_reserved.new.self.items c.args.guard c.args.list.now.cells.items
    c.push.new.self.cells.items c.args.taken c.requires.places c.push_reserved.ensures.items c.push.ensures.cells c.requires.place
