use Rattle.nv_mount.proofs.GoingHome.{can_place, going_place, placed}
use Rattle.nv_mount.proofs.homes.give_places.Goals as goal

pub give_place-requires : goal.give_place-requires
give_place-requires c =
    can_place c.args.geometry.now.numbers c.loop-place.places.items c.pop.new.self.items c.in-Some.place c.loop-place.lists.items
    c.in-Some.ensures.items c.loop-place.invariant.can

pub loop-place-preserved : goal.loop-place-preserved
loop-place-preserved c =
    going_place c.args.geometry.now.numbers (placed c.args.places.items) c.loop-place.places.items c.pop.new.self.items c.in-Some.place
    c.args.lists.now.items c.loop-place.lists.items c.give_place.new.lists.items c.in-Some.ensures.items c.loop-place.invariant
    c.give_place.ensures
