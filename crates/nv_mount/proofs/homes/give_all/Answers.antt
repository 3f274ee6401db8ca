use Rattle.std.proofs.Common.{◌∷◌, List, arith, subst}
use Rattle.nv_alloc.specs.Block.{BlockValue}
use Rattle.nv_mount.proofs.GoingHome.{IsGoing, going_last, going_next, not_home}
use Rattle.nv_mount.proofs.homes.give_all.Goals as goal
use Rattle.nv_mount.proofs.homes.give_all.Goals.{In-Some}

-- the last block is to go home next
next : (c : In-Some) → IsGoing c.args.geometry.now.numbers c.args.blocks.items (c.in-Some.block ∷ c.pop.new.self.items) c.args.lists.now.items
    c.loop-block.lists.items
next c =
    let g = c.args.geometry.now.numbers in
    let start = c.args.lists.now.items in
    let now = c.loop-block.lists.items in
    going_last g c.args.blocks.items c.in-Some.block c.pop.new.self.items start now
    (subst (λ (bs : List BlockValue). IsGoing g c.args.blocks.items bs start now) c.in-Some.ensures.items c.loop-block.invariant)

pub give_home-requires-clause-absent : goal.give_home-requires-clause-absent
give_home-requires-clause-absent c =
    not_home c.args.geometry.now.numbers c.in-Some.block c.pop.new.self.items c.loop-block.lists.items
    (next (goal.at.give_home-requires-clause-absent c).In-Some).can

pub give_home-requires-clause-sized : goal.give_home-requires-clause-sized
give_home-requires-clause-sized c = (next (goal.at.give_home-requires-clause-sized c).In-Some).can.sized.0

pub loop-block-preserved : goal.loop-block-preserved
loop-block-preserved c =
    going_next c.args.geometry.now.numbers c.args.blocks.items c.in-Some.block c.pop.new.self.items c.args.lists.now.items
    c.loop-block.lists.items c.give_home.new.lists.items (omega (arith, c.args.geometry.now.limits.some_cpus))
    (next (goal.at.loop-block-preserved c).In-Some) c.give_home.ensures.lists c.give_home.ensures.still
