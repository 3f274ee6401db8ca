use Rattle.std.proofs.Common.{◌∷◌, [], Option, arith, subst}
use Rattle.std.specs.Prelude.{option_to_list}
use Rattle.nv_alloc.specs.Block.{BlockValue}
use Rattle.nv_mount.specs.Build.{CanAllGoHome}
use Rattle.nv_mount.proofs.GoingHome.{going_init, going_next, gone, not_home}
use Rattle.nv_mount.proofs.homes.give_place.Goals as goal
use Rattle.nv_mount.proofs.homes.give_place.Goals.{In-Some}

-- the block may go home
can : (c : In-Some) → CanAllGoHome c.args.geometry.now.numbers (c.in-Some.block ∷ []) c.args.lists.now.items
can c =
    subst (λ (o : Option BlockValue). CanAllGoHome c.args.geometry.now.numbers (option_to_list o) c.args.lists.now.items)
    c.in-Some.is c.requires

pub give_home-requires-clause-absent : goal.give_home-requires-clause-absent
give_home-requires-clause-absent c =
    not_home c.args.geometry.now.numbers c.in-Some.block [] c.args.lists.now.items
    (can (goal.at.give_home-requires-clause-absent c).In-Some)

pub returns-in-Some : goal.returns-in-Some
returns-in-Some c =
    let g = c.args.geometry.now.numbers in
    let b = c.in-Some.block in
    let old = c.args.lists.now.items in
    let new = c.give_home.new.lists.items in
    rw c.in-Some.is
    (gone g (b ∷ []) old new
    (going_next g (b ∷ []) b [] old old new (omega (arith, c.args.geometry.now.limits.some_cpus))
    (going_init g (b ∷ []) old (can (goal.at.returns-in-Some c).In-Some)) c.give_home.ensures.lists c.give_home.ensures.still))
