use Rattle.std.proofs.Common.{◌∙◌, [], ◌∷◌, Option, ap, arith, map, subst, sym}
use Rattle.std.specs.Prelude.{option_to_list}
use Rattle.nv_alloc.specs.Block.{BlockValue, zeroed}
use Rattle.nv_alloc.specs.FreeList.{with_home}
use Rattle.nv_mount.specs.Build.{AreGivenHome, CanAllGoHome}
use Rattle.nv_core.proofs.GoingSeveral.{absent_first, given_one}
use Rattle.nv_core.proofs.restart.give_cleared.Goals as goal
use Rattle.nv_core.proofs.restart.give_cleared.Goals.{In-Some}

-- the block may go home, with 0 in all bytes
can : (c : In-Some) → CanAllGoHome c.args.geometry.now.numbers (zeroed c.in-Some.block ∷ []) c.args.lists.now.items
can c =
    subst (λ (o : Option BlockValue). CanAllGoHome c.args.geometry.now.numbers (map zeroed (option_to_list o)) c.args.lists.now.items)
    c.in-Some.is c.requires

pub give_home-requires-clause-absent : goal.give_home-requires-clause-absent
give_home-requires-clause-absent c =
    rw c.clear.ensures
    (absent_first c.args.geometry.now.numbers (zeroed c.in-Some.block) [] c.args.lists.now.items
    (can (goal.at.give_home-requires-clause-absent c).In-Some))

pub returns-in-Some : goal.returns-in-Some
returns-in-Some c =
    let here = (goal.at.returns-in-Some c).In-Some in
    let g = c.args.geometry.now.numbers in
    let old = c.args.lists.now.items in
    let new = c.give_home.new.lists.items in
    subst (λ (o : Option BlockValue). AreGivenHome g (map zeroed (option_to_list o)) old new) (sym c.in-Some.is)
    (given_one g (zeroed c.in-Some.block) old new (omega (arith, c.args.geometry.now.limits.some_cpus)) (can here)
    (c.give_home.ensures.lists ∙ ap (λ (b : BlockValue). map (with_home b) old) c.clear.ensures) c.give_home.ensures.still)
