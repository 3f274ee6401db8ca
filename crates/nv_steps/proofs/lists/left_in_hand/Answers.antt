use Rattle.std.proofs.Common.{ℕ, Some, None, subst₂, sym}
use Rattle.nv_alloc.specs.Block.{numbers_of}
use Rattle.nv_alloc.specs.Hand.{IsFirstHomeCpu, blocks_of}
use Rattle.nv_steps.proofs.Homes.{first_home}
use Rattle.nv_steps.proofs.lists.left_in_hand.Goals as goal

pub returns-in-Some-clause-home : goal.returns-in-Some-clause-home
returns-in-Some-clause-home c numbers from s same is given =
    let blocks = blocks_of c.args.hand.now in
    first_home numbers from s blocks (Some c.in-Some.cpu) is given
    (subst₂ (λ (n m : ℕ). IsFirstHomeCpu n m (numbers_of blocks) (Some c.in-Some.cpu)) (sym same.blocks) (sym same.cpus) c.in-Some.ensures)

pub returns-in-Some-ino-clause-home : goal.returns-in-Some-ino-clause-home
returns-in-Some-ino-clause-home c numbers from s same is given =
    let blocks = blocks_of c.args.hand.now in
    first_home numbers from s blocks None is given
    (subst₂ (λ (n m : ℕ). IsFirstHomeCpu n m (numbers_of blocks) None) (sym same.blocks) (sym same.cpus) c.in_default.ensures)

pub returns-in-None-clause-home : goal.returns-in-None-clause-home
returns-in-None-clause-home c numbers from s same is given =
    let blocks = blocks_of c.args.hand.now in
    first_home numbers from s blocks None is given
    (subst₂ (λ (n m : ℕ). IsFirstHomeCpu n m (numbers_of blocks) None) (sym same.blocks) (sym same.cpus) c.in_default.ensures)
