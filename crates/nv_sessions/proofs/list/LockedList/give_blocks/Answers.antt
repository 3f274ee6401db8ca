use Rattle.std.proofs.Common.{◌+◌, ap, arith, length, refl, subst}
use Rattle.nv_alloc.specs.FreeList.{FreeBlocks}
use Rattle.nv_alloc.specs.Hand.{blocks_of}
use Rattle.nv_steps.specs.Hands.{hand_of}
use Rattle.nv_steps.specs.OnList.{IsGive, home_left, on_list}
use Rattle.nv_steps.proofs.GiveTurns.{gives}
use Rattle.nv_sessions.proofs.FirstHomes.{behind_told, first_told, none_given}
use Rattle.nv_sessions.proofs.Giving.{given_moves}
use Rattle.nv_sessions.proofs.list.LockedList.give_blocks.Goals as goal

-- what the hand lost is what the list gained
pub overflow_sub-given : goal.overflow_sub-given
overflow_sub-given g c =
    let e = c.give_blocks.ensures in
    let after = c.give_blocks.new.self in
    let moved = given_moves c.self.inside.list c.args.hand.now after e.«data» e.pages e.chain in
    omega (arith, moved.fewer, c.len.ensures, c.len-before.ensures)

pub invariant_of-self : goal.invariant_of-self
invariant_of-self g c =
    let e = c.give_blocks.ensures in
    let after = c.give_blocks.new.self in
    let moved = given_moves c.self.inside.list c.args.hand.now after e.«data» e.pages e.chain in
    let t = c.transfer.ensures in
    let i = c.self.invariant in
    let list = ap (λ (l : FreeBlocks). length l.blocks) e.given in (
      omega (arith, t.parts_given, i.0),
      omega (
        arith,
        t.amount_given,
        i.1,
        moved.together,
        moved.fewer,
        list,
        c.len.ensures,
        c.len-before.ensures,
      ),
    )

pub returns-clause-amount : goal.returns-clause-amount
returns-clause-amount g c =
    let e = c.give_blocks.ensures in
    let after = c.give_blocks.new.self in
    let moved = given_moves c.self.inside.list c.args.hand.now after e.«data» e.pages e.chain in
    let left = c.transfer.ensures.amount_left in
    omega (arith, left, c.requires.amount, moved.fewer, c.len.ensures, c.len-before.ensures)

-- a give to a list behind its lock
pub returns-clause-turn : goal.returns-clause-turn
returns-clause-turn g c numbers actor cpu r homes next given =
    let e = c.give_blocks.ensures in
    let hand = c.args.hand.now in
    let after = c.give_blocks.new.self in
    let left = c.left_in_hand.result in
    subst (λ (l : FreeBlocks). IsGive numbers actor (on_list r (hand_of hand) cpu l c.give_blocks.new.list) left (hand_of after))
    c.self.view_is
    (gives numbers actor cpu r c.self.inside.list c.give_blocks.new.list hand after left next e.«data» e.pages e.chain e.ino e.given
    c.left_in_hand.ensures.number (λ s is. c.left_in_hand.ensures.home numbers (cpu + 1) s homes is given))

pub returns-clause-home : goal.returns-clause-home
returns-clause-home g c =
    let numbers = c.args.geometry.now.numbers in
    let bs = blocks_of c.give_blocks.new.self in
    first_told numbers bs (home_left c.left_in_hand.result)
    (λ s is. c.left_in_hand.ensures.home numbers 0 s (record { blocks = refl; cpus = refl }) is (none_given numbers bs))

pub returns-clause-later : goal.returns-clause-later
returns-clause-later g c cpu given =
    let numbers = c.args.geometry.now.numbers in
    behind_told numbers (blocks_of c.give_blocks.new.self) (home_left c.left_in_hand.result) cpu
    (λ s is. c.left_in_hand.ensures.home numbers cpu s (record { blocks = refl; cpus = refl }) is given)
