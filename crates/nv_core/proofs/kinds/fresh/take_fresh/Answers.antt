use Rattle.std.proofs.Common.{◌∙◌, ◌+◌, ◌%◌, arith, length, refl, subst, sym}
use Rattle.nv_machine.specs.World.{go_to, list_at}
use Rattle.nv_steps.specs.OnList.{FreshPages, step_of}
use Rattle.nv_core.specs.Parts.{IsOfDevice}
use Rattle.nv_core.specs.Shown.{hand_of, shared_of, shown}
use Rattle.nv_core.specs.declared.shared.Shared.{Shared}
use Rattle.nv_core.proofs.FreshTurns.{rooms_all, rooms_lack}
use Rattle.nv_core.proofs.LentParts.{numbers_for}
use Rattle.nv_core.proofs.TakenBlocks.{pages_device}
use Rattle.nv_core.proofs.TakenTurns.{fresh_all_turn, fresh_lack_turn, fresh_short_turn}
use Rattle.nv_core.proofs.Takings.{count_after, home_new}
use Rattle.nv_core.proofs.kinds.fresh.take_fresh.Goals as goal

pub returns-in-All-clause-turn : goal.returns-in-All-clause-turn
returns-in-All-clause-turn c told =
    let shared = c.args.shared.now in
    let fresh = c.args.fresh in
    let r = shown told c.args.running.now in
    fresh_all_turn shared c.take_next.new.shared c.args.hand.now c.take_next.new.queue c.args.actor fresh.asked fresh.left c.requires.limits
    c.requires.home c.requires.wide c.take_next.ensures.rest c.take_next.ensures.taken r fresh.plan.ino
    (c.in-All.ensures.turn (FreshPages fresh.plan.ino) (numbers_for shared) (hand_of c.args.hand.now)
    (go_to (step_of (FreshPages fresh.plan.ino) fresh.asked fresh.left) r) (sym c.requires.home.count) refl)

pub returns-in-Lacks-clause-turn : goal.returns-in-Lacks-clause-turn
returns-in-Lacks-clause-turn c told =
    let shared = c.args.shared.now in
    let fresh = c.args.fresh in
    let r = shown told c.args.running.now in
    fresh_lack_turn shared c.take_next.new.shared c.args.hand.now c.take_next.new.queue c.args.actor fresh.asked fresh.left c.requires.limits
    c.requires.home c.requires.wide c.take_next.ensures.rest c.take_next.ensures.taken r fresh.plan.ino c.in-Lacks.left
    (c.in-Lacks.ensures.turn (FreshPages fresh.plan.ino) (numbers_for shared) (hand_of c.args.hand.now)
    (go_to (step_of (FreshPages fresh.plan.ino) fresh.asked fresh.left) r) (sym c.requires.home.count) refl)

pub returns-in-All-clause-rooms : goal.returns-in-All-clause-rooms
returns-in-All-clause-rooms c =
    let shared = c.args.shared.now in
    let cpu = (c.args.actor + c.args.fresh.asked) % length shared.lists.items in
    rooms_all shared c.take_next.new.shared c.args.hand.now c.args.fresh c.take_next.new.queue shared.geometry.numbers.blocks cpu 0
    c.take_next.ensures.rest c.take_next.ensures.taken (omega (arith, c.in-All.ensures.told)) c.requires.takes c.args.running.now
    c.requires.call c.requires.sized refl

pub returns-in-Lacks-clause-rooms : goal.returns-in-Lacks-clause-rooms
returns-in-Lacks-clause-rooms c =
    let shared = c.args.shared.now in
    let cpu = (c.args.actor + c.args.fresh.asked) % length shared.lists.items in
    let new = c.take_next.new.shared in
    let many = count_after shared.geometry.numbers.blocks c.args.fresh.left cpu (list_at (shared_of shared) cpu) shared.lists.items
    new.lists.items c.args.hand.now.pages c.take_next.new.queue c.take_next.ensures.taken in
    rooms_lack shared new c.args.hand.now c.args.fresh c.take_next.new.queue shared.geometry.numbers.blocks cpu c.in-Lacks.left
    c.take_next.ensures.rest c.take_next.ensures.taken (omega (arith, c.in-Lacks.ensures.told.1)) c.requires.takes c.args.running.now
    c.requires.call c.requires.sized (omega (arith, c.in-Lacks.ensures.told.2, many))

pub refuse-requires-clause-home : goal.refuse-requires-clause-home
refuse-requires-clause-home c =
    home_new c.args.shared.now c.take_next.new.shared c.args.fresh.left (c.args.actor + c.args.fresh.asked) c.args.hand.now.pages
    c.take_next.new.queue c.requires.limits c.requires.home c.take_next.ensures.rest c.take_next.ensures.taken

pub refuse-requires-clause-device : goal.refuse-requires-clause-device
refuse-requires-clause-device c =
    let shared = c.args.shared.now in
    let cpu = (c.args.actor + c.args.fresh.asked) % length shared.lists.items in
    subst (λ (u : Shared). IsOfDevice u.geometry.numbers (record c.args.hand.now { pages = c.take_next.new.queue }))
    (sym c.take_next.ensures.rest)
    (pages_device shared.geometry.numbers c.args.hand.now shared.geometry.numbers.blocks c.args.fresh.left cpu
    (list_at (shared_of shared) cpu) shared.lists.items c.take_next.new.shared.lists.items c.take_next.new.queue c.requires.device refl
    c.take_next.ensures.taken)

pub returns-in-TooFew-clause-turn : goal.returns-in-TooFew-clause-turn
returns-in-TooFew-clause-turn c told =
    let shared = c.args.shared.now in
    let fresh = c.args.fresh in
    let r = shown told c.args.running.now in
    fresh_short_turn shared c.take_next.new.shared c.args.hand.now c.take_next.new.queue c.args.actor fresh.asked fresh.left
    c.requires.limits c.requires.home c.requires.wide c.take_next.ensures.rest c.take_next.ensures.taken r fresh.plan.ino c.requires.slots
    (c.in-TooFew.ensures.turn (FreshPages fresh.plan.ino) (numbers_for shared) (hand_of c.args.hand.now)
    (go_to (step_of (FreshPages fresh.plan.ino) fresh.asked fresh.left) r) (sym c.requires.home.count) refl)
    ∙ c.refuse.ensures.turn told
