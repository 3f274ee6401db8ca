use Rattle.std.proofs.Common.{◌∙◌, ◌+◌, ◌%◌, ap, arith, length, refl, subst, sym}
use Rattle.nv_machine.specs.World.{list_at}
use Rattle.nv_steps.specs.OnList.{LogPages}
use Rattle.nv_core.specs.Parts.{IsOfDevice}
use Rattle.nv_core.specs.Shown.{hand_of, next_of, shared_of, shown}
use Rattle.nv_core.specs.declared.shared.Shared.{Shared}
use Rattle.nv_core.proofs.LentParts.{numbers_for}
use Rattle.nv_core.proofs.TakenBlocks.{pages_device}
use Rattle.nv_core.proofs.TakenTurns.{pages_all, pages_lack, pages_short}
use Rattle.nv_core.proofs.Takings.{before_pages, count_after, holds_pages, home_new, rooms_pages, rooms_taken}
use Rattle.nv_core.proofs.kinds.take.take_log_pages.Goals as goal

pub returns-in-All-clause-turn : goal.returns-in-All-clause-turn
returns-in-All-clause-turn c told =
    let shared = c.args.shared.now in
    let hand = c.args.hand.now in
    let running = c.args.running.now in
    let r = shown told running in
    pages_all shared c.take_next.new.shared hand c.take_next.new.queue c.args.actor c.args.asked running.wanted c.requires.limits
    c.requires.home c.requires.wide c.take_next.ensures.rest c.take_next.ensures.taken r (ap next_of c.requires.next)
    (c.in-All.ensures.turn LogPages (numbers_for shared) (hand_of hand) r (sym c.requires.home.count) (before_pages told running c.args.asked c.requires.next))

pub returns-in-All-clause-rooms : goal.returns-in-All-clause-rooms
returns-in-All-clause-rooms c =
    let shared = c.args.shared.now in
    let cpu = (c.args.actor + c.args.asked) % length shared.lists.items in
    rooms_taken shared c.take_next.new.shared c.args.hand.now c.args.running.now c.take_next.new.queue shared.geometry.numbers.blocks cpu
    c.args.asked (list_at (shared_of shared) cpu) c.take_next.ensures.rest c.requires.rooms c.requires.next c.take_next.ensures.taken
    (omega (arith, c.in-All.ensures.told))

pub returns-in-Lacks-clause-turn : goal.returns-in-Lacks-clause-turn
returns-in-Lacks-clause-turn c told =
    let shared = c.args.shared.now in
    let hand = c.args.hand.now in
    let running = c.args.running.now in
    let r = shown told running in
    pages_lack shared c.take_next.new.shared hand c.take_next.new.queue c.args.actor c.args.asked running.wanted c.requires.limits
    c.requires.home c.requires.wide c.take_next.ensures.rest c.take_next.ensures.taken r (ap next_of c.requires.next) c.in-Lacks.left
    (c.in-Lacks.ensures.turn LogPages (numbers_for shared) (hand_of hand) r (sym c.requires.home.count) (before_pages told running c.args.asked c.requires.next))

pub returns-in-Lacks-clause-rooms : goal.returns-in-Lacks-clause-rooms
returns-in-Lacks-clause-rooms c =
    let shared = c.args.shared.now in
    let cpu = (c.args.actor + c.args.asked) % length shared.lists.items in
    let list = list_at (shared_of shared) cpu in
    let new = c.take_next.new.shared in
    let many = count_after shared.geometry.numbers.blocks c.args.running.now.wanted cpu list shared.lists.items new.lists.items
    c.args.hand.now.pages c.take_next.new.queue c.take_next.ensures.taken in
    rooms_pages shared new c.args.hand.now c.args.running.now c.take_next.new.queue shared.geometry.numbers.blocks cpu c.args.asked list
    c.take_next.ensures.rest c.requires.rooms c.requires.next c.take_next.ensures.taken c.in-Lacks.left
    (omega (arith, c.in-Lacks.ensures.told.1)) (omega (arith, c.in-Lacks.ensures.told.2, many))

pub refuse-requires-clause-home : goal.refuse-requires-clause-home
refuse-requires-clause-home c =
    home_new c.args.shared.now c.take_next.new.shared c.args.running.now.wanted (c.args.actor + c.args.asked) c.args.hand.now.pages
    c.take_next.new.queue c.requires.limits c.requires.home c.take_next.ensures.rest c.take_next.ensures.taken

pub refuse-requires-clause-device : goal.refuse-requires-clause-device
refuse-requires-clause-device c =
    let shared = c.args.shared.now in
    let cpu = (c.args.actor + c.args.asked) % length shared.lists.items in
    subst (λ (u : Shared). IsOfDevice u.geometry.numbers (record c.args.hand.now { pages = c.take_next.new.queue }))
    (sym c.take_next.ensures.rest)
    (pages_device shared.geometry.numbers c.args.hand.now shared.geometry.numbers.blocks c.args.running.now.wanted cpu
    (list_at (shared_of shared) cpu) shared.lists.items c.take_next.new.shared.lists.items c.take_next.new.queue c.requires.device refl
    c.take_next.ensures.taken)

pub returns-in-TooFew-clause-turn : goal.returns-in-TooFew-clause-turn
returns-in-TooFew-clause-turn c told =
    let shared = c.args.shared.now in
    let hand = c.args.hand.now in
    let running = c.args.running.now in
    let r = shown told running in
    pages_short shared c.take_next.new.shared hand c.take_next.new.queue c.args.actor c.args.asked running.wanted c.requires.limits
    c.requires.home c.requires.wide c.take_next.ensures.rest c.take_next.ensures.taken r (ap next_of c.requires.next)
    (holds_pages shared hand running c.args.asked c.requires.next c.requires.rooms)
    (c.in-TooFew.ensures.turn LogPages (numbers_for shared) (hand_of hand) r (sym c.requires.home.count) (before_pages told running c.args.asked c.requires.next))
    ∙ c.refuse.ensures.turn told
