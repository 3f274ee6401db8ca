use Rattle.std.proofs.Common.{◌∙◌, ◌+◌, ◌%◌, ap, arith, length, sym}
use Rattle.nv_machine.specs.World.{list_at}
use Rattle.nv_steps.specs.OnList.{DataBlocks}
use Rattle.nv_core.specs.Shown.{hand_of, shared_of, shown, turn_of}
use Rattle.nv_core.specs.Shown.{next_of}
use Rattle.nv_core.specs.declared.shared.Shared.{Shared}
use Rattle.nv_core.proofs.LentParts.{numbers_for}
use Rattle.nv_core.proofs.TakenTurns.{blocks_all, blocks_lack, blocks_short}
use Rattle.nv_core.proofs.Takings.{before_blocks, count_after, holds_blocks, home_new, rooms_blocks, want_after}
use Rattle.nv_core.proofs.kinds.take.take_blocks.Goals as goal

pub want_pages-requires-clause-can : goal.want_pages-requires-clause-can
want_pages-requires-clause-can c =
    let shared = c.args.shared.now in
    let cpu = (c.args.actor + c.args.asked) % length shared.lists.items in
    want_after shared c.take_next.new.shared c.args.hand.now c.args.running.now c.take_next.new.queue shared.geometry.numbers.blocks cpu
    c.args.asked (list_at (shared_of shared) cpu) c.take_next.ensures.rest c.requires.rooms c.requires.next c.take_next.ensures.taken
    (omega (arith, c.in-All.ensures.told))

pub returns-in-All-clause-turn : goal.returns-in-All-clause-turn
returns-in-All-clause-turn c told is =
    let shared = c.args.shared.now in
    let hand = c.args.hand.now in
    let running = c.args.running.now in
    let r = shown told running in
    let h = hand_of (record hand { «data» = c.take_next.new.queue }) in
    blocks_all shared c.take_next.new.shared hand c.take_next.new.queue c.args.actor c.args.asked running.wanted c.requires.limits
    c.requires.home c.requires.wide c.take_next.ensures.rest c.take_next.ensures.taken r (ap next_of c.requires.next)
    (c.in-All.ensures.turn DataBlocks (numbers_for shared) (hand_of hand) r (sym c.requires.home.count) (before_blocks told running c.args.asked c.requires.next))
    ∙ c.want_pages.ensures.turn told is
    ∙ ap (λ (u : Shared). turn_of c.want_pages.result c.want_pages.new.running.answer (shared_of u) h (shown told c.want_pages.new.running)) (sym c.want_pages.ensures.shared)

pub returns-in-Lacks-clause-turn : goal.returns-in-Lacks-clause-turn
returns-in-Lacks-clause-turn c told is =
    let shared = c.args.shared.now in
    let hand = c.args.hand.now in
    let running = c.args.running.now in
    let r = shown told running in
    blocks_lack shared c.take_next.new.shared hand c.take_next.new.queue c.args.actor c.args.asked running.wanted c.requires.limits
    c.requires.home c.requires.wide c.take_next.ensures.rest c.take_next.ensures.taken r (ap next_of c.requires.next) c.in-Lacks.left
    (c.in-Lacks.ensures.turn DataBlocks (numbers_for shared) (hand_of hand) r (sym c.requires.home.count) (before_blocks told running c.args.asked c.requires.next))

pub returns-in-Lacks-clause-rooms : goal.returns-in-Lacks-clause-rooms
returns-in-Lacks-clause-rooms c =
    let shared = c.args.shared.now in
    let cpu = (c.args.actor + c.args.asked) % length shared.lists.items in
    let list = list_at (shared_of shared) cpu in
    let new = c.take_next.new.shared in
    let many = count_after shared.geometry.numbers.blocks c.args.running.now.wanted cpu list shared.lists.items new.lists.items
    c.args.hand.now.«data» c.take_next.new.queue c.take_next.ensures.taken in
    rooms_blocks shared new c.args.hand.now c.args.running.now c.take_next.new.queue shared.geometry.numbers.blocks cpu c.args.asked list
    c.take_next.ensures.rest c.requires.rooms c.requires.next c.take_next.ensures.taken c.in-Lacks.left
    (omega (arith, c.in-Lacks.ensures.told.1)) (omega (arith, c.in-Lacks.ensures.told.2, many))

pub refuse-requires-clause-home : goal.refuse-requires-clause-home
refuse-requires-clause-home c =
    home_new c.args.shared.now c.take_next.new.shared c.args.running.now.wanted (c.args.actor + c.args.asked) c.args.hand.now.«data»
    c.take_next.new.queue c.requires.limits c.requires.home c.take_next.ensures.rest c.take_next.ensures.taken

pub returns-in-TooFew-clause-turn : goal.returns-in-TooFew-clause-turn
returns-in-TooFew-clause-turn c told is =
    let shared = c.args.shared.now in
    let hand = c.args.hand.now in
    let running = c.args.running.now in
    let r = shown told running in
    blocks_short shared c.take_next.new.shared hand c.take_next.new.queue c.args.actor c.args.asked running.wanted c.requires.limits
    c.requires.home c.requires.wide c.take_next.ensures.rest c.take_next.ensures.taken r (ap next_of c.requires.next)
    (holds_blocks shared hand running c.args.asked c.requires.next c.requires.rooms)
    (c.in-TooFew.ensures.turn DataBlocks (numbers_for shared) (hand_of hand) r (sym c.requires.home.count) (before_blocks told running c.args.asked c.requires.next))
    ∙ c.refuse.ensures.turn told
