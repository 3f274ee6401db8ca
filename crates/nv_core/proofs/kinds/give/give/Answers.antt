use Rattle.std.proofs.Common.{◌≡◌, ◌∙◌, ◌+◌, ◌<◌, true, List, ap, arith, length, refl, subst, sym}
use Rattle.nv_alloc.specs.Block.{BlockValue}
use Rattle.nv_alloc.specs.Giving.{not_taken}
use Rattle.nv_alloc.specs.Hand.{blocks_of}
use Rattle.nv_machine.specs.Hands.{AreGiven}
use Rattle.nv_machine.specs.Kinds.{blocks_in}
use Rattle.nv_machine.specs.World as machine
use Rattle.nv_machine.specs.World.{list_at, no_list, with_list}
use Rattle.nv_steps.proofs.BookTurns.{by_next}
use Rattle.nv_steps.proofs.GiveTurns.{give_comes, handed}
use Rattle.nv_core.specs.Shown.{hand_of, next_of, shared_of, shown}
use Rattle.nv_core.proofs.Gives.{all_given, kept_in, same_there}
use Rattle.nv_core.proofs.LentParts.{is_of, numbers_for}
use Rattle.nv_core.proofs.kinds.give.give.Goals as goal

pub returns-clause-turn : goal.returns-clause-turn
returns-clause-turn c told owes =
    let shared = c.args.shared.now in
    let s = shared_of shared in
    let cpu = c.args.cpu in
    let g = shared.geometry.numbers in
    let hand = c.args.hand.now in
    let after = c.give-left.new.hand in
    let r = shown told c.args.running.now in
    let next = ap next_of c.requires.next in
    let inside : cpu < length shared.lists.items = omega (arith, c.requires.cpu, c.requires.home.count) in
    let found = c.index_mut.result.now in
    let was : found ≡ list_at s cpu = c.index_mut.ensures.value ∙ same_there shared.lists.items cpu found no_list inside in
    let kept : blocks_of after ≡ not_taken (list_at s cpu) (blocks_of hand) =
    ap blocks_in (sym (handed found cpu s hand after (sym was) c.give-left.ensures.data c.give-left.ensures.pages c.give-left.ensures.chain c.give-left.ensures.ino))
    ∙ kept_in cpu s (hand_of hand) in
    let given : AreGiven g (cpu + 1) (blocks_of after) =
    subst (λ (bs : List BlockValue). AreGiven g (cpu + 1) bs) (sym kept)
    (all_given g cpu (list_at s cpu) (blocks_of hand) (c.requires.home.each cpu c.requires.cpu) c.requires.sized c.requires.once c.requires.given) in
    let gives = c.give-left.ensures.turn (numbers_for shared) 0 cpu r (record { blocks = refl; cpus = refl }) next given in
    sym (by_next (machine.Give cpu) g.block 0 true s (hand_of hand) r next)
    ∙ give_comes (numbers_for shared) 0 cpu r found c.give-left.new.list (hand_of hand) (hand_of after) c.give-left.result c.give-left.ensures.number gives s
    (is_of shared c.requires.home c.requires.wide) (inside, sym was)
    ∙ c.give_left.ensures.turn told (with_list cpu c.give-left.new.list s) (hand_of after) owes c.give-left.ensures.number
