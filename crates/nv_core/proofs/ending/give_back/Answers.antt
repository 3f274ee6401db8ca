use Rattle.std.proofs.Common.{◌∙◌, ℕ, Option, ap}
use Rattle.nv_alloc.specs.Hand.{blocks_of}
use Rattle.nv_machine.specs.Kinds.{rest_turn}
use Rattle.nv_steps.specs.OnList.{home_left}
use Rattle.nv_core.specs.Shown.{hand_of, shared_of, shown}
use Rattle.nv_core.proofs.LentParts.{home_told}
use Rattle.nv_core.proofs.ending.give_back.Goals as goal

pub returns-clause-turn : goal.returns-clause-turn
returns-clause-turn c told owes =
    let s = shared_of c.args.shared.now in
    let h = hand_of c.args.hand.now in
    ap (λ (home : Option ℕ). rest_turn home h.ino s h (shown told c.args.running.now))
    (home_told c.args.shared.now (blocks_of c.args.hand.now) (home_left c.left_in_hand.result) c.requires.home c.left_in_hand.ensures.home)
    ∙ c.give_left.ensures.turn told s h owes c.left_in_hand.ensures.number
