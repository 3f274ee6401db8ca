use Rattle.std.proofs.Common.{◌∙◌, true, ap, refl, sym}
use Rattle.nv_machine.specs.World as machine
use Rattle.nv_steps.specs.OnPool.{on_pool}
use Rattle.nv_steps.proofs.BookTurns.{by_next}
use Rattle.nv_steps.proofs.LastTurns.{last_comes}
use Rattle.nv_core.specs.Shown.{hand_of, next_of, shared_of, shown}
use Rattle.nv_core.proofs.LentParts.{is_of, numbers_for}
use Rattle.nv_core.proofs.kinds.return_number.return_number.Goals as goal

pub returns-clause-turn : goal.returns-clause-turn
returns-clause-turn c told owes =
    let shared = c.args.shared.now in
    let s = shared_of shared in
    let r = shown told c.args.running.now in
    let h = hand_of c.args.hand.now in
    let after = hand_of c.return_number.new.hand in
    let next = ap next_of c.requires.next in
    let pool = c.return_number.new.pool in
    sym (by_next machine.ReturnNumber shared.geometry.numbers.block 0 true s h r next)
    ∙ last_comes (numbers_for shared) 0 (on_pool r h shared.pool pool) after r.ending
    (c.return_number.ensures.turn (numbers_for shared) 0 r next) s (is_of shared c.requires.home c.requires.wide) (refl, tt)
    ∙ c.last.ensures.turn told (record s { pool = pool }) after owes
