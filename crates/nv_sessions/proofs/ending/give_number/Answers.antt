use Rattle.std.proofs.Common.{rules, ◌≡◌, ℕ, Option, Some, subst}
use Rattle.nv_sessions.specs.Underway.{GivesBack, number_left}
use Rattle.nv_steps.specs.Hands.{hand_of}
use Rattle.nv_sessions.proofs.Keeping.{number_kept}
use Rattle.nv_sessions.proofs.Underway.{returns_ok}
use Rattle.nv_sessions.proofs.ending.give_number.Goals as goal

-- the return of a number behind a lock
pub returns-clause-run : goal.returns-clause-run
returns-clause-run g c actor h0 r0 r w =
    let numbers = c.args.service.now.geometry.numbers in
    let hand = c.args.hand.now in
    let own : hand.ino ≡ Some c.in-Some.ino = search rules in
    returns_ok numbers actor h0 r0 (hand_of hand) (hand_of c.put_back.new.hand) r c.put_back.result _ _
    (c.put_back.ensures.turn numbers actor)
    (subst (λ (number : Option ℕ). GivesBack numbers actor h0 r0 (number_left number) (hand_of hand) r) own w)

pub returns-clause-kept : goal.returns-clause-kept
returns-clause-kept g c = number_kept c.put_back.result _ c.put_back.ensures.ok
