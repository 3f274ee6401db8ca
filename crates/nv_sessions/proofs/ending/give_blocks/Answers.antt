use Rattle.std.proofs.Common.{◌≡◌, ◌∙◌, ◌≤◌, ap, arith, min, refl, subst}
use Rattle.std.proofs.Math.Bool.{or-false}
use Rattle.std.proofs.Math.Nat.{min-le_left, min-le_right}
use Rattle.std.specs.Option.{ForSome}
use Rattle.nv_alloc.specs.Hand.{blocks_of}
use Rattle.nv_calls.proofs.FillPages.{always_err}
use Rattle.nv_machine.specs.Reads.{home_from}
use Rattle.nv_machine.specs.World.{Shared}
use Rattle.nv_sessions.specs.Underway.{GivesBack, IsFirstHome}
use Rattle.nv_steps.specs.Hands.{hand_of}
use Rattle.nv_steps.specs.OnList.{home_left}
use Rattle.nv_steps.specs.Parts.{IsOf}
use Rattle.nv_steps.specs.declared.lists.LeftInHand.{LeftInHand}
use Rattle.nv_sessions.proofs.FirstHomes.{first_told, given_up_to, none_given}
use Rattle.nv_sessions.proofs.Keeping.{some_kept}
use Rattle.nv_sessions.proofs.Underway.{gives_on, home_is, no_home, none_left, unlocks}
use Rattle.nv_sessions.proofs.ending.give_blocks.Goals as goal
use Rattle.nv_sessions.proofs.ending.give_blocks.Goals.{else-loop-list-test, then-loop-list-test+in_default, then-loop-list-test+in-Blocks+in_default-list_lock}

-- the unlock tells what is left
pub loop-list-init : goal.loop-list-init
loop-list-init g c =
    let numbers = c.args.service.now.geometry.numbers in
    let hand = c.args.hand.now in
    let left = c.left_in_hand-left.result in
    let told : (s : Shared) → IsOf numbers s → home_from 0 0 s.lists (blocks_of hand) ≡ home_left left =
    λ s is. c.left_in_hand-left.ensures.home numbers 0 s (record { blocks = refl; cpus = refl }) is (none_given numbers (blocks_of hand)) in
    record {
      parts = refl;
      amount = c.requires.amount;
      refused = refl;
      home = first_told numbers (blocks_of hand) (home_left left) told;
      place = λ home is. omega arith;
      number = c.left_in_hand-left.ensures.number;
      run = λ actor h0 r0 r w. unlocks numbers actor h0 r0 (hand_of hand) r left w c.left_in_hand-left.ensures.number told;
    }

-- so does each give
pub loop-list-preserved : goal.loop-list-preserved
loop-list-preserved g c =
    let numbers = c.args.service.now.geometry.numbers in
    let i = c.loop-list.invariant in
    let e = c.in_ok-left.ensures in
    let cpu = c.in-Blocks.cpu in
    let hand = c.loop-list.hand in
    let first = subst (λ (l : LeftInHand). IsFirstHome numbers (blocks_of hand) (home_left l)) c.in-Blocks.is i.home in
    let own = (e.ok.0 refl).0 in
    record {
      parts = e.parts ∙ i.parts;
      amount = e.amount;
      refused = e.refused ∙ or-false c.loop-list.giving.refused ∙ i.refused;
      home = e.home;
      place = λ home is.
          let later = e.later home is in
          let at = i.place cpu (ap home_left c.in-Blocks.is) in omega (arith, later, at);
      number = e.number;
      run = λ actor h0 r0 r w.
          gives_on numbers actor h0 r0 (hand_of hand) (hand_of c.give_blocks.new.hand) r cpu _ _ c.in_ok-left.left first.1
          (record { start = own.start; end = own.end }) (e.turn actor)
          (subst (λ (l : LeftInHand). GivesBack numbers actor h0 r0 l (hand_of hand) r) c.in-Blocks.is (i.run actor h0 r0 r w));
    }

-- behind the last give no list is home of what is left
pub find_homeless-requires : goal.find_homeless-requires
find_homeless-requires g c =
    let numbers = c.args.service.now.geometry.numbers in
    let i = c.loop-list.invariant in
    let cpus = c.args.service.now.geometry.limits.some_cpus in
    let few = min-le_left c.len.result numbers.cpus in
    let behind : ForSome (home_left c.loop-list.left) (λ home. c.len.result ≤ home) = elim c.loop-list-test.branch [
      | else-loop-list-test w ↦ λ home is. let at = i.place home is in omega (arith, at, w.loop-list-test.false, c.len.ensures, c.len-list-end.ensures)
      | then-loop-list-test+in_default w ↦ λ home is. absurd (no_home c.loop-list.left w.in_default.not-Blocks home is)
      | then-loop-list-test+in-Blocks+in_default-list_lock w ↦ λ home is.
          let same = home_is c.loop-list.left w.in-Blocks.cpu home w.in-Blocks.is is in
          let lists = w.in_default-list_lock.ensures in omega (arith, same, lists, c.len.ensures)
    ] in
    given_up_to numbers (blocks_of c.loop-list.hand) (home_left c.loop-list.left) (min c.len.result numbers.cpus) (omega (arith, cpus))
    (min-le_right c.len.result numbers.cpus) i.home (λ home is. let at = behind home is in omega (arith, few, at))

pub returns-clause-run : goal.returns-clause-run
returns-clause-run g c actor h0 r0 r w =
    let numbers = c.args.service.now.geometry.numbers in
    let i = c.loop-list.invariant in
    let hand = c.loop-list.hand in
    none_left c.find_homeless.result numbers (blocks_of hand) c.loop-list.left hand.ino
    (λ (l : LeftInHand). GivesBack numbers actor h0 r0 l (hand_of hand) r) i.home i.number c.find_homeless.ensures.ok
    (i.run actor h0 r0 r w)

-- a list refuses some, or none is home of them
pub returns-in_err-left-clause-kept : goal.returns-in_err-left-clause-kept
returns-in_err-left-clause-kept g c =
    let numbers = c.args.service.now.geometry.numbers in
    let hand = c.loop-list.hand in
    let first = subst (λ (l : LeftInHand). IsFirstHome numbers (blocks_of hand) (home_left l)) c.in-Blocks.is c.loop-list.invariant.home in
    always_err c.from_residual.result _ (c.in_err-left.ensures.kept first.0)

pub returns-clause-kept : goal.returns-clause-kept
returns-clause-kept g c = some_kept c.find_homeless.result _ c.find_homeless.ensures.ok
