use Rattle.std.proofs.Common.{◌+◌, ◌∙◌, arith, refl, sym}
use Rattle.std.proofs.lemmas.Bool.{false≢true}
use Rattle.nv_alloc.specs.Hand.{blocks_of}
use Rattle.nv_machine.specs.Hands.{AreGiven}
use Rattle.nv_steps.specs.OnList.{home_left}
use Rattle.nv_sessions.proofs.FirstHomes.{given_up_to}
use Rattle.nv_sessions.proofs.Keeping.{some_left}
use Rattle.nv_sessions.proofs.giving_back.Giving.give_blocks.Goals as goal

pub returns-then-not-is_later-clause-ok : goal.returns-then-not-is_later-clause-ok
returns-then-not-is_later-clause-ok g c = (
  λ yes. absurd (false≢true yes),
  λ both.
      let later = c.is_later.ensures.1 (λ home is. let at = c.give_blocks-left.ensures.later (c.args.cpu + 1) both.1 home is in omega (arith, at)) in
      absurd (false≢true (sym c.if-not-is_later.true ∙ later)),
)

pub returns-then-not-is_later-clause-kept : goal.returns-then-not-is_later-clause-kept
returns-then-not-is_later-clause-kept g c some =
    some_left c.args.geometry.now.numbers (blocks_of c.give_blocks-left.new.hand) (home_left c.give_blocks-left.result) c.args.cpu
    c.give_blocks-left.ensures.home (λ later. false≢true (sym c.if-not-is_later.true ∙ c.is_later.ensures.1 later))

-- what is left is at home on later CPUs
pub returns-clause-turn : goal.returns-clause-turn
returns-clause-turn g c actor r next =
    let numbers = c.args.geometry.now.numbers in
    let later = c.is_later.ensures.0 c.if-not-is_later.false in
    let given : AreGiven numbers (c.args.cpu + 1) (blocks_of c.give_blocks-left.new.hand) =
    given_up_to numbers (blocks_of c.give_blocks-left.new.hand) (home_left c.give_blocks-left.result) (c.args.cpu + 1)
    (omega (arith, c.requires.cpu)) (omega (arith, c.requires.cpu)) c.give_blocks-left.ensures.home
    (λ home is. let at = later home is in omega (arith, at)) in
    c.give_blocks-left.ensures.turn numbers actor c.args.cpu r (record { blocks = refl; cpus = refl }) next given

pub returns-clause-ok : goal.returns-clause-ok
returns-clause-ok g c =
    let numbers = c.args.geometry.now.numbers in
    let later = c.is_later.ensures.0 c.if-not-is_later.false in
    let given : AreGiven numbers (c.args.cpu + 1) (blocks_of c.give_blocks-left.new.hand) =
    given_up_to numbers (blocks_of c.give_blocks-left.new.hand) (home_left c.give_blocks-left.result) (c.args.cpu + 1)
    (omega (arith, c.requires.cpu)) (omega (arith, c.requires.cpu)) c.give_blocks-left.ensures.home
    (λ home is. let at = later home is in omega (arith, at)) in
    let made = c.made_for.ensures.0 c.if-not-made_for.false in
    (λ yes. (rw c.part.ensures at made, given), λ both. refl)
