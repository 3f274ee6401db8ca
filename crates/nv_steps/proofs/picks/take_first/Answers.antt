use Rattle.std.proofs.Common.{ap, refl}
use Rattle.nv_book.specs.Book.{BookValue}
use Rattle.nv_steps.specs.OnBook.{drain_of}
use Rattle.nv_steps.proofs.BookTurns.{pick_done, pick_none}
use Rattle.nv_steps.proofs.picks.take_first.Goals as goal

pub returns-in-Some-clause-turn : goal.returns-in-Some-clause-turn
returns-in-Some-clause-turn c numbers actor left h r before =
    pick_done numbers actor r c.args.book.now.state c.pick.new.self.state (drain_of c.args.released left) before
    h h c.in-Some.first refl c.in-Some.ensures.first (ap (λ (b : BookValue). b.state) c.pick.ensures.rest)

pub returns-in-None-clause-turn : goal.returns-in-None-clause-turn
returns-in-None-clause-turn c numbers actor left h r before =
    pick_none numbers actor r c.args.book.now.state c.pick.new.self.state (drain_of c.args.released left) before
    h h refl c.in-None.ensures.first (ap (λ (b : BookValue). b.state) c.pick.ensures.rest)
