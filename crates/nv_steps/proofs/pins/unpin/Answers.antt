use Rattle.std.proofs.Common.{◌∙◌, ap}
use Rattle.std.specs.Prelude.{Err, Ok}
use Rattle.nv_book.specs.Book.{BookValue}
use Rattle.nv_calls.specs.declared.answer.Answer.TheVariants.{Tree}
use Rattle.nv_steps.specs.OnBook.{answer_of_show}
use Rattle.nv_steps.proofs.BookTurns.{unpin_done}
use Rattle.nv_steps.proofs.pins.unpin.Goals as goal

pub returns-in-Ok-clause-turn : goal.returns-in-Ok-clause-turn
returns-in-Ok-clause-turn c numbers actor granted h r seen next told =
    unpin_done numbers actor granted r c.args.book.now.state c.unpin.new.self.state c.args.snapshot seen (Ok (Tree c.in-Ok.tree)) h next
    (told ∙ ap answer_of_show c.in-Ok.is) (ap (λ (b : BookValue). b.state) c.unpin.ensures)

pub returns-in-Err-clause-turn : goal.returns-in-Err-clause-turn
returns-in-Err-clause-turn c numbers actor granted h r seen next told =
    unpin_done numbers actor granted r c.args.book.now.state c.unpin.new.self.state c.args.snapshot seen (Err c.in-Err.fault) h next
    (told ∙ ap answer_of_show c.in-Err.is) (ap (λ (b : BookValue). b.state) c.unpin.ensures)
