use Rattle.std.proofs.Common.{◌++◌, List, ℕ, subst}
use Rattle.std.proofs.lemmas.Result.{err_from_is_err_and}
use Rattle.nv_script.specs.Lines.{WritesFront, WritesSome}
use Rattle.nv_script.proofs.Known.{writes_rest, writes_some}
use Rattle.nv_script.proofs.player.answer_line.Goals as goal

pub returns-in_err-play_line-clause-line : goal.returns-in_err-play_line-clause-line
returns-in_err-play_line-clause-line g c =
    let p = err_from_is_err_and c.from_residual.result c.from_residual.ensures.1 in
    rw (p.1, p.2) c.in_err-play_line.ensures.line

pub returns-in_default-clause-line : goal.returns-in_default-clause-line
returns-in_default-clause-line g c = λ m shown run.
    let led = c.in_ok-play_line.ensures.line m shown run in
    let wrote = c.in_default.ensures.sent in
    let some = subst (λ (bytes : List ℕ). WritesSome (g.W.CountedWrite.contents c.play_line.new.writer)
    (g.W.CountedWrite.contents c.add.new.writer) (c.play_line.new.outbox ++ bytes)) c.as_slice.ensures.value wrote.0 in
    (led.1, led.0, led.2, (writes_some _ _ _ _ _ led.4 some, wrote.1))

pub returns-clause-line : goal.returns-clause-line
returns-clause-line g c = λ m shown run.
    let led = c.in_ok-play_line.ensures.line m shown run in
    let wrote = subst (λ (bytes : List ℕ). WritesFront (g.W.CountedWrite.contents c.play_line.new.writer)
    (g.W.CountedWrite.contents c.add.new.writer)
    (c.play_line.new.outbox ++ bytes) c.add.new.self) c.as_slice.ensures.value c.in-Ok.ensures.sent in
    (led.0, led.1, led.2, led.3, writes_rest _ _ _ _ _ _ led.4 wrote)
