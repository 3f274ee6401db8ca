use Rattle.std.proofs.Common.{◌++◌, List, ℕ, ◌∙◌, sym, subst}
use Rattle.std.proofs.KnownBytes.{Appends-trans}
use Rattle.std.proofs.lemmas.Result.{MatchResult-from_err}
use Rattle.std.specs.Io.KnownBytes.{Appends}
use Rattle.nv_script.specs.Lines.{WritesFront, WritesSome}
use Rattle.nv_script.proofs.Known.{writes_all, writes_all_and_some, writes_some_of}
use Rattle.nv_script.proofs.outbox.Outbox.add.Goals as goal

pub returns-in_err-flush-clause-sent : goal.returns-in_err-flush-clause-sent
returns-in_err-flush-clause-sent g c =
    let some = subst (λ (bytes : List ℕ). WritesSome (g.W.CountedWrite.contents c.args.writer.now)
    (g.W.CountedWrite.contents c.flush.new.writer) bytes) c.if-gather.ensures c.in_err-flush.ensures.sent in
    MatchResult-from_err c.from_residual.result _ _ c.from_residual.ensures.0
    (λ _. (writes_some_of _ _ c.args.self.now c.args.text.now some, c.flush.ensures.empty))

pub returns-in_err-send-clause-sent : goal.returns-in_err-send-clause-sent
returns-in_err-send-clause-sent g c =
    let all = subst (λ (bytes : List ℕ). Appends (g.W.CountedWrite.contents c.args.writer.now)
    (g.W.CountedWrite.contents c.flush.new.writer) bytes) c.if-gather.ensures c.in_ok-flush.ensures.sent in
    MatchResult-from_err c.from_residual-in_err-send.result _ _ c.from_residual-in_err-send.ensures.0
    (λ _. (
      writes_all_and_some _ _ _ c.args.self.now c.args.text.now all c.in_err-send.ensures.sent,
      c.if-gather-2.ensures
          ∙ c.flush.ensures.empty,
    ))

pub returns-clause-sent : goal.returns-clause-sent
returns-clause-sent g c =
    let all = subst (λ (bytes : List ℕ). Appends (g.W.CountedWrite.contents c.args.writer.now)
    (g.W.CountedWrite.contents c.flush.new.writer) bytes) c.if-gather.ensures c.in_ok-flush.ensures.sent in
    let both = Appends-trans _ _ _ c.args.self.now c.args.text.now all c.in_ok-send.ensures.sent in
    let none = sym (c.if-gather-2.ensures ∙ c.flush.ensures.empty) in
    subst (λ (left : List ℕ). WritesFront (g.W.CountedWrite.contents c.args.writer.now) (g.W.CountedWrite.contents c.send.new.writer)
    (c.args.self.now ++ c.args.text.now) left) none (writes_all _ _ (c.args.self.now ++ c.args.text.now) both)
