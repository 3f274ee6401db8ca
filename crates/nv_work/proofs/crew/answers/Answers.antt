use Rattle.std.proofs.Common.{◌≡◌, ◌∙◌, ◌∷◌, [], subst, List, ℕ}
use Rattle.std.proofs.lemmas.List.{map-append}
use Rattle.std.proofs.lemmas.Iterator.Adapters.{YieldsList-from_vec}
use Rattle.std.proofs.lemmas.Iterator.Consumers.{YieldsList-end, YieldsList-from_enumerate}
use Rattle.nv_work.specs.declared.forked.ForkedCall.{ForkedCall}
use Rattle.nv_work.specs.Threads.{IsThreadText}
use Rattle.nv_work.proofs.Crews.{answered_more, of_places}
use Rattle.nv_work.proofs.crew.answers.Goals as goal

pub loop-line-preserved : goal.loop-line-preserved
loop-line-preserved g c =
    let i = c.loop-line.invariant in
    let told = c.answered-told.ensures in record {
      text = rw (
        c.in_ok-push_answer.ensures,
        map-append (λ (p : ℕ × ForkedCall). p.1) c.loop-line.yielded ((c.in-Some.line, c.in-Some.call) ∷ []),
      ) (answered_more c.args.service.now.geometry.numbers.actors c.args.thread _ _ c.in-Some.call c.answered-told.result i.text told.answer);
      seat = told.seat ∙ i.seat;
    }

pub returns-clause-text : goal.returns-clause-text
returns-clause-text g c =
    let items : c.into_iter-line-iterator.result.iter.rest.items ≡ c.args.calls.items = cc in
    let len : c.into_iter-line-iterator.result.iter.rest.len ≡ c.args.calls.len = cc in
    let end = YieldsList-end (YieldsList-from_enumerate {s = c.into_iter-line-iterator.result} (YieldsList-from_vec c.args.calls.items items (len ∙ c.args.calls.ok.0)) (cc))
    c.loop-line.yielded _ c.loop-line.yielded_by _ c.next.new.self c.in-None.is c.next.ensures.steps in
    subst (λ (calls : List ForkedCall). IsThreadText c.args.service.now.geometry.numbers.actors (c.args.thread, calls) c.loop-line.text.items)
    (of_places c.loop-line.yielded c.args.calls.items end.0) c.loop-line.invariant.text
