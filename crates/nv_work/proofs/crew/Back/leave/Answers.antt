use Rattle.std.proofs.Common.{◌≡◌, ◌∙◌, ◌++◌, ap, map, refl, sym}
use Rattle.std.proofs.lemmas.List.{map-append}
use Rattle.std.proofs.lemmas.Iterator.Adapters.{YieldsList-from_vec}
use Rattle.std.proofs.lemmas.Iterator.Consumers.{YieldsList-end}
use Rattle.nv_work.proofs.Crews.{map_after, map_pushed}
use Rattle.nv_work.proofs.crew.Back.leave.Goals as goal

pub loop-one-preserved : goal.loop-one-preserved
loop-one-preserved g c = let i = c.loop-one.invariant in record {
  seats = rw c.in_ok-push-2.ensures.items (map_pushed _ _ c.loop-one.sessions.items c.loop-one.yielded _ _ i.seats refl);
  texts = rw c.in_ok-push.ensures.items (map_pushed _ _ c.loop-one.yielded c.loop-one.texts.items _ _ i.texts c.in_ok-text.was);
}

pub returns-clause-seats : goal.returns-clause-seats
returns-clause-seats g c =
    let items : c.into_iter-one-iterator.result.rest.items ≡ c.args.self.played.items = cc in
    let len : c.into_iter-one-iterator.result.rest.len ≡ c.args.self.played.len = cc in
    let end = YieldsList-end (YieldsList-from_vec {s = c.into_iter-one-iterator.result} c.args.self.played.items items (len ∙ c.args.self.played.ok.0)) c.loop-one.yielded _
    c.loop-one.yielded_by _ c.next.new.self c.in-None.is c.next.ensures.steps in
    rw c.in_ok-append.ensures.items (map-append _ c.loop-one.sessions.items c.args.self.cleaners.items
    ∙ ap (λ l. l ++ map (λ s. s.number) c.args.self.cleaners.items) (c.loop-one.invariant.seats
    ∙ (sym (map_after (λ one. one.session.number) (λ y. y) c.loop-one.yielded) ∙ ap (map (λ one. one.session.number)) end.0)))

pub returns-clause-texts : goal.returns-clause-texts
returns-clause-texts g c =
    let items : c.into_iter-one-iterator.result.rest.items ≡ c.args.self.played.items = cc in
    let len : c.into_iter-one-iterator.result.rest.len ≡ c.args.self.played.len = cc in
    let end = YieldsList-end (YieldsList-from_vec {s = c.into_iter-one-iterator.result} c.args.self.played.items items (len ∙ c.args.self.played.ok.0)) c.loop-one.yielded _
    c.loop-one.yielded_by _ c.next.new.self c.in-None.is c.next.ensures.steps in
    ap (map (λ one. one.text)) (sym end.0) ∙ map_after (λ one. one.text) (λ y. y) c.loop-one.yielded ∙ c.loop-one.invariant.texts
