use Rattle.std.proofs.Common.{◌≡◌, ◌∙◌, ◌++◌, ap, map, refl, sym}
use Rattle.std.proofs.lemmas.Iterator.{YieldsList-from_zip}
use Rattle.std.proofs.lemmas.Iterator.Adapters.{YieldsList-from_vec}
use Rattle.std.proofs.lemmas.Iterator.Consumers.{YieldsList-end, YieldsList-from_enumerate}
use Rattle.nv_work.proofs.Crews.{cut_again, map_pushed, of_firsts, of_seconds}
use Rattle.nv_work.proofs.crew.Crew.seated.Goals as goal

pub loop-session-preserved : goal.loop-session-preserved
loop-session-preserved g c = let i = c.loop-session.invariant in record {
  jobs = rw c.in_ok-push.ensures.items (map_pushed _ _ c.loop-session.jobs.items c.loop-session.yielded _ _ i.jobs refl);
  seats = rw c.in_ok-push.ensures.items (map_pushed _ _ c.loop-session.jobs.items c.loop-session.yielded _ _ i.seats refl);
}

pub returns-clause-shares : goal.returns-clause-shares
returns-clause-shares g c =
    let cut = c.in_ok-cleaners.ensures in
    let it = c.into_iter-session-iterator.result in
    let sessions : it.a.rest.items ≡ c.split_off.new.self.items = cc in
    let many : it.a.rest.len ≡ c.split_off.new.self.len = cc in
    let calls : it.b.iter.rest.items ≡ c.args.calls.items = cc in
    let few : it.b.iter.rest.len ≡ c.args.calls.len = cc in
    let end = YieldsList-end (YieldsList-from_zip {s = it} (YieldsList-from_vec c.split_off.new.self.items sessions (many ∙ c.split_off.new.self.ok.0))
    (YieldsList-from_enumerate (YieldsList-from_vec c.args.calls.items calls (few ∙ c.args.calls.ok.0)) (cc))) c.loop-session.yielded _
    c.loop-session.yielded_by _ c.next.new.self c.in-None.is c.next.ensures.steps in
    let same = sym c.split_off.new.self.ok.0 ∙ (cut.len ∙ (c.len.ensures ∙ c.args.calls.ok.0)) in
    c.loop-session.invariant.jobs
    ∙ of_seconds c.loop-session.yielded c.split_off.new.self.items c.args.calls.items end.0 same (λ calls. calls.items)

pub returns-clause-seats : goal.returns-clause-seats
returns-clause-seats g c =
    let cut = c.in_ok-cleaners.ensures in
    let it = c.into_iter-session-iterator.result in
    let sessions : it.a.rest.items ≡ c.split_off.new.self.items = cc in
    let many : it.a.rest.len ≡ c.split_off.new.self.len = cc in
    let calls : it.b.iter.rest.items ≡ c.args.calls.items = cc in
    let few : it.b.iter.rest.len ≡ c.args.calls.len = cc in
    let end = YieldsList-end (YieldsList-from_zip {s = it} (YieldsList-from_vec c.split_off.new.self.items sessions (many ∙ c.split_off.new.self.ok.0))
    (YieldsList-from_enumerate (YieldsList-from_vec c.args.calls.items calls (few ∙ c.args.calls.ok.0)) (cc))) c.loop-session.yielded _
    c.loop-session.yielded_by _ c.next.new.self c.in-None.is c.next.ensures.steps in
    let same = sym c.split_off.new.self.ok.0 ∙ (cut.len ∙ (c.len.ensures ∙ c.args.calls.ok.0)) in
    ap (λ l. l ++ map (λ s. s.number) c.in_ok-cleaners.cleaners.items) (c.loop-session.invariant.seats
    ∙ of_firsts c.loop-session.yielded c.split_off.new.self.items c.args.calls.items end.0 same (λ s. s.number))
    ∙ cut_again (λ s. s.number) c.args.sessions.items _ _ c.len.result cut.items cut.tail
