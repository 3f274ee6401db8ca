use Rattle.std.proofs.Common.{◌+◌, ◌++◌, ◌∙◌, ap, map, subst, sym, vec_len, ℕ}
use Rattle.nv_service.specs.Seats.{AreSeats}
use Rattle.nv_base.specs.declared.geometry.Geometry.{Geometry}
use Rattle.nv_work.specs.Taken.{lists_of}
use Rattle.nv_work.specs.Threads.{AreThreadTexts, IsThreadText}
use Rattle.nv_work.proofs.Crews.{texts_told}
use Rattle.nv_work.proofs.Seats.{are_in_a_row, not_closed, not_opened}
use Rattle.nv_work.proofs.serving.serve.Goals as goal

pub returns-in-Err-clause-err : goal.returns-in-Err-clause-err
returns-in-Err-clause-err g c = λ m shown. not_opened c.in-Err.fault m (c.in-Err.ensures.err m shown)

pub returns-in-Ok-close-clause-texts : goal.returns-in-Ok-close-clause-texts
returns-in-Ok-close-clause-texts g c =
    subst (λ (g : Geometry). AreThreadTexts g.numbers.actors (lists_of c.args.lines) (map (λ text. text.items) c.in_ok-sessions.texts.items))
    (c.in_ok-crew.ensures.geometry ∙ c.in-Ok.ensures.geometry)
    (texts_told (IsThreadText c.seated.new.service.geometry.numbers.actors) (λ text. text.items) _ _ c.in_ok-sessions.texts.items _
    c.in_ok-crew.ensures.shares c.in_ok-sessions.ensures.texts c.in_ok-back.ensures.texts)

pub returns-in-Err-close-clause-err : goal.returns-in-Err-close-clause-err
returns-in-Err-close-clause-err g c = λ m shown.
    let many = vec_len c.args.lines.threads + c.args.cleaners in
    let numbers = c.in_ok-sessions.ensures.seats
    ∙ (ap (λ ns. ns ++ map (λ s. s.number) c.in_ok-back.back.cleaners.items) c.in_ok-back.ensures.seats
    ∙ (ap (λ ns. map (λ job. job.session.number) c.in_ok-crew.crew.jobs.items ++ ns) c.in_ok-back.ensures.cleaners
    ∙ c.in_ok-crew.ensures.numbers)) in
    let back = subst (λ (given : ℕ). AreSeats given (map (λ s. s.number) c.in_ok-sessions.sessions.items)) (sym c.in_ok-crew.ensures.given)
    (subst (AreSeats many) (sym numbers) (are_in_a_row many)) in
    not_closed _ m _ _ (c.in-Ok.ensures.idle m shown) back c.in-Err-close.ensures.out.0 c.in-Err-close.ensures.err
