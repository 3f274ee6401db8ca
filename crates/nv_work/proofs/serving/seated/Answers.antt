use Rattle.std.proofs.Common.{◌+◌, ◌∙◌, ap, arith, length, map}
use Rattle.std.proofs.lemmas.List.{length-map}
use Rattle.std.proofs.lemmas.List.FromFn.{length-range_with_len}
use Rattle.std.specs.List.{range_with_len}
use Rattle.nv_service.specs.Seats.{new_session}
use Rattle.nv_work.proofs.Seats.{numbers_given}
use Rattle.nv_work.proofs.serving.seated.Goals as goal

pub seated-requires : goal.seated-requires
seated-requires g c =
    let sessions = c.in_ok-sessions.sessions in
    let many = sessions.ok.0 ∙ (ap length c.in_ok-sessions.ensures.sessions ∙ length-map (range_with_len 0 (c.len.result + c.args.cleaners)) new_session
    ∙ length-range_with_len 0 (c.len.result + c.args.cleaners)) in
    let few = c.len.ensures in
    omega (arith, many, few)

pub returns-clause-cleaners : goal.returns-clause-cleaners
returns-clause-cleaners g c =
    let sessions = c.in_ok-sessions.sessions in
    let many = sessions.ok.0 ∙ (ap length c.in_ok-sessions.ensures.sessions ∙ length-map (range_with_len 0 (c.len.result + c.args.cleaners)) new_session
    ∙ length-range_with_len 0 (c.len.result + c.args.cleaners)) in
    let few = c.len.ensures in
    let all = c.in_ok-seated.ensures.cleaners in
    omega (arith, many, few, all)

pub returns-clause-numbers : goal.returns-clause-numbers
returns-clause-numbers g c =
    let few = c.len.ensures ∙ ap (λ lists. lists.len) c.into_vec-lines.ensures in
    c.in_ok-seated.ensures.seats ∙ ap (map (λ s. s.number)) c.in_ok-sessions.ensures.sessions
    ∙ numbers_given (range_with_len 0 (c.len.result + c.args.cleaners)) ∙ ap (λ n. range_with_len 0 (n + c.args.cleaners)) few
