use Rattle.std.proofs.Common.{◌≡◌, ◌∙◌, ◌<◌, ℕ, ap, arith, max, sym}
use Rattle.std.proofs.lemmas.Result.{IfErr-weaker, on_err_weaker, on_ok_weaker}
use Rattle.nv_alloc.specs.Queue.{QueueValue}
use Rattle.nv_base.specs.declared.fault.Fault.{Fault}
use Rattle.nv_base.specs.Memory.{out_of_memory}
use Rattle.nv_steps.specs.OnBook.{room_for}
use Rattle.nv_steps.proofs.BookTurns.{no_room_more}
use Rattle.nv_steps.proofs.picks.make_room.Goals as goal

pub returns-then-released-eq0-clause-ok : goal.returns-then-released-eq0-clause-ok
returns-then-released-eq0-clause-ok c =
    let hand = c.args.hand.now in
    on_ok_weaker c.reserve.result (λ (made : c.reserve.new.self ≡ record hand.«data» { room = max hand.«data».room 1 }).
    ap (λ (q : QueueValue). record hand { «data» = q }) (made
    ∙ ap (λ (n : ℕ). record hand.«data» { room = room_for n hand.«data».room }) (sym c.if-released-eq0.true))) c.reserve.ensures.ok

pub returns-then-released-eq0-clause-err : goal.returns-then-released-eq0-clause-err
returns-then-released-eq0-clause-err c =
    IfErr-weaker c.reserve.result (λ (why : Fault). (why ≡ out_of_memory) × (c.args.hand.now.«data».room < 1))
    (λ (why : Fault). (why ≡ out_of_memory) × (c.args.released ≡ 0))
    (λ why told. (told.0, c.if-released-eq0.true)) c.reserve.ensures.err

pub returns-then-released-eq0-clause-same : goal.returns-then-released-eq0-clause-same
returns-then-released-eq0-clause-same c =
    on_err_weaker c.reserve.result (λ (same : c.reserve.new.self ≡ c.args.hand.now.«data»).
    ap (λ (q : QueueValue). record c.args.hand.now { «data» = q }) same) c.reserve.ensures.same

pub returns-clause-ok : goal.returns-clause-ok
returns-clause-ok c =
    let hand = c.args.hand.now in
    ap (λ (room : ℕ). record hand { «data» = record hand.«data» { room = room } })
    (sym (no_room_more c.args.released hand.«data».room (omega (arith, c.if-released-eq0.false))))
