use Rattle.std.proofs.Common.{refl}
use Rattle.nv_mount_tool.proofs.Serving.{on_ok_always, on_ok_never}
use Rattle.nv_mount_tool.proofs.Session.{session_answered, session_answers, session_brings, session_keeps}
use Rattle.nv_mount_tool.proofs.serve.Serving.serve.Goals as goal

pub returns-in_err-answer_all-clause-served : goal.returns-in_err-answer_all-clause-served
returns-in_err-answer_all-clause-served g c =
    let answered = c.in_err-answer_all.ensures.served in
    let s = session_answers _ _ _ _ _ _ _ _ _ _ _ c.loop.invariant c.time_of.ensures answered.2 in
    (s.0, answered.0, s.1, on_ok_never c.from_residual.result _ _ c.from_residual.ensures.1, s.2)

pub returns-in_err-read-clause-served : goal.returns-in_err-read-clause-served
returns-in_err-read-clause-served g c =
    let answered = c.in_ok-answer_all.ensures.served in
    let s = session_answered _ _ _ _ _ _ _ _ _ _ c.loop.invariant c.time_of.ensures answered in
    let kept = session_keeps _ _ _ _ _ _ _ _ _ s c.in_err-read.ensures.kept
    refl c.in_err-read.ensures.same refl refl in
    let back = c.from_residual-in_err-read in
    (kept.0, _, kept.1, on_ok_never back.result _ _ back.ensures.1, kept.2)

pub returns-in-End-clause-served : goal.returns-in-End-clause-served
returns-in-End-clause-served g c =
    let answered = c.in_ok-answer_all.ensures.served in
    let s = session_answered _ _ _ _ _ _ _ _ _ _ c.loop.invariant c.time_of.ensures answered in
    let ended = session_brings _ c.in_ok-read.field-0 _ _ _ _ _ _ _ _ s c.in_ok-read.ensures.ok
    refl refl refl in
    (ended.0, _, ended.1, on_ok_always c.end.result _ refl, ended.2)

pub returns-in-Unmounted-clause-served : goal.returns-in-Unmounted-clause-served
returns-in-Unmounted-clause-served g c =
    let answered = c.in_ok-answer_all.ensures.served in
    let s = session_answered _ _ _ _ _ _ _ _ _ _ c.loop.invariant c.time_of.ensures answered in
    let ended = session_brings _ c.in_ok-read.field-0 _ _ _ _ _ _ _ _ s c.in_ok-read.ensures.ok
    refl refl refl in
    (ended.0, _, ended.1, on_ok_always c.end-in-Unmounted.result _ refl, ended.2)

pub loop-preserved : goal.loop-preserved
loop-preserved g c =
    let answered = c.in_ok-answer_all.ensures.served in
    let s = session_answered _ _ _ _ _ _ _ _ _ _ c.loop.invariant c.time_of.ensures answered in
    session_brings _ c.in_ok-read.field-0 _ _ _ _ _ _ _ _ s c.in_ok-read.ensures.ok refl refl refl
