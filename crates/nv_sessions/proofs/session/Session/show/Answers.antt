use Rattle.std.proofs.Common.{ap, arith, refl, subst, sym}
use Rattle.std.specs.Prelude.{Ok, Err, Result}
use Rattle.nv_base.specs.declared.fault.Fault.{Fault}
use Rattle.nv_calls.specs.declared.answer.Answer.{Answer}
use Rattle.nv_calls.specs.declared.snapshot_or_cleaner_call.SnapshotOrCleanerCall.TheVariants as on
use Rattle.nv_sessions.specs.Refusing.{MayRefuseSnapshotOrCleaner, snapshot_or_cleaner_faults}
use Rattle.nv_sessions.specs.RunCalls.{told_as}
use Rattle.nv_sessions.specs.ShowRuns.{IsShowRun}
use Rattle.nv_sessions.specs.declared.seen.Seen.{Seen}
use Rattle.nv_sessions.specs.declared.seen.Seen.TheVariants as seen
use Rattle.nv_sessions.proofs.OtherRefusals.{exit_is, exits}
use Rattle.nv_sessions.proofs.ShowTurns.{not_pinned, show_run, told_fault, told_tree}
use Rattle.nv_sessions.proofs.session.Session.show.Goals as goal

pub returns-clause-run : goal.returns-clause-run
returns-clause-run g c =
    show_run c.args.service.now.geometry.numbers c.args.self.now.number c.args.snapshot c.in_ok-first.first c.in_ok-first.ensures.turn
    c.show_tree-shown.result c.show_tree-shown.ensures.visits (Ok c.in_ok-answer.answer) c.in_ok-answer.ensures.turn

pub returns-in_err-first-clause-run : goal.returns-in_err-first-clause-run
returns-in_err-first-clause-run g c =
    let numbers = c.args.service.now.geometry.numbers in
    let actor = c.args.self.now.number in
    subst (λ (end : Result Seen Fault). IsShowRun numbers actor c.args.snapshot (told_as end))
    (sym (exit_is c.from_residual.result _ c.from_residual.ensures.1))
    (not_pinned numbers actor c.args.snapshot _ c.in_err-first.ensures.turn c.in_err-first.ensures.err)

pub returns-in_err-answer-clause-run : goal.returns-in_err-answer-clause-run
returns-in_err-answer-clause-run g c =
    let numbers = c.args.service.now.geometry.numbers in
    let actor = c.args.self.now.number in
    subst (λ (end : Result Seen Fault). IsShowRun numbers actor c.args.snapshot (told_as end))
    (sym (exit_is c.from_residual-in_err-answer.result _ c.from_residual-in_err-answer.ensures.1))
    (show_run numbers actor c.args.snapshot c.in_ok-first.first c.in_ok-first.ensures.turn
    c.show_tree-shown.result c.show_tree-shown.ensures.visits (Err _) c.in_err-answer.ensures.turn)

pub returns-clause-answer : goal.returns-clause-answer
returns-clause-answer g c =
    let tree = told_tree c.args.service.now.geometry.numbers c.args.self.now.number c.args.snapshot c.show_tree-shown.result
    (Ok c.in_ok-answer.answer) c.in_ok-answer.answer refl c.in_ok-answer.ensures.turn in
    (tree.0, ap (λ (a : Answer). let s : Seen = seen.Other a in s) tree.1)

pub returns-in_err-answer-clause-err : goal.returns-in_err-answer-clause-err
returns-in_err-answer-clause-err g c =
    exits (MayRefuseSnapshotOrCleaner (on.Show c.args.snapshot)) c.from_residual-in_err-answer.result _ c.from_residual-in_err-answer.ensures.1
    (told_fault c.args.service.now.geometry.numbers c.args.self.now.number c.args.snapshot
    (snapshot_or_cleaner_faults (on.Show c.args.snapshot)) c.show_tree-shown.result (Err _) _ refl c.in_err-answer.ensures.turn
    c.show_tree-shown.ensures.err (1, omega arith, refl))
