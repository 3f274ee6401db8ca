use Rattle.std.proofs.Common.{rules, ◌≡◌, ℕ, inr, refl, subst, sym}
use Rattle.std.specs.Prelude.{IfErr}
use Rattle.nv_base.specs.declared.fault.MismatchPart.TheVariants as part
use Rattle.nv_machine.specs.World.{empty_hand}
use Rattle.nv_sessions.specs.Ending.{cleaner_of}
use Rattle.nv_sessions.specs.Holding.{Holds}
use Rattle.nv_sessions.specs.Misfits.{Misplaced}
use Rattle.nv_sessions.specs.Refusing.{MayRefuseSnapshotOrCleaner}
use Rattle.nv_sessions.specs.RunCalls.{cleaning, planning}
use Rattle.nv_steps.specs.Hands.{hand_of}
use Rattle.nv_steps.specs.Runs.{Unseen}
use Rattle.nv_sessions.proofs.CleanerRuns.{misfit_exit}
use Rattle.nv_sessions.proofs.CleaningTurns.{holds_slot, nothing_in}
use Rattle.nv_sessions.proofs.Holding.{broken}
use Rattle.nv_sessions.proofs.OtherRefusals.{exits}
use Rattle.nv_sessions.proofs.cleaners.clean_log.Goals as goal

-- the place is another's, or empty
pub returns-in_err-cell-clause-run : goal.returns-in_err-cell-clause-run
returns-in_err-cell-clause-run g c =
    let numbers = c.args.service.now.geometry.numbers in
    let number = c.args.number in
    let m = c.args.manner in
    let start = cleaning numbers (cleaner_of m c.args.ino) in
    let place = c.in_err-cell.ensures.misplaced in
    let holds = holds_slot numbers number m c.args.ino (hand_of c.args.hand.now) c.requires.inside (nothing_in c.args.hand.now c.requires.empty) in
    misfit_exit numbers number empty_hand start (hand_of c.args.hand.now) c.from_residual.result _ part.Lists c.from_residual.ensures.1
    c.in_err-cell.ensures.err
    (broken numbers number empty_hand start holds.turns c.args.hand.now (planning m c.args.ino) part.Lists holds.leads
    (Misplaced c.args.ino place.0 refl place.1 refl))

pub returns-in_err-cell-clause-err : goal.returns-in_err-cell-clause-err
returns-in_err-cell-clause-err g c =
    exits (MayRefuseSnapshotOrCleaner (cleaner_of c.args.manner c.args.ino)) c.from_residual.result _ c.from_residual.ensures.1
    (inr (part.Lists, c.in_err-cell.ensures.err))

-- behind its lock
pub returns-clause-run : goal.returns-clause-run
returns-clause-run g c =
    let numbers = c.args.service.now.geometry.numbers in
    let number = c.args.number in
    let m = c.args.manner in
    let start = cleaning numbers (cleaner_of m c.args.ino) in
    let own : c.deref_mut.result.now.ino ≡ c.args.ino = search rules in
    c.clean_held.ensures.run empty_hand start
    (subst (λ (ino : ℕ). Holds numbers number empty_hand start ino Unseen (hand_of c.args.hand.now) (planning m ino)) (sym own)
    (holds_slot numbers number m c.args.ino (hand_of c.args.hand.now) c.requires.inside (nothing_in c.args.hand.now c.requires.empty)))

pub returns-clause-err : goal.returns-clause-err
returns-clause-err g c =
    let own : c.deref_mut.result.now.ino ≡ c.args.ino = search rules in
    subst (λ (ino : ℕ). IfErr c.clean_held.result (MayRefuseSnapshotOrCleaner (cleaner_of c.args.manner ino))) own c.clean_held.ensures.err
