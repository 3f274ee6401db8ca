use Rattle.std.proofs.Common.{ℕ, ap, inr, refl, subst, sym, true}
use Rattle.std.specs.Prelude.{Err, Ok, Result}
use Rattle.nv_base.specs.declared.fault.Fault.{Fault}
use Rattle.nv_base.specs.declared.fault.MismatchPart.TheVariants as part
use Rattle.nv_cell.specs.Cell.{CellValue}
use Rattle.nv_calls.proofs.FillPages.{always_err}
use Rattle.nv_sessions.specs.Ending.{cleaner_of}
use Rattle.nv_sessions.specs.Holding.{Holds, once_fresh, wanting}
use Rattle.nv_sessions.specs.Locked.{cell_of}
use Rattle.nv_sessions.specs.Misfits.{Uncleanable}
use Rattle.nv_sessions.specs.Refusing.{MayRefuseSnapshotOrCleaner}
use Rattle.nv_sessions.specs.RunCalls.{planning}
use Rattle.nv_steps.specs.Hands.{hand_of}
use Rattle.nv_steps.specs.Planning.{manner_of, once_planned}
use Rattle.nv_steps.specs.Runs.{LeftAs}
use Rattle.nv_steps.specs.declared.planning.Planned.TheVariants as planned
use Rattle.nv_sessions.proofs.CleanerRuns.{misfit_exit, planning_may, refused_exit, short_exit, taking_may}
use Rattle.nv_sessions.proofs.CleaningTurns.{cleans, done, not_misfit, plan_refuses, plans, plans_not, refuses}
use Rattle.nv_sessions.proofs.Holding.{broken}
use Rattle.nv_sessions.proofs.OtherRefusals.{exits}
use Rattle.nv_sessions.proofs.cleaners.clean_held.Goals as goal

-- a test fails
pub returns-in_err-test_cell-clause-run : goal.returns-in_err-test_cell-clause-run
returns-in_err-test_cell-clause-run g c h0 r0 holds =
    let numbers = c.args.service.now.geometry.numbers in
    let ino = c.args.cell.now.ino in
    let m = c.args.manner in
    let misfit = c.in_err-test_cell.ensures.misfit in
    misfit_exit numbers c.args.number h0 r0 (hand_of c.args.hand.now) c.from_residual.result _ misfit.0 c.from_residual.ensures.1 misfit.1
    (broken numbers c.args.number h0 r0 holds.turns c.args.hand.now (planning m ino) misfit.0 holds.leads
    (Uncleanable (manner_of m) ino c.part.result.now.state refl misfit.2))

pub returns-in_err-test_cell-clause-err : goal.returns-in_err-test_cell-clause-err
returns-in_err-test_cell-clause-err g c =
    exits (MayRefuseSnapshotOrCleaner (cleaner_of c.args.manner c.args.cell.now.ino)) c.from_residual.result _ c.from_residual.ensures.1
    (inr (c.in_err-test_cell.ensures.misfit.0, c.in_err-test_cell.ensures.misfit.1))

-- it leaves the cell, and so do other refusals
pub returns-in_err-test_cell-clause-same : goal.returns-in_err-test_cell-clause-same
returns-in_err-test_cell-clause-same g c = always_err c.from_residual.result _ refl

pub returns-in_err-planned-clause-same : goal.returns-in_err-planned-clause-same
returns-in_err-planned-clause-same g c = always_err c.from_residual-in_err-planned.result _ refl

pub returns-in_err-take_fresh-in-Compacts-clause-same : goal.returns-in_err-take_fresh-in-Compacts-clause-same
returns-in_err-take_fresh-in-Compacts-clause-same g c = always_err c.from_residual-in_err-take_fresh-in-Compacts.result _ refl

-- the planning refuses it
pub returns-in_err-planned-clause-run : goal.returns-in_err-planned-clause-run
returns-in_err-planned-clause-run g c h0 r0 holds =
    let numbers = c.args.service.now.geometry.numbers in
    let number = c.args.number in
    let ino = c.args.cell.now.ino in
    let m = c.args.manner in
    let exit = c.from_residual-in_err-planned in
    let after = hand_of c.plan_cleaning.new.hand in
    let here = ap (λ (v : CellValue). v.state) c.part-2.ensures.cell in
    let moves = c.in_err-planned.ensures.turn numbers number ino (planning m ino) (record { next = refl; slots = refl }) in
    refused_exit numbers number h0 r0 after exit.result _ exit.ensures.1
    (refuses numbers number h0 r0 ino (LeftAs (cell_of c.args.cell.now).state) after (planning m ino) _
    (not_misfit _
    (plan_refuses numbers number m ino c.part-2.result.now.state (hand_of c.args.hand.now) after _ c.requires.inside moves))
    (plans_not numbers number h0 r0 m ino c.part-2.result.now.state (cell_of c.args.cell.now).state (hand_of c.args.hand.now) after here holds _
    moves))

pub returns-in_err-planned-clause-err : goal.returns-in_err-planned-clause-err
returns-in_err-planned-clause-err g c =
    let numbers = c.args.service.now.geometry.numbers in
    let number = c.args.number in
    let ino = c.args.cell.now.ino in
    let m = c.args.manner in
    let exit = c.from_residual-in_err-planned in
    exits (MayRefuseSnapshotOrCleaner (cleaner_of m ino)) exit.result _ exit.ensures.1
    (planning_may m ino _
    (plan_refuses numbers number m ino c.part-2.result.now.state (hand_of c.args.hand.now) (hand_of c.plan_cleaning.new.hand) _
    c.requires.inside
    (c.in_err-planned.ensures.turn numbers number ino (planning m ino) (record { next = refl; slots = refl }))))

-- log pages go whole
pub returns-in-Unlinks-clause-run : goal.returns-in-Unlinks-clause-run
returns-in-Unlinks-clause-run g c h0 r0 holds =
    let numbers = c.args.service.now.geometry.numbers in
    let number = c.args.number in
    let ino = c.args.cell.now.ino in
    let m = c.args.manner in
    let old = (cell_of c.args.cell.now).state in
    let after = hand_of c.plan_cleaning.new.hand in
    let here = ap (λ (v : CellValue). v.state) c.part-2.ensures.cell in
    let r = once_planned ino (Ok (planned.Unlinks c.in-Unlinks.walk)) (planning m ino) in
    let plans_so : Holds numbers number h0 r0 ino (LeftAs old) after r =
    plans numbers number h0 r0 m ino c.part-2.result.now.state old (hand_of c.args.hand.now) after here holds _ (planned.Unlinks c.in-Unlinks.walk)
    c.in-Unlinks.is (c.in_ok-planned.ensures.turn numbers number ino (planning m ino) (record { next = refl; slots = refl })) in
    cleans numbers number h0 r0 ino old (cell_of c.unlink.new.self).state after (hand_of c.unlink.new.hand) r c.unlink.result plans_so
    (c.unlink.ensures.turn numbers number ino true r (record { next = refl; slots = refl }))

-- entries go one by one
pub returns-in_err-take_fresh-in-Compacts-clause-run : goal.returns-in_err-take_fresh-in-Compacts-clause-run
returns-in_err-take_fresh-in-Compacts-clause-run g c h0 r0 holds =
    let numbers = c.args.service.now.geometry.numbers in
    let number = c.args.number in
    let ino = c.args.cell.now.ino in
    let m = c.args.manner in
    let old = (cell_of c.args.cell.now).state in
    let after = hand_of c.plan_cleaning.new.hand in
    let here = ap (λ (v : CellValue). v.state) c.part-2.ensures.cell in
    let walk = c.in-Compacts.walk in
    let plans_so : Holds numbers number h0 r0 ino (LeftAs old) after (wanting ino 0 walk.pages (planning m ino)) =
    plans numbers number h0 r0 m ino c.part-2.result.now.state old (hand_of c.args.hand.now) after here holds _ (planned.Compacts walk)
    c.in-Compacts.is (c.in_ok-planned.ensures.turn numbers number ino (planning m ino) (record { next = refl; slots = refl })) in
    let wants = subst (λ (n : ℕ). Holds numbers number h0 r0 ino (LeftAs old) after (wanting ino 0 n (planning m ino))) (sym c.pages.ensures)
    plans_so in
    let exit = c.from_residual-in_err-take_fresh-in-Compacts in
    refused_exit numbers number h0 r0 (hand_of c.take_fresh.new.hand) exit.result _ exit.ensures.1
    (short_exit numbers number h0 r0 ino (LeftAs old) (hand_of c.take_fresh.new.hand) (planning m ino) _ part.Lists
    c.in_err-take_fresh-in-Compacts.ensures.err (λ short. c.in_err-take_fresh-in-Compacts.ensures.short h0 r0 (planning m ino) ino (LeftAs old) wants
    (ap (λ (f : Fault). let e : Result (Unit {0}) Fault = Err f in e) short))
    (λ wrong. c.in_err-take_fresh-in-Compacts.ensures.broken h0 r0 (planning m ino) ino (LeftAs old) wants
    (ap (λ (f : Fault). let e : Result (Unit {0}) Fault = Err f in e) wrong)))

pub returns-in_err-take_fresh-in-Compacts-clause-err : goal.returns-in_err-take_fresh-in-Compacts-clause-err
returns-in_err-take_fresh-in-Compacts-clause-err g c =
    let exit = c.from_residual-in_err-take_fresh-in-Compacts in
    let found = rw c.in-Compacts.is at c.in_ok-planned.ensures.found in
    exits (MayRefuseSnapshotOrCleaner (cleaner_of c.args.manner c.args.cell.now.ino)) exit.result _ exit.ensures.1
    (taking_may c.args.manner c.args.cell.now.ino c.part-2.result.now.state _ part.Lists found.0 c.in_err-take_fresh-in-Compacts.ensures.err)

pub returns-in_ok-take_fresh-in-Compacts-clause-run : goal.returns-in_ok-take_fresh-in-Compacts-clause-run
returns-in_ok-take_fresh-in-Compacts-clause-run g c h0 r0 holds =
    let numbers = c.args.service.now.geometry.numbers in
    let number = c.args.number in
    let ino = c.args.cell.now.ino in
    let m = c.args.manner in
    let old = (cell_of c.args.cell.now).state in
    let after = hand_of c.plan_cleaning.new.hand in
    let here = ap (λ (v : CellValue). v.state) c.part-2.ensures.cell in
    let walk = c.in-Compacts.walk in
    let plans_so : Holds numbers number h0 r0 ino (LeftAs old) after (wanting ino 0 walk.pages (planning m ino)) =
    plans numbers number h0 r0 m ino c.part-2.result.now.state old (hand_of c.args.hand.now) after here holds _ (planned.Compacts walk)
    c.in-Compacts.is (c.in_ok-planned.ensures.turn numbers number ino (planning m ino) (record { next = refl; slots = refl })) in
    let wants = subst (λ (n : ℕ). Holds numbers number h0 r0 ino (LeftAs old) after (wanting ino 0 n (planning m ino))) (sym c.pages.ensures)
    plans_so in
    let r = once_fresh ino (planning m ino) in
    cleans numbers number h0 r0 ino old (cell_of c.compact.new.self).state (hand_of c.take_fresh.new.hand) (hand_of c.compact.new.hand) r
    c.compact.result (c.in_ok-take_fresh-in-Compacts.ensures.taken h0 r0 (planning m ino) ino (LeftAs old) wants)
    (c.compact.ensures.turn numbers number ino true r (record { next = refl; slots = refl }))

-- none goes
pub returns-in-Ends-clause-run : goal.returns-in-Ends-clause-run
returns-in-Ends-clause-run g c h0 r0 holds =
    let numbers = c.args.service.now.geometry.numbers in
    let number = c.args.number in
    let ino = c.args.cell.now.ino in
    let m = c.args.manner in
    let old = (cell_of c.args.cell.now).state in
    let after = hand_of c.plan_cleaning.new.hand in
    let here = ap (λ (v : CellValue). v.state) c.part-2.ensures.cell in
    done numbers number h0 r0 ino (LeftAs old) after (planning m ino) c.in-Ends.cleaned
    (plans numbers number h0 r0 m ino c.part-2.result.now.state old (hand_of c.args.hand.now) after here holds _ (planned.Ends c.in-Ends.cleaned)
    c.in-Ends.is (c.in_ok-planned.ensures.turn numbers number ino (planning m ino) (record { next = refl; slots = refl })))
