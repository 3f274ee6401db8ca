use Rattle.std.proofs.Common.{rules, ◌≡◌, List, [], inl, inr, true, refl, subst, sym}
use Rattle.std.specs.Prelude.{Ok}
use Rattle.nv_entry.specs.declared.tree.TreeNode.{TreeNode}
use Rattle.nv_reader.specs.Showing.{is_over}
use Rattle.nv_sessions.specs.ShowRuns.{AreAllVisits, IsMarked}
use Rattle.nv_sessions.proofs.OtherRefusals.{exit_is}
use Rattle.nv_sessions.proofs.ShowTurns.{breaks, goes, sees_all, unmarked}
use Rattle.nv_sessions.proofs.snapshots.show_tree.Goals as goal

pub loop-visit-init : goal.loop-visit-init
loop-visit-init g c =
    record { come = ([], refl, λ ino is. unmarked c.new-met.result.items ino (search rules) is); room = inl (search rules) }

pub loop-visit-preserved : goal.loop-visit-preserved
loop-visit-preserved g c =
    let e = c.in_ok-showing.ensures in
    record {
      come = goes c.args.service.now.geometry.numbers c.args.snapshot c.args.first (IsMarked c.loop-visit.met.items)
          (IsMarked c.visit.new.met.items) c.loop-visit.showing c.in_ok-showing.showing c.loop-visit.invariant.come e.cell e.marks;
      room = inr e.room;
    }

pub returns-then-is_over-clause-visits : goal.returns-then-is_over-clause-visits
returns-then-is_over-clause-visits g c =
    let numbers = c.args.service.now.geometry.numbers in
    let over : is_over c.loop-visit.showing ≡ true = search rules in
    subst (λ (nodes : List TreeNode). AreAllVisits numbers c.args.snapshot c.args.first (Ok nodes)) (sym c.into_seen.ensures)
    (sees_all numbers c.args.snapshot c.args.first (IsMarked c.loop-visit.met.items) c.loop-visit.showing c.loop-visit.invariant.come over)

pub returns-in_err-showing-clause-visits : goal.returns-in_err-showing-clause-visits
returns-in_err-showing-clause-visits g c =
    breaks c.args.service.now.geometry.numbers c.args.snapshot c.args.first (IsMarked c.loop-visit.met.items) c.loop-visit.showing
    c.from_residual.result _ c.loop-visit.invariant.come c.in_err-showing.ensures.cell
    (exit_is c.from_residual.result _ c.from_residual.ensures.1) c.in_err-showing.ensures.err
