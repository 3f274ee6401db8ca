use Rattle.std.proofs.Common.{◌≡◌, ◌∙◌, true, Option, ap, refl, subst, sym}
use Rattle.std.specs.Prelude.{Err}
use Rattle.nv_base.specs.declared.fault.Fault.{Fault}
use Rattle.nv_calls.proofs.FillPages.{always_err}
use Rattle.nv_cell.specs.Cell.{CellState, CellValue}
use Rattle.nv_machine.specs.SnapshotOrCleaner.{one_more}
use Rattle.nv_machine.specs.World.{Drains, HandState, empty_hand}
use Rattle.nv_sessions.specs.Cleaning.{CanRelease}
use Rattle.nv_sessions.specs.Draining.{is_record}
use Rattle.nv_sessions.specs.Locked.{cell_of}
use Rattle.nv_steps.specs.Hands.{hand_of}
use Rattle.nv_steps.specs.OnBook.{drain_of}
use Rattle.nv_steps.specs.OnCell.{on_cell, once_ending}
use Rattle.nv_steps.specs.Turns.{IsMove}
use Rattle.nv_steps.specs.declared.picks.Picked.{Picked}
use Rattle.nv_sessions.specs.SessionRuns.{IsSessionRun}
use Rattle.nv_sessions.proofs.Draining.{can_first, ends_it, releases_it}
use Rattle.nv_sessions.proofs.OtherRefusals.{exits}
use Rattle.nv_sessions.proofs.drain.release_held.Goals as goal

pub release-requires-clause-can : goal.release-requires-clause-can
release-requires-clause-can g c =
    let was = sym c.is_record.ensures ∙ c.if-not-is_record.false in
    let same : c.part.result.now.state ≡ (cell_of c.args.cell.now).state = ap (λ (v : CellValue). v.state) c.part.ensures.cell in
    subst (λ (cell : CellState). CanRelease cell c.args.first c.pick_first.new.hand) same
    (can_first c.part.result.now.state c.args.first c.pick_first.new.hand c.in_ok-picked.picked was c.in_ok-picked.ensures.can).0

pub release-requires-clause-room : goal.release-requires-clause-room
release-requires-clause-room g c =
    let was = sym c.is_record.ensures ∙ c.if-not-is_record.false in
    (can_first c.part.result.now.state c.args.first c.pick_first.new.hand c.in_ok-picked.picked was c.in_ok-picked.ensures.can).1

-- the pick, the lock and the release
pub returns-clause-run : goal.returns-clause-run
returns-clause-run g c actor left h0 r0 r w before p is =
    let numbers = c.args.service.now.geometry.numbers in
    let d = drain_of c.args.released left in
    let first = c.args.first in
    let was = ap (λ (x : Option Picked). is_record x) (sym is) ∙ sym c.is_record.ensures ∙ c.if-not-is_record.false in
    let same : c.part.result.now.state ≡ (cell_of c.args.cell.now).state = ap (λ (v : CellValue). v.state) c.part.ensures.cell in
    let old = c.part.result.now.state in
    let new = (cell_of c.release.new.self).state in
    let after = hand_of c.release.new.hand in
    releases_it numbers actor h0 r0 d first r old new after c.pick_first.new.hand p was c.requires.inside (c.in_ok-picked.ensures.can p is)
    (λ q holds. subst (λ (cell : CellState). IsMove numbers actor (on_cell first.ino q empty_hand true cell new) after (once_ending (Drains (one_more d)) q))
    (sym same)
    (subst (λ (h : HandState). IsMove numbers actor (on_cell first.ino q h true (cell_of c.args.cell.now).state new) after (once_ending (Drains (one_more d)) q))
    c.pick_first.ensures.empty (c.release.ensures.turn numbers actor d q holds)))
    (c.in_ok-picked.ensures.run numbers actor left h0 r0 r w before p is)

pub returns-then-not-is_record-clause-run : goal.returns-then-not-is_record-clause-run
returns-then-not-is_record-clause-run g c actor left h0 r0 r w before p is =
    let numbers = c.args.service.now.geometry.numbers in
    let d = drain_of c.args.released left in
    let none = ap (λ (x : Option Picked). is_record x) (sym is) ∙ sym c.is_record.ensures ∙ c.if-not-is_record.true in
    ends_it numbers actor h0 r0 d r (hand_of c.pick_first.new.hand) p none
    (c.in_ok-picked.ensures.run numbers actor left h0 r0 r w before p is)

pub returns-in_err-picked-clause-refused : goal.returns-in_err-picked-clause-refused
returns-in_err-picked-clause-refused g c actor left h0 r0 r w before =
    let numbers = c.args.service.now.geometry.numbers in
    exits (λ (why : Fault). IsSessionRun numbers actor h0 r0 (Err why) empty_hand) c.from_residual.result _ c.from_residual.ensures.1
    (c.in_err-picked.ensures.refused numbers actor left h0 r0 r w before)

pub returns-in_err-picked-clause-same : goal.returns-in_err-picked-clause-same
returns-in_err-picked-clause-same g c = always_err c.from_residual.result _ refl
