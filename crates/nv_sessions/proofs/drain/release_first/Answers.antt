use Rattle.std.proofs.Common.{arith, refl, subst, sym}
use Rattle.std.specs.Prelude.{Err}
use Rattle.std.proofs.lemmas.Option.{slice_get_within}
use Rattle.nv_base.specs.declared.fault.Fault.{Fault}
use Rattle.nv_base.specs.declared.fault.MismatchPart.TheVariants as part
use Rattle.nv_machine.specs.World.{Next, empty_hand}
use Rattle.nv_sessions.specs.Misfits.{Misplaced, Slotless, TakesSlot}
use Rattle.nv_sessions.specs.SessionRuns.{IsSessionRun}
use Rattle.nv_steps.specs.OnBook.{drain_of}
use Rattle.nv_sessions.proofs.Draining.{breaks_pick}
use Rattle.nv_sessions.proofs.OtherRefusals.{exits}
use Rattle.nv_sessions.proofs.drain.release_first.Goals as goal

-- the slot is one of the device
pub release_held-requires-clause-inside : goal.release_held-requires-clause-inside
release_held-requires-clause-inside g c =
    let service = c.args.service.now in
    omega (arith, slice_get_within service.cells.locks.items c.args.first.ino _ c.in-Some.ensures, service.cells.locks.ok, service.slots)

-- the record is of no slot
pub returns-in_default-clause-refused : goal.returns-in_default-clause-refused
returns-in_default-clause-refused g c actor left h0 r0 r w before =
    let numbers = c.args.service.now.geometry.numbers in
    breaks_pick numbers actor h0 r0 c.args.hand.now r part.Records _ c.requires.empty w
    (Slotless (drain_of c.args.released left) c.args.first before.next
    (omega (arith, c.in_default.ensures, c.args.service.now.slots)) refl) refl

-- the place of its slot is another's, or empty
pub returns-in_err-cell-clause-refused : goal.returns-in_err-cell-clause-refused
returns-in_err-cell-clause-refused g c actor left h0 r0 r w before =
    let numbers = c.args.service.now.geometry.numbers in
    let place = c.in_err-cell.ensures.misplaced in
    exits (λ (why : Fault). IsSessionRun numbers actor h0 r0 (Err why) empty_hand) c.from_residual.result _ c.from_residual.ensures.1
    (breaks_pick numbers actor h0 r0 c.args.hand.now r part.Lists _ c.requires.empty w
    (Misplaced c.args.first.ino place.0 (subst (λ (n : Next). TakesSlot r.call n c.args.first.ino) (sym before.next) tt) place.1 refl) c.in_err-cell.ensures.err)
