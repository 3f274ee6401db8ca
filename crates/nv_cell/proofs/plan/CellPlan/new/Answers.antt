use Rattle.std.proofs.Common.{◌≡◌, ℕ, arith, subst, take}
use Rattle.std.proofs.lemmas.List.{length-take}
use Rattle.nv_cell.specs.Plan.{IsScanned}
use Rattle.nv_cell.proofs.FirstSlots.{slot_few}
use Rattle.nv_cell.proofs.Scanning.{scanned_all}
use Rattle.nv_cell.proofs.plan.CellPlan.new.Goals as goal

pub loop-t-init : goal.loop-t-init
loop-t-init c = c.in_ok-scan.ensures.ok c.args.block c.args.living.now

pub take_in-requires-clause-scanned : goal.take_in-requires-clause-scanned
take_in-requires-clause-scanned c = c.loop-t.invariant

pub loop-t-preserved : goal.loop-t-preserved
loop-t-preserved c = c.in_ok-take_in.ensures.ok

pub returns-clause-ok : goal.returns-clause-ok
returns-clause-ok c =
    let es = c.args.chain.now.state.entries in
    let block = c.args.block in
    let living = c.args.living.now in
    let tail = c.args.tail in
    let done : c.loop-t.t ≡ tail = omega (arith, c.loop-t-test.false, c.loop-t.auto.t-end) in
    let is = subst (λ (t : ℕ). IsScanned block living c.args.chain.now tail t c.loop-t.scan) done c.loop-t.invariant in
    let few = length-take tail es in
    record {
      refs = is.refs;
      names = is.names;
      marks = scanned_all living block (take tail es) c.loop-t.scan.marks.marks.items is.len is.marks;
      ends_room = omega (arith, few, is.ends.ends_room);
      tallies_room = omega (arith, few, is.ends.tallies_room);
      pages_room = is.ends.pages_room;
    }

pub returns-clause-bare : goal.returns-clause-bare
returns-clause-bare c =
    record {
      none = c.in_ok-with_capacity.ensures.items;
      room = omega (
        arith,
        slot_few c.args.chain.now.state.entries c.args.tail,
        c.loop-t.invariant.len,
        c.in_ok-with_capacity.ensures.capacity,
        c.len-slots.ensures,
        c.loop-t.scan.marks.marks.ok,
      );
    }
