use Rattle.std.proofs.Common.{◌≡◌, ◌<◌, [], arith, length, subst, sym, ◌∙◌}
use Rattle.std.proofs.lemmas.List.{get_or_read, length-map}
use Rattle.nv_audit.specs.Pending.{pending_of}
use Rattle.nv_audit.specs.Pool.{no_cell}
use Rattle.nv_audit.specs.Records.{states_of}
use Rattle.nv_audit.specs.Resting.{AreInodesAtRest, IsFirstOfInode, IsFirstOfInodes, IsInodeAtRest}
use Rattle.nv_audit.proofs.Differs.{agrees_if_none, differs_if_some}
use Rattle.nv_audit.proofs.Loops.{one_more_at}
use Rattle.nv_audit.proofs.PendingSlots.{list_here}
use Rattle.nv_audit.proofs.States.{as_many, state_at}
use Rattle.nv_audit.proofs.resting.first_resting.Goals as goal

pub returns-then-is_some-clause-ok : goal.returns-then-is_some-clause-ok
returns-then-is_some-clause-ok c book with =
    let states = states_of c.args.cells.now in
    let i = c.loop-place.place in
    let cell = c.index-cells-place.result in
    let few = as_many c.args.cells.now i c.loop-place-test.true in
    let is = state_at c.args.cells.now i cell c.loop-place-test.true c.index-cells-place.is in
    let within : i < length c.args.pending.now = omega (arith, c.loop-place-test.true, c.requires) in
    let own : c.deref.result.now ≡ pending_of i book.deferred [] =
    c.deref.ensures.value ∙ sym (list_here c.args.pending.now i c.index-pending-place.result within c.index-pending-place.is)
    ∙ with.pending.each i within in
    differs_if_some (IsInodeAtRest book i cell.state) (AreInodesAtRest book states)
    (λ p. IsFirstOfInode p book i cell.state) (λ p. IsFirstOfInodes p book states)
    c.in_ok-differs.differs (sym c.is_some.ensures ∙ c.if-is_some.true)
    (λ p told. record {
      ino = i;
      within = few;
      before = λ k lt. c.loop-place.invariant book with k no_cell lt;
      differs = subst (IsFirstOfInode p book i) (get_or_read states i cell.state few is no_cell) told;
    })
    (c.in_ok-differs.ensures.ok book i with.living own)

pub loop-place-preserved : goal.loop-place-preserved
loop-place-preserved c book with =
    let states = states_of c.args.cells.now in
    let i = c.loop-place.place in
    let cell = c.index-cells-place.result in
    let is = state_at c.args.cells.now i cell c.loop-place-test.true c.index-cells-place.is in
    let within : i < length c.args.pending.now = omega (arith, c.loop-place-test.true, c.requires) in
    let own : c.deref.result.now ≡ pending_of i book.deferred [] =
    c.deref.ensures.value ∙ sym (list_here c.args.pending.now i c.index-pending-place.result within c.index-pending-place.is)
    ∙ with.pending.each i within in
    one_more_at (IsInodeAtRest book) states i cell.state (as_many c.args.cells.now i c.loop-place-test.true) is
    (agrees_if_none (IsInodeAtRest book i cell.state) (λ p. IsFirstOfInode p book i cell.state)
    c.in_ok-differs.differs (sym c.is_some.ensures ∙ c.if-is_some.false) (c.in_ok-differs.ensures.ok book i with.living own))
    (c.loop-place.invariant book with)

pub returns-clause-ok : goal.returns-clause-ok
returns-clause-ok c book with ino d lt =
    let count : length (states_of c.args.cells.now) ≡ length c.args.cells.now = length-map c.args.cells.now (λ cell. cell.state) in
    c.loop-place.invariant book with ino d (omega (arith, count, lt, c.loop-place-test.false))
