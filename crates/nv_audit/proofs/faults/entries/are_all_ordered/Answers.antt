use Rattle.std.proofs.lemmas.Bool.{false≢true}
use Rattle.nv_audit.specs.Faults.{AreOrdered}
use Rattle.nv_audit.specs.Image.{SlotImageValue}
use Rattle.nv_audit.proofs.Loops.{one_fails, one_more}
use Rattle.nv_audit.proofs.faults.entries.are_all_ordered.Goals as goal

pub returns-then-not-is_ordered : goal.returns-then-not-is_ordered
returns-then-not-is_ordered c = (
  λ t. absurd (false≢true t),
  λ all. absurd (one_fails (λ (s : SlotImageValue). AreOrdered c.args.commit c.args.epoch s.chain.entries) c.args.slots.now
      c.loop-slot.slot-index c.slot-item.result c.is_ordered.result c.loop-slot-test.true c.slot-item.is c.is_ordered.ensures.1
      c.if-not-is_ordered.true all),
)

pub loop-slot-preserved : goal.loop-slot-preserved
loop-slot-preserved c =
    one_more (λ (s : SlotImageValue). AreOrdered c.args.commit c.args.epoch s.chain.entries) c.args.slots.now c.loop-slot.slot-index
    c.slot-item.result c.is_ordered.result c.loop-slot-test.true c.slot-item.is c.is_ordered.ensures.0 c.if-not-is_ordered.false
    c.loop-slot.invariant
