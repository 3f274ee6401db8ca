use Rattle.std.proofs.lemmas.Bool.{false≢true}
use Rattle.nv_log.specs.Image.{IsPaged}
use Rattle.nv_audit.specs.Image.{SlotImageValue}
use Rattle.nv_audit.proofs.Loops.{one_fails, one_more}
use Rattle.nv_audit.proofs.faults.chains.are_paged.Goals as goal

pub returns-then-not-has_its_pages : goal.returns-then-not-has_its_pages
returns-then-not-has_its_pages c = (
  λ t. absurd (false≢true t),
  λ all. absurd (one_fails (λ (s : SlotImageValue). IsPaged c.args.page s.chain) c.args.slots.now c.loop-slot.slot-index
      c.slot-item.result c.has_its_pages.result c.loop-slot-test.true c.slot-item.is c.has_its_pages.ensures.1
      c.if-not-has_its_pages.true all),
)

pub loop-slot-preserved : goal.loop-slot-preserved
loop-slot-preserved c =
    one_more (λ (s : SlotImageValue). IsPaged c.args.page s.chain) c.args.slots.now c.loop-slot.slot-index c.slot-item.result
    c.has_its_pages.result c.loop-slot-test.true c.slot-item.is c.has_its_pages.ensures.0 c.if-not-has_its_pages.false
    c.loop-slot.invariant
