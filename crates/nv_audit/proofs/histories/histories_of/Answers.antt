use Rattle.std.proofs.Common.{List, arith, subst, sym, slice_index_or}
use Rattle.nv_entry.specs.declared.item.Entry.{Entry}
use Rattle.nv_audit.specs.Histories.{IsHistoryBy}
use Rattle.nv_audit.specs.declared.histories.History.{History}
use Rattle.nv_audit.proofs.KindHistories.{histories_more}
use Rattle.nv_audit.proofs.histories.histories_of.Goals as goal

pub loop-logged-preserved : goal.loop-logged-preserved
loop-logged-preserved c =
    let logs = c.args.logs.now in
    let i = c.loop-logged.logged-index in
    let own = c.logged-item.result in
    let old = c.loop-logged.histories.items in
    let is = subst (λ (es : List Entry). IsHistoryBy es c.in_ok-of.field-0) c.log.ensures.value c.in_ok-of.ensures in
    record {
      len = omega (arith, c.in_ok-push.ensures.len, c.loop-logged.invariant.len);
      each = λ n l history below.
          subst (λ (hs : List History). IsHistoryBy (slice_index_or logs n l).log (slice_index_or hs n history))
          (sym c.in_ok-push.ensures.items)
          (histories_more logs i old own c.in_ok-of.field-0 c.loop-logged.invariant.len c.loop-logged-test.true c.logged-item.is is
          c.loop-logged.invariant.each n l history below);
    }

pub returns : goal.returns
returns c = record {
  len = omega (arith, c.loop-logged.invariant.len, c.loop-logged-test.false, c.loop-logged.auto.logged-index-end);
  each = λ n l history below. c.loop-logged.invariant.each n l history (omega (arith, below, c.loop-logged-test.false));
}
