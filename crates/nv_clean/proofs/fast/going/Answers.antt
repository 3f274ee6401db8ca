use Rattle.std.proofs.Common.{not, false, ap, arith}
use Rattle.std.proofs.lemmas.List.Sums.{count_by_more_no, count_by_more_yes}
use Rattle.nv_clean.proofs.fast.going.Goals as goal
use Rattle.nv_clean.proofs.fast.going.Goals.{then-not-stay, else-not-stay}

pub loop-stay-preserved : goal.loop-stay-preserved
loop-stay-preserved c =
    let i = c.loop-stay.stay-index in
    let stays = c.args.stays.now in
    elim c.if-not-stay.branch [
      | then-not-stay w ↦
          let more = count_by_more_yes not stays i false c.loop-stay-test.true (ap not w.if-not-stay.true) in
          record {
            count = omega (arith, w.pages-is, more, c.loop-stay.invariant.count);
            few = omega (arith, w.pages-is, c.loop-stay.invariant.few);
          }
      | else-not-stay w ↦
          let same = count_by_more_no not stays i false c.loop-stay-test.true (ap not w.if-not-stay.false) in
          record {
            count = omega (arith, w.pages-is, same, c.loop-stay.invariant.count);
            few = omega (arith, w.pages-is, c.loop-stay.invariant.few);
          }
    ]
