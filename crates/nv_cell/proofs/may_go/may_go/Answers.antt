use Rattle.std.proofs.Common.{◌≤◌, ◌<◌, true, false, arith, sym, ◌∙◌}
use Rattle.std.proofs.lemmas.List.{length-take-le}
use Rattle.nv_log.specs.Chain.{log}
use Rattle.nv_cell.specs.Fields.{state_in}
use Rattle.nv_cell.specs.Removal.{flags_of}
use Rattle.nv_cell.proofs.MayGoing.{Goes, goes_before, goes_is, none_left, not_hidden, not_there, one_goes, rest_goes, stays_before, there_is}
use Rattle.nv_cell.proofs.PageFlags.{flags-count, is_at}
use Rattle.nv_cell.proofs.may_go.may_go.Goals as goal
use Rattle.nv_cell.proofs.may_go.may_go.Goals.{else-goes-via-then-goes+else-hides_left, then-has_there, else-has_there, else-goes-via-else-goes}

pub has_there-requires : goal.has_there-requires
has_there-requires c =
    let inv = c.cell.invariant in
    omega (arith, c.loop-i-test.true, c.tail-i-end.ensures.value, inv.ends_len, inv.tallied.tallies.len)

pub returns-then-hides_left : goal.returns-then-hides_left
returns-then-hides_left c =
    let s = state_in c.cell.inside in
    let lt : c.loop-i.i < s.chain.tail = omega (arith, c.loop-i-test.true, c.tail-i-end.ensures.value) in
    let req = rw (← c.cell.view_is) at c.requires in
    let at = is_at c.args.stays s.chain c.loop-i.i _ c.holds_together.ensures req lt c.entry_at.ensures in
    let inv = rw (← c.cell.view_is) at c.loop-i.invariant in
    let goes = rw c.if-goes.true at c.at-goes.ensures in
    let there = c.has_there.ensures ∙ there_is c.cell.inside c.cell.invariant at in
    rw (← c.cell.view_is) (
      (λ t. cc),
      (λ may.
          let one = one_goes s.block s.marks at goes (inv.down (record { out = may.out; hidden = may.hidden })) in
          elim c.if-has_there.branch [
            | then-has_there w ↦ sym (not_there there one) ∙ w.if-has_there.true
            | else-has_there w ↦ sym (not_hidden one) ∙ sym w.hides_left.ensures ∙ sym w.value-is ∙ c.if-hides_left.true
          ]),
    )

pub loop-i-preserved : goal.loop-i-preserved
loop-i-preserved c =
    let s = state_in c.cell.inside in
    let i = c.loop-i.i in
    let e = c.entry_at.result.now in
    let lt : i < s.chain.tail = omega (arith, c.loop-i-test.true, c.tail-i-end.ensures.value) in
    let req = rw (← c.cell.view_is) at c.requires in
    let at = is_at c.args.stays s.chain i e c.holds_together.ensures req lt c.entry_at.ensures in
    let inv = rw (← c.cell.view_is) at c.loop-i.invariant in
    rw (← c.cell.view_is) (elim c.else-goes.branch [
      | else-goes-via-then-goes+else-hides_left w ↦
          let goes = rw w.if-goes.true at c.at-goes.ensures in
          let there = w.has_there.ensures ∙ there_is c.cell.inside c.cell.invariant at in
          let one : Goes s.block (flags_of c.args.stays s.chain) (log s.chain) s.marks i e = elim w.if-has_there.branch [
            | then-has_there v ↦ let clash = sym v.value-is ∙ w.if-hides_left.false in cc
            | else-has_there v ↦ goes_is there v.if-has_there.false (sym v.hides_left.ensures ∙ sym v.value-is ∙ w.if-hides_left.false)
          ] in
          record {
            down = λ all. rest_goes s.block s.marks at false goes (inv.down all);
            up = λ rest. inv.up (goes_before s.block s.marks at goes one rest);
          }
      | else-goes-via-else-goes w ↦
          let stays = rw w.if-goes.false at c.at-goes.ensures in
          record {
            down = λ all. rest_goes s.block s.marks at true stays (inv.down all);
            up = λ rest. inv.up (stays_before s.block s.marks at stays rest);
          }
    ])

pub returns : goal.returns
returns c =
    let s = state_in c.cell.inside in
    let flags = flags_of c.args.stays s.chain in
    let is = c.holds_together.ensures in
    let req = rw (← c.cell.view_is) at c.requires in
    let inv = rw (← c.cell.view_is) at c.loop-i.invariant in
    let count = flags-count c.args.stays s.chain is req in
    let size = length-take-le s.chain.tail s.chain.entries is.within in
    let past : s.chain.tail ≤ c.loop-i.i = omega (arith, c.loop-i-test.false, c.tail-i-end.ensures.value) in
    let all = inv.up (none_left s.block flags (log s.chain) s.marks c.loop-i.i (omega (arith, count, past)) (omega (arith, size, past))) in
    rw (← c.cell.view_is) (
      (λ t. record { last = sym c.leaves_last.ensures ∙ t; out = all.out; hidden = all.hidden }),
      (λ may. c.leaves_last.ensures ∙ may.last),
    )
