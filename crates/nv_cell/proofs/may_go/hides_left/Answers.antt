use Rattle.std.proofs.Common.{◌<◌, true, false, take, arith, refl, sym, ◌∙◌}
use Rattle.std.proofs.lemmas.List.{get_or-take, get_or_default}
use Rattle.nv_entry.specs.declared.item.Entry.{Entry}
use Rattle.nv_entry.specs.Clean.{hides}
use Rattle.nv_entry.proofs.Flags.{any-step}
use Rattle.nv_log.specs.Chain.{log}
use Rattle.nv_cell.specs.Removal.{flags_of}
use Rattle.nv_cell.proofs.MayGoing.{any_here, at_front}
use Rattle.nv_cell.proofs.PageFlags.{is_at}
use Rattle.nv_cell.proofs.may_go.hides_left.Goals as goal
use Rattle.nv_cell.proofs.may_go.hides_left.Goals.{else-at-via-then-at+else-hides, else-at-via-else-at}

pub returns-then-hides : goal.returns-then-hides
returns-then-hides c =
    let chain = c.args.chain.now.state in
    let lt : c.loop-i.i < c.args.place = c.loop-i-test.true in
    let short : c.loop-i.i < chain.tail = omega (arith, lt, c.requires.place) in
    let at = is_at c.args.stays chain c.loop-i.i _ c.holds_together.ensures c.requires.flags short c.entry_at.ensures in
    let test = λ (e : Entry). hides c.args.block c.args.item.now e.item in
    let flag = rw c.if-at.true at c.at.ensures ∙ sym (get_or-take c.args.place (flags_of c.args.stays chain) c.loop-i.i true lt) in
    sym (any_here test (at_front c.args.place at lt) flag (sym c.hides.ensures ∙ c.if-hides.true)) ∙ c.loop-i.invariant

pub loop-i-preserved : goal.loop-i-preserved
loop-i-preserved c =
    let chain = c.args.chain.now.state in
    let all = flags_of c.args.stays chain in
    let kept = take c.args.place all in
    let i = c.loop-i.i in
    let e = c.entry_at.result.now in
    let test = λ (e : Entry). hides c.args.block c.args.item.now e.item in
    let lt : i < c.args.place = c.loop-i-test.true in
    let short : i < chain.tail = omega (arith, lt, c.requires.place) in
    let at = at_front c.args.place (is_at c.args.stays chain i e c.holds_together.ensures c.requires.flags short c.entry_at.ensures) lt in
    let flag = get_or_default kept i false c.at.result at.flag ∙ get_or-take c.args.place all i c.at.result lt ∙ sym c.at.ensures in
    elim c.else-at.branch [
      | else-at-via-then-at+else-hides w ↦
          any-step test kept (log chain) i true e at.flag at.entry (flag ∙ w.if-at.true) at.is (sym w.hides.ensures ∙ w.if-hides.false)
          ∙ c.loop-i.invariant
      | else-at-via-else-at w ↦
          any-step test kept (log chain) i false e at.flag at.entry (flag ∙ w.if-at.false) at.is refl ∙ c.loop-i.invariant
    ]
