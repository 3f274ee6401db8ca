use Rattle.std.proofs.Common.{◌≡◌, ◌∙◌, ◌-◌, ◌<◌, ◌++◌, ◌∷◌, [], List, Some, ap, append_assoc, arith, drop, length, slice_get, subst, sym, take}
use Rattle.nv_cell.specs.Cell.{log_of}
use Rattle.nv_clean.specs.Cover.{AddsItem, Covers}
use Rattle.nv_clean.proofs.Covering.{adds}
use Rattle.nv_clean.proofs.Walking.{log_len, read_in, stretch_more}
use Rattle.nv_entry.specs.declared.item.Entry.{Entry}
use Rattle.nv_log.specs.Chain.{ChainState}
use Rattle.nv_clean.proofs.walk.note_all.Goals as goal

pub entry_at-requires : goal.entry_at-requires
entry_at-requires c =
    let same = ap (λ (chain : ChainState). length chain.entries) c.log.ensures.state in
    omega (arith, c.loop-place-test.true, c.requires.within, c.holds_together.ensures.chain.within, same)

pub loop-place-preserved : goal.loop-place-preserved
loop-place-preserved c = λ before covers.
    let cell = c.args.cell.now.state in
    let log = log_of cell in
    let i = c.loop-place.place in
    let from = c.args.from in
    let lt : i < cell.chain.tail = omega (arith, c.loop-place-test.true, c.requires.within) in
    let short : i < length log = omega (arith, lt, log_len cell c.holds_together.ensures) in
    let e = c.entry_at.result.now in
    let is : slice_get log i ≡ Some e =
    read_in cell i e lt (ap (λ (chain : ChainState). slice_get chain.entries i) (sym c.log.ensures.state) ∙ c.entry_at.ensures) in
    subst (λ (l : List Entry). Covers cell.block l c.add.new.self)
    (append_assoc before (take (i - from) (drop from log)) (e ∷ [])
    ∙ ap (λ (l : List Entry). before ++ l) (sym (stretch_more log from i e c.loop-place.auto.place short is)))
    (adds cell.block (before ++ take (i - from) (drop from log)) e c.loop-place.cover c.add.new.self (c.loop-place.invariant before covers)
    (subst (λ (block : _). AddsItem block e.item c.loop-place.cover c.add.new.self) c.block_bytes-block.ensures.value c.in_ok-add.ensures))

pub returns : goal.returns
returns c = λ before covers.
    let cell = c.args.cell.now.state in
    subst (λ (k : _). Covers cell.block (before ++ take (k - c.args.from) (drop c.args.from (log_of cell))) c.loop-place.cover)
    (omega (arith, c.loop-place-test.false, c.loop-place.auto.place-end c.requires.order))
    (c.loop-place.invariant before covers)
