use Rattle.std.proofs.Common.{◌≡◌, ◌∙◌, ◌+◌, ◌-◌, ◌<◌, ◌&&◌, Bool, true, false, not, ap, arith, drop, length, refl, sym, take}
use Rattle.nv_cell.specs.Cell.{log_of}
use Rattle.nv_cell.specs.Readers.{there_flags}
use Rattle.nv_clean.proofs.Walking.{all_go-step, entry_there, log_len, page_whole, there_count}
use Rattle.nv_entry.specs.ByFlags.{all_go_by}
use Rattle.nv_entry.specs.Clean.{is_empty}
use Rattle.nv_clean.proofs.walk.entries_go.Goals as goal

none_both : (b : Bool) → false ≡ (b && false)
none_both true = refl
none_both false = refl

pub returns-then-not-may_go : goal.returns-then-not-may_go
returns-then-not-may_go c = λ before covers.
    let cell = c.args.cell.now.state in
    let log = log_of cell in
    let i = c.loop-place.place in
    let from = c.args.from in
    let to = c.args.to in
    let size = log_len cell c.holds_together.ensures in
    let short : i < length log = omega (arith, c.loop-place-test.true, c.requires.within, size) in
    let found = entry_there log i short in
    let step = all_go-step cell.block (there_flags cell) before log i to found.0 c.loop-place-test.true
    (omega (arith, c.requires.within, size)) (omega (arith, c.requires.within, size, there_count cell)) found.1 in
    let test = sym c.if-not-may_go.true ∙ c.may_go.ensures before found.0 covers found.1 in
    none_both (not (is_empty (take (to - from) (drop from log))))
    ∙ ap (λ (b : Bool). not (is_empty (take (to - from) (drop from log))) && b)
    (ap (λ (b : Bool). b
    && all_go_by cell.block (drop (i + 1) (there_flags cell)) before (take (to - (i + 1)) (drop (i + 1) log)) (drop to log)) test
    ∙ sym step ∙ c.loop-place.invariant before covers)

pub loop-place-preserved : goal.loop-place-preserved
loop-place-preserved c = λ before covers.
    let cell = c.args.cell.now.state in
    let log = log_of cell in
    let i = c.loop-place.place in
    let to = c.args.to in
    let size = log_len cell c.holds_together.ensures in
    let short : i < length log = omega (arith, c.loop-place-test.true, c.requires.within, size) in
    let found = entry_there log i short in
    let step = all_go-step cell.block (there_flags cell) before log i to found.0 c.loop-place-test.true
    (omega (arith, c.requires.within, size)) (omega (arith, c.requires.within, size, there_count cell)) found.1 in
    let test = sym c.if-not-may_go.false ∙ c.may_go.ensures before found.0 covers found.1 in
    sym (step ∙ ap (λ (b : Bool). b
    && all_go_by cell.block (drop (i + 1) (there_flags cell)) before (take (to - (i + 1)) (drop (i + 1) log)) (drop to log)) (sym test))
    ∙ c.loop-place.invariant before covers

pub returns : goal.returns
returns c = λ before covers.
    let cell = c.args.cell.now.state in
    page_whole cell.block (there_flags cell) before (log_of cell) c.args.from c.loop-place.place c.args.to c.loop-place-test.false
    c.requires.order (omega (arith, c.requires.within, log_len cell c.holds_together.ensures)) (c.loop-place.invariant before covers)
