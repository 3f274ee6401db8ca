use Rattle.std.proofs.Common.{◌≡◌, ℕ, ◌+◌, ◌/◌, List, Option, arith, ap, subst, sym, ◌∙◌}
use Rattle.std.specs.Prelude.{fold}
use Rattle.std.specs.List.{AllByRecursion}
use Rattle.std.specs.Option.{option_copied}
use Rattle.std.proofs.lemmas.List.FromFn.{length-map-range_with_len}
use Rattle.nv_alloc.specs.Block.{BlockValue}
use Rattle.nv_alloc.specs.Queue.{QueueValue}
use Rattle.nv_cell.specs.Cell.{CellValue}
use Rattle.nv_cell.specs.Pages.{slot_bytes}
use Rattle.nv_calls.specs.Filling.{text_part}
use Rattle.nv_calls.specs.FillPages.{ask_for, asks_of, page_in, page_with}
use Rattle.nv_calls.proofs.FillPages.{always_err, as_many, filled_other, fold_more, length-with, queue_more, same_size, written_other}
use Rattle.nv_calls.proofs.fill_pages.fill_pages.Goals as goal

-- the blocks of the cells have as many bytes as those of the queue
pub page_before-old-requires-clause-sizes : goal.page_before-old-requires-clause-sizes
page_before-old-requires-clause-sizes g c =
    subst (λ (n : ℕ). AllByRecursion (λ x. x.1.state.block ≡ n) (g.C.Cells.cells c.args.nodes.now.cells.now))
    (sym c.block_bytes-block.ensures.size) c.requires.sizes

pub page_before-old-requires-clause-page : goal.page_before-old-requires-clause-page
page_before-old-requires-clause-page g c =
    c.pages_have_their_size.ensures _ c.block_bytes-block.result (page_before-old-requires-clause-sizes g c)

pub fill_part-requires-clause-there : goal.fill_part-requires-clause-there
fill_part-requires-clause-there g c =
    omega (
      arith,
      as_many _ c.args.queue.now c.loop-place.queue c.loop-place.invariant.0,
      c.loop-place-test.true,
      c.loop-place.auto.place-end,
      c.len-place-end.ensures,
    )

pub fill_part-requires-clause-old : goal.fill_part-requires-clause-old
fill_part-requires-clause-old g c = λ x is.
    c.page_before-old.ensures.sized x is ∙ c.block_bytes-block.ensures.size
    ∙ sym (same_size _ c.args.queue.now c.loop-place.queue c.loop-place.invariant.0)

pub returns-in_err-fill_part-clause-rest : goal.returns-in_err-fill_part-clause-rest
returns-in_err-fill_part-clause-rest g c =
    let rest = c.fill_part.ensures.rest in
    written_other _ c.args.queue.now c.loop-place.queue c.loop-place.invariant.0 c.fill_part.new.queue c.loop-place.place rest.0 rest.1

-- one more ask
asked_more : (size offset count first i : ℕ) {S : Type 0} (asked : S → ℕ × ℕ → S) (start now new : S) (block : ℕ) → first ≡ offset / size
    → block ≡ size → now ≡ fold asked start (asks_of size offset count i) → new ≡ asked now (ask_for block offset count (first + i))
    → new ≡ fold asked start (asks_of size offset count (i + 1))
asked_more size offset count first i asked start now new block f b before step =
    step
    ∙ ap (λ (n : ℕ). asked now (ask_for n offset count (first + i))) b
    ∙ ap (λ s. asked s (ask_for size offset count (first + i))) before
    ∙ fold_more asked start (ask_for size offset count) (offset / size) i (first + i) (omega (arith, f))

-- the page that the block now has
page_same : (size offset count page : ℕ) (bytes : List ℕ) (start now : ℕ → ℕ) (block : ℕ) (old : Option BlockValue) → block ≡ size
    → now ≡ start
    → page_with size offset (text_part start 0 count) page (slot_bytes size old)
    ≡ page_with size offset (text_part start 0 count) page bytes
    → page_with block offset (text_part now 0 count) page (slot_bytes block old)
    ≡ page_with size offset (text_part start 0 count) page bytes
page_same size offset count page bytes start now block old b n o =
    ap (λ (x : ℕ). page_with x offset (text_part now 0 count) page (slot_bytes x old)) b
    ∙ ap (λ (f : ℕ → ℕ). page_with size offset (text_part f 0 count) page (slot_bytes size old)) n ∙ o

pub returns-in_err-fill_part-clause-asked_err : goal.returns-in_err-fill_part-clause-asked_err
returns-in_err-fill_part-clause-asked_err g c =
    let queue : QueueValue = c.args.queue.now in
    let i : ℕ = c.loop-place.place in
    always_err c.from_residual.result _ (
      i + 1,
      omega (arith, c.loop-place-test.true, c.loop-place.auto.place-end, c.len-place-end.ensures),
      asked_more queue.size c.args.offset c.args.count (c.args.offset / c.block_bytes-block.result) i g.S.Source.asked
          (g.S.Source.state c.args.source.now) (g.S.Source.state c.loop-place.source) (g.S.Source.state c.fill_part.new.source)
          c.loop-place.queue.size (ap (λ (n : ℕ). c.args.offset / n) c.block_bytes-block.ensures.size)
          (same_size _ queue c.loop-place.queue c.loop-place.invariant.0) c.loop-place.invariant.2 c.fill_part.ensures.asked,
    )

pub loop-place-preserved : goal.loop-place-preserved
loop-place-preserved g c =
    let queue : QueueValue = c.args.queue.now in
    let cells : List (ℕ × CellValue) = g.C.Cells.cells c.args.nodes.now.cells.now in
    let byte_at : ℕ → ℕ = g.S.Source.byte_at c.args.source.now in
    let i : ℕ = c.loop-place.place in
    let first : ℕ = c.args.offset / c.block_bytes-block.result in
    let begin : first ≡ c.args.offset / queue.size = ap (λ (n : ℕ). c.args.offset / n) c.block_bytes-block.ensures.size in
    let text : List ℕ = text_part byte_at 0 c.args.count in
    let before = subst (λ (n : ℕ). page_with n c.args.offset text (first + i) (slot_bytes n (option_copied c.page_before-old.result))
    ≡ page_with n c.args.offset text (first + i) (page_in cells n c.args.file.now (first + i))) c.block_bytes-block.ensures.size
    (c.page_before-old.ensures.page text (length-map-range_with_len byte_at 0 c.args.count)) in
    let size = same_size _ queue c.loop-place.queue c.loop-place.invariant.0 in (
      queue_more (λ page. page_with queue.size c.args.offset text page (page_in cells queue.size c.args.file.now page)) queue
          c.loop-place.queue c.fill_part.new.queue _ (c.args.offset / queue.size) i (first + i) c.block_bytes-block.ensures.sized
          (length-with queue.size c.args.offset text (first + i) _
          (c.pages_have_their_size.ensures (first + i) queue.size c.requires.sizes)) (omega (arith, begin))
          (omega (arith, c.loop-place-test.true, c.loop-place.auto.place-end, c.len-place-end.ensures)) c.loop-place.invariant.0
          c.in_ok-fill_part.ensures.block
          (page_same queue.size c.args.offset c.args.count (first + i) _ byte_at (g.S.Source.byte_at c.loop-place.source)
          c.loop-place.queue.size (option_copied c.page_before-old.result) size c.loop-place.invariant.1 before),
      c.fill_part.ensures.text ∙ c.loop-place.invariant.1,
      asked_more queue.size c.args.offset c.args.count first i g.S.Source.asked
          (g.S.Source.state c.args.source.now) (g.S.Source.state c.loop-place.source) (g.S.Source.state c.fill_part.new.source)
          c.loop-place.queue.size begin size c.loop-place.invariant.2 c.fill_part.ensures.asked,
      c.in_ok-fill_part.ensures.ok ∙ c.loop-place.invariant.3,
    )

pub returns-clause-rest : goal.returns-clause-rest
returns-clause-rest g c = filled_other _ c.args.queue.now c.loop-place.queue c.loop-place.invariant.0
