use Rattle.std.proofs.Common.{◌≡◌, ◌∙◌, ℕ, List, ap, arith, map, refl, sym}
use Rattle.std.specs.List.{sum_by}
use Rattle.nv_cell.specs.Cell.{CellState, CellValue}
use Rattle.nv_core.specs.Reports.{chain_in, free_in}
use Rattle.nv_core.proofs.Kept.{sum_states}
use Rattle.nv_core.proofs.shared.Shared.space.Goals as goal

-- what was counted over the cells is the sum over what is shown of them
counted : (f : CellState → ℕ) (cells was : List CellValue) (count : ℕ) → count ≡ sum_by (λ (v : CellValue). f v.state) was → was ≡ cells
    → count ≡ sum_by f (map (λ (v : CellValue). v.state) cells)
counted f cells was count is same = is ∙ ap (sum_by (λ (v : CellValue). f v.state)) same ∙ sym (sum_states f cells)

pub overflow_sub-hand-3 : goal.overflow_sub-hand-3
overflow_sub-hand-3 c =
    let s = c.args.self.now in
    omega (
      arith,
      c.free_blocks-free.ensures ∙ ap (sum_by free_in) c.deref.ensures.value,
      counted chain_in s.cells.items _ _ c.log_pages-chain.ensures c.deref-2.ensures.value,
      c.data_blocks-kept.ensures,
      c.requires.blocks,
    )

pub overflow_sub-data : goal.overflow_sub-data
overflow_sub-data c =
    let s = c.args.self.now in
    omega (
      arith,
      c.data_blocks-kept.ensures,
      c.deferred_blocks.ensures.value,
      c.requires.pending,
    )

pub returns : goal.returns
returns c =
    let s = c.args.self.now in
    rw (
      c.free_blocks-free.ensures ∙ ap (sum_by free_in) c.deref.ensures.value,
      counted chain_in s.cells.items _ _ c.log_pages-chain.ensures c.deref-2.ensures.value,
      c.data_blocks-kept.ensures,
      c.deferred_blocks.ensures.value,
    ) refl
