use Rattle.std.proofs.Common.{◌≡◌, ℕ, subst, sym}
use Rattle.std.specs.Prelude.{◌↔◌, IsTrue}
use Rattle.nv_cell.specs.Cell.{log_of}
use Rattle.nv_entry.specs.Node.{size_now}
use Rattle.nv_audit.specs.Index.{ArePagesOf}
use Rattle.nv_audit.specs.Sound.{AreLogPagesWithin}
use Rattle.nv_audit.proofs.sound.are_pages_within.Goals as goal

pub returns : goal.returns
returns c =
    let cell = c.args.cell.now.state in
    let block = c.block_bytes.ensures.value in
    subst (λ (b : ℕ). IsTrue c.are_pages_within_by.result ↔ AreLogPagesWithin b (log_of cell)) block
    (c.are_pages_within_by.ensures (log_of cell)
    (subst (λ (b : ℕ). c.size.result ≡ size_now b (log_of cell)) (sym block) c.size.ensures)
    (subst (λ (b : ℕ). ArePagesOf b (log_of cell) c.page_index.result.now) (sym block) c.page_index.ensures))
