use Rattle.std.proofs.Common.{ℕ}
use Rattle.nv_entry.specs.Log.{seen}
use Rattle.nv_entry.specs.Node.{block_now, page_bytes}
use Rattle.nv_entry.proofs.Nodes.{pages-more}
use Rattle.nv_entry.proofs.node.file_bytes_when.Goals as goal

pub loop-page-preserved : goal.loop-page-preserved
loop-page-preserved g c =
    let block = c.args.block in
    let log = seen c.args.when c.args.log.now in
    let more = pages-more
    (λ (page : ℕ). page_bytes (g.B.BlockBytes.bytes_of c.args.blocks.now) block (block_now block log page)) c.loop-page.page in
    let pushed = c.in_ok-push_page.ensures in
    cc
