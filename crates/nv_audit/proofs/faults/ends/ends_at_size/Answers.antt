use Rattle.std.proofs.Common.{sym, ◌∙◌}
use Rattle.std.proofs.lemmas.Bool.{false≢true}
use Rattle.nv_audit.proofs.Runs.{ends_told, within_told}
use Rattle.nv_audit.proofs.faults.ends.ends_at_size.Goals as goal

pub returns-then-not-are_pages_within_by-clause-ok : goal.returns-then-not-are_pages_within_by-clause-ok
returns-then-not-are_pages_within_by-clause-ok c snapshots cell made has is =
    let within =
    within_told c.args.own.now cell c.block_bytes-block.result c.log.result.now c.size_now-size.result c.in_ok-pages.pages
    c.are_pages_within_by.result c.block_bytes-block.ensures.value c.log.ensures.value c.size_now-size.ensures c.in_ok-pages.ensures.ok
    c.are_pages_within_by.ensures is in (
      λ t. absurd (false≢true t),
      λ ends. absurd (false≢true (sym c.if-not-are_pages_within_by.true ∙ within.1 ends.pages)),
    )

pub returns-clause-ok : goal.returns-clause-ok
returns-clause-ok c snapshots cell made has is =
    let within =
    within_told c.args.own.now cell c.block_bytes-block.result c.log.result.now c.size_now-size.result c.in_ok-pages.pages
    c.are_pages_within_by.result c.block_bytes-block.ensures.value c.log.ensures.value c.size_now-size.ensures c.in_ok-pages.ensures.ok
    c.are_pages_within_by.ensures is in
    let all = within.0 c.if-not-are_pages_within_by.false in
    ends_told cell c.are_zeros_past.result all (c.are_zeros_past.ensures snapshots cell made has is all)
