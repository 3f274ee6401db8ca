use Rattle.std.proofs.Common.{◌≡◌, arith, length}
use Rattle.std.proofs.lemmas.List.{length-drop}
use Rattle.nv_log.specs.Image.{cut_ends}
use Rattle.nv_log.proofs.Cuts.{few_ends}
use Rattle.nv_log.proofs.chain.Chain.pages_past.Goals as goal
use Rattle.nv_log.proofs.chain.Chain.pages_past.Goals.{After-count_for}

pub count_for-requires : goal.count_for-requires
count_for-requires c =
    (c.self.inside.page, length c.self.inside.entries.items, rw c.deref.ensures.value c.self.invariant.chain.parted)

-- on how many pages the entries stand that are left
kept : (c : After-count_for) → c.count_for.result ≡ length (cut_ends c.args.tail c.self.inside.ends.items)
kept c = rw c.deref.ensures.value at c.count_for.ensures

pub overflow_sub-result : goal.overflow_sub-result
overflow_sub-result c =
    let count = kept (goal.at.overflow_sub-result c).After-count_for in
    omega (
      arith,
      count,
      few_ends c.args.tail c.self.inside.ends.items,
      c.self.invariant.chain.paged,
      c.self.inside.blocks.ok,
      c.len.ensures,
    )

pub returns : goal.returns
returns c =
    let count = kept (goal.at.returns c).After-count_for in
    let past = length-drop (length (cut_ends c.args.tail c.self.inside.ends.items)) c.self.inside.blocks.items in
    rw (← c.self.view_is) (omega (arith, count, past, c.self.inside.blocks.ok, c.len.ensures))
