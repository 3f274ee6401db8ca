use Rattle.std.proofs.Common.{None, ap, ◌∙◌}
use Rattle.nv_alloc.proofs.Lowest.{lowest_of_three, lowest_with}
use Rattle.nv_alloc.proofs.hand.Hand.lowest_number.Goals as goal

pub returns : goal.returns
returns c = lowest_of_three c.args.self.now.data.blocks c.args.self.now.pages.blocks c.args.self.now.chain c.lowest_of-data.result
    c.lowest_of-pages.result c.lowest_of.result
    (c.lowest_of-data.ensures ∙ ap (lowest_with None) c.iter.ensures)
    (c.lowest_of-pages.ensures ∙ ap (lowest_with c.lowest_of-data.result) c.iter-2.ensures)
    (c.lowest_of.ensures ∙ ap (lowest_with c.lowest_of-pages.result) c.iter-3.ensures)
