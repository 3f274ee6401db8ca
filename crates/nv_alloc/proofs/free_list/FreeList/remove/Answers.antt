use Rattle.std.proofs.Common.{◌∙◌, sym}
use Rattle.nv_alloc.proofs.AllLists.{same_list}
use Rattle.nv_alloc.proofs.Slots.{none_by}
use Rattle.nv_alloc.proofs.free_list.FreeList.remove.Goals as goal

pub returns-then-not-has-clause-block : goal.returns-then-not-has-clause-block
returns-then-not-has-clause-block c =
    sym (none_by c.args.self.now.blocks c.args.number (sym c.has.ensures ∙ c.if-not-has.true))

pub returns-then-not-has-clause-list : goal.returns-then-not-has-clause-list
returns-then-not-has-clause-list c = sym (same_list c.args.self.now c.args.number (sym c.has.ensures ∙ c.if-not-has.true))

pub take_block-block-requires : goal.take_block-block-requires
take_block-block-requires c = sym c.has.ensures ∙ c.if-not-has.false
