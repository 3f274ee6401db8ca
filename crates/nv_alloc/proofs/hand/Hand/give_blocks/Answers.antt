use Rattle.std.proofs.Common.{◌≡◌, ◌++◌, sym, ap, ◌∙◌}
use Rattle.nv_alloc.specs.FreeList.{FreeBlocks}
use Rattle.nv_alloc.specs.Giving.{after_giving, not_taken}
use Rattle.nv_alloc.proofs.GivingLemmas.{after_giving-append}
use Rattle.nv_alloc.proofs.hand.Hand.give_blocks.Goals as goal
use Rattle.nv_alloc.proofs.hand.Hand.give_blocks.Goals.{After-give_blocks-2}

-- the list once the blocks of two queues are given
both : (c : After-give_blocks-2)
    → c.give_blocks-2.new.list ≡ after_giving c.args.list.now (c.args.self.now.data.blocks ++ c.args.self.now.pages.blocks)
both c =
    c.give_blocks-2.ensures.given ∙ ap (λ (list : FreeBlocks). after_giving list c.args.self.now.pages.blocks) c.give_blocks.ensures.given
    ∙ sym (after_giving-append c.args.list.now c.args.self.now.data.blocks c.args.self.now.pages.blocks)

pub returns-clause-chain : goal.returns-clause-chain
returns-clause-chain c =
    c.give_blocks-3.ensures.kept
    ∙ ap (λ (list : FreeBlocks). not_taken list c.args.self.now.chain) (both (goal.at.returns-clause-chain c).After-give_blocks-2)

pub returns-clause-given : goal.returns-clause-given
returns-clause-given c =
    c.give_blocks-3.ensures.given
    ∙ ap (λ (list : FreeBlocks). after_giving list c.args.self.now.chain) (both (goal.at.returns-clause-given c).After-give_blocks-2)
    ∙ sym (after_giving-append c.args.list.now (c.args.self.now.data.blocks ++ c.args.self.now.pages.blocks) c.args.self.now.chain)
