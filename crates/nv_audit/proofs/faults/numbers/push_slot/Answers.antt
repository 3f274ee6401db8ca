use Rattle.std.proofs.Common.{◌++◌, List, ℕ, ap, sym, ◌∙◌}
use Rattle.nv_alloc.specs.Block.{numbers_of}
use Rattle.nv_audit.proofs.ImageSlots.{numbers_both, slot_put}
use Rattle.nv_audit.proofs.faults.numbers.push_slot.Goals as goal

pub returns : goal.returns
returns c =
    let old = c.args.numbers.now.items in
    let chain = c.slot.inside.chain in
    let blocks = c.slot.inside.blocks in
    rw (← c.slot.view_is)
    (slot_put old c.push_chain.new.numbers.items c.push_data.new.numbers.items (numbers_of chain.pages) (numbers_of blocks)
    c.in_ok-push_chain.ensures c.in_ok-push_data.ensures
    ∙ ap (λ (ns : List ℕ). old ++ ns) (sym (numbers_both chain.pages blocks)))
