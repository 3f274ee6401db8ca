use Rattle.std.proofs.Common.{◌≡◌, ◌∙◌, ◌++◌, List, append_assoc, subst, sym}
use Rattle.nv_alloc.specs.Block.{BlockValue}
use Rattle.nv_mount.specs.Build.{AreGivenHome, CanAllGoHome}
use Rattle.nv_core.proofs.GoingSeveral.{can_first, can_then, gone_both}
use Rattle.nv_core.proofs.restart.give_hand.Goals as goal

-- data blocks go first, then log pages, and the pages of a chain last
pub give_queue-requires : goal.give_queue-requires
give_queue-requires c =
    let h = c.args.hand in
    can_first c.args.geometry.now.numbers h.«data».blocks (h.pages.blocks ++ h.chain) c.args.lists.now.items
    (subst (λ (bs : List BlockValue). CanAllGoHome c.args.geometry.now.numbers bs c.args.lists.now.items)
    (append_assoc h.«data».blocks h.pages.blocks h.chain) c.requires)

pub give_queue-requires-2 : goal.give_queue-requires-2
give_queue-requires-2 c =
    let h = c.args.hand in
    let g = c.args.geometry.now.numbers in
    can_first g h.pages.blocks h.chain c.give_queue.new.lists.items
    (can_then g h.«data».blocks (h.pages.blocks ++ h.chain) c.args.lists.now.items
    (subst (λ (bs : List BlockValue). CanAllGoHome g bs c.args.lists.now.items) (append_assoc h.«data».blocks h.pages.blocks h.chain)
    c.requires) c.give_queue.new.lists.items c.give_queue.ensures.given)

pub give_all-requires : goal.give_all-requires
give_all-requires c =
    let h = c.args.hand in
    let g = c.args.geometry.now.numbers in
    let later =
    can_then g h.«data».blocks (h.pages.blocks ++ h.chain) c.args.lists.now.items
    (subst (λ (bs : List BlockValue). CanAllGoHome g bs c.args.lists.now.items) (append_assoc h.«data».blocks h.pages.blocks h.chain)
    c.requires) c.give_queue.new.lists.items c.give_queue.ensures.given in
    subst (λ (bs : List BlockValue). CanAllGoHome g bs c.give_queue-2.new.lists.items) (sym c.take.ensures.pages)
    (can_then g h.pages.blocks h.chain c.give_queue.new.lists.items later c.give_queue-2.new.lists.items c.give_queue-2.ensures.given)

pub returns : goal.returns
returns c =
    let h = c.args.hand in
    let g = c.args.geometry.now.numbers in
    let old = c.args.lists.now.items in
    let mid = c.give_queue.new.lists.items in
    let low = c.give_queue-2.new.lists.items in
    let new = c.give_all.new.lists.items in
    let all = append_assoc h.«data».blocks h.pages.blocks h.chain in
    let can = subst (λ (bs : List BlockValue). CanAllGoHome g bs old) all c.requires in
    let later = can_then g h.«data».blocks (h.pages.blocks ++ h.chain) old can mid c.give_queue.ensures.given in
    let last = subst (λ (bs : List BlockValue). AreGivenHome g bs low new) c.take.ensures.pages c.give_all.ensures in
    subst (λ (bs : List BlockValue). AreGivenHome g bs old new) (sym all)
    (gone_both g h.«data».blocks (h.pages.blocks ++ h.chain) old mid new can c.give_queue.ensures.given
    (gone_both g h.pages.blocks h.chain mid low new later c.give_queue-2.ensures.given last))
