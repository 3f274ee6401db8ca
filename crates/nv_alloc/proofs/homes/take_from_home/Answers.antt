use Rattle.std.proofs.Common.{◌≡◌, ◌<◌, ◌≤◌, ◌∙◌, ℕ, ap, arith, get_or, set, sym}
use Rattle.std.proofs.lemmas.List.{get_or_default}
use Rattle.nv_alloc.specs.Block.{block_by}
use Rattle.nv_alloc.specs.FreeList.{FreeBlocks, no_list, without}
use Rattle.nv_alloc.proofs.AllLists.{home_within, its_block, lists_still, lists_without, none_past, same_past}
use Rattle.nv_alloc.proofs.homes.take_from_home.Goals as goal
use Rattle.nv_alloc.proofs.homes.take_from_home.Goals.{After-index_mut-list}

-- a number below that of the blocks
low_by : {n number blocks : ℕ} → n ≡ number → n < blocks → number < blocks
low_by e lt = omega (arith, e, lt)

past_by : {n number blocks : ℕ} → n ≡ number → blocks ≤ n → blocks ≤ number
past_by e le = omega (arith, e, le)

pub returns-then-number-geometry-clause-block : goal.returns-then-number-geometry-clause-block
returns-then-number-geometry-clause-block c =
    sym (none_past _ _ c.requires c.args.number (past_by c.number.ensures c.if-number-geometry.true))

pub returns-then-number-geometry-clause-lists : goal.returns-then-number-geometry-clause-lists
returns-then-number-geometry-clause-lists c =
    sym (same_past _ _ c.requires c.args.number (past_by c.number.ensures c.if-number-geometry.true))

pub home_of-home-requires : goal.home_of-home-requires
home_of-home-requires c = low_by c.number.ensures c.if-number-geometry.false

pub index_mut-list-requires : goal.index_mut-list-requires
index_mut-list-requires c = omega (arith, c.home_of-home.ensures.cpu, c.requires.cpus, c.args.lists.now.ok)

-- the list of the home
list_is : (c : After-index_mut-list) → c.index_mut-list.result.now ≡ get_or c.args.lists.now.items c.home_of-home.result no_list
list_is c =
    let ok = c.home_of-home.ensures in
    let within = home_within _ _ c.requires _ _ (low_by c.number.ensures c.if-number-geometry.false) ok.cpu ok.home in
    c.index_mut-list.ensures.value ∙ get_or_default _ _ c.index_mut-list.result.now no_list within

pub returns-clause-block : goal.returns-clause-block
returns-clause-block c =
    let ok = c.home_of-home.ensures in
    c.remove.ensures.block
    ∙ ap (λ (l : FreeBlocks). block_by l.blocks c.args.number) (list_is (goal.at.returns-clause-block c).After-index_mut-list)
    ∙ sym (its_block _ _ c.requires _ _ (low_by c.number.ensures c.if-number-geometry.false) ok.cpu ok.home)

pub returns-clause-lists : goal.returns-clause-lists
returns-clause-lists c =
    let ok = c.home_of-home.ensures in
    ap (set c.args.lists.now.items c.home_of-home.result)
    (c.remove.ensures.list ∙ ap (without c.args.number) (list_is (goal.at.returns-clause-lists c).After-index_mut-list))
    ∙ sym (lists_without _ _ c.requires _ _ (low_by c.number.ensures c.if-number-geometry.false) ok.cpu ok.home)

pub returns-clause-still : goal.returns-clause-still
returns-clause-still c =
    let ok = c.home_of-home.ensures in
    lists_still _ _ c.requires _ _ (low_by c.number.ensures c.if-number-geometry.false) ok.cpu ok.home c.remove.new.self _
    (c.remove.ensures.list ∙ ap (without c.args.number) (list_is (goal.at.returns-clause-still c).After-index_mut-list))
    c.remove.ensures.lawful
