use Rattle.std.proofs.Common.{◌≡◌, ◌<◌, ◌∙◌, Bool, true, ap, arith, cond, get_or, set, sym}
use Rattle.std.proofs.lemmas.List.{get_or_default}
use Rattle.nv_alloc.specs.Block.{put_block}
use Rattle.nv_alloc.specs.FreeList.{FreeBlocks, is_home, no_list, with_home}
use Rattle.nv_alloc.specs.Giving.{takes}
use Rattle.nv_alloc.proofs.AllLists.{at_home, home_takes, home_within, lists_still, lists_with}
use Rattle.nv_alloc.proofs.homes.give_home.Goals as goal
use Rattle.nv_alloc.proofs.homes.give_home.Goals.{After-index_mut-list}

pub index_mut-list-requires : goal.index_mut-list-requires
index_mut-list-requires c = omega (arith, c.home_of-home.ensures.cpu, c.requires.lists.cpus, c.args.lists.now.ok)

module _ (c : After-index_mut-list) where
  device : c.number.result < c.args.geometry.now.numbers.blocks
  device = omega (arith, c.number.ensures, c.requires.device)

  -- the list of the home
  list_is : c.index_mut-list.result.now ≡ get_or c.args.lists.now.items c.home_of-home.result no_list
  list_is =
      let ok = c.home_of-home.ensures in
      c.index_mut-list.ensures.value
      ∙ get_or_default _ _ c.index_mut-list.result.now no_list (home_within _ _ c.requires.lists _ _ device ok.cpu ok.home)

  taken : takes c.index_mut-list.result.now c.args.block ≡ true
  taken =
      let ok = c.home_of-home.ensures in
      ap (λ (l : FreeBlocks). takes l c.args.block) list_is
      ∙ home_takes _ _ c.requires.lists _ _ device ok.cpu ok.home c.args.block (sym c.number.ensures)
      (rw c.number.ensures c.requires.absent) c.requires.sized

pub put-requires : goal.put-requires
put-requires c = taken (goal.at.put-requires c).After-index_mut-list

pub returns-clause-lists : goal.returns-clause-lists
returns-clause-lists c =
    let here = (goal.at.returns-clause-lists c).After-index_mut-list in
    let ok = c.home_of-home.ensures in
    let b = c.args.block in
    let was = get_or c.args.lists.now.items c.home_of-home.result no_list in
    let there : is_home was b.number ≡ true =
    ap (is_home was) (sym c.number.ensures) ∙ at_home _ _ c.requires.lists _ _ (device here) ok.cpu ok.home in
    let full : FreeBlocks = record was { blocks = put_block b was.blocks } in
    let made : full ≡ with_home b was = ap (λ (t : Bool). cond t full was) (sym there) in
    ap (set c.args.lists.now.items c.home_of-home.result) (c.put.ensures.list
    ∙ ap (λ (l : FreeBlocks). let r : FreeBlocks = record l { blocks = put_block b l.blocks } in r) (list_is here) ∙ made)
    ∙ sym (lists_with _ _ c.requires.lists _ _ (device here) ok.cpu ok.home b (sym c.number.ensures))

pub returns-clause-still : goal.returns-clause-still
returns-clause-still c =
    let here = (goal.at.returns-clause-still c).After-index_mut-list in
    let ok = c.home_of-home.ensures in
    lists_still _ _ c.requires.lists _ _ (device here) ok.cpu ok.home c.put.new.self _ (c.put.ensures.list
    ∙ ap (λ (l : FreeBlocks). let r : FreeBlocks = record l { blocks = put_block c.args.block c.index_mut-list.result.now.blocks } in r)
    (list_is here)) c.put.ensures.lawful
