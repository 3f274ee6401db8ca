use Rattle.std.proofs.Common.{◌≡◌, ◌∙◌, ◌+◌, ◌≤◌, ◌++◌, List, Option, [], ◌∷◌, ap, arith, length, map, subst, sym, take}
use Rattle.std.specs.Prelude.{option_to_list}
use Rattle.std.proofs.lemmas.List.{length-append, take-append-le}
use Rattle.nv_alloc.specs.Block.{BlockValue, zeroed}
use Rattle.nv_mount.specs.Build.{CanAllGoHome}
use Rattle.nv_mount.proofs.GoingHome.{IsGoing}
use Rattle.nv_core.specs.Restarts.{blocks_past}
use Rattle.nv_core.proofs.FreshBlocks.{zeroed_more}
use Rattle.nv_core.proofs.GoingSeveral.{can_last, gone_last}
use Rattle.nv_core.proofs.restart.give_past.Goals as goal
use Rattle.nv_core.proofs.restart.give_past.Goals.{In-Some}

-- the last place stands behind the first ones
module _ (c : In-Some) where
  within : c.args.count ≤ length c.pop.new.self.items
  within =
      let more = ap (λ (ps : List (Option BlockValue)). length ps) c.in-Some.ensures.items
      ∙ length-append c.pop.new.self.items (c.in-Some.place ∷ []) in
      omega (arith, more, c.loop-places-test.true)

  parted : map zeroed (blocks_past c.args.count c.loop-places.places.items)
      ≡ map zeroed (blocks_past c.args.count c.pop.new.self.items) ++ map zeroed (option_to_list c.in-Some.place)
  parted =
      ap (λ (ps : List (Option BlockValue)). map zeroed (blocks_past c.args.count ps)) c.in-Some.ensures.items
      ∙ zeroed_more c.args.count c.pop.new.self.items c.in-Some.place within

pub give_cleared-requires : goal.give_cleared-requires
give_cleared-requires c =
    let here = (goal.at.give_cleared-requires c).In-Some in
    can_last c.args.geometry.now.numbers (map zeroed (blocks_past c.args.count c.pop.new.self.items))
    (map zeroed (option_to_list c.in-Some.place)) c.loop-places.lists.items
    (subst (λ (bs : List BlockValue). CanAllGoHome c.args.geometry.now.numbers bs c.loop-places.lists.items) (parted here)
    c.loop-places.invariant.going.can)

pub loop-places-preserved : goal.loop-places-preserved
loop-places-preserved c =
    let here = (goal.at.loop-places-preserved c).In-Some in
    let g = c.args.geometry.now.numbers in
    let all = map zeroed (blocks_past c.args.count c.args.places.now.items) in
    let left = c.pop.new.self.items in
    record {
      going =
          gone_last g all (map zeroed (blocks_past c.args.count left)) (map zeroed (option_to_list c.in-Some.place)) c.args.lists.now.items
          c.loop-places.lists.items c.give_cleared.new.lists.items
          (subst (λ (bs : List BlockValue). IsGoing g all bs c.args.lists.now.items c.loop-places.lists.items) (parted here)
          c.loop-places.invariant.going) c.give_cleared.ensures;
      first =
          sym (take-append-le c.args.count left (c.in-Some.place ∷ []) (within here))
          ∙ ap (take c.args.count) (sym c.in-Some.ensures.items) ∙ c.loop-places.invariant.first;
    }
