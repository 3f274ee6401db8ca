use Rattle.std.proofs.Common.{◌≡◌, ◌∙◌, ◌+◌, ◌<◌, ◌++◌, List, ◌∷◌, ap, ap₂, arith, drop, flat_map, replicate, slice_set, subst, sym}
use Rattle.nv_alloc.specs.Hand.{blocks_of}
use Rattle.nv_alloc.specs.declared.hand.Hand.{Hand}
use Rattle.nv_mount.specs.Build.{AreGivenHome, CanAllGoHome}
use Rattle.nv_mount.proofs.GoingHome.{IsGoing}
use Rattle.nv_core.specs.Formats.{idle_actor}
use Rattle.nv_core.specs.Restarts.{held}
use Rattle.nv_core.specs.declared.world.Actor.{Actor}
use Rattle.nv_core.proofs.GoingSeveral.{can_first, gone_first}
use Rattle.nv_core.proofs.RestartedWorlds.{next_item, same_more}
use Rattle.nv_core.proofs.restart.empty_hands.Goals as goal
use Rattle.nv_core.proofs.restart.empty_hands.Goals.{After-stop-hand}

-- the next actor is in the midst of those that are idle and of the others
next : (c : After-stop-hand)
    → drop c.loop-k.k c.args.actors.now.items ≡ c.index_mut.result.now ∷ drop (c.loop-k.k + 1) c.args.actors.now.items
next c =
    next_item c.loop-k.actors.items c.args.actors.now.items c.loop-k.k (idle_actor c.args.geometry.now.numbers) c.index_mut.result.now
    c.loop-k.invariant.actors c.index_mut.ensures.value (omega (arith, c.loop-k-test.true))

going : (c : After-stop-hand) → IsGoing c.args.geometry.now.numbers (flat_map held c.args.actors.now.items)
    (held c.index_mut.result.now ++ flat_map held (drop (c.loop-k.k + 1) c.args.actors.now.items)) c.args.lists.now.items
    c.loop-k.lists.items
going c =
    subst (λ (xs : List Actor). IsGoing c.args.geometry.now.numbers (flat_map held c.args.actors.now.items) (flat_map held xs)
    c.args.lists.now.items c.loop-k.lists.items) (next c) c.loop-k.invariant.going

pub give_hand-requires : goal.give_hand-requires
give_hand-requires c =
    let here = (goal.at.give_hand-requires c).After-stop-hand in
    subst (λ (h : Hand). CanAllGoHome c.args.geometry.now.numbers (blocks_of h) c.loop-k.lists.items) (sym c.stop-hand.ensures.hand)
    (can_first c.args.geometry.now.numbers (held c.index_mut.result.now) (flat_map held (drop (c.loop-k.k + 1) c.args.actors.now.items))
    c.loop-k.lists.items (going here).can)

pub loop-k-preserved : goal.loop-k-preserved
loop-k-preserved c =
    let here = (goal.at.loop-k-preserved c).After-stop-hand in
    let g = c.args.geometry.now.numbers in
    let k = c.loop-k.k in
    let x = c.index_mut.result.now in
    let rest = drop (k + 1) c.args.actors.now.items in
    record {
      actors =
          ap₂ (λ (xs : List Actor) (a : Actor). slice_set xs k a) c.loop-k.invariant.actors c.stop-hand.ensures.idle
          ∙ ap (λ (xs : List Actor). slice_set (replicate k (idle_actor g) ++ xs) k (idle_actor g)) (next here)
          ∙ same_more k (idle_actor g) x rest;
      going =
          gone_first g (flat_map held c.args.actors.now.items) (held x) (flat_map held rest) c.args.lists.now.items c.loop-k.lists.items
          c.give_hand.new.lists.items (going here)
          (subst (λ (h : Hand). AreGivenHome g (blocks_of h) c.loop-k.lists.items c.give_hand.new.lists.items) c.stop-hand.ensures.hand
          c.give_hand.ensures);
    }
