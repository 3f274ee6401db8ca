use Rattle.std.proofs.Common.{◌∙◌, ◌+◌, List, ap, arith, length, subst, sym}
use Rattle.std.specs.List.{sum_by}
use Rattle.nv_core.proofs.AddedUp.{all_spaced, few_actors, pending_fits, space_shown, world_adds_up}
use Rattle.nv_core.proofs.FreeSlots.{keeps_unlocked}
use Rattle.nv_book.specs.Records.{block_count}
use Rattle.nv_core.specs.Picked.{picked_of}
use Rattle.nv_core.specs.Shown.{shared_of}
use Rattle.nv_core.specs.Worlds.{Shows, WorldState}
use Rattle.nv_core.specs.declared.world.Actor.{Actor}
use Rattle.nv_core.proofs.world.World.space.Goals as goal

pub picked_blocks-picked-requires : goal.picked_blocks-picked-requires
picked_blocks-picked-requires c =
    let w : WorldState = record { shared = c.self.inside.shared; actors = c.self.inside.actors.items } in
    omega (arith, ap (λ (l : List Actor). length l) c.deref.ensures.value, few_actors w c.self.invariant.0)

pub space-requires-clause-blocks : goal.space-requires-clause-blocks
space-requires-clause-blocks c =
    let w : WorldState = record { shared = c.self.inside.shared; actors = c.self.inside.actors.items } in
    world_adds_up w c.self.invariant.0

pub space-requires-clause-few : goal.space-requires-clause-few
space-requires-clause-few c =
    let w : WorldState = record { shared = c.self.inside.shared; actors = c.self.inside.actors.items } in
    omega (
      arith,
      ap (λ (l : List Actor). length l) c.deref.ensures.value,
      few_actors w c.self.invariant.0,
      c.picked_blocks-picked.ensures.few,
    )

pub space-requires-clause-pending : goal.space-requires-clause-pending
space-requires-clause-pending c =
    let w : WorldState = record { shared = c.self.inside.shared; actors = c.self.inside.actors.items } in
    pending_fits w c.picked_blocks-picked.result c.self.invariant.0
    (c.picked_blocks-picked.ensures.value ∙ ap (sum_by picked_of) c.deref.ensures.value)

pub space-requires-clause-unlocked : goal.space-requires-clause-unlocked
space-requires-clause-unlocked c =
    let w : WorldState = record { shared = c.self.inside.shared; actors = c.self.inside.actors.items } in
    keeps_unlocked w c.self.invariant.0

pub returns-clause-places : goal.returns-clause-places
returns-clause-places c m shows =
    let w : WorldState = record { shared = c.self.inside.shared; actors = c.self.inside.actors.items } in
    c.space.ensures
    ∙ space_shown w m c.picked_blocks-picked.result (subst (λ (v : WorldState). Shows v m) (sym c.self.view_is) shows)
    (c.picked_blocks-picked.ensures.value ∙ ap (sum_by picked_of) c.deref.ensures.value)

pub returns-clause-all : goal.returns-clause-all
returns-clause-all c =
    let w : WorldState = record { shared = c.self.inside.shared; actors = c.self.inside.actors.items } in
    let picked = c.picked_blocks-picked.ensures.value ∙ ap (sum_by picked_of) c.deref.ensures.value in
    rw c.space.ensures (
    all_spaced w.shared.geometry.numbers.blocks (block_count w.shared.book.state.deferred + c.picked_blocks-picked.result)
    (shared_of w.shared) (world_adds_up w c.self.invariant.0) (pending_fits w c.picked_blocks-picked.result c.self.invariant.0 picked)
    ∙ ap (λ (v : WorldState). v.shared.geometry.numbers.blocks) c.self.view_is
    )
