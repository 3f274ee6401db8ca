use Rattle.std.proofs.Common.{◌≡◌, ◌∙◌, ℕ, List, ap, map, refl, subst, sym, take}
use Rattle.nv_alloc.specs.Block.{BlockValue, zeroed}
use Rattle.nv_base.specs.declared.geometry.GeometryNumbers.{GeometryNumbers}
use Rattle.nv_cell.specs.declared.bare.BareCell.{BareCell}
use Rattle.nv_mount.specs.Build.{AreGivenHome, CanAllGoHome}
use Rattle.nv_core.specs.Restarts.{blocks_past, fresh_blocks}
use Rattle.nv_core.proofs.FreshBlocks.{past_fresh}
use Rattle.nv_core.proofs.LeftCells.{can_go_home, cell_left, slot_left}
use Rattle.nv_core.proofs.restart.left_of.Goals as goal
use Rattle.nv_core.proofs.restart.left_of.Goals.{After-into_bare-bare}

-- the blocks behind the places of published parts
past : (c : After-into_bare-bare)
    → blocks_past c.published_slots-published.result c.into_bare-bare.result.blocks.items ≡ fresh_blocks c.args.cell.state
past c =
    ap (λ (n : ℕ). blocks_past n c.into_bare-bare.result.blocks.items) c.published_slots-published.ensures
    ∙ past_fresh c.args.cell.state c.into_bare-bare.result.blocks.items c.into_bare-bare.ensures.blocks c.into_bare-bare.ensures.slots

pub give_past-requires : goal.give_past-requires
give_past-requires c =
    let here = (goal.at.give_past-requires c).After-into_bare-bare in
    let r = c.requires in
    let old = c.args.lists.now.items in
    subst (λ (bs : List BlockValue). CanAllGoHome c.args.geometry.now.numbers (map zeroed bs) old) (sym (past here))
    (subst (λ (n : GeometryNumbers). CanAllGoHome n (map zeroed (fresh_blocks c.args.cell.state)) old) (sym r.3)
    (can_go_home r.0 r.1 r.2 c.args.cell.state old c.holds_together.ensures r.4))

pub returns : goal.returns
returns c image view ino owed same can seen =
    let here = (goal.at.returns c).After-into_bare-bare in
    let old = c.args.lists.now.items in
    let new = c.give_past.new.lists.items in
    let bare = c.into_bare-bare.result in
    let kept : BareCell = record { generation = bare.generation; chain = bare.chain; blocks = c.give_past.new.places } in
    let given =
    subst (λ (n : GeometryNumbers). AreGivenHome n (map zeroed (fresh_blocks c.args.cell.state)) old new) same
    (subst (λ (bs : List BlockValue). AreGivenHome c.args.geometry.now.numbers (map zeroed bs) old new) (past here)
    c.give_past.ensures.given) in
    let cut = c.give_past.ensures.places ∙ ap (λ (n : ℕ). take n bare.blocks.items) c.published_slots-published.ensures in
    let is = c.into_bare-bare.ensures in
    cell_left image ino owed c.args.cell.state old c.holds_together.ensures can view kept new given
    (slot_left image view ino c.args.cell bare kept can.slot seen is.generation is.chain is.spare is.blocks is.slots refl refl cut)
