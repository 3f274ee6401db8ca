use Rattle.std.proofs.Common.{◌≡◌, ◌∙◌, ℕ, ap, arith, length, subst, sym}
use Rattle.nv_audit.specs.Image.{ImageValue}
use Rattle.nv_audit.specs.Mounted.{records_anew}
use Rattle.nv_base.specs.declared.geometry.GeometryNumbers.{GeometryNumbers}
use Rattle.nv_machine.specs.World as machine
use Rattle.nv_core.proofs.MountedWorlds.{AreMade, cell_count, mounted_rest, rest_starts, rest_stops, same_numbers}
use Rattle.nv_core.specs.Stops.{IsBeside}
use Rattle.nv_core.specs.Worlds.{Shows}
use Rattle.nv_core.proofs.world.World.mount_faultless.Goals as goal
use Rattle.nv_core.proofs.world.World.mount_faultless.Goals.{After-parts_of}

are : (c : After-parts_of) → AreMade c.parts_of.result c.in-Ok-mount_parts.made
are c = record {
  geometry = c.parts_of.ensures.geometry;
  cells = c.parts_of.ensures.cells;
  lists = c.parts_of.ensures.lists;
  pool = c.parts_of.ensures.pool;
  book = c.parts_of.ensures.book;
}

pub at_rest-requires-clause-start : goal.at_rest-requires-clause-start
at_rest-requires-clause-start c = (
  records_anew c.args.image,
  rest_starts c.args.image c.requires c.parts_of.result c.in-Ok-mount_parts.made
      (are (goal.at.at_rest-requires-clause-start c).After-parts_of) c.in-Ok-mount_parts.ensures.ok c.in-Ok-mount_parts.ensures.device,
)

pub at_rest-requires-clause-may : goal.at_rest-requires-clause-may
at_rest-requires-clause-may c =
    rest_stops c.args.image c.requires c.parts_of.result c.in-Ok-mount_parts.made
    (are (goal.at.at_rest-requires-clause-may c).After-parts_of) c.in-Ok-mount_parts.ensures.ok c.in-Ok-mount_parts.ensures.device

pub at_rest-requires-clause-beside : goal.at_rest-requires-clause-beside
at_rest-requires-clause-beside c =
    let here = are (goal.at.at_rest-requires-clause-beside c).After-parts_of in
    let image = c.args.image in
    let parts = c.parts_of.result in
    let made = c.in-Ok-mount_parts.made in
    let own : c.image.inside.geometry.numbers ≡ parts.geometry.numbers =
    ap (λ (i : ImageValue). i.numbers) c.image.view_is
    ∙ sym (same_numbers image c.requires parts made here c.in-Ok-mount_parts.ensures.ok c.in-Ok-mount_parts.ensures.device) in
    let many : c.len.result ≡ length parts.cells =
    (let all = ap (λ (i : ImageValue). length i.slots) c.image.view_is in omega (arith, all)) ∙ sym (cell_count image c.requires parts made here c.in-Ok-mount_parts.ensures.ok c.in-Ok-mount_parts.ensures.device) in
    subst (λ (g : GeometryNumbers). IsBeside g (length parts.cells) c.in-Ok.beside) own
    (subst (λ (n : ℕ). IsBeside c.image.inside.geometry.numbers n c.in-Ok.beside) many c.in-Ok.ensures.ok)

pub returns-in-Ok-mount_parts-clause-ok : goal.returns-in-Ok-mount_parts-clause-ok
returns-in-Ok-mount_parts-clause-ok c =
    subst (λ (m : machine.World). Shows c.at_rest.result m)
    (mounted_rest c.args.image c.requires c.parts_of.result c.in-Ok-mount_parts.made
    (are (goal.at.returns-in-Ok-mount_parts-clause-ok c).After-parts_of) c.in-Ok-mount_parts.ensures.ok
    c.in-Ok-mount_parts.ensures.device) c.at_rest.ensures.shows
