use Rattle.std.proofs.Common.{◌≡◌, ◌∙◌, Option, ap, subst, sym, ℕ}
use Rattle.std.specs.Global.{Vec}
use Rattle.nv_base.specs.declared.geometry.GeometryNumbers.{GeometryNumbers}
use Rattle.nv_core.proofs.FromParts.{rest_run, world_rest}
use Rattle.nv_core.specs.AtRest.{at_rest}
use Rattle.nv_core.specs.Stops.{HasImageRoom}
use Rattle.nv_parts.specs.declared.parts.Parts.{Parts}
use Rattle.nv_core.proofs.world.World.at_rest.Goals as goal

pub invariant_of-result : goal.invariant_of-result
invariant_of-result c = (
  (
    at_rest c.args.parts,
    rest_run c.args.parts c.requires.start.0,
    world_rest c.args.parts c.requires.start.0 c.of_parts-shared.result c.args.beside.actors.items c.requires.start.1
        c.requires.may c.of_parts-shared.ensures.parts
        (ap (λ (v : Vec (Option ℕ)). v.items) c.of_parts-shared.ensures.owners ∙ c.requires.beside.owners)
        c.of_parts-shared.ensures.holder c.requires.beside.actors,
  ),
  subst (λ (n : GeometryNumbers). HasImageRoom n c.args.beside.room)
      (sym (ap (λ (p : Parts). p.geometry.numbers) c.of_parts-shared.ensures.parts)) c.requires.beside.room,
)

pub returns-clause-shows : goal.returns-clause-shows
returns-clause-shows c =
    (world_rest c.args.parts c.requires.start.0 c.of_parts-shared.result c.args.beside.actors.items c.requires.start.1
    c.requires.may c.of_parts-shared.ensures.parts
    (ap (λ (v : Vec (Option ℕ)). v.items) c.of_parts-shared.ensures.owners ∙ c.requires.beside.owners)
    c.of_parts-shared.ensures.holder c.requires.beside.actors).shows
