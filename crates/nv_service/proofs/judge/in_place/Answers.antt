use Rattle.nv_core.specs.AtRest.{at_rest}
use Rattle.nv_service.proofs.PartBlocks.{none_busy}
use Rattle.nv_service.proofs.judge.in_place.Goals as goal

-- a world at rest comes apart
pub unreachable-requires : goal.unreachable-requires
unreachable-requires g c =
    none_busy c.args.parts (c.in-Err-into_parts.ensures.err (at_rest c.args.parts) c.in-Ok.ensures.ok).1

pub returns-then-are_in_place-clause-placed : goal.returns-then-are_in_place-clause-placed
returns-then-are_in_place-clause-placed g c = c.are_in_place.ensures.0 c.if-are_in_place.true
