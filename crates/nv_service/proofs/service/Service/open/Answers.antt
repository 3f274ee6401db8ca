use Rattle.std.proofs.Common.{inr, subst}
use Rattle.nv_core.specs.AtRest.{IsBusy}
use Rattle.nv_service.proofs.PartBlocks.{none_busy, opened}
use Rattle.nv_service.proofs.service.Service.open.Goals as goal

pub of_parts-requires-clause-slots : goal.of_parts-requires-clause-slots
of_parts-requires-clause-slots g c =
    let came = c.in-Ok-into_parts.ensures in
    let own = opened c.args.world c.in-Ok-into_parts.parts c.consistent.ensures came.ok came.rest in
    (own.slots, own.cpus)

pub of_parts-requires-clause-device : goal.of_parts-requires-clause-device
of_parts-requires-clause-device g c =
    let came = c.in-Ok-into_parts.ensures in
    (opened c.args.world c.in-Ok-into_parts.parts c.consistent.ensures came.ok came.rest).device

pub returns-in-Ok-into_parts-clause-idle : goal.returns-in-Ok-into_parts-clause-idle
returns-in-Ok-into_parts-clause-idle g c = λ m shown busy.
    none_busy c.in-Ok-into_parts.parts (subst IsBusy (c.in-Ok-into_parts.ensures.rest m shown) busy)

pub returns-in-Err-into_parts-clause-err : goal.returns-in-Err-into_parts-clause-err
returns-in-Err-into_parts-clause-err g c = λ m shown. inr (c.in-Err-into_parts.ensures.err m shown)
