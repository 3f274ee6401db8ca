use Rattle.std.proofs.Common.{◌<◌, length, arith}
use Rattle.std.specs.List.{flat_map}
use Rattle.std.proofs.lemmas.List.Concat.{flat_map-cons}
use Rattle.nv_entry.specs.Keys.{parts_of}
use Rattle.nv_audit.specs.Lists.{said_part}
use Rattle.nv_audit.proofs.Pushing.{step}
use Rattle.nv_audit.proofs.lists.push_said_of.Goals as goal

pub loop-place-preserved : goal.loop-place-preserved
loop-place-preserved c =
    let f = said_part c.args.block c.args.item.now in
    let parts = parts_of c.args.item.now in
    let i = c.loop-place.place in
    let part = c.part_at.result in
    let lt : i < length parts = omega (arith, c.loop-place-test.true, c.part_count-place-end.ensures) in
    step (flat_map f) (λ x xs. f x) (λ x xs. flat_map-cons f x xs) parts i part lt (c.part_at.ensures part) c.loop-place.used.items
    c.push_said_part.new.used.items _ c.in_ok-push_said_part.ensures c.loop-place.invariant
