use Rattle.std.proofs.Common.{◌≡◌, ◌<◌, ℕ, true, List, Option, length, arith, subst, sym}
use Rattle.nv_alloc.specs.Block.{BlockValue}
use Rattle.nv_alloc.specs.Numbers.{has}
use Rattle.nv_mount.specs.Missing.{AreMarkedTo, AreWithin}
use Rattle.nv_mount.proofs.Marked.{marked_all, marked_next, numbers_at, places_flat, within_one}
use Rattle.nv_mount.proofs.missing.mark_places.Goals as goal

pub mark_place-requires : goal.mark_place-requires
mark_place-requires c = λ n there.
    let count = length c.args.marks.now.items in
    let place = c.index-places-k.result in
    let all = subst (AreWithin count) (places_flat c.args.places.now) c.requires in
    let low : n < count =
    within_one numbers_at count c.args.places.now c.loop-k.k place (omega arith) all n
    (subst (λ (o : Option BlockValue). has (numbers_at o) n ≡ true) c.index-places-k.is there) in
    omega (arith, low, c.loop-k.invariant.len)

pub loop-k-preserved : goal.loop-k-preserved
loop-k-preserved c =
    marked_next numbers_at c.args.places.now c.loop-k.k c.index-places-k.result c.args.marks.now.items c.loop-k.marks.items
    c.mark_place.new.marks.items (omega arith) c.index-places-k.is c.loop-k.invariant c.mark_place.ensures

pub returns : goal.returns
returns c =
    let old = c.args.marks.now.items in
    let new = c.loop-k.marks.items in
    subst (λ (ns : List ℕ). AreMarkedTo ns old new) (sym (places_flat c.args.places.now))
    (marked_all numbers_at c.args.places.now c.loop-k.k old new (omega arith) c.loop-k.invariant)
