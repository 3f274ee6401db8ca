use Rattle.std.proofs.Common.{◌≡◌, ℕ, ◌+◌, ◌++◌, ◌∷◌, [], ◌∙◌, arith, map, take, ap, sym}
use Rattle.std.proofs.lemmas.List.{map_more, take_all}
use Rattle.nv_epoch.specs.SnapList.{unpinned}
use Rattle.nv_epoch.proofs.Sound.{sound_unpinned}
use Rattle.nv_epoch.proofs.snap_list.SnapList.rebuild.Goals as goal

pub loop-number-preserved : goal.loop-number-preserved
loop-number-preserved c =
    let ns = c.args.numbers.now in
    let i = c.loop-number.number-index in
    let n = c.number-item.result in
    let one : map unpinned (take (i + 1) ns) ≡ map unpinned (take i ns) ++ unpinned n ∷ [] =
    map_more unpinned ns i n c.loop-number-test.true
    ∙ ap (λ (m : ℕ). map unpinned (take i ns) ++ unpinned m ∷ []) (sym c.number-item.is) in
    record {
      items = c.push_reserved.ensures.items ∙ rw c.loop-number.invariant.items (sym one);
      len = omega arith;
      capacity = omega arith;
    }

pub invariant_of-result : goal.invariant_of-result
invariant_of-result c =
    let ns = c.args.numbers.now in
    let all : take c.loop-number.number-index ns ≡ ns = take_all c.loop-number.number-index ns (omega arith) in
    let asked = c.requires in
    rw (c.loop-number.invariant.items, all) (
      sound_unpinned ns c.args.epoch c.args.snaps asked.rising asked.below_epoch asked.fits asked.some_epoch asked.epoch_fits,
      c.loop-number.invariant.capacity,
    )
