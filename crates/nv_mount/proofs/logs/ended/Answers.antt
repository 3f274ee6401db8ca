use Rattle.std.proofs.Common.{◌≡◌, ◌<◌, ◌++◌, ◌∷◌, [], ℕ, Bool, List, length, map, ap, ap₂, arith, sym, ◌∙◌}
use Rattle.std.specs.List.{range_with_len}
use Rattle.std.proofs.lemmas.List.FromFn.{map-range_with_len_more}
use Rattle.nv_audit.specs.Logged.{LoggedValue}
use Rattle.nv_audit.specs.Mounted.{is_over}
use Rattle.nv_audit.proofs.MountedLogs.{tails_many}
use Rattle.nv_mount.specs.View.{ViewValue}
use Rattle.nv_mount.proofs.Seen.{all_over, front_in, over_in, seen_within}
use Rattle.nv_mount.proofs.logs.ended.Goals as goal

pub bounds-tails-ino : goal.bounds-tails-ino
bounds-tails-ino c =
    let same = ap (λ (v : ViewValue). length v.slots) c.view.view_is in
    omega (arith, c.loop-ino-test.true, same, c.requires.2.count, tails_many c.requires.0 c.args.tails.now c.requires.3)

pub front_of-requires-clause-tail : goal.front_of-requires-clause-tail
front_of-requires-clause-tail c =
    let same = ap (λ (v : ViewValue). length v.slots) c.view.view_is in
    let image = c.requires.0 in
    let lt : c.loop-ino.ino < length image.slots = omega (arith, c.loop-ino-test.true, same, c.requires.2.count) in
    seen_within image c.args.view.now c.requires.2 c.args.tails.now c.loop-ino.ino 0 c.requires.1 c.requires.3 lt

pub loop-ino-preserved : goal.loop-ino-preserved
loop-ino-preserved c =
    let view = c.args.view.now in
    let tails = c.args.tails.now in
    let ino = c.loop-ino.ino in
    let inv = c.loop-ino.invariant in
    let own : c.in_ok-over.over ≡ over_in view tails ino =
    c.in_ok-over.ensures.ok
    ∙ ap (λ (l : LoggedValue). is_over c.view.inside.snapshots.now l.block l.log) c.front_of.ensures
    ∙ ap (λ (v : ViewValue). is_over v.snapshots view.numbers.block (front_in view tails ino)) c.view.view_is in
    record {
      made = c.push_reserved.ensures.items ∙ ap₂ (λ (bs : List Bool) (b : Bool). bs ++ b ∷ []) inv.made own
          ∙ sym (map-range_with_len_more (over_in view tails) 0 ino ino (omega arith));
      len = omega (arith, c.push_reserved.ensures.len, inv.len);
      room = omega (arith, c.push_reserved.ensures.capacity, inv.room);
    }

pub returns-clause-ok : goal.returns-clause-ok
returns-clause-ok c image faultless seen are =
    let view = c.args.view.now in
    let tails = c.args.tails.now in
    let same = ap (λ (v : ViewValue). length v.slots) c.view.view_is in
    let end : c.loop-ino.ino ≡ length view.slots = omega (arith, c.loop-ino-test.false, c.loop-ino.auto.ino-end, same) in
    all_over image view tails c.loop-ino.ended.items seen are
    (c.loop-ino.invariant.made ∙ ap (λ (n : ℕ). map (over_in view tails) (range_with_len 0 n)) end)
