use Rattle.std.proofs.Common.{◌≡◌, ◌<◌, ◌++◌, Bool, List, length, arith, ap, sym, ◌∙◌, get_or}
use Rattle.std.specs.List.{flat_map}
use Rattle.std.proofs.lemmas.List.{get_or-map, length-map}
use Rattle.std.proofs.lemmas.List.Concat.{flat_map-cons}
use Rattle.nv_entry.specs.Held.{keeps, retention_of}
use Rattle.nv_entry.specs.Keys.{parts_of}
use Rattle.nv_entry.specs.Log.{pair_of, pairs_of}
use Rattle.nv_audit.specs.Lists.{kept_pair, said_if}
use Rattle.nv_audit.proofs.Pushing.{step}
use Rattle.nv_audit.proofs.lists.push_kept_of.Goals as goal

pub loop-place-preserved : goal.loop-place-preserved
loop-place-preserved c later told =
    let block = c.args.retention.now.block in
    let r = retention_of c.args.retention.now in
    let e = c.args.entry.now in
    let own = pairs_of block e later in
    let i = c.loop-place.place in
    let part = c.part_at-part.result in
    let pair = pair_of block e later part in
    let kept = c.is_kept_at-is_kept.result in
    let lt : i < length (parts_of e.item) = omega (arith, c.loop-place-test.true, c.part_count-place-end.ensures) in
    let below : i < length own = omega (arith, lt, length-map (parts_of e.item) (pair_of block e later)) in
    let here : pair ≡ get_or own i pair = ap (pair_of block e later) (c.part_at-part.ensures part)
    ∙ sym (get_or-map (pair_of block e later) (parts_of e.item) i part pair lt) in
    let is_kept : kept ≡ keeps r pair = c.is_kept_at-is_kept.ensures kept ∙ ap (λ (bs : List Bool). get_or bs i kept) told
    ∙ get_or-map (keeps r) own i pair kept below ∙ ap (keeps r) (sym here) in
    let f = kept_pair r e.item in
    step (flat_map f) (λ x xs. f x) (λ x xs. flat_map-cons f x xs) own i pair below here c.loop-place.used.items
    c.push_if_kept.new.used.items _
    (c.in_ok-push_if_kept.ensures ∙ ap (λ (b : Bool). c.loop-place.used.items ++ said_if b block e.item part) is_kept)
    (c.loop-place.invariant later told)
