use Rattle.std.proofs.Common.{◌≡◌, ◌<◌, ◌++◌, ◌∷◌, ◌∙◌, [], Option, ℕ, ap, arith, length, map, refl}
use Rattle.nv_entry.specs.Keys.{key_of, parts_of}
use Rattle.nv_entry.specs.Log.{first_cover, pair_of}
use Rattle.nv_audit.specs.Owed.{died}
use Rattle.nv_audit.proofs.Pushing.{step}
use Rattle.nv_audit.proofs.deaths.push_scanned.Goals as goal

pub loop-place-preserved : goal.loop-place-preserved
loop-place-preserved c =
    let e = c.args.entry.now in
    let later = c.args.later.now in
    let parts = parts_of e.item in
    let i = c.loop-place.place in
    let part = c.part_at-part.result in
    let lt : i < length parts = omega (arith, c.loop-place-test.true, c.part_count-place-end.ensures) in
    let own : c.first_cover.result ≡ first_cover c.args.block later (key_of e.item part) =
    c.first_cover.ensures ∙ ap (first_cover c.args.block later) c.part_key.ensures in
    step (λ ps. died (map (pair_of c.args.block e later) ps)) (λ x xs. first_cover c.args.block later (key_of e.item x) ∷ []) (λ x xs. refl)
    parts i part lt (c.part_at-part.ensures part) c.loop-place.deaths.items c.push.new.self.items _
    (c.in_ok-push.ensures.items ∙ ap (λ (d : Option ℕ). c.loop-place.deaths.items ++ d ∷ []) own) c.loop-place.invariant
