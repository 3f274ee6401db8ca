use Rattle.std.proofs.Common.{◌≡◌, ◌+◌, ◌<◌, ◌++◌, ◌∙◌, ℕ, List, ap, ap₂, arith, drop, get_or, length}
use Rattle.std.proofs.lemmas.List.{map-append, take_rest}
use Rattle.nv_entry.specs.Log.{pairs, pairs_of}
use Rattle.nv_entry.specs.declared.item.Entry.{Entry}
use Rattle.nv_audit.specs.Owed.{died}
use Rattle.nv_audit.proofs.Covers.{death_of}
use Rattle.nv_audit.proofs.Pushing.{step}
use Rattle.nv_audit.proofs.deaths.deaths_scanned.Goals as goal

pub loop-place-preserved : goal.loop-place-preserved
loop-place-preserved c =
    let own = c.args.logged.now in
    let i = c.loop-place.place in
    let e = c.index-log-place.result in
    let all : c.log-log.result.now ≡ own.log = c.log-log.ensures.value in
    let lt : i < length own.log = omega (arith, c.loop-place-test.true, ap (λ (l : List Entry). length l) all) in
    let at : e ≡ get_or own.log i e = c.index-log-place.is ∙ ap (λ (l : List Entry). get_or l i e) all in
    step (λ es. died (pairs own.block es)) (λ x xs. died (pairs_of own.block x xs))
    (λ x xs. map-append death_of (pairs_of own.block x xs) (pairs own.block xs))
    own.log i e lt at c.loop-place.deaths.items c.push_scanned.new.deaths.items _
    (c.in_ok-push_scanned.ensures
    ∙ ap₂ (λ (b : ℕ) (es : List Entry). c.loop-place.deaths.items ++ died (pairs_of b e es)) c.block_bytes-block.ensures.value
    (take_rest c.log-log.result.now (i + 1) ∙ ap (λ (l : List Entry). drop (i + 1) l) all))
    c.loop-place.invariant
