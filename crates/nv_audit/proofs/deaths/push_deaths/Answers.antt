use Rattle.std.proofs.Common.{◌≡◌, ℕ, ◌+◌, ◌-◌, ◌<◌, ◌++◌, Option, length, reverse, arith, ap, ◌∙◌}
use Rattle.nv_entry.specs.Keys.{key_of, parts_of}
use Rattle.nv_entry.specs.declared.part.Part.{Part}
use Rattle.nv_audit.specs.Deaths.{cover_in, covers_of}
use Rattle.nv_audit.proofs.Covers.{told_all, told_more, told_none}
use Rattle.nv_audit.proofs.deaths.push_deaths.Goals as goal

pub loop-place-init : goal.loop-place-init
loop-place-init c =
    let item = c.args.entry.now.item in
    told_none (λ (part : Part). cover_in c.args.logged.now.log c.args.covers.now (key_of item part)) (parts_of item)
    c.part_count-place.result c.args.deaths.now.items (omega (arith, c.part_count-place.ensures))

pub loop-place-preserved : goal.loop-place-preserved
loop-place-preserved c =
    let log = c.args.logged.now.log in
    let item = c.args.entry.now.item in
    let told : Part → Option ℕ = λ (part : Part). cover_in log c.args.covers.now (key_of item part) in
    let n = c.loop-place.place in
    let q : ℕ = n - 1 in
    let next : q + 1 ≡ n = omega (arith, c.loop-place-test.true) in
    let lt : q < length (parts_of item) =
    omega (arith, c.loop-place-test.true, c.loop-place.auto.place, c.part_count-place.ensures) in
    let own : c.get.result ≡ told c.part_at-part.result = c.get.ensures ∙ ap (cover_in log c.args.covers.now) c.part_key.ensures in
    told_more told (parts_of item) q n c.part_at-part.result c.get.result c.loop-place.deaths.items c.push.new.self.items
    (c.args.deaths.now.items ++ reverse (covers_of log c.args.covers.now c.args.entry.now)) next lt
    (c.part_at-part.ensures c.part_at-part.result) own c.in_ok-push.ensures.items c.loop-place.invariant

pub returns : goal.returns
returns c =
    let log = c.args.logged.now.log in
    let item = c.args.entry.now.item in
    told_all (λ (part : Part). cover_in log c.args.covers.now (key_of item part)) (parts_of item) c.loop-place.place
    c.loop-place.deaths.items (c.args.deaths.now.items ++ reverse (covers_of log c.args.covers.now c.args.entry.now))
    (omega (arith, c.loop-place-test.false)) c.loop-place.invariant
