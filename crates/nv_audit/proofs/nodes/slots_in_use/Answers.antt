use Rattle.std.proofs.Common.{◌≡◌, ℕ, ◌+◌, ◌-◌, ◌<◌, ◌∙◌, [], arith, length, sym}
use Rattle.std.proofs.lemmas.Bool.{eqb-true}
use Rattle.std.proofs.lemmas.List.{nil_from_length}
use Rattle.nv_audit.proofs.UsedSlots.{unused_more}
use Rattle.nv_audit.proofs.nodes.slots_in_use.Goals as goal

pub loop-place-preserved : goal.loop-place-preserved
loop-place-preserved c =
    let logs = c.args.logs.now in
    let n = c.loop-place.place in
    let i : ℕ = n - 1 in
    let own = c.index-logs-place.result in
    let next : i + 1 ≡ n = omega (arith, c.loop-place-test.true) in
    let lt : i < length logs = omega (arith, c.loop-place-test.true, c.loop-place.auto.place) in
    let none : own.log ≡ [] =
    sym c.log.ensures.value ∙ nil_from_length c.log.result.now
    (eqb-true (length c.log.result.now) 0 (sym c.is_empty.ensures ∙ c.if-not-is_empty.false)) in
    unused_more logs i n own next lt c.index-logs-place.is none c.loop-place.invariant
