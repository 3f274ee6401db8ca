use Rattle.std.proofs.Common.{◌≡◌, ◌≤◌, ℕ, ◌+◌, ◌-◌, ◌<◌, [], arith, length, sym, ◌∙◌}
use Rattle.nv_entry.specs.Keys.{NameKey}
use Rattle.nv_audit.proofs.LogNames.{back_all, back_none, back_seen, back_unseen}
use Rattle.nv_audit.proofs.log_names.names_by.Goals as goal

pub loop-place-init : goal.loop-place-init
loop-place-init c =
    let most : length c.args.log.now ≤ length c.args.log.now = omega arith in
    back_none c.args.when c.args.log.now _ c.new-covers.result c.new-names.result.items most
    (λ name. c.new-covers.ensures [] (NameKey name)) c.new-names.ensures.items

pub loop-place-preserved : goal.loop-place-preserved
loop-place-preserved c =
    let log = c.args.log.now in
    let n = c.loop-place.place in
    let i : ℕ = n - 1 in
    let e = c.index-log-place.result in
    let next : i + 1 ≡ n = omega (arith, c.loop-place-test.true) in
    let lt : i < length log = omega (arith, c.loop-place-test.true, c.loop-place.auto.place) in
    back_unseen c.args.when log i n e next lt c.index-log-place.is c.loop-place.covers c.loop-place.names.items
    (sym c.sees.ensures ∙ c.if-sees.false) c.loop-place.invariant

pub loop-place-preserved-in-Continue-branch-2 : goal.loop-place-preserved-in-Continue-branch-2
loop-place-preserved-in-Continue-branch-2 c =
    let log = c.args.log.now in
    let n = c.loop-place.place in
    let i : ℕ = n - 1 in
    let e = c.index-log-place.result in
    let next : i + 1 ≡ n = omega (arith, c.loop-place-test.true) in
    let lt : i < length log = omega (arith, c.loop-place-test.true, c.loop-place.auto.place) in
    back_seen c.args.when log i n e next lt c.index-log-place.is c.loop-place.covers c.put.new.self c.loop-place.names.items
    c.push_bound.new.names.items (sym c.sees.ensures ∙ c.if-sees.true) c.loop-place.invariant c.in_ok-put.ensures.ok c.in_ok-push_bound.ensures

pub returns-clause-ok : goal.returns-clause-ok
returns-clause-ok c =
    c.from_vec.ensures ∙ c.reverse.ensures.items
    ∙ back_all c.args.when c.args.log.now c.loop-place.place c.loop-place.covers c.loop-place.names.items
    (omega (arith, c.loop-place-test.false)) c.loop-place.invariant
