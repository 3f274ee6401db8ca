use Rattle.std.proofs.Common.{◌≡◌, ℕ, ◌+◌, ◌-◌, ◌<◌, ◌≤◌, List, length, get_or, arith, ap, subst, ◌∙◌}
use Rattle.nv_entry.specs.Log.{IsLog}
use Rattle.nv_entry.specs.declared.item.Entry.{Entry}
use Rattle.nv_audit.specs.Deaths.{Puts}
use Rattle.nv_audit.proofs.Covers.{covers_none, covers_step, deaths_all, deaths_none, deaths_step}
use Rattle.nv_audit.proofs.deaths.deaths_looked_up.Goals as goal

pub loop-place-init : goal.loop-place-init
loop-place-init c =
    let own = c.args.logged.now in
    let past : length own.log ≤ length c.log-log.result.now = omega (arith, ap (λ (l : List Entry). length l) c.log-log.ensures.value) in
    record {
      covers = covers_none own.block own.log _ c.new-covers.result past (c.new-covers.ensures own.log);
      deaths = deaths_none own.block own.log _ c.new-deaths.result.items past c.new-deaths.ensures.items;
    }

pub loop-place-preserved : goal.loop-place-preserved
loop-place-preserved c =
    let own = c.args.logged.now in
    let n = c.loop-place.place in
    let i : ℕ = n - 1 in
    let e = c.index-log-place.result in
    let all : c.log-log.result.now ≡ own.log = c.log-log.ensures.value in
    let next : i + 1 ≡ n = omega (arith, c.loop-place-test.true) in
    let lt : i < length own.log =
    omega (arith, c.loop-place-test.true, c.loop-place.auto.place, ap (λ (l : List Entry). length l) all) in
    let at : e ≡ get_or own.log i e = c.index-log-place.is ∙ ap (λ (l : List Entry). get_or l i e) all in
    let put : Puts own.block e c.loop-place.covers c.put.new.self =
    subst (λ (b : ℕ). Puts b e c.loop-place.covers c.put.new.self) c.block_bytes.ensures.value c.in_ok-put.ensures.ok in
    record {
      covers = covers_step own.block own.log i n e c.loop-place.covers c.put.new.self (subst IsLog all c.log-log.ensures.rising) next lt at
          c.loop-place.invariant.covers put;
      deaths = deaths_step own.block own.log i n e c.loop-place.covers c.loop-place.deaths.items c.push_deaths.new.deaths.items next lt at
          c.loop-place.invariant.covers c.loop-place.invariant.deaths c.in_ok-push_deaths.ensures;
    }

pub returns-clause-ok : goal.returns-clause-ok
returns-clause-ok c =
    c.reverse.ensures.items
    ∙ deaths_all c.args.logged.now.block c.args.logged.now.log c.loop-place.place c.loop-place.deaths.items
    (omega (arith, c.loop-place-test.false)) c.loop-place.invariant.deaths
