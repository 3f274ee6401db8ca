use Rattle.std.proofs.Common.{◌≡◌, ◌*◌, ◌≤◌, max, arith, ap}
use Rattle.std.proofs.lemmas.Result.{on_ok_weaker}
use Rattle.std.proofs.Math.Nat.{mul-le-mul_right}
use Rattle.nv_log.specs.Chain.{ChainState, room_of}
use Rattle.nv_cell.proofs.ready.grow_log.Goals as goal

pub returns-clause-entries : goal.returns-clause-entries
returns-clause-entries c =
    let old = c.args.chain.now in
    let new = c.reserve-2.new.self in
    on_ok_weaker c.reserve-2.result (λ (spare : new.spare ≡ max old.spare c.pages_for-pages.result).
    let le : c.pages_for-pages.result ≤ new.spare = omega arith in
    let all = mul-le-mul_right old.state.page le in
    let page = ap (λ (s : ChainState). new.spare * s.page) c.reserve-2.ensures.state in
    omega (arith, c.pages_for-pages.ensures.enough, all, page, ap room_of c.reserve-2.ensures.state)) c.reserve-2.ensures.ok
