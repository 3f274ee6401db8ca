use Rattle.std.proofs.Common.{refl}
use Rattle.nv_base.specs.declared.fault.MismatchPart.TheVariants as part
use Rattle.nv_sessions.specs.Holding.{wanting}
use Rattle.nv_sessions.specs.Misfits.{Mislaid}
use Rattle.nv_sessions.proofs.Holding.{broken}
use Rattle.nv_sessions.proofs.fresh_pages.take_fresh.Goals as goal

-- a list is another than the one that is asked
pub returns-in_err-take_here-clause-broken : goal.returns-in_err-take_here-clause-broken
returns-in_err-take_here-clause-broken g c h0 r0 r ino known holds refused =
    let asked = c.loop-asked.asked in
    let left = c.loop-asked.left in
    let before = c.loop-asked.invariant.turns h0 r0 r ino known holds in
    let list = c.in_err-take_here.ensures.mislaid in
    broken c.args.service.now.geometry.numbers c.args.number h0 r0 before.turns c.loop-asked.hand (wanting ino asked left r) part.Lists before.leads
    (Mislaid ino asked left list.0 refl list.1 refl)
