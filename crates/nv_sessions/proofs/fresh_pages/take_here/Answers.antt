use Rattle.std.proofs.Common.{◌≡◌, ◌<◌, ◌%◌, ◌+◌, arith, refl}
use Rattle.std.proofs.Math.Nat.{mod-add-mod, mod-lt}
use Rattle.nv_alloc.specs.declared.hand.Hand.{Hand}
use Rattle.nv_calls.proofs.BlockCounts.{hand_len}
use Rattle.nv_steps.specs.OnList.{FreshPages}
use Rattle.nv_steps.specs.Hands.{hand_of}
use Rattle.nv_machine.specs.Kinds.{asked_list}
use Rattle.nv_sessions.specs.Holding.{wanting}
use Rattle.nv_sessions.proofs.CleanerRuns.{asked_here, mislaid_here, told_here}
use Rattle.nv_sessions.proofs.fresh_pages.take_here.Goals as goal

pub returns-clause-turn : goal.returns-clause-turn
returns-clause-turn g c h0 r0 r ino known holds =
    let t = c.take_asked in
    let numbers = c.args.service.now.geometry.numbers in
    let number = c.args.number in
    let asked = c.args.asked in
    let wanted = c.args.wanted in
    let old = c.args.hand.now in
    let new : Hand = record old { pages = t.new.queue } in
    let cpu = (number % numbers.cpus + asked) % numbers.cpus in
    let is : cpu ≡ asked_list numbers.cpus number asked = mod-add-mod number numbers.cpus asked in
    let some : 0 < numbers.cpus = omega (arith, c.requires.more) in
    asked_here numbers number h0 r0 ino known r asked wanted cpu old new c.deref_mut.result.now t.new.self t.result
    (mod-lt (number % numbers.cpus + asked) some) t.ensures.home
    (t.ensures.turn (FreshPages ino) number (hand_of old) (wanting ino asked wanted r) is refl) t.ensures.queue refl holds

pub returns-clause-told : goal.returns-clause-told
returns-clause-told g c =
    let t = c.take_asked in
    told_here c.args.wanted c.args.asked c.args.service.now.geometry.numbers.cpus c.args.hand.now.pages t.new.queue c.deref_mut.result.now
    t.result c.requires.room t.ensures.told t.ensures.queue

pub returns-clause-amount : goal.returns-clause-amount
returns-clause-amount g c =
    let old = c.args.hand.now in
    omega (
      arith,
      c.requires.amount,
      c.take_asked.ensures.amount,
      hand_len old,
      hand_len (let new : Hand = record old { pages = c.take_asked.new.queue } in new),
    )

pub returns-clause-mislaid : goal.returns-clause-mislaid
returns-clause-mislaid g c =
    let t = c.take_asked in
    let numbers = c.args.service.now.geometry.numbers in
    let number = c.args.number in
    mislaid_here t.result numbers ((number % numbers.cpus + c.args.asked) % numbers.cpus) (asked_list numbers.cpus number c.args.asked)
    c.deref_mut.result.now (mod-add-mod number numbers.cpus c.args.asked) t.ensures.mislaid
