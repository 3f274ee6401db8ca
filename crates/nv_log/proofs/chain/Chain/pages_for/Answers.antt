use Rattle.std.proofs.Common.{◌≡◌, ℕ, ◌+◌, ◌*◌, ◌≤◌, length, arith, ap, ◌∙◌}
use Rattle.nv_log.specs.Chain.{growth, room_of}
use Rattle.nv_log.specs.Fields.{state_in}
use Rattle.nv_log.proofs.Growth.{most_pages, none_more, taken_more}
use Rattle.nv_log.proofs.chain.Chain.pages_for.Goals as goal

pub loop-room-preserved : goal.loop-room-preserved
loop-room-preserved c =
    let chain = state_in c.self.inside in
    let is = c.loop-room.invariant in
    let there : c.loop-room.room ≡ room_of chain + c.loop-room.pages * chain.page = is.below c.loop-room-test.true in
    let blocks : c.len.result ≡ length chain.blocks = omega (arith, c.len.ensures, c.self.inside.blocks.ok) in
    let more : c.growth-more.result ≡ growth (length chain.blocks + c.loop-room.pages) =
    c.growth-more.ensures ∙ ap (λ (n : ℕ). growth (n + c.loop-room.pages)) blocks in
    let some : 1 ≤ chain.page = omega (arith, c.self.invariant.chain.least) in
    record {
      value =
          taken_more chain.page (length chain.blocks) (room_of chain) c.args.entries c.loop-room.pages c.growth-more.result _ some
          (omega (arith, there, c.loop-room-test.true)) more is.value;
      most = omega (arith, there, c.saturating_add-room.ensures);
      below = λ lt. omega (arith, there, c.saturating_add-room.ensures, lt, c.ranges.entries);
    }

pub returns-clause-value : goal.returns-clause-value
returns-clause-value c =
    let chain = state_in c.self.inside in
    let is = c.loop-room.invariant in
    let none =
    none_more chain.page (length chain.blocks + c.loop-room.pages) (room_of chain + c.loop-room.pages * chain.page) c.args.entries
    (omega (arith, is.most, c.loop-room-test.false)) in
    rw (← c.self.view_is) (omega (arith, none, is.value))

pub returns-clause-enough : goal.returns-clause-enough
returns-clause-enough c = rw (← c.self.view_is) (omega (arith, c.loop-room.invariant.most, c.loop-room-test.false))

pub returns-clause-few : goal.returns-clause-few
returns-clause-few c =
    let most = most_pages c.args.entries (state_in c.self.inside) (omega (arith, c.self.invariant.chain.least)) in
    omega (arith, most, rw (← c.self.view_is) at (returns-clause-value c))
