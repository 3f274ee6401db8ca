use Rattle.std.proofs.Common.{ℕ, subst, sym, refl, take}
use Rattle.nv_alloc.specs.FreeList.{FreeBlocks}
use Rattle.nv_steps.specs.OnList.{IsTaking, on_list, with_taken}
use Rattle.nv_sessions.proofs.list.LockedList.take_asked.Goals as goal

-- a turn on the list behind its lock
pub returns-clause-turn : goal.returns-clause-turn
returns-clause-turn g c taking actor h r cpu before =
    let t = c.take-taken in
    let list = c.self.inside.list in
    let asked = c.args.asked in
    let wanted = c.args.wanted in
    let numbers = c.args.geometry.now.numbers in
    subst (λ (l : FreeBlocks). IsTaking taking asked numbers actor (on_list r h c.args.cpu l t.new.list) t.result
    (with_taken taking (take wanted l.blocks) h)) c.self.view_is
    (subst (λ (k : ℕ). IsTaking taking asked numbers actor (on_list r h k list t.new.list) t.result
    (with_taken taking (take wanted list.blocks) h)) (sym cpu) (t.ensures.turn taking numbers actor h r refl before))
