use Rattle.nv_sessions.specs.UnlockedParts.{list_told}
use Rattle.nv_sessions.proofs.Turning.{turned_told}
use Rattle.nv_sessions.proofs.unlocked.unlock_lists.Goals as goal

pub returns-clause-fit : goal.returns-clause-fit
returns-clause-fit g c =
    let l = c.loop-lock in
    turned_told list_told l.rests.items c.reverse-2.new.self.items l.lists.items c.reverse.new.self.items
    l.invariant.fit c.reverse-2.ensures.items c.reverse.ensures.items
