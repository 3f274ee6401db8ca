use Rattle.std.proofs.Common.{◌∙◌, ap, sym}
use Rattle.std.specs.Prelude.{Ok}
use Rattle.nv_steps.specs.Planning.{once_planned}
use Rattle.nv_steps.specs.declared.planning.Planned.{Planned}
use Rattle.nv_core.specs.Shown.{shown}
use Rattle.nv_core.proofs.HeldRooms.{can_end}
use Rattle.nv_core.proofs.kinds.plan_cleaning.go_by_plan.Goals as goal

pub returns-in-Ends-clause-turn : goal.returns-in-Ends-clause-turn
returns-in-Ends-clause-turn c told =
    c.unlock_first.ensures.ends told
    ∙ sym (ap (λ (p : Planned). once_planned c.args.ino (Ok p) (shown told c.args.running.now)) c.in-Ends.is)

pub returns-in-Ends-clause-rooms : goal.returns-in-Ends-clause-rooms
returns-in-Ends-clause-rooms c =
    c.unlock_first.ensures.rooms c.args.shared.now c.args.hand.now
    (can_end c.args.running.now _ c.requires.call.request (λ same. absurd (cc))) c.requires.sized tt
