use Rattle.std.proofs.Common.{◌≡◌, ◌-◌, ◌≤◌}
use Rattle.nv_core.specs.declared.event.Reply.TheVariants.{Moved}
use Rattle.nv_core.specs.Whole.{HasMoved}
use Rattle.nv_core.specs.Worlds.{Leads}
use Rattle.nv_core.proofs.world.World.go_on.Given as goal

abbrev pub invariant-loop-reply : goal.invariant-loop-reply
invariant-loop-reply l = record {
  few : l.left ≤ l.more;
  moved : Leads (HasMoved (l.more - l.left) l.actor) l.fn.self l.self;
  told : l.reply ≡ Moved;
}

abbrev pub decreases-loop-reply : goal.decreases-loop-reply
decreases-loop-reply l = l.left
