use Rattle.std.proofs.Common.{◌≡◌, ℕ, ◌+◌, ◌-◌, arith, refl, subst}
use Rattle.nv_core.specs.declared.event.Reply.{Reply}
use Rattle.nv_core.specs.Worlds.{Leads, reply_of}
use Rattle.nv_core.specs.Whole.{GoesOn, HasMoved}
use Rattle.nv_core.proofs.WholeCalls.{goes, moved_more, moved_none, moved_only}
use Rattle.nv_core.proofs.world.World.go_on.Goals as goal

pub loop-reply-init : goal.loop-reply-init
loop-reply-init c =
    let none : 0 ≡ c.args.more - c.args.more = omega arith in
    record {
      few = omega arith;
      moved = subst (λ (n : ℕ). Leads (HasMoved n c.args.actor) c.args.self.now c.args.self.now) none
          (moved_none c.args.self.now c.args.actor);
      told = refl;
    }

pub loop-reply-preserved : goal.loop-reply-preserved
loop-reply-preserved c =
    let few = c.loop-reply.invariant.few in
    let more : c.args.more - c.loop-reply.left + 1 ≡ c.args.more - (c.loop-reply.left - 1) = omega (arith, few, c.if-left-eq0.false) in
    record {
      few = omega (arith, few);
      moved = subst (λ (n : ℕ). Leads (HasMoved n c.args.actor) c.args.self.now c.step_once.new.self) more
          (moved_more c.args.self.now c.loop-reply.self c.step_once.new.self (c.args.more - c.loop-reply.left) c.args.actor c.step_once.new.reply
          c.in-Moved.is c.loop-reply.invariant.moved c.step_once.ensures.step);
      told = c.in-Moved.is;
    }

pub returns-in_default-clause-goes : goal.returns-in_default-clause-goes
returns-in_default-clause-goes c =
    goes c.args.self.now c.loop-reply.self c.step_once.new.self (c.args.more - c.loop-reply.left) c.args.more c.args.actor c.step_once.new.reply
    (omega arith) (λ moved. absurd (c.in_default.not-Moved (moved_only c.step_once.new.reply moved))) c.loop-reply.invariant.moved c.step_once.ensures.step

pub returns-then-left-eq0-clause-goes : goal.returns-then-left-eq0-clause-goes
returns-then-left-eq0-clause-goes c =
    subst (λ (r : Reply). Leads (λ m n. GoesOn (c.args.more + 1) m c.args.actor (reply_of r) n) c.args.self.now c.step_once.new.self)
    c.in-Moved.is
    (goes c.args.self.now c.loop-reply.self c.step_once.new.self (c.args.more - c.loop-reply.left) c.args.more c.args.actor c.step_once.new.reply
    (omega arith) (λ moved. omega (arith, c.if-left-eq0.true)) c.loop-reply.invariant.moved c.step_once.ensures.step)
