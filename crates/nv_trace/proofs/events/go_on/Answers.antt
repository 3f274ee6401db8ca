use Rattle.std.proofs.Common.{◌≡◌, ℕ, ◌+◌, ◌-◌, arith, subst}
use Rattle.nv_core.specs.declared.event.Reply.{Reply}
use Rattle.nv_core.specs.Worlds.{Leads, reply_of}
use Rattle.nv_core.proofs.WholeCalls.{moved_only}
use Rattle.nv_script.specs.Trace.{GoesTraced}
use Rattle.nv_trace.specs.Traced.{Adds, HasMovedTraced}
use Rattle.nv_trace.proofs.Tracing.{traced_goes, traced_more, traced_none}
use Rattle.nv_trace.proofs.events.go_on.Goals as goal

pub loop-reply-init : goal.loop-reply-init
loop-reply-init c =
    let none : 0 ≡ c.args.more - c.args.more = omega arith in
    record {
      few = omega arith;
      moved = subst (λ (n : ℕ). Leads (λ m n'. Adds c.args.out.now.items c.args.out.now.items
          (λ events. HasMovedTraced c.args.trace c.args.number n c.args.actor events m n')) c.args.world.now c.args.world.now) none
          (traced_none c.args.trace c.args.number c.args.actor c.args.world.now c.args.out.now.items);
    }

pub loop-reply-preserved : goal.loop-reply-preserved
loop-reply-preserved c =
    let few = c.loop-reply.invariant.few in
    let more : c.args.more - c.loop-reply.left + 1 ≡ c.args.more - (c.loop-reply.left - 1) = omega (arith, few, c.if-left-eq0.false) in
    record {
      few = omega (arith, few);
      moved = subst (λ (n : ℕ). Leads (λ m n'. Adds c.args.out.now.items c.step.new.out.items
          (λ events. HasMovedTraced c.args.trace c.args.number n c.args.actor events m n')) c.args.world.now c.step.new.world) more
          (traced_more c.args.trace c.args.number c.args.actor c.args.world.now c.loop-reply.world c.step.new.world (c.args.more - c.loop-reply.left)
          c.in_ok-reply.reply c.args.out.now.items c.loop-reply.out.items c.step.new.out.items c.loop-reply.invariant.moved
          c.in_ok-reply.ensures.step c.in-Moved.is);
    }

pub returns-in_default-clause-goes : goal.returns-in_default-clause-goes
returns-in_default-clause-goes c =
    traced_goes c.args.trace c.args.number c.args.actor c.args.world.now c.loop-reply.world c.step.new.world (c.args.more - c.loop-reply.left)
    c.in_ok-reply.reply c.args.out.now.items c.loop-reply.out.items c.step.new.out.items c.loop-reply.invariant.moved
    c.in_ok-reply.ensures.step c.args.more (omega arith)
    (λ moved. absurd (c.in_default.not-Moved (moved_only c.in_ok-reply.reply moved)))

pub returns-then-left-eq0-clause-goes : goal.returns-then-left-eq0-clause-goes
returns-then-left-eq0-clause-goes c =
    subst (λ (r : Reply). Leads (λ m n. Adds c.args.out.now.items c.step.new.out.items
    (λ events. GoesTraced c.args.trace c.args.number (c.args.more + 1) m c.args.actor events (reply_of r) n)) c.args.world.now c.step.new.world)
    c.in-Moved.is
    (traced_goes c.args.trace c.args.number c.args.actor c.args.world.now c.loop-reply.world c.step.new.world (c.args.more - c.loop-reply.left)
    c.in_ok-reply.reply c.args.out.now.items c.loop-reply.out.items c.step.new.out.items c.loop-reply.invariant.moved
    c.in_ok-reply.ensures.step c.args.more (omega arith) (λ moved. omega (arith, c.if-left-eq0.true)))
