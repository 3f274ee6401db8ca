use Rattle.std.proofs.Common.{refl, subst}
use Rattle.nv_calls.specs.declared.answer.Answer.TheVariants as answers
use Rattle.nv_calls.specs.declared.call.Call.TheVariants as call
use Rattle.nv_base.specs.declared.numbers.Handle.{Handle}
use Rattle.nv_files.specs.declared.answers.Stat.{Stat}
use Rattle.nv_files.specs.Stands.{Leads}
use Rattle.nv_files.specs.Told.{IsTold}
use Rattle.nv_c.specs.Numbers.{handle_in}
use Rattle.nv_c.proofs.held.Held.stat.Goals as goal

pub returns-clause-told : goal.returns-clause-told
returns-clause-told c = (
  c.tell_node.ensures.told (call.Stat (handle_in c.args.node)) c.args.self.now.files c.stat.new.self
      (subst (λ (h : Handle). Leads (IsTold (call.Stat h) c.stat.result (λ (v : Stat). answers.Stat v.kind v.mode v.size v.commit)) c.args.self.now.files c.stat.new.self)
      c.handle.ensures c.stat.ensures),
  (refl, refl),
)
