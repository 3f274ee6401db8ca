use Rattle.std.proofs.Common.{refl, subst}
use Rattle.nv_calls.specs.declared.answer.Answer.TheVariants as answers
use Rattle.nv_calls.specs.declared.call.Call.TheVariants as call
use Rattle.nv_base.specs.declared.numbers.Handle.{Handle}
use Rattle.nv_files.specs.Stands.{Leads}
use Rattle.nv_files.specs.Told.{IsToldOrStarved}
use Rattle.nv_c.specs.Numbers.{handle_in}
use Rattle.nv_c.proofs.held.Held.lookup.Goals as goal

pub returns-clause-told : goal.returns-clause-told
returns-clause-told c = (
  c.tell_handle.ensures.told (call.Lookup (handle_in c.args.dir) c.args.name.now) c.args.self.now.files c.lookup.new.self
      (subst (λ (h : Handle). Leads (IsToldOrStarved (call.Lookup h c.args.name.now) c.lookup.result (λ (v : Handle). answers.Made v)) c.args.self.now.files c.lookup.new.self)
      c.handle.ensures c.lookup.ensures),
  (refl, refl),
)
