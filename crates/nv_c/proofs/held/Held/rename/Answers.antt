use Rattle.std.proofs.Common.{refl, subst}
use Rattle.nv_calls.specs.declared.answer.Answer.TheVariants as answers
use Rattle.nv_calls.specs.declared.call.Call.TheVariants as call
use Rattle.nv_base.specs.declared.numbers.Handle.{Handle}
use Rattle.nv_files.specs.Stands.{Leads}
use Rattle.nv_files.specs.Told.{IsToldOrStarved}
use Rattle.nv_c.specs.Numbers.{handle_in}
use Rattle.nv_c.proofs.held.Held.rename.Goals as goal

pub returns : goal.returns
returns c = record {
  told = (
    c.tell_done.ensures.starved (call.Rename (handle_in c.args.from) c.args.name.now (handle_in c.args.to) c.args.new_name.now) (answers.Nothing) c.args.self.now.files c.rename.new.self
        (subst (λ (h : Handle). Leads (IsToldOrStarved (call.Rename (handle_in c.args.from) c.args.name.now h c.args.new_name.now) c.rename.result (λ (v : Unit {0}). answers.Nothing)) c.args.self.now.files c.rename.new.self)
        c.handle-2.ensures (subst (λ (h : Handle). Leads (IsToldOrStarved (call.Rename h c.args.name.now c.handle-2.result c.args.new_name.now) c.rename.result (λ (v : Unit {0}). answers.Nothing)) c.args.self.now.files c.rename.new.self)
        c.handle.ensures c.rename.ensures)),
    (refl, refl),
  );
}
