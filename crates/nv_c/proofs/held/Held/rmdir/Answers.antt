use Rattle.std.proofs.Common.{refl, subst}
use Rattle.nv_calls.specs.declared.answer.Answer.TheVariants as answers
use Rattle.nv_calls.specs.declared.call.Call.TheVariants as call
use Rattle.nv_base.specs.declared.numbers.Handle.{Handle}
use Rattle.nv_files.specs.Stands.{Leads}
use Rattle.nv_files.specs.Told.{IsToldOrStarved}
use Rattle.nv_c.specs.Numbers.{handle_in}
use Rattle.nv_c.proofs.held.Held.rmdir.Goals as goal

pub returns : goal.returns
returns c = record {
  told = (
    c.tell_done.ensures.starved (call.Rmdir (handle_in c.args.dir) c.args.name.now) (answers.Nothing) c.args.self.now.files c.rmdir.new.self
        (subst (λ (h : Handle). Leads (IsToldOrStarved (call.Rmdir h c.args.name.now) c.rmdir.result (λ (v : Unit {0}). answers.Nothing)) c.args.self.now.files c.rmdir.new.self)
        c.handle.ensures c.rmdir.ensures),
    (refl, refl),
  );
}
