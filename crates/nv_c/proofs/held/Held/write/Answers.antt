use Rattle.std.proofs.Common.{length, refl, subst}
use Rattle.nv_calls.specs.declared.answer.Answer.TheVariants as answers
use Rattle.nv_calls.specs.declared.call.Call.TheVariants as call
use Rattle.nv_base.specs.declared.numbers.Handle.{Handle}
use Rattle.nv_files.specs.Stands.{Leads}
use Rattle.nv_files.specs.Told.{IsToldOrStarved}
use Rattle.nv_c.specs.Numbers.{handle_in}
use Rattle.nv_c.proofs.held.Held.write.Goals as goal

pub returns : goal.returns
returns c = record {
  told = (
    c.tell_done.ensures.starved (call.Write (handle_in c.args.file) c.args.offset c.args.text.now) (answers.Count (length c.args.text.now)) c.args.self.now.files c.write.new.self
        (subst (λ (h : Handle). Leads (IsToldOrStarved (call.Write h c.args.offset c.args.text.now) c.write.result (λ (v : Unit {0}). answers.Count (length c.args.text.now))) c.args.self.now.files c.write.new.self)
        c.handle.ensures c.write.ensures),
    (refl, refl),
  );
}
