use Rattle.std.proofs.Common.{ℕ, arith, refl, subst}
use Rattle.nv_calls.specs.declared.answer.Answer.TheVariants as answers
use Rattle.nv_calls.specs.declared.call.Call.TheVariants as call
use Rattle.nv_base.specs.declared.numbers.Handle.{Handle}
use Rattle.nv_files.specs.Stands.{Leads}
use Rattle.nv_files.specs.Told.{IsToldOrStarved}
use Rattle.nv_c.specs.Numbers.{handle_in}
use Rattle.nv_c.proofs.held.Held.mode.Goals as goal

pub returns : goal.returns
returns c =
    let set = λ (h : Handle) (bits : ℕ). Leads (IsToldOrStarved (call.Mode h bits) c.mode.result (λ (v : Unit {0}). answers.Nothing)) c.args.self.now.files c.mode.new.self in
    let fits = c.in-Some.ensures.0 in record {
      told = (
        λ _. (
          c.tell_done.ensures.starved (call.Mode (handle_in c.args.node) c.args.mode) answers.Nothing c.args.self.now.files c.mode.new.self
              (subst (set (handle_in c.args.node)) c.in-Some.ensures.1 (subst (λ (h : Handle). set h c.in-Some.mode) c.handle.ensures c.mode.ensures)),
          (refl, refl),
        ),
        λ wide. absurd (omega (arith, fits, wide)),
      );
    }
