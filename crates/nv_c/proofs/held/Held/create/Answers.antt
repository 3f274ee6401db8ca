use Rattle.std.proofs.Common.{ℕ, arith, refl, subst}
use Rattle.nv_calls.specs.declared.answer.Answer.TheVariants as answers
use Rattle.nv_calls.specs.declared.call.Call.TheVariants as call
use Rattle.nv_base.specs.declared.numbers.Handle.{Handle}
use Rattle.nv_files.specs.Stands.{Leads}
use Rattle.nv_files.specs.Told.{IsToldOrStarved}
use Rattle.nv_c.specs.Numbers.{handle_in}
use Rattle.nv_c.proofs.held.Held.create.Goals as goal

pub returns-clause-told : goal.returns-clause-told
returns-clause-told c =
    let made = λ (h : Handle) (bits : ℕ). Leads (IsToldOrStarved (call.Create h c.args.name.now bits) c.create.result (λ (v : Handle). answers.Made v)) c.args.self.now.files c.create.new.self in
    let fits = c.in-Some.ensures.0 in (
      λ _. (
        c.tell_handle.ensures.told (call.Create (handle_in c.args.dir) c.args.name.now c.args.mode) c.args.self.now.files c.create.new.self
            (subst (made (handle_in c.args.dir)) c.in-Some.ensures.1 (subst (λ (h : Handle). made h c.in-Some.mode) c.handle.ensures c.create.ensures)),
        (refl, refl),
      ),
      λ wide. absurd (omega (arith, fits, wide)),
    )
