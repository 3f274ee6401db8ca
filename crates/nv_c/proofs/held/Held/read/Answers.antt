use Rattle.std.proofs.Common.{ℕ, length, refl, subst, take}
use Rattle.nv_calls.specs.declared.answer.Answer.TheVariants as answers
use Rattle.nv_calls.specs.declared.call.Call.TheVariants as call
use Rattle.nv_base.specs.declared.numbers.Handle.{Handle}
use Rattle.nv_files.specs.Stands.{Leads}
use Rattle.nv_files.specs.Told.{IsToldOrStarved}
use Rattle.nv_c.specs.Numbers.{handle_in}
use Rattle.nv_c.proofs.Statuses.{starved_err, starved_ok}
use Rattle.nv_c.proofs.held.Held.read.Goals as goal

pub returns-in-Ok-clause-told : goal.returns-in-Ok-clause-told
returns-in-Ok-clause-told c = (
  starved_ok c.read.result (call.Read (handle_in c.args.file) c.args.offset (length c.args.into.now)) (λ (n : ℕ). answers.Bytes (take n c.read.new.into)) _ c.args.self.now.files c.read.new.self c.in-Ok.found c.in-Ok.is refl
      (subst (λ (h : Handle). Leads (IsToldOrStarved (call.Read h c.args.offset (length c.args.into.now)) c.read.result (λ (n : ℕ). answers.Bytes (take n c.read.new.into))) c.args.self.now.files c.read.new.self)
      c.handle.ensures c.read.ensures.told),
  (refl, refl),
)

pub returns-in-Err-clause-told : goal.returns-in-Err-clause-told
returns-in-Err-clause-told c = (
  starved_err c.read.result (call.Read (handle_in c.args.file) c.args.offset (length c.args.into.now)) (λ (n : ℕ). answers.Bytes (take n c.read.new.into)) _ c.args.self.now.files c.read.new.self c.in-Err.fault c.number_of.result c.in-Err.is c.number_of.ensures.number
      (subst (λ (h : Handle). Leads (IsToldOrStarved (call.Read h c.args.offset (length c.args.into.now)) c.read.result (λ (n : ℕ). answers.Bytes (take n c.read.new.into))) c.args.self.now.files c.read.new.self)
      c.handle.ensures c.read.ensures.told),
  (refl, refl),
)
