use Rattle.std.proofs.Common.{List, arith, refl, subst}
use Rattle.nv_calls.specs.declared.answer.Answer.TheVariants as answers
use Rattle.nv_calls.specs.declared.call.Call.TheVariants as call
use Rattle.nv_base.specs.declared.numbers.Handle.{Handle}
use Rattle.nv_c.specs.Numbers.{handle_in}
use Rattle.nv_entry.specs.declared.names.BoundName.{BoundName}
use Rattle.nv_files.specs.Stands.{Leads}
use Rattle.nv_files.specs.Told.{IsToldOrStarved}
use Rattle.nv_c.proofs.Statuses.{starved_err, starved_ok}
use Rattle.nv_c.proofs.held.Held.list.Goals as goal

pub returns-in-Ok-clause-told : goal.returns-in-Ok-clause-told
returns-in-Ok-clause-told c = record {
  told = starved_ok c.list.result (call.List (handle_in c.args.dir)) (λ (v : List BoundName). answers.Names v) _ c.args.self.now.files c.list.new.self c.in-Ok.names c.in-Ok.is refl
      (subst (λ (h : Handle). Leads (IsToldOrStarved (call.List h) c.list.result (λ (v : List BoundName). answers.Names v)) c.args.self.now.files c.list.new.self)
      c.handle.ensures c.list.ensures);
  count = λ _. c.len.ensures;
  kept = λ refused. absurd (omega (arith, refused));
  shown = refl;
}

pub returns-in-Err-clause-told : goal.returns-in-Err-clause-told
returns-in-Err-clause-told c = let some = c.number_of.ensures.some in record {
  told = starved_err c.list.result (call.List (handle_in c.args.dir)) (λ (v : List BoundName). answers.Names v) _ c.args.self.now.files c.list.new.self c.in-Err.fault c.number_of.result c.in-Err.is c.number_of.ensures.number
      (subst (λ (h : Handle). Leads (IsToldOrStarved (call.List h) c.list.result (λ (v : List BoundName). answers.Names v)) c.args.self.now.files c.list.new.self)
      c.handle.ensures c.list.ensures);
  count = λ is. absurd (omega (arith, some, is));
  kept = λ _. refl;
  shown = refl;
}
