use Rattle.std.proofs.Common.{List, length, subst, ℕ}
use Rattle.std.proofs.lemmas.Result.{err_from_is_err_and}
use Rattle.nv_calls.specs.declared.call.Call.TheVariants as call
use Rattle.nv_files.specs.Stands.{Leads}
use Rattle.nv_files.specs.Told.{IsRefusedOrStarved}
use Rattle.nv_files.proofs.Methods.{is_count, method_err, starved, wrote}
use Rattle.nv_files.proofs.files.Files.write.Goals as goal

pub returns-in_err-copy : goal.returns-in_err-copy
returns-in_err-copy c =
    let p = err_from_is_err_and c.from_residual.result c.from_residual.ensures.1 in
    rw (p.1, p.2, c.in_err-copy.ensures.err) (starved (call.Write c.args.file c.args.offset c.args.text.now) c.args.self.now)

pub count_of-requires : goal.count_of-requires
count_of-requires c =
    is_count c.in_ok-answer.answer (length c.in_ok-copy.copy) c.in_ok-answer.ensures.suits

pub returns-in_err-answer : goal.returns-in_err-answer
returns-in_err-answer c =
    let p = err_from_is_err_and c.from_residual-in_err-answer.result c.from_residual-in_err-answer.ensures.1 in
    rw (p.1, p.2) (subst (λ (bytes : List ℕ). Leads (IsRefusedOrStarved (call.Write c.args.file c.args.offset bytes) c.in_err-answer.field-0.0)
    c.args.self.now c.call.new.self) c.in_ok-copy.ensures.ok
    (method_err (call.Write c.args.file c.args.offset c.in_ok-copy.copy) c.in_err-answer.field-0.0 c.args.self.now c.call.new.self c.in_err-answer.ensures.told))

pub returns : goal.returns
returns c =
    wrote c.args.file c.args.offset c.in_ok-copy.copy c.args.text.now c.in_ok-answer.answer c.args.self.now c.call.new.self
    c.in_ok-copy.ensures.ok c.in_ok-answer.ensures.suits c.in_ok-answer.ensures.told
