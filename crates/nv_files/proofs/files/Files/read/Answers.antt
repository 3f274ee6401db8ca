use Rattle.std.proofs.Common.{List, drop, length, subst, sym, take, ℕ, ◌≡◌, ◌≤◌}
use Rattle.std.proofs.lemmas.Result.{err_from_is_err_and}
use Rattle.nv_calls.specs.declared.answer.Answer.TheVariants as answers
use Rattle.nv_calls.specs.declared.call.Call.TheVariants as call
use Rattle.nv_files.proofs.Methods.{few_bytes, front_is, has_bytes, method_err, method_ok}
use Rattle.nv_files.proofs.files.Files.read.Goals as goal

pub bytes_of-found-requires : goal.bytes_of-found-requires
bytes_of-found-requires c =
    has_bytes (length c.args.into.now) c.in_ok-answer.answer c.in_ok-answer.ensures.suits

pub fill_front-requires : goal.fill_front-requires
fill_front-requires c =
    subst (λ (bytes : List ℕ). length bytes ≤ length c.args.into.now) (sym c.as_slice.ensures)
    (few_bytes (length c.args.into.now) c.in_ok-answer.answer c.bytes_of-found.result c.bytes_of-found.ensures c.in_ok-answer.ensures.suits)

pub returns-in_err-answer-clause-told : goal.returns-in_err-answer-clause-told
returns-in_err-answer-clause-told c =
    let p = err_from_is_err_and c.from_residual.result c.from_residual.ensures.1 in
    rw (p.1, p.2) (method_err (call.Read c.args.file c.args.offset (length c.args.into.now)) _ c.args.self.now c.call.new.self c.in_err-answer.ensures.told)

pub returns-clause-told : goal.returns-clause-told
returns-clause-told c =
    let front : take (length c.bytes_of-found.result) c.fill_front.new.into ≡ c.bytes_of-found.result =
    subst (λ (bytes : List ℕ). take (length bytes) c.fill_front.new.into ≡ bytes) c.as_slice.ensures c.fill_front.ensures.front in
    method_ok (call.Read c.args.file c.args.offset (length c.args.into.now)) c.in_ok-answer.answer c.len.result
    (λ (count : ℕ). answers.Bytes (take count c.fill_front.new.into)) c.args.self.now c.call.new.self
    (front_is c.in_ok-answer.answer c.bytes_of-found.result c.fill_front.new.into c.len.result c.bytes_of-found.ensures front c.len.ensures)
    c.in_ok-answer.ensures.told

pub returns-clause-count : goal.returns-clause-count
returns-clause-count c =
    rw c.len.ensures (few_bytes (length c.args.into.now) c.in_ok-answer.answer c.bytes_of-found.result c.bytes_of-found.ensures
    c.in_ok-answer.ensures.suits)

pub returns-clause-rest : goal.returns-clause-rest
returns-clause-rest c =
    rw c.len.ensures (subst (λ (bytes : List ℕ). drop (length bytes) c.fill_front.new.into ≡ drop (length bytes) c.args.into.now)
    c.as_slice.ensures c.fill_front.ensures.rest)
