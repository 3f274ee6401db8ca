use Rattle.std.proofs.Common.{◌≡◌, rules, arith, ap, ◌∙◌}
use Rattle.std.specs.Prelude.{Err}
use Rattle.nv_base.specs.Memory.{out_of_memory}
use Rattle.nv_cell.proofs.NamesNow.{lawful_at, not_refused}
use Rattle.nv_cell.proofs.reading.copied.Goals as goal

pub returns-in_err-name-clause-err : goal.returns-in_err-name-clause-err
returns-in_err-name-clause-err c =
    let b = c.bound-item.result in
    let lawful = lawful_at c.args.bindings.now c.loop-bound.bound-index b c.requires (omega arith) c.bound-item.is in
    let fault = c.in_err-name.field-0.0 in
    let memory : fault ≡ out_of_memory =
    not_refused b.0.now fault lawful c.in_err-name.ensures.err (λ q. c.read.ensures.unlawful.0 (c.in_err-name.was ∙ ap Err q)) in
    search rules
