use Rattle.std.proofs.Common.{ap, subst, sym, ◌∙◌, arith}
use Rattle.nv_records.specs.declared.record.Record.{Record}
use Rattle.nv_records.specs.Reading.{Answers, record_at}
use Rattle.nv_records.proofs.Records.{is_found, record_again}
use Rattle.nv_records.proofs.reading.read_record.Goals as goal

pub returns-clause-found : goal.returns-clause-found
returns-clause-found c = is_found c.args.bytes.now c.placed_of.result (λ i. omega (arith, c.type_inv.bytes i)) c.placed_of.ensures

pub returns-clause-only : goal.returns-clause-only
returns-clause-only c = λ d rest fits e.
    subst (λ f. Answers (λ x. (x.0, x.1.now)) c.placed_of.result f)
    (ap record_at e ∙ record_again d rest fits) c.placed_of.ensures
