use Rattle.std.proofs.Common.{Result, rules, subst}
use Rattle.std.proofs.lemmas.Grind.{common_steps}
use Rattle.nv_base.specs.declared.fault.Fault.{Fault}
use Rattle.nv_script.specs.Results.{HandsLines}
use Rattle.nv_script.proofs.Handed.{all_listed}
use Rattle.nv_script.proofs.trees.end.Goals as goal

pub returns-in_ok-extend_from_slice-in-Ok-clause-lines : goal.returns-in_ok-extend_from_slice-in-Ok-clause-lines
returns-in_ok-extend_from_slice-in-Ok-clause-lines c = λ nodes old new hands.
    all_listed c.args.why nodes old new c.extend_from_slice.new.self.items c.args.has_begun
    (subst (λ (r : Result (Unit {0}) Fault). HandsLines r c.args.has_begun c.args.why nodes old new) c.in-Ok.is hands)
    (search (rules, common_steps))
