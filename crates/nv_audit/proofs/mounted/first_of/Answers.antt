use Rattle.std.proofs.Common.{ℕ, take, ap, ◌∙◌}
use Rattle.std.proofs.lemmas.List.{take_min}
use Rattle.nv_audit.proofs.mounted.first_of.Goals as goal

pub returns : goal.returns
returns c = ap (λ (n : ℕ). take n c.args.entries.now) c.min.ensures ∙ take_min c.args.tail c.args.entries.now
