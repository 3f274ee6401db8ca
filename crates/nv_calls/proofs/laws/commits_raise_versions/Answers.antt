use Rattle.std.proofs.Common.{ap, ◌∙◌}
use Rattle.nv_calls.proofs.Versions.{committed_version}
use Rattle.nv_calls.proofs.laws.commits_raise_versions.Goals as goal

pub returns-clause-planned : goal.returns-clause-planned
returns-clause-planned c cells now living commit changes j lt =
    ap (λ s. s.version) (changes.planned j lt) ∙ committed_version living cells commit j

pub returns-clause-others : goal.returns-clause-others
returns-clause-others c cells now living commit changes k none = ap (λ v. v.state.version) (changes.others k none)
