use Rattle.nv_calls.proofs.Rules.{by_rules, early_by_rules, looks_by_rules}
use Rattle.nv_calls.proofs.rule_laws.the_first_rule_refuses.Goals as goal

pub returns-clause-all : goal.returns-clause-all
returns-clause-all c = by_rules

pub returns-clause-looks : goal.returns-clause-looks
returns-clause-looks c = looks_by_rules

pub returns-clause-early : goal.returns-clause-early
returns-clause-early c = early_by_rules
