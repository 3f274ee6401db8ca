use Rattle.std.proofs.Common.{sym, ◌∙◌}
use Rattle.std.proofs.lemmas.Bool.{false≢true}
use Rattle.nv_audit.proofs.BoundNames.{same_item, same_name_of, same_of_both}
use Rattle.nv_audit.proofs.names.are_names_by.Goals as goal

pub returns-then-are_log_names : goal.returns-then-are_log_names
returns-then-are_log_names c = (
  λ t. same_of_both c.args.log.now c.args.bound.now.entries c.args.index.now.names c.requires
      (c.are_log_names.ensures.0 c.if-are_log_names.true) (c.are_index_names.ensures.0 t),
  λ same. c.are_index_names.ensures.1 (λ k d lt.
      same_name_of c.args.log.now c.args.bound.now.entries c.args.index.now.names c.requires same _),
)

pub returns-else-are_log_names : goal.returns-else-are_log_names
returns-else-are_log_names c = (
  λ t. absurd (false≢true (sym c.if-are_log_names.false ∙ t)),
  λ same. absurd (false≢true (sym c.if-are_log_names.false ∙ c.are_log_names.ensures.1
      (λ k d lt. same_item c.args.bound.now.entries c.args.index.now.names
      (same_name_of c.args.log.now c.args.bound.now.entries c.args.index.now.names c.requires same) _))),
)
