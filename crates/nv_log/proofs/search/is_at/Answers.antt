use Rattle.std.proofs.Common.{sym, ◌∙◌}
use Rattle.nv_log.proofs.Finding.{placed}
use Rattle.nv_log.proofs.search.is_at.Goals as goal

pub returns-then-place-entries : goal.returns-then-place-entries
returns-then-place-entries c same =
    placed c.args.entries.now c.args.id c.args.place c.index-entries-place.result c.requires c.if-place-entries.true
    (sym c.eq.ensures ∙ same)
