use Rattle.std.proofs.Common.{rules, ◌∙◌}
use Rattle.std.proofs.lemmas.Fn.{always_returns_same}
use Rattle.nv_log.proofs.Finding.{found, id_cmp}
use Rattle.nv_audit.proofs.logged.Logged.place_of.Goals as goal

-- the closure compares an entry's id with the one that is sought
pub returns : goal.returns
returns c =
    let facts = c.binary_search_by.ensures in
    let by_id = facts.position (λ e. id_cmp e.id c.args.id) (always_returns_same _ _ _ (λ a r f' called. (search rules, search rules))) in
    rw (← c.self.view_is) (c.ok.ensures.value ∙ found c.self.inside.log.now c.args.id c.binary_search_by.result c.self.invariant.1 facts.bound by_id)
