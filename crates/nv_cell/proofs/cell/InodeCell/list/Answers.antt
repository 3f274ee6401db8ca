use Rattle.std.proofs.Common.{◌≡◌, IfOk, ap, map, ◌∙◌, subst}
use Rattle.nv_entry.specs.Log.{IsLog}
use Rattle.nv_nindex.specs.NameIndex.{IsListOf, lent}
use Rattle.nv_cell.specs.declared.cell.InodeCell.TheInside.{Inside}
use Rattle.nv_cell.specs.Reading.{named}
use Rattle.nv_cell.proofs.NamesNow.{listed_is}
use Rattle.nv_cell.proofs.cell.InodeCell.list.Goals as goal

pub returns-clause-names : goal.returns-clause-names
returns-clause-names c =
    let i = c.self.inside in
    let listed = map lent c.in_ok-bindings.bindings.items in
    let rising : IsLog i.chain.state.entries =
    subst (λ (v : Inside). IsLog v.chain.state.entries) c.self-inside.view_is c.holds_together.ensures.rising in
    let list : IsListOf i.index.names.names listed =
    subst (λ (v : Inside). IsListOf v.index.names.names listed) c.self-inside.view_is c.in_ok-bindings.ensures.names in
    let told = ap (λ xs. map named (map lent xs)) c.deref.ensures.value
    ∙ listed_is i.chain.state.tail i.chain.state.entries i.index.names.names listed rising c.self.invariant.names list in
    rw (← c.self.view_is) (subst (λ xs. IfOk c.copied.result (λ names. names ≡ xs)) told c.copied.ensures.names)
