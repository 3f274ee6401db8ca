use Rattle.std.proofs.Common.{◌≡◌, Some, None, ap, sym, ◌∙◌, subst}
use Rattle.std.proofs.lemmas.Option.{same_Some}
use Rattle.nv_cell.proofs.ValuesNow.{IsLog-take}
use Rattle.nv_cell.specs.Cell.{log_of}
use Rattle.nv_entry.specs.Log.{IsLog}
use Rattle.nv_epoch.specs.SnapList.{ids}
use Rattle.nv_audit.specs.KeptParts.{TellsOf, pair_named}
use Rattle.nv_audit.specs.Pending.{part_of}
use Rattle.nv_audit.proofs.NumberedPairs.{found, name_of_pair, record_names}
use Rattle.nv_audit.proofs.kept_parts.is_record_of.Goals as goal

pub returns-in-Some : goal.returns-in-Some
returns-in-Some c =
    let cell = c.args.cell.now.state in
    let d = c.args.record.now in
    let pair = c.in-Some.pair in
    let living = ids c.args.snaps.now in
    let is : IsLog (log_of cell) = IsLog-take cell.chain.tail cell.chain.entries c.holds_together.ensures.chain.rising in
    let named : pair_named cell (part_of d) ≡ Some pair = ap (pair_named cell) (sym c.part_of.ensures) ∙ sym c.pair_named.ensures ∙ c.in-Some.is in
    let at = found cell (part_of d) pair named in (
      λ t. record {
        n = at.n;
        pair = pair;
        is = at.is;
        name = name_of_pair cell.block (log_of cell) (part_of d) at.n pair at.number at.is;
        tells = c.tells_of.ensures.0 t;
      },
      λ r. c.tells_of.ensures.1 (subst (TellsOf living d) (same_Some r.pair pair (sym (record_names living cell d is r) ∙ named)) r.tells),
    )

pub returns-in-None : goal.returns-in-None
returns-in-None c =
    let cell = c.args.cell.now.state in
    let d = c.args.record.now in
    let is : IsLog (log_of cell) = IsLog-take cell.chain.tail cell.chain.entries c.holds_together.ensures.chain.rising in
    let named : pair_named cell (part_of d) ≡ None = ap (pair_named cell) (sym c.part_of.ensures) ∙ sym c.pair_named.ensures ∙ c.in-None.is in (
      λ no. cc,
      λ r. let other : None ≡ Some r.pair = sym named ∙ record_names (ids c.args.snaps.now) cell d is r in cc,
    )
