use Rattle.std.proofs.Common.{◌≡◌, ◌&&◌, Bool, true, false, not, ap, ap₂, sym, ◌∙◌}
use Rattle.std.specs.List.{list_any}
use Rattle.nv_cell.specs.Readers.{is_gone}
use Rattle.nv_entry.specs.Held.{is_held}
use Rattle.nv_entry.specs.Log.{pairs}
use Rattle.nv_audit.proofs.mounted.is_over.Goals as goal

pub returns-then-not-ends_with_gone-clause-ok : goal.returns-then-not-ends_with_gone-clause-ok
returns-then-not-ends_with_gone-clause-ok c =
    let own = c.args.logged.now in
    let gone : is_gone own.log ≡ false =
    ap is_gone (sym c.log.ensures.value) ∙ sym c.ends_with_gone.ensures ∙ c.if-not-ends_with_gone.true in
    sym (ap (λ (b : Bool). b && not (list_any (is_held c.args.snapshots.now) (pairs own.block own.log))) gone)

pub hold_any-requires : goal.hold_any-requires
hold_any-requires c = c.deref.ensures.value ∙ c.in_ok-deaths.ensures.ok

pub returns-clause-ok : goal.returns-clause-ok
returns-clause-ok c =
    let own = c.args.logged.now in
    let gone : is_gone own.log ≡ true =
    ap is_gone (sym c.log.ensures.value) ∙ sym c.ends_with_gone.ensures ∙ c.if-not-ends_with_gone.false in
    sym (ap₂ (λ (a b : Bool). a && not b) gone (sym c.hold_any.ensures))
