use Rattle.std.proofs.Common.{◌≡◌, sym, ◌∙◌}
use Rattle.std.proofs.lemmas.Bool.{eqb-true}
use Rattle.nv_epoch.specs.SnapList.{ids}
use Rattle.nv_audit.proofs.Holding.{tells_of}
use Rattle.nv_audit.proofs.kept_parts.tells_of.Goals as goal

pub returns-then-eq : goal.returns-then-eq
returns-then-eq c =
    let birth : c.args.record.now.birth ≡ c.args.pair.now.birth = eqb-true c.args.record.now.birth c.args.pair.now.birth (sym c.if-eq.ensures) in
    let both = tells_of (ids c.args.snaps.now) c.rises.ensures.rising c.args.record.now c.args.pair.now c.in-Some.death
    c.in-Some.is birth in (
      λ t. both.0 (sym c.youngest_in.ensures ∙ c.is_same.ensures.0 t ∙ c.youngest_in-then-eq.ensures),
      λ tells. c.is_same.ensures.1 (c.youngest_in.ensures ∙ both.1 tells ∙ sym c.youngest_in-then-eq.ensures),
    )
