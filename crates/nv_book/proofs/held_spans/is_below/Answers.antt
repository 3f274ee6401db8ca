use Rattle.std.proofs.Common.{◌<◌, ◌∙◌, arith, get_or, sym}
use Rattle.std.proofs.lemmas.Bool.Decides.{nat_tests}
use Rattle.std.proofs.lemmas.Map.Keys.{ge_from_not_lt}
use Rattle.nv_book.proofs.Spans.{snapshot-at, snapshots_rise}
use Rattle.nv_book.proofs.held_spans.is_below.Goals as goal

pub returns-then-place-manifests-clause-below : goal.returns-then-place-manifests-clause-below
returns-then-place-manifests-clause-below c below k le in' =
    let ms = c.args.manifests.now in
    let m = c.index-manifests-place.result in
    let test = sym c.lt.ensures ∙ below in
    let less : (get_or ms c.args.place m).snapshot < c.args.bound = grind (arith, nat_tests, test) in
    let rise = snapshots_rise ms c.requires k c.args.place m le c.if-place-manifests.true in
    omega (arith, snapshot-at ms k m in', rise, less)

pub returns-then-place-manifests-clause-others : goal.returns-then-place-manifests-clause-others
returns-then-place-manifests-clause-others c above k le in' =
    let ms = c.args.manifests.now in
    let m = c.index-manifests-place.result in
    let late = ge_from_not_lt (get_or ms c.args.place m).snapshot c.args.bound (sym c.lt.ensures ∙ above) in
    omega (arith, snapshot-at ms k m in', snapshots_rise ms c.requires c.args.place k m le in', late)
