use Rattle.std.proofs.Common.{◌∙◌, sym, Some}
use Rattle.nv_findex.proofs.Places.{read_place}
use Rattle.nv_findex.proofs.put.rest_at.Goals as goal

pub rest_from-requires : goal.rest_from-requires
rest_from-requires c =
    let read = sym c.in_ok-run.was ∙ c.get.ensures in
    let k = read_place c.args.page c.args.at c.args.runs.now.items (Some c.in_ok-run.run') c.requires.places c.requires.border read in
    record { run = k.1; end = k.0.1 }
