use Rattle.nv_findex.proofs.Places.{read_place}
use Rattle.nv_findex.proofs.runs.run_from.Goals as goal

pub returns : goal.returns
returns c =
    let k = read_place c.args.page c.ended_by.result c.args.runs.now.items c.get.result c.requires c.ended_by.ensures.border c.get.ensures in
    record { run = k.0; within = k.1 }
