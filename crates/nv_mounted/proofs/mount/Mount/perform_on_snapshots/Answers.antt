use Rattle.std.proofs.lemmas.Bool.{eq-eqb}
use Rattle.nv_mounted.proofs.mount.Mount.perform_on_snapshots.Goals as goal

pub returns-in-Mkdir : goal.returns-in-Mkdir
returns-in-Mkdir g c =
    rw (c.in-Mkdir.is, eq-eqb c.args.number 2 c.if-number-eq-SNAPSHOTS_NODE.true)
    c.make_snapshot.ensures
