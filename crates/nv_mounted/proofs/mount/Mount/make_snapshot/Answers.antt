use Rattle.std.proofs.Common.{List, Option, ap, refl}
use Rattle.std.proofs.lemmas.Result.{err_from_is_err_and}
use Rattle.nv_mounted.specs.Snapshots.{making}
use Rattle.nv_mounted.specs.declared.snapshots.Snapshot.{Snapshot}
use Rattle.nv_mounted.proofs.Dialogues.{goes_on, stops}
use Rattle.nv_mounted.proofs.mount.Mount.make_snapshot.Goals as goal

pub returns-in_err-attributes : goal.returns-in_err-attributes
returns-in_err-attributes g c =
    let p = err_from_is_err_and c.from_residual.result c.from_residual.ensures.1 in
    let rows = c.args.self.now.side.snapshots in
    rw (p.1, p.2) (record {
      had =
          stops g.C.Core.Tells (making rows c.args.self.now.side.nodes c.args.name.now)
          _ _ _ _ c.in_err-attributes.ensures.had;
      same =
          ap (λ (rows : List (Option Snapshot)). record c.args.self.now.side { snapshots = rows })
          c.in_err-attributes.ensures.err;
    })

pub returns : goal.returns
returns g c =
    let rows = c.args.self.now.side.snapshots in
    record {
      had =
          goes_on g.C.Core.Tells (making rows c.args.self.now.side.nodes c.args.name.now)
          _ _ _ _ _ _ c.in_ok-attributes.ensures.had ((cc), refl);
      same = tt;
    }
