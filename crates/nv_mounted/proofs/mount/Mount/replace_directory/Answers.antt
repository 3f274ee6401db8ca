use Rattle.std.proofs.Common.{refl}
use Rattle.std.proofs.lemmas.Result.{err_from_is_err_and}
use Rattle.nv_mounted.proofs.Dialogues.{goes_on, stops}
use Rattle.nv_mounted.specs.Renames.{move_over_directory}
use Rattle.nv_mounted.proofs.mount.Mount.replace_directory.Goals as goal

pub returns-in_err-move_over_directory : goal.returns-in_err-move_over_directory
returns-in_err-move_over_directory g c =
    let p = err_from_is_err_and c.from_residual.result c.from_residual.ensures.1 in
    rw (p.1, p.2) (record {
      had =
          stops g.C.Core.Tells
          (move_over_directory c.args.from.now c.args.old.now c.args.to.now c.args.new.now)
          _ _ _ _ c.in_err-move_over_directory.ensures;
      same = refl;
    })

pub returns : goal.returns
returns g c =
    record {
      had =
          goes_on g.C.Core.Tells
          (move_over_directory c.args.from.now c.args.old.now c.args.to.now c.args.new.now)
          _ _ _ _ c.in_ok-move_over_directory.field-0 _ c.in_ok-move_over_directory.ensures
          (rw c.touch_all.ensures refl, refl);
      same = tt;
    }
