use Rattle.std.proofs.Common.{refl}
use Rattle.std.proofs.lemmas.Result.{err_from_is_err_and}
use Rattle.nv_mounted.proofs.Dialogues.{goes_on, stops}
use Rattle.nv_mounted.specs.Renames.{move_over_open}
use Rattle.nv_mounted.proofs.mount.Mount.replace_open.Goals as goal

pub returns-in_err-done : goal.returns-in_err-done
returns-in_err-done g c =
    let p = err_from_is_err_and c.from_residual.result c.from_residual.ensures.1 in
    let side = c.args.self.now.side in
    let talk = move_over_open side c.args.now c.args.moved.now c.args.from.now c.args.old.now
    c.args.to.now c.args.new.now c.args.there.now in
    rw (p.1, p.2) (record {
      had =
          stops g.C.Core.Tells (talk) _ _ _ _ c.in_err-done.ensures.had;
      same = c.in_err-done.ensures.same;
    })

pub returns : goal.returns
returns g c =
    let side = c.args.self.now.side in
    let talk = move_over_open side c.args.now c.args.moved.now c.args.from.now c.args.old.now
    c.args.to.now c.args.new.now c.args.there.now in
    record {
      had =
          goes_on g.C.Core.Tells (talk) _ _ _ _
          (c.in_ok-done.done, c.move_over_open.new.self.side) _ c.in_ok-done.ensures.had
          (rw c.touch_both.ensures refl, refl);
      same = tt;
    }
