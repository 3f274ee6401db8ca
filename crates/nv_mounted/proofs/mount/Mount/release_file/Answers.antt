use Rattle.std.proofs.Common.{refl}
use Rattle.std.proofs.lemmas.Result.{err_from_is_err_and}
use Rattle.nv_mounted.proofs.Dialogues.{goes_on, stops}
use Rattle.nv_mounted.specs.Talks.{release}
use Rattle.nv_mounted.proofs.mount.Mount.release_file.Goals as goal

pub returns-in_err-done : goal.returns-in_err-done
returns-in_err-done g c =
    let p = err_from_is_err_and c.from_residual.result c.from_residual.ensures.1 in
    let side = c.args.self.now.side in
    rw (p.1, p.2) (record {
      had =
          stops g.C.Core.Tells (release side c.args.number) _ _ _ _ c.in_err-done.ensures.had;
      same = c.in_err-done.ensures.same;
    })

pub returns : goal.returns
returns g c =
    let side = c.args.self.now.side in
    record {
      had =
          goes_on g.C.Core.Tells (release side c.args.number) _ _ _ _
          (c.in_ok-done.done, c.release.new.self.side) _ c.in_ok-done.ensures.had
          ((cc (c.touch_if.ensures, c.goes-gone.ensures)), refl);
      same = tt;
    }
