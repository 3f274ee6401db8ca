use Rattle.std.proofs.Common.{refl}
use Rattle.std.proofs.lemmas.Result.{err_from_is_err_and}
use Rattle.nv_calls.specs.declared.call.Call.TheVariants as calls
use Rattle.nv_mounted.specs.Asks.{ask_done}
use Rattle.nv_mounted.specs.Dialogues.{Ends, Grows}
use Rattle.nv_mounted.specs.Talks.{hidden_name_for}
use Rattle.nv_mounted.proofs.Dialogues.{goes_on, grown, stops}
use Rattle.nv_mounted.proofs.mount.Mount.hide.Goals as goal

pub returns-in_err-new : goal.returns-in_err-new
returns-in_err-new g c =
    let p = err_from_is_err_and c.from_residual.result c.from_residual.ensures.1 in
    rw (p.1, p.2) (record {
      had =
          stops g.C.Core.Tells (Grows (Ends (hidden_name_for c.args.handle.now))) _ _ _ _
          (grown g.C.Core.Tells _ _ _ c.in_err-new.ensures);
      same = refl;
    })

pub returns-in_err-ask_done : goal.returns-in_err-ask_done
returns-in_err-ask_done g c =
    let p = err_from_is_err_and c.from_residual-in_err-ask_done.result
    c.from_residual-in_err-ask_done.ensures.1 in
    let hidden = c.args.self.now.side.hidden in
    let new = c.in_ok-new.new in
    let refused = rw c.rename.ensures at c.in_err-ask_done.ensures in
    rw (p.1, p.2) (record {
      had =
          goes_on g.C.Core.Tells (Grows (Ends (hidden_name_for c.args.handle.now))) _ _ _ _
          new _
          (grown g.C.Core.Tells _ _ _ c.in_ok-new.ensures) (
          stops g.C.Core.Tells (ask_done (calls.Rename c.args.from.now c.args.old hidden new))
          _ _ _ _ refused);
      same = refl;
    })

pub returns : goal.returns
returns g c =
    let hidden = c.args.self.now.side.hidden in
    let new = c.in_ok-new.new in
    let done = rw c.rename.ensures at c.in_ok-ask_done.ensures in
    record {
      had =
          goes_on g.C.Core.Tells (Grows (Ends (hidden_name_for c.args.handle.now))) _ _ _ _
          new _
          (grown g.C.Core.Tells _ _ _ c.in_ok-new.ensures) (
          goes_on g.C.Core.Tells (ask_done (calls.Rename c.args.from.now c.args.old hidden new))
          _ _ _ _ tt _ done
          ((cc), refl));
      same = tt;
    }
