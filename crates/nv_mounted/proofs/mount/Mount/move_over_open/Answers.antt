use Rattle.std.proofs.Common.{inl, refl}
use Rattle.std.proofs.lemmas.Result.{err_from_is_err_and}
use Rattle.nv_mounted.proofs.Dialogues.{goes_on, grown, stops}
use Rattle.nv_mounted.specs.Asks.{ask_done}
use Rattle.nv_mounted.specs.Dialogues.{Ends, Grows}
use Rattle.nv_mounted.specs.Renames.{moves_over}
use Rattle.nv_mounted.specs.Talks.{hidden_name_for}
use Rattle.nv_mounted.proofs.mount.Mount.move_over_open.Goals as goal

pub returns-in_err-hidden : goal.returns-in_err-hidden
returns-in_err-hidden g c =
    let p = err_from_is_err_and c.from_residual.result c.from_residual.ensures.1 in
    rw (p.1, p.2) (record {
      had =
          stops g.C.Core.Tells (Grows (Ends (hidden_name_for c.args.there.now))) _ _ _ _
          (grown g.C.Core.Tells _ _ _ c.in_err-hidden.ensures);
      same = refl;
    })

pub returns-in_err-moves : goal.returns-in_err-moves
returns-in_err-moves g c =
    let p = err_from_is_err_and c.from_residual-in_err-moves.result
    c.from_residual-in_err-moves.ensures.1 in
    rw (p.1, p.2, c.in_err-moves.ensures) (record {
      had =
          stops g.C.Core.Tells (Grows (Ends (hidden_name_for c.args.there.now))) _ _ _ _
          (inl (refl, refl));
      same = refl;
    })

pub returns-in_err-ask_done : goal.returns-in_err-ask_done
returns-in_err-ask_done g c =
    let p = err_from_is_err_and c.from_residual-in_err-ask_done.result
    c.from_residual-in_err-ask_done.ensures.1 in
    let side = c.args.self.now.side in
    let hidden = c.in_ok-hidden.hidden in
    let moves = moves_over side.hidden hidden c.args.from.now c.args.old.now c.args.to.now
    c.args.new.now in
    let refused = rw c.in_ok-moves.ensures at c.in_err-ask_done.ensures in
    rw (p.1, p.2) (record {
      had =
          goes_on g.C.Core.Tells (Grows (Ends (hidden_name_for c.args.there.now))) _ _ _ _
          c.in_ok-hidden.hidden _ (grown g.C.Core.Tells _ _ _ c.in_ok-hidden.ensures) (
          stops g.C.Core.Tells (ask_done moves.away) _ _ _ _ refused);
      same = refl;
    })

pub returns : goal.returns
returns g c =
    let side = c.args.self.now.side in
    let hidden = c.in_ok-hidden.hidden in
    let moves = moves_over side.hidden hidden c.args.from.now c.args.old.now c.args.to.now
    c.args.new.now in
    let away = rw c.in_ok-moves.ensures at c.in_ok-ask_done.ensures in
    let last = rw c.in_ok-moves.ensures at c.move_or_take_back.ensures in
    record {
      had =
          goes_on g.C.Core.Tells (Grows (Ends (hidden_name_for c.args.there.now))) _ _ _ _
          c.in_ok-hidden.hidden _ (grown g.C.Core.Tells _ _ _ c.in_ok-hidden.ensures) (
          goes_on g.C.Core.Tells (ask_done moves.away) _ _ _ _
          tt _ away
          last.had);
      same = last.same;
    }
