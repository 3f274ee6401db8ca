use Rattle.std.proofs.Common.{inl, refl}
use Rattle.std.proofs.lemmas.Result.{err_from_is_err_and}
use Rattle.nv_mounted.specs.NewMounts.{make_hidden}
use Rattle.nv_mounted.proofs.Dialogues.{goes_on, stops}
use Rattle.nv_mounted.proofs.mount.Mount.new.Goals as goal

pub returns-in_err-nodes-clause-err : goal.returns-in_err-nodes-clause-err
returns-in_err-nodes-clause-err g c =
    let p = err_from_is_err_and c.from_residual.result c.from_residual.ensures.1 in
    rw (p.1, p.2) (
      c.args.core,
      record {
        room = c.room.result;
        has_room = c.room.ensures;
        had = stops g.C.Core.Tells make_hidden _ _ _ _ (inl (refl, refl));
      },
    )

pub returns-in_err-hidden-clause-err : goal.returns-in_err-hidden-clause-err
returns-in_err-hidden-clause-err g c =
    let p = err_from_is_err_and c.from_residual-in_err-hidden.result
    c.from_residual-in_err-hidden.ensures.1 in
    rw (p.1, p.2) (
      c.make_hidden.new.core,
      record {
        room = c.room.result;
        has_room = c.room.ensures;
        had = stops g.C.Core.Tells make_hidden _ _ _ _ c.in_err-hidden.ensures;
      },
    )

pub returns-clause-ok : goal.returns-clause-ok
returns-clause-ok g c = record {
  room = c.room.result;
  has_room = c.room.ensures;
  had =
      goes_on g.C.Core.Tells make_hidden _ _ _ _ c.in_ok-hidden.hidden _ c.in_ok-hidden.ensures
      (rw (c.new-side.ensures, c.in_ok-nodes.ensures, c.min-slots.ensures) refl, refl);
}
