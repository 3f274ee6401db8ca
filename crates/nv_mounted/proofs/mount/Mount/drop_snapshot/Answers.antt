use Rattle.std.proofs.Common.{None, refl, slice_index_or}
use Rattle.std.proofs.lemmas.Result.{err_from_is_err_and}
use Rattle.nv_mounted.specs.Dialogues.{Ends}
use Rattle.nv_mounted.specs.Snapshots.{drain, drop_epoch, epoch_of, place_named}
use Rattle.nv_mounted.proofs.Dialogues.{goes_on, stops}
use Rattle.nv_mounted.proofs.mount.Mount.drop_snapshot.Goals as goal

pub returns-in_err-at : goal.returns-in_err-at
returns-in_err-at g c =
    let p = err_from_is_err_and c.from_residual.result c.from_residual.ensures.1 in
    let rows = c.args.self.now.side.snapshots in
    rw (p.1, p.2) (record {
      had =
          stops g.C.Core.Tells (Ends (place_named c.args.name.now rows)) _ _ _ _
          (c.in_err-at.ensures, refl);
      same = refl;
    })

pub returns-in_err-epoch : goal.returns-in_err-epoch
returns-in_err-epoch g c =
    let p = err_from_is_err_and c.from_residual-in_err-epoch.result
    c.from_residual-in_err-epoch.ensures.1 in
    let rows = c.args.self.now.side.snapshots in
    rw (p.1, p.2) (record {
      had =
          goes_on g.C.Core.Tells (Ends (place_named c.args.name.now rows)) _ _ _ _
          c.in_ok-at.at _ (c.in_ok-at.ensures, refl) (
          stops g.C.Core.Tells (Ends (epoch_of (slice_index_or rows c.in_ok-at.at None))) _ _ _ _
          (c.in_err-epoch.ensures, refl));
      same = refl;
    })

pub returns-in_err-drop_snapshot : goal.returns-in_err-drop_snapshot
returns-in_err-drop_snapshot g c =
    let p = err_from_is_err_and c.from_residual-in_err-drop_snapshot.result
    c.from_residual-in_err-drop_snapshot.ensures.1 in
    let rows = c.args.self.now.side.snapshots in
    rw (p.1, p.2) (record {
      had =
          goes_on g.C.Core.Tells (Ends (place_named c.args.name.now rows)) _ _ _ _
          c.in_ok-at.at _ (c.in_ok-at.ensures, refl) (
          goes_on g.C.Core.Tells (Ends (epoch_of (slice_index_or rows c.in_ok-at.at None))) _ _ _ _
          c.in_ok-epoch.epoch _ (c.in_ok-epoch.ensures, refl) (
          stops g.C.Core.Tells (drop_epoch c.in_ok-epoch.epoch) _ _ _ _
          c.in_err-drop_snapshot.ensures));
      same = refl;
    })

pub returns : goal.returns
returns g c =
    let rows = c.args.self.now.side.snapshots in
    record {
      had =
          goes_on g.C.Core.Tells (Ends (place_named c.args.name.now rows)) _ _ _ _
          c.in_ok-at.at _ (c.in_ok-at.ensures, refl) (
          goes_on g.C.Core.Tells (Ends (epoch_of (slice_index_or rows c.in_ok-at.at None))) _ _ _ _
          c.in_ok-epoch.epoch _ (c.in_ok-epoch.ensures, refl) (
          goes_on g.C.Core.Tells (drop_epoch c.in_ok-epoch.epoch) _ _ _ _ tt _
          c.in_ok-drop_snapshot.ensures (
          goes_on g.C.Core.Tells drain _ _ _ _ tt _ c.drain.ensures
          ((cc), refl))));
      same = tt;
    }
