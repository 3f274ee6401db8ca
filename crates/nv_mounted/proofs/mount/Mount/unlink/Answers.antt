use Rattle.std.proofs.Common.{◌≡◌, refl}
use Rattle.std.proofs.lemmas.Result.{err_from_is_err_and}
use Rattle.nv_calls.specs.declared.call.Call.TheVariants as calls
use Rattle.nv_mount_beside.specs.Names.{free_name, node_named}
use Rattle.nv_mounted.specs.Asks.{ask_handle, ask_shape}
use Rattle.nv_mounted.specs.Dialogues.{Ends, Grows}
use Rattle.nv_mounted.specs.Talks.{take_away}
use Rattle.nv_mounted.proofs.Dialogues.{goes_on, grown, same_told, stops}
use Rattle.nv_mounted.proofs.mount.Mount.unlink.Goals as goal

pub returns-in_err-dir : goal.returns-in_err-dir
returns-in_err-dir g c =
    let p = err_from_is_err_and c.from_residual.result c.from_residual.ensures.1 in
    rw (p.1, p.2) (record {
      had =
          stops g.C.Core.Tells (Ends (node_named c.args.dir)) _ _ _ _ (c.in_err-dir.ensures, refl);
      same = refl;
    })

pub returns-in_err-looked : goal.returns-in_err-looked
returns-in_err-looked g c =
    let p = err_from_is_err_and c.from_residual-in_err-looked.result
    c.from_residual-in_err-looked.ensures.1 in
    rw (p.1, p.2) (record {
      had =
          goes_on g.C.Core.Tells (Ends (node_named c.args.dir)) _ _ _ _
          c.in_ok-dir.dir _ (c.in_ok-dir.ensures, refl) (
          stops g.C.Core.Tells (Grows (Ends (free_name c.in_ok-dir.dir c.args.file.now))) _ _ _ _
          (grown g.C.Core.Tells _ _ _ c.in_err-looked.ensures));
      same = refl;
    })

pub returns-in_err-old : goal.returns-in_err-old
returns-in_err-old g c =
    let p = err_from_is_err_and c.from_residual-in_err-old.result
    c.from_residual-in_err-old.ensures.1 in
    rw (p.1, p.2) (record {
      had =
          goes_on g.C.Core.Tells (Ends (node_named c.args.dir)) _ _ _ _
          c.in_ok-dir.dir _ (c.in_ok-dir.ensures, refl) (
          stops g.C.Core.Tells (Grows (Ends (free_name c.in_ok-dir.dir c.args.file.now))) _ _ _ _
          (grown g.C.Core.Tells _ _ _ c.in_err-old.ensures));
      same = refl;
    })

pub returns-in_err-handle : goal.returns-in_err-handle
returns-in_err-handle g c =
    let p = err_from_is_err_and c.from_residual-in_err-handle.result
    c.from_residual-in_err-handle.ensures.1 in
    let refused = rw c.lookup.ensures at c.in_err-handle.ensures in
    rw (p.1, p.2) (record {
      had =
          goes_on g.C.Core.Tells (Ends (node_named c.args.dir)) _ _ _ _
          c.in_ok-dir.dir _ (c.in_ok-dir.ensures, refl) (
          goes_on g.C.Core.Tells (Grows (Ends (free_name c.in_ok-dir.dir c.args.file.now))) _ _ _ _
          c.in_ok-looked.looked _
          (grown g.C.Core.Tells _ _ _ c.in_ok-looked.ensures) (
          stops g.C.Core.Tells
          (ask_handle (calls.Lookup c.in_ok-dir.dir c.in_ok-looked.looked))
          _ _ _ _ refused));
      same = refl;
    })

pub returns-in_err-shape : goal.returns-in_err-shape
returns-in_err-shape g c =
    let p = err_from_is_err_and c.from_residual-in_err-shape.result
    c.from_residual-in_err-shape.ensures.1 in
    let found = rw c.lookup.ensures at c.in_ok-handle.ensures in
    rw (p.1, p.2) (record {
      had =
          goes_on g.C.Core.Tells (Ends (node_named c.args.dir)) _ _ _ _
          c.in_ok-dir.dir _ (c.in_ok-dir.ensures, refl) (
          goes_on g.C.Core.Tells (Grows (Ends (free_name c.in_ok-dir.dir c.args.file.now))) _ _ _ _
          c.in_ok-looked.looked _
          (grown g.C.Core.Tells _ _ _ c.in_ok-looked.ensures) (
          goes_on g.C.Core.Tells
          (ask_handle (calls.Lookup c.in_ok-dir.dir c.in_ok-looked.looked))
          _ _ _ _ c.in_ok-handle.handle _ found (
          stops g.C.Core.Tells (ask_shape c.in_ok-handle.handle) _ _ _ _ c.in_err-shape.ensures)));
      same = refl;
    })

pub returns-in_err-take_away : goal.returns-in_err-take_away
returns-in_err-take_away g c =
    let p = err_from_is_err_and c.from_residual-in_err-take_away.result
    c.from_residual-in_err-take_away.ensures.1 in
    let found = rw c.lookup.ensures at c.in_ok-handle.ensures in
    let same : c.in_ok-old.old ≡ c.in_ok-looked.looked =
    same_told (free_name c.in_ok-dir.dir c.args.file.now) _ _
    c.in_ok-old.ensures c.in_ok-looked.ensures in
    let handle = c.in_ok-handle.handle in
    let shape = c.in_ok-shape.shape in
    let refused = rw same at c.in_err-take_away.ensures in
    rw (p.1, p.2) (record {
      had =
          goes_on g.C.Core.Tells (Ends (node_named c.args.dir)) _ _ _ _
          c.in_ok-dir.dir _ (c.in_ok-dir.ensures, refl) (
          goes_on g.C.Core.Tells (Grows (Ends (free_name c.in_ok-dir.dir c.args.file.now))) _ _ _ _
          c.in_ok-looked.looked _
          (grown g.C.Core.Tells _ _ _ c.in_ok-looked.ensures) (
          goes_on g.C.Core.Tells
          (ask_handle (calls.Lookup c.in_ok-dir.dir c.in_ok-looked.looked))
          _ _ _ _ c.in_ok-handle.handle _ found (
          goes_on g.C.Core.Tells (ask_shape c.in_ok-handle.handle) _ _ _ _
          c.in_ok-shape.shape _ c.in_ok-shape.ensures (
          stops g.C.Core.Tells
          (take_away c.args.self.now.side c.args.now c.in_ok-dir.dir c.in_ok-looked.looked handle shape)
          _ _ _ _ refused.had))));
      same = refused.same;
    })

pub returns : goal.returns
returns g c =
    let found = rw c.lookup.ensures at c.in_ok-handle.ensures in
    let same : c.in_ok-old.old ≡ c.in_ok-looked.looked =
    same_told (free_name c.in_ok-dir.dir c.args.file.now) _ _
    c.in_ok-old.ensures c.in_ok-looked.ensures in
    let handle = c.in_ok-handle.handle in
    let shape = c.in_ok-shape.shape in
    let away = rw same at c.in_ok-take_away.ensures in
    record {
      had =
          goes_on g.C.Core.Tells (Ends (node_named c.args.dir)) _ _ _ _
          c.in_ok-dir.dir _ (c.in_ok-dir.ensures, refl) (
          goes_on g.C.Core.Tells (Grows (Ends (free_name c.in_ok-dir.dir c.args.file.now))) _ _ _ _
          c.in_ok-looked.looked _
          (grown g.C.Core.Tells _ _ _ c.in_ok-looked.ensures) (
          goes_on g.C.Core.Tells
          (ask_handle (calls.Lookup c.in_ok-dir.dir c.in_ok-looked.looked))
          _ _ _ _ c.in_ok-handle.handle _ found (
          goes_on g.C.Core.Tells (ask_shape c.in_ok-handle.handle) _ _ _ _
          c.in_ok-shape.shape _ c.in_ok-shape.ensures (
          goes_on g.C.Core.Tells
          (take_away c.args.self.now.side c.args.now c.in_ok-dir.dir c.in_ok-looked.looked handle shape)
          _ _ _ _ (tt, c.take_away.new.self.side) _ away.had
          ((cc), refl)))));
      same = tt;
    }
