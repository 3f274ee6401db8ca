use Rattle.std.proofs.Common.{refl}
use Rattle.std.proofs.lemmas.Result.{err_from_is_err_and}
use Rattle.nv_mount_beside.specs.Names.{node_named}
use Rattle.nv_mount_beside.specs.Shown.{attributes_if}
use Rattle.nv_mounted.proofs.Dialogues.{goes_on, stops}
use Rattle.nv_mounted.specs.Asks.{ask_shape}
use Rattle.nv_mounted.specs.Dialogues.{Ends}
use Rattle.nv_mounted.specs.Sets.{beside_set, set_mode, set_size}
use Rattle.nv_mounted.specs.Side.{at_node}
use Rattle.nv_mounted.proofs.mount.Mount.set_attributes.Goals as goal

pub returns-in_err-handle : goal.returns-in_err-handle
returns-in_err-handle g c =
    let p = err_from_is_err_and c.from_residual.result c.from_residual.ensures.1 in
    rw (p.1, p.2) (record {
      had =
          stops g.C.Core.Tells (Ends (node_named c.args.number)) _ _ _ _
          (c.in_err-handle.ensures, refl);
      same = refl;
    })

pub returns-in_err-before : goal.returns-in_err-before
returns-in_err-before g c =
    let p = err_from_is_err_and c.from_residual-in_err-before.result
    c.from_residual-in_err-before.ensures.1 in
    rw (p.1, p.2) (record {
      had =
          goes_on g.C.Core.Tells (Ends (node_named c.args.number)) _ _ _ _
          c.in_ok-handle.handle _ (c.in_ok-handle.ensures, refl) (
          stops g.C.Core.Tells (ask_shape c.in_ok-handle.handle) _ _ _ _ c.in_err-before.ensures);
      same = refl;
    })

pub returns-in_err-set_mode : goal.returns-in_err-set_mode
returns-in_err-set_mode g c =
    let p = err_from_is_err_and c.from_residual-in_err-set_mode.result
    c.from_residual-in_err-set_mode.ensures.1 in
    rw (p.1, p.2) (record {
      had =
          goes_on g.C.Core.Tells (Ends (node_named c.args.number)) _ _ _ _
          c.in_ok-handle.handle _ (c.in_ok-handle.ensures, refl) (
          goes_on g.C.Core.Tells (ask_shape c.in_ok-handle.handle) _ _ _ _
          c.in_ok-before.before _ c.in_ok-before.ensures (
          stops g.C.Core.Tells (set_mode c.in_ok-handle.handle c.args.set.now) _ _ _ _
          c.in_err-set_mode.ensures));
      same = refl;
    })

pub returns-in_err-set_size : goal.returns-in_err-set_size
returns-in_err-set_size g c =
    let p = err_from_is_err_and c.from_residual-in_err-set_size.result
    c.from_residual-in_err-set_size.ensures.1 in
    rw (p.1, p.2) (record {
      had =
          goes_on g.C.Core.Tells (Ends (node_named c.args.number)) _ _ _ _
          c.in_ok-handle.handle _ (c.in_ok-handle.ensures, refl) (
          goes_on g.C.Core.Tells (ask_shape c.in_ok-handle.handle) _ _ _ _
          c.in_ok-before.before _ c.in_ok-before.ensures (
          goes_on g.C.Core.Tells (set_mode c.in_ok-handle.handle c.args.set.now) _ _ _ _
          c.in_ok-set_mode.field-0 _ c.in_ok-set_mode.ensures (
          stops g.C.Core.Tells
          (set_size c.in_ok-handle.handle c.args.set.now c.in_ok-before.before.mode)
          _ _ _ _ c.in_err-set_size.ensures)));
      same = refl;
    })

pub returns-in_err-shape : goal.returns-in_err-shape
returns-in_err-shape g c =
    let p = err_from_is_err_and c.from_residual-in_err-shape.result
    c.from_residual-in_err-shape.ensures.1 in
    rw (p.1, p.2) (record {
      had =
          goes_on g.C.Core.Tells (Ends (node_named c.args.number)) _ _ _ _
          c.in_ok-handle.handle _ (c.in_ok-handle.ensures, refl) (
          goes_on g.C.Core.Tells (ask_shape c.in_ok-handle.handle) _ _ _ _
          c.in_ok-before.before _ c.in_ok-before.ensures (
          goes_on g.C.Core.Tells (set_mode c.in_ok-handle.handle c.args.set.now) _ _ _ _
          c.in_ok-set_mode.field-0 _ c.in_ok-set_mode.ensures (
          goes_on g.C.Core.Tells
          (set_size c.in_ok-handle.handle c.args.set.now c.in_ok-before.before.mode)
          _ _ _ _ c.in_ok-set_size.field-0 _ c.in_ok-set_size.ensures (
          stops g.C.Core.Tells (ask_shape c.in_ok-handle.handle) _ _ _ _
          c.in_err-shape.ensures))));
      same = refl;
    })

pub returns-in_err-attributes : goal.returns-in_err-attributes
returns-in_err-attributes g c =
    let p = err_from_is_err_and c.from_residual-in_err-attributes.result
    c.from_residual-in_err-attributes.ensures.1 in
    let side = c.args.self.now.side in
    let b = beside_set c.args.now c.args.set.now (at_node side c.in_ok-handle.handle) in
    let refused = rw (c.beside_set-beside.ensures, c.at.ensures) at c.in_err-attributes.ensures in
    rw (p.1, p.2) (record {
      had =
          goes_on g.C.Core.Tells (Ends (node_named c.args.number)) _ _ _ _
          c.in_ok-handle.handle _ (c.in_ok-handle.ensures, refl) (
          goes_on g.C.Core.Tells (ask_shape c.in_ok-handle.handle) _ _ _ _
          c.in_ok-before.before _ c.in_ok-before.ensures (
          goes_on g.C.Core.Tells (set_mode c.in_ok-handle.handle c.args.set.now) _ _ _ _
          c.in_ok-set_mode.field-0 _ c.in_ok-set_mode.ensures (
          goes_on g.C.Core.Tells
          (set_size c.in_ok-handle.handle c.args.set.now c.in_ok-before.before.mode)
          _ _ _ _ c.in_ok-set_size.field-0 _ c.in_ok-set_size.ensures (
          goes_on g.C.Core.Tells (ask_shape c.in_ok-handle.handle) _ _ _ _
          c.in_ok-shape.shape _ c.in_ok-shape.ensures (
          stops g.C.Core.Tells
          (Ends (attributes_if c.args.number c.in_ok-shape.shape b.kept b.nameless))
          _ _ _ _ (refused, refl))))));
      same = refl;
    })

pub returns : goal.returns
returns g c =
    let side = c.args.self.now.side in
    let b = beside_set c.args.now c.args.set.now (at_node side c.in_ok-handle.handle) in
    let told = rw (c.beside_set-beside.ensures, c.at.ensures) at c.in_ok-attributes.ensures in
    let left = rw (c.beside_set-beside.ensures, c.at.ensures, c.touch_set.ensures)
    at c.put.ensures in
    record {
      had =
          goes_on g.C.Core.Tells (Ends (node_named c.args.number)) _ _ _ _
          c.in_ok-handle.handle _ (c.in_ok-handle.ensures, refl) (
          goes_on g.C.Core.Tells (ask_shape c.in_ok-handle.handle) _ _ _ _
          c.in_ok-before.before _ c.in_ok-before.ensures (
          goes_on g.C.Core.Tells (set_mode c.in_ok-handle.handle c.args.set.now) _ _ _ _
          c.in_ok-set_mode.field-0 _ c.in_ok-set_mode.ensures (
          goes_on g.C.Core.Tells
          (set_size c.in_ok-handle.handle c.args.set.now c.in_ok-before.before.mode)
          _ _ _ _ c.in_ok-set_size.field-0 _ c.in_ok-set_size.ensures (
          goes_on g.C.Core.Tells (ask_shape c.in_ok-handle.handle) _ _ _ _
          c.in_ok-shape.shape _ c.in_ok-shape.ensures (
          goes_on g.C.Core.Tells
          (Ends (attributes_if c.args.number c.in_ok-shape.shape b.kept b.nameless))
          _ _ _ _ c.in_ok-attributes.attributes _ (told, refl)
          (rw left refl, refl))))));
      same = tt;
    }
