use Rattle.std.proofs.Common.{refl}
use Rattle.std.proofs.lemmas.Bool.{eq-eqb, le-leb, le-ltb, lt-leb, lt-ltb, ne_eqb}
use Rattle.std.proofs.lemmas.Result.{err_from_is_err_and}
use Rattle.nv_calls.specs.declared.call.Call.TheVariants as calls
use Rattle.nv_fuse.specs.declared.errno.Errno.TheVariants as errno
use Rattle.nv_mount_beside.specs.Names.{node_named, or_refused}
use Rattle.nv_mounted.proofs.Dialogues.{goes_on, stops}
use Rattle.nv_mounted.specs.Asks.{ask_done, ask_shape}
use Rattle.nv_mounted.specs.Dialogues.{Ends}
use Rattle.nv_mounted.proofs.mount.Mount.fallocate.Goals as goal

pub returns-in_err-file : goal.returns-in_err-file
returns-in_err-file g c =
    let p = err_from_is_err_and c.from_residual.result c.from_residual.ensures.1 in
    rw (p.1, p.2) (record {
      had =
          stops g.C.Core.Tells (Ends (node_named c.args.number)) _ _ _ _
          (c.in_err-file.ensures, refl);
      same = refl;
    })

pub returns-then-mode-gt-KEEP_SIZE : goal.returns-then-mode-gt-KEEP_SIZE
returns-then-mode-gt-KEEP_SIZE g c =
    record {
      had =
          goes_on g.C.Core.Tells (Ends (node_named c.args.number)) _ _ _ _
          c.in_ok-file.file _ (c.in_ok-file.ensures, refl)
          (rw (lt-ltb 1 c.args.mode c.if-mode-gt-KEEP_SIZE.true) (refl, refl));
      same = refl;
    }

pub returns-in_default : goal.returns-in_default
returns-in_default g c =
    let few = le-ltb 1 c.args.mode c.if-mode-gt-KEEP_SIZE.false in
    record {
      had =
          goes_on g.C.Core.Tells (Ends (node_named c.args.number)) _ _ _ _
          c.in_ok-file.file _ (c.in_ok-file.ensures, refl) (
          rw few (
          stops g.C.Core.Tells (Ends (or_refused errno.FileTooBig c.args.end)) _ _ _ _
          (rw c.in_default.is refl, refl)));
      same = refl;
    }

pub returns-then-mode-eq-KEEP_SIZE : goal.returns-then-mode-eq-KEEP_SIZE
returns-then-mode-eq-KEEP_SIZE g c =
    let few = le-ltb 1 c.args.mode c.if-mode-gt-KEEP_SIZE.false in
    record {
      had =
          goes_on g.C.Core.Tells (Ends (node_named c.args.number)) _ _ _ _
          c.in_ok-file.file _ (c.in_ok-file.ensures, refl) (
          rw few (
          goes_on g.C.Core.Tells (Ends (or_refused errno.FileTooBig c.args.end)) _ _ _ _
          c.in-Some.size _ (rw c.in-Some.is refl, refl)
          (rw (eq-eqb c.args.mode 1 c.if-mode-eq-KEEP_SIZE.true) (refl, refl))));
      same = tt;
    }

pub returns-in_err-shape : goal.returns-in_err-shape
returns-in_err-shape g c =
    let p = err_from_is_err_and c.from_residual-in_err-shape.result
    c.from_residual-in_err-shape.ensures.1 in
    let few = le-ltb 1 c.args.mode c.if-mode-gt-KEEP_SIZE.false in
    let other = ne_eqb c.args.mode 1 c.if-mode-eq-KEEP_SIZE.false in
    rw (p.1, p.2) (record {
      had =
          goes_on g.C.Core.Tells (Ends (node_named c.args.number)) _ _ _ _
          c.in_ok-file.file _ (c.in_ok-file.ensures, refl) (
          rw few (
          goes_on g.C.Core.Tells (Ends (or_refused errno.FileTooBig c.args.end)) _ _ _ _
          c.in-Some.size _ (rw c.in-Some.is refl, refl) (
          rw other (
          stops g.C.Core.Tells (ask_shape c.in_ok-file.file) _ _ _ _ c.in_err-shape.ensures))));
      same = refl;
    })

pub returns-then-shape-size : goal.returns-then-shape-size
returns-then-shape-size g c =
    let few = le-ltb 1 c.args.mode c.if-mode-gt-KEEP_SIZE.false in
    let other = ne_eqb c.args.mode 1 c.if-mode-eq-KEEP_SIZE.false in
    let long = le-leb c.in-Some.size c.in_ok-shape.shape.size c.if-shape-size.true in
    record {
      had =
          goes_on g.C.Core.Tells (Ends (node_named c.args.number)) _ _ _ _
          c.in_ok-file.file _ (c.in_ok-file.ensures, refl) (
          rw few (
          goes_on g.C.Core.Tells (Ends (or_refused errno.FileTooBig c.args.end)) _ _ _ _
          c.in-Some.size _ (rw c.in-Some.is refl, refl) (
          rw other (
          goes_on g.C.Core.Tells (ask_shape c.in_ok-file.file) _ _ _ _
          c.in_ok-shape.shape _ c.in_ok-shape.ensures
          (rw long (refl, refl))))));
      same = tt;
    }

pub returns-in_err-ask_done : goal.returns-in_err-ask_done
returns-in_err-ask_done g c =
    let p = err_from_is_err_and c.from_residual-in_err-ask_done.result
    c.from_residual-in_err-ask_done.ensures.1 in
    let few = le-ltb 1 c.args.mode c.if-mode-gt-KEEP_SIZE.false in
    let other = ne_eqb c.args.mode 1 c.if-mode-eq-KEEP_SIZE.false in
    let short = lt-leb c.in-Some.size c.in_ok-shape.shape.size c.if-shape-size.false in
    rw (p.1, p.2) (record {
      had =
          goes_on g.C.Core.Tells (Ends (node_named c.args.number)) _ _ _ _
          c.in_ok-file.file _ (c.in_ok-file.ensures, refl) (
          rw few (
          goes_on g.C.Core.Tells (Ends (or_refused errno.FileTooBig c.args.end)) _ _ _ _
          c.in-Some.size _ (rw c.in-Some.is refl, refl) (
          rw other (
          goes_on g.C.Core.Tells (ask_shape c.in_ok-file.file) _ _ _ _
          c.in_ok-shape.shape _ c.in_ok-shape.ensures (
          rw short (
          stops g.C.Core.Tells (ask_done (calls.Size c.in_ok-file.file c.in-Some.size)) _ _ _ _
          c.in_err-ask_done.ensures))))));
      same = refl;
    })

pub returns : goal.returns
returns g c =
    let few = le-ltb 1 c.args.mode c.if-mode-gt-KEEP_SIZE.false in
    let other = ne_eqb c.args.mode 1 c.if-mode-eq-KEEP_SIZE.false in
    let short = lt-leb c.in-Some.size c.in_ok-shape.shape.size c.if-shape-size.false in
    record {
      had =
          goes_on g.C.Core.Tells (Ends (node_named c.args.number)) _ _ _ _
          c.in_ok-file.file _ (c.in_ok-file.ensures, refl) (
          rw few (
          goes_on g.C.Core.Tells (Ends (or_refused errno.FileTooBig c.args.end)) _ _ _ _
          c.in-Some.size _ (rw c.in-Some.is refl, refl) (
          rw other (
          goes_on g.C.Core.Tells (ask_shape c.in_ok-file.file) _ _ _ _
          c.in_ok-shape.shape _ c.in_ok-shape.ensures (
          rw short (
          goes_on g.C.Core.Tells (ask_done (calls.Size c.in_ok-file.file c.in-Some.size)) _ _ _ _
          tt _ c.in_ok-ask_done.ensures
          (rw c.touch.ensures refl, refl)))))));
      same = tt;
    }
