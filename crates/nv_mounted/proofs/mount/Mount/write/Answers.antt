use Rattle.std.proofs.Common.{inl, inr, refl}
use Rattle.std.proofs.lemmas.Result.{err_from_is_err_and}
use Rattle.nv_calls.specs.declared.call.Call.TheVariants as calls
use Rattle.nv_mount_beside.specs.Names.{node_named}
use Rattle.nv_mounted.proofs.Dialogues.{goes_on, stops}
use Rattle.nv_mounted.specs.Asks.{ask}
use Rattle.nv_mounted.specs.Contents.{count_told}
use Rattle.nv_mounted.specs.Dialogues.{Ends, Grows}
use Rattle.nv_mounted.proofs.mount.Mount.write.Goals as goal

pub returns-in_err-file : goal.returns-in_err-file
returns-in_err-file g c =
    let p = err_from_is_err_and c.from_residual.result c.from_residual.ensures.1 in
    rw (p.1, p.2) (record {
      had =
          stops g.C.Core.Tells (Ends (node_named c.args.number)) _ _ _ _
          (c.in_err-file.ensures, refl);
      same = refl;
    })

pub returns-in_err-text : goal.returns-in_err-text
returns-in_err-text g c =
    let p = err_from_is_err_and c.from_residual-in_err-text.result
    c.from_residual-in_err-text.ensures.1 in
    rw (p.1, p.2, c.in_err-text.ensures) (record {
      had =
          goes_on g.C.Core.Tells (Ends (node_named c.args.number)) _ _ _ _
          c.in_ok-file.file _ (c.in_ok-file.ensures, refl) (
          stops g.C.Core.Tells
          (Grows (ask (calls.Write c.in_ok-file.file c.args.offset c.args.bytes.now) count_told))
          _ _ _ _ (inl (refl, refl)));
      same = refl;
    })

pub returns-in_err-count : goal.returns-in_err-count
returns-in_err-count g c =
    let p = err_from_is_err_and c.from_residual-in_err-count.result
    c.from_residual-in_err-count.ensures.1 in
    let refused = rw c.in_ok-text.ensures at c.in_err-count.ensures in
    rw (p.1, p.2) (record {
      had =
          goes_on g.C.Core.Tells (Ends (node_named c.args.number)) _ _ _ _
          c.in_ok-file.file _ (c.in_ok-file.ensures, refl) (
          stops g.C.Core.Tells
          (Grows (ask (calls.Write c.in_ok-file.file c.args.offset c.args.bytes.now) count_told))
          _ _ _ _ (inr refused));
      same = refl;
    })

pub returns : goal.returns
returns g c =
    let told = rw c.in_ok-text.ensures at c.in_ok-count.ensures in
    record {
      had =
          goes_on g.C.Core.Tells (Ends (node_named c.args.number)) _ _ _ _
          c.in_ok-file.file _ (c.in_ok-file.ensures, refl) (
          goes_on g.C.Core.Tells
          (Grows (ask (calls.Write c.in_ok-file.file c.args.offset c.args.bytes.now) count_told))
          _ _ _ _ c.in_ok-count.count _ (inr told)
          (rw c.touch.ensures refl, refl));
      same = tt;
    }
