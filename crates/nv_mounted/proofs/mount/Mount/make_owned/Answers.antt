use Rattle.std.proofs.Common.{◌≡◌, ℕ, Ok, Err, refl}
use Rattle.std.proofs.lemmas.Result.{err_from_is_err_and}
use Rattle.nv_mount_beside.specs.Names.{free_name, number_of}
use Rattle.nv_mount_beside.specs.declared.refusal.Refusal.{Refusal}
use Rattle.nv_mounted.proofs.Dialogues.{goes_on, grown, stops, told_is}
use Rattle.nv_mounted.specs.Asks.{ask_handle}
use Rattle.nv_mounted.specs.Dialogues.{Ends, Grows}
use Rattle.nv_mounted.specs.Makings.{making, permissions}
use Rattle.nv_mounted.proofs.mount.Mount.make_owned.Goals as goal

pub returns-in_err-name : goal.returns-in_err-name
returns-in_err-name g c =
    let p = err_from_is_err_and c.from_residual.result
    c.from_residual.ensures.1 in
    rw (p.1, p.2) (record {
      had =
          stops g.C.Core.Tells (Grows (Ends (free_name c.args.dir.now c.args.file.now))) _ _ _ _
          (grown g.C.Core.Tells _ _ _ c.in_err-name.ensures);
      same = refl;
    })

-- each number has the bits of a mode
no_refusal : {P : Type 0} {mode : ℕ} {why : Refusal} → Err why ≡ Ok mode → P
no_refusal e = cc

pub returns-in_err-mode : goal.returns-in_err-mode
returns-in_err-mode g c = no_refusal c.in_err-mode.ensures

pub returns-in_err-handle : goal.returns-in_err-handle
returns-in_err-handle g c =
    let p = err_from_is_err_and c.from_residual-in_err-handle.result
    c.from_residual-in_err-handle.ensures.1 in
    let bits = permissions c.args.mode in
    let call = making c.args.kind c.args.dir.now c.in_ok-name.name bits in
    let mode = told_is (Ok bits) c.in_ok-mode.mode bits c.in_ok-mode.ensures refl in
    let refused = rw (c.making.ensures, mode) at c.in_err-handle.ensures in
    rw (p.1, p.2) (record {
      had =
          goes_on g.C.Core.Tells (Grows (Ends (free_name c.args.dir.now c.args.file.now))) _ _ _ _
          c.in_ok-name.name _ (grown g.C.Core.Tells _ _ _ c.in_ok-name.ensures) (
          stops g.C.Core.Tells (ask_handle call) _ _ _ _ refused);
      same = refl;
    })

pub returns-in_err-number : goal.returns-in_err-number
returns-in_err-number g c =
    let p = err_from_is_err_and c.from_residual-in_err-number.result
    c.from_residual-in_err-number.ensures.1 in
    let bits = permissions c.args.mode in
    let call = making c.args.kind c.args.dir.now c.in_ok-name.name bits in
    let mode = told_is (Ok bits) c.in_ok-mode.mode bits c.in_ok-mode.ensures refl in
    let made = rw (c.making.ensures, mode) at c.in_ok-handle.ensures in
    rw (p.1, p.2) (record {
      had =
          goes_on g.C.Core.Tells (Grows (Ends (free_name c.args.dir.now c.args.file.now))) _ _ _ _
          c.in_ok-name.name _ (grown g.C.Core.Tells _ _ _ c.in_ok-name.ensures) (
          goes_on g.C.Core.Tells (ask_handle call) _ _ _ _
          c.in_ok-handle.handle _ made (
          stops g.C.Core.Tells (Ends (number_of c.in_ok-handle.handle)) _ _ _ _
          (c.in_err-number.ensures, refl)));
      same = refl;
    })

pub returns : goal.returns
returns g c =
    let bits = permissions c.args.mode in
    let call = making c.args.kind c.args.dir.now c.in_ok-name.name bits in
    let mode = told_is (Ok bits) c.in_ok-mode.mode bits c.in_ok-mode.ensures refl in
    let made = rw (c.making.ensures, mode) at c.in_ok-handle.ensures in
    let told = rw (mode, c.made_beside-beside.ensures) at c.attributes_of.ensures in
    let left = rw (c.put.ensures, c.made_beside-beside.ensures) at c.touch.ensures in
    record {
      had =
          goes_on g.C.Core.Tells (Grows (Ends (free_name c.args.dir.now c.args.file.now))) _ _ _ _
          c.in_ok-name.name _ (grown g.C.Core.Tells _ _ _ c.in_ok-name.ensures) (
          goes_on g.C.Core.Tells (ask_handle call) _ _ _ _
          c.in_ok-handle.handle _ made (
          goes_on g.C.Core.Tells (Ends (number_of c.in_ok-handle.handle)) _ _ _ _
          c.in_ok-number.number _ (c.in_ok-number.ensures, refl)
          (rw (told, left) refl, refl)));
      same = tt;
    }
