use Rattle.std.proofs.Common.{◌≡◌, ◌∙◌, List, Err, ap, false, inl, inr, refl, sym, true}
use Rattle.std.proofs.lemmas.Result.{err_from_is_err_and}
use Rattle.nv_mount_beside.specs.Names.{node_named}
use Rattle.nv_mounted.specs.Asks.{ask_shape}
use Rattle.nv_mounted.specs.Dialogues.{Ends}
use Rattle.nv_mounted.specs.Listings.{lowest_free}
use Rattle.nv_mounted.specs.Talks.{is_file}
use Rattle.nv_mounted.specs.declared.directories.Open.{Open}
use Rattle.nv_mounted.proofs.Dialogues.{goes_on, stops}
use Rattle.nv_mounted.proofs.Steps.{first_of_two, only_memory, second_of_two, told_value}
use Rattle.nv_mounted.proofs.mount.Mount.open_directory.Goals as goal

pub returns-in_err-dir : goal.returns-in_err-dir
returns-in_err-dir g c =
    let p = err_from_is_err_and c.from_residual.result c.from_residual.ensures.1 in
    rw (p.1, p.2) (record {
      had =
          stops g.C.Core.Tells (Ends (node_named c.args.number)) _ _ _ _
          (c.in_err-dir.ensures, refl);
      same = refl;
    })

pub returns-in_err-shape : goal.returns-in_err-shape
returns-in_err-shape g c =
    let p = err_from_is_err_and c.from_residual-in_err-shape.result
    c.from_residual-in_err-shape.ensures.1 in
    rw (p.1, p.2) (record {
      had =
          goes_on g.C.Core.Tells (Ends (node_named c.args.number)) _ _ _ _
          c.in_ok-dir.dir _ (c.in_ok-dir.ensures, refl) (
          stops g.C.Core.Tells (ask_shape c.in_ok-dir.dir) _ _ _ _ c.in_err-shape.ensures);
      same = refl;
    })

pub returns-then-is_file : goal.returns-then-is_file
returns-then-is_file g c =
    let file : is_file c.in_ok-shape.shape ≡ true = sym c.is_file.ensures ∙ c.if-is_file.true in
    record {
      had =
          goes_on g.C.Core.Tells (Ends (node_named c.args.number)) _ _ _ _
          c.in_ok-dir.dir _ (c.in_ok-dir.ensures, refl) (
          goes_on g.C.Core.Tells (ask_shape c.in_ok-dir.dir) _ _ _ _
          c.in_ok-shape.shape _ c.in_ok-shape.ensures (
          first_of_two g.C.Core.Tells (is_file c.in_ok-shape.shape) _ _ _ _ _ file (refl, refl)));
      same = refl;
    }

pub returns-in_err-file : goal.returns-in_err-file
returns-in_err-file g c =
    let p = err_from_is_err_and c.from_residual-in_err-file.result
    c.from_residual-in_err-file.ensures.1 in
    let other : is_file c.in_ok-shape.shape ≡ false = sym c.is_file.ensures ∙ c.if-is_file.false in
    rw (p.1, p.2) (record {
      had =
          goes_on g.C.Core.Tells (Ends (node_named c.args.number)) _ _ _ _
          c.in_ok-dir.dir _ (c.in_ok-dir.ensures, refl) (
          goes_on g.C.Core.Tells (ask_shape c.in_ok-dir.dir) _ _ _ _
          c.in_ok-shape.shape _ c.in_ok-shape.ensures (
          second_of_two g.C.Core.Tells (is_file c.in_ok-shape.shape) _ _ _ _ _ other
          (inl (ap Err (only_memory _ _ c.in_err-file.ensures.number), refl))));
      same =
          ap (λ (rows : List Open). record c.args.self.now.side { directories = rows })
          c.in_err-file.ensures.err;
    })

pub returns : goal.returns
returns g c =
    let other : is_file c.in_ok-shape.shape ≡ false = sym c.is_file.ensures ∙ c.if-is_file.false in
    let same : c.in_ok-file.file ≡ lowest_free c.args.self.now.side.directories =
    told_value _ _ c.in_ok-file.ensures.number in
    let more = c.in_ok-file.ensures.ok in
    record {
      had =
          goes_on g.C.Core.Tells (Ends (node_named c.args.number)) _ _ _ _
          c.in_ok-dir.dir _ (c.in_ok-dir.ensures, refl) (
          goes_on g.C.Core.Tells (ask_shape c.in_ok-dir.dir) _ _ _ _
          c.in_ok-shape.shape _ c.in_ok-shape.ensures (
          second_of_two g.C.Core.Tells (is_file c.in_ok-shape.shape) _ _ _ _ _ other
          (inr ((cc), refl))));
      same = tt;
    }
