use Rattle.std.proofs.Common.{◌≡◌, List, Err, ap, inl, inr, refl}
use Rattle.std.proofs.lemmas.Result.{err_from_is_err_and}
use Rattle.nv_mounted.specs.Listings.{lowest_free}
use Rattle.nv_mounted.specs.declared.directories.Open.{Open}
use Rattle.nv_mounted.proofs.Steps.{only_memory, told_value}
use Rattle.nv_mounted.proofs.mount.Mount.open_snapshots.Goals as goal

pub returns-in_err-file : goal.returns-in_err-file
returns-in_err-file g c =
    let p = err_from_is_err_and c.from_residual.result c.from_residual.ensures.1 in
    rw (p.1, p.2) (record {
      had = inl (ap Err (only_memory _ _ c.in_err-file.ensures.number), refl);
      same =
          ap (λ (rows : List Open). record c.args.self.now.side { directories = rows })
          c.in_err-file.ensures.err;
    })

pub returns : goal.returns
returns g c =
    let same : c.in_ok-file.file ≡ lowest_free c.args.self.now.side.directories =
    told_value _ _ c.in_ok-file.ensures.number in
    let more = c.in_ok-file.ensures.ok in
    record { had = inr ((cc), refl); same = tt }
