use Rattle.std.proofs.Common.{◌≡◌, ◌∙◌, Err, Ok, ap, inl, inr, refl}
use Rattle.std.proofs.lemmas.Result.{err_from_is_err_and}
use Rattle.nv_mounted.specs.Listings.{listed_from}
use Rattle.nv_mounted.specs.Snapshots.{ask_snapshots, named_snapshots}
use Rattle.nv_mounted.proofs.Dialogues.{goes_on, grown, stops}
use Rattle.nv_mounted.proofs.Steps.{only_memory, told_value}
use Rattle.nv_mounted.proofs.mount.Mount.list_snapshots.Goals as goal

pub returns-in_err-names : goal.returns-in_err-names
returns-in_err-names g c =
    let p = err_from_is_err_and c.from_residual.result c.from_residual.ensures.1 in
    rw (p.1, p.2) (record {
      had =
          stops g.C.Core.Tells (ask_snapshots c.args.self.now.side) _ _ _ _
          (grown g.C.Core.Tells _ _ _ c.in_err-names.ensures);
      same = refl;
    })

pub returns-in_err-contents : goal.returns-in_err-contents
returns-in_err-contents g c =
    let p = err_from_is_err_and c.from_residual-in_err-contents.result
    c.from_residual-in_err-contents.ensures.1 in
    rw (p.1, p.2) (record {
      had =
          goes_on g.C.Core.Tells (ask_snapshots c.args.self.now.side) _ _ _ _
          c.in_ok-names.names _ (grown g.C.Core.Tells _ _ _ c.in_ok-names.ensures)
          (inl (ap Err (only_memory _ _ c.in_err-contents.ensures), refl));
      same = refl;
    })

pub returns : goal.returns
returns g c =
    let listed : c.in_ok-contents.contents ≡ listed_from c.args.offset c.args.room c.as_slice.result.now =
    told_value _ _ c.in_ok-contents.ensures in
    let same : c.in_ok-contents.contents ≡ listed_from c.args.offset c.args.room c.in_ok-names.names =
    listed ∙ ap (listed_from c.args.offset c.args.room) c.as_slice.ensures in
    let kept = c.set.ensures in
    record {
      had =
          goes_on g.C.Core.Tells (ask_snapshots c.args.self.now.side) _ _ _ _
          c.in_ok-names.names _ (grown g.C.Core.Tells _ _ _ c.in_ok-names.ensures)
          (inr ((cc), refl));
      same = tt;
    }
