use Rattle.std.proofs.Common.{◌≡◌, ◌∙◌, Err, ap, inl, inr, refl}
use Rattle.std.proofs.lemmas.Result.{err_from_is_err_and}
use Rattle.nv_mounted.specs.Listings.{ask_listing, listed_from}
use Rattle.nv_mounted.proofs.Dialogues.{goes_on, stops}
use Rattle.nv_mounted.proofs.Steps.{only_memory, told_value}
use Rattle.nv_mounted.proofs.mount.Mount.list_anew.Goals as goal

pub returns-in_err-names : goal.returns-in_err-names
returns-in_err-names g c =
    let p = err_from_is_err_and c.from_residual.result c.from_residual.ensures.1 in
    rw (p.1, p.2) (record {
      had = stops g.C.Core.Tells (ask_listing c.args.dir.now) _ _ _ _ c.in_err-names.ensures.had;
      same = c.in_err-names.ensures.side;
    })

pub returns-in_err-contents : goal.returns-in_err-contents
returns-in_err-contents g c =
    let p = err_from_is_err_and c.from_residual-in_err-contents.result
    c.from_residual-in_err-contents.ensures.1 in
    rw (p.1, p.2) (record {
      had =
          goes_on g.C.Core.Tells (ask_listing c.args.dir.now) _ _ _ _
          c.in_ok-names.names _ c.in_ok-names.ensures.had
          (inl (ap Err (only_memory _ _ c.in_err-contents.ensures), refl));
      same = c.in_ok-names.ensures.side;
    })

pub returns : goal.returns
returns g c =
    let listed : c.in_ok-contents.contents ≡ listed_from c.args.offset c.args.room c.as_slice.result.now =
    told_value _ _ c.in_ok-contents.ensures in
    let same : c.in_ok-contents.contents ≡ listed_from c.args.offset c.args.room c.in_ok-names.names =
    listed ∙ ap (listed_from c.args.offset c.args.room) c.as_slice.ensures in
    let kept = c.set.ensures in
    let beside = c.in_ok-names.ensures.side in
    record {
      had =
          goes_on g.C.Core.Tells (ask_listing c.args.dir.now) _ _ _ _
          c.in_ok-names.names _ c.in_ok-names.ensures.had
          (inr ((cc), refl));
      same = tt;
    }
