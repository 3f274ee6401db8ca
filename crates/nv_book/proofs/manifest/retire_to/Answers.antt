use Rattle.std.proofs.Common.{◌≤◌, arith}
use Rattle.nv_book.specs.Records.{run_count_of}
use Rattle.nv_book.specs.Manifests.{run_total}
use Rattle.nv_book.proofs.Places.{total-at, total-set, put-place}
use Rattle.nv_book.proofs.manifest.retire_to.Goals as goal

pub push-requires-clause-fits : goal.push-requires-clause-fits
push-requires-clause-fits c =
    let a : run_count_of c.index_mut-manifest.result.now.records ≤ run_total c.args.manifests.now.items =
    total-at run_count_of _ _ _ c.requires.within c.index_mut-manifest.ensures.value in
    let fits = c.requires.fits in
    omega (arith, a, fits)

pub returns-clause-manifests : goal.returns-clause-manifests
returns-clause-manifests c =
    rw c.push.ensures.records (put-place _ _ _ _ _ c.requires.rising c.requires.within c.requires.at c.index_mut-manifest.ensures.value)

pub returns-clause-room : goal.returns-clause-room
returns-clause-room c =
    let a = total-set run_count_of _ _ _ c.push.new.self c.requires.within c.index_mut-manifest.ensures.value in
    let room = c.push.ensures.room in
    omega (arith, a, room)
