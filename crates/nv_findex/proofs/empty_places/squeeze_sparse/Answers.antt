use Rattle.std.proofs.Common.{rules}
use Rattle.nv_findex.proofs.Places.{squeezed}
use Rattle.nv_findex.proofs.empty_places.squeeze_sparse.Goals as goal

pub returns-then-len-empty : goal.returns-then-len-empty
returns-then-len-empty c =
    let s = squeezed c.args.runs.now.items _ _ c.requires.places c.squeeze.ensures.items c.squeeze.ensures.empty in
    record { present = s.same; places = s.places; empty = s.empty; capacity = search rules }
