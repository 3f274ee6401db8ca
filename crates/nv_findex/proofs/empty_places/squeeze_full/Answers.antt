use Rattle.std.proofs.Common.{arith, rules}
use Rattle.nv_findex.proofs.Places.{squeezed}
use Rattle.nv_findex.proofs.empty_places.squeeze_full.Goals as goal

pub returns-then-capacity-len-lt2 : goal.returns-then-capacity-len-lt2
returns-then-capacity-len-lt2 c =
    let s = squeezed c.args.runs.now.items _ _ c.requires.places c.squeeze.ensures.items c.squeeze.ensures.empty in
    record { present = s.same; places = s.places; empty = s.empty; room = grind arith; capacity = search rules }
