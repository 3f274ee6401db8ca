use Rattle.std.proofs.Common.{ap, length, ◌∙◌, arith}
use Rattle.nv_findex.proofs.Places.{squeezed}
use Rattle.nv_findex.proofs.file_index.FileIndex.reserve_for.Goals as goal

pub invariant_of-self : goal.invariant_of-self
invariant_of-self c =
    let s = squeezed c.self.inside.runs.items _ _ c.self.invariant.0 c.squeeze.ensures.items c.squeeze.ensures.empty in
    (s.places, omega (arith, ap length s.same, c.self.invariant.1, c.squeeze.ensures.capacity), s.empty)

pub returns-then-len-self : goal.returns-then-len-self
returns-then-len-self c =
    let s = squeezed c.self.inside.runs.items _ _ c.self.invariant.0 c.squeeze.ensures.items c.squeeze.ensures.empty in
    let room = ap (λ v. v.room) c.self.view_is in
    record {
      pages = s.same ∙ ap (λ v. v.pages) c.self.view_is;
      ok = omega (arith, ap length s.same, room, c.room.ensures, c.if-is_room.true, c.squeeze.ensures.capacity);
      kept = omega (arith, ap length s.same, room, c.squeeze.ensures.capacity);
      most = omega (arith, ap length s.same, room, c.squeeze.ensures.capacity);
      err = tt;
      missing = tt;
      fault = tt;
    }
