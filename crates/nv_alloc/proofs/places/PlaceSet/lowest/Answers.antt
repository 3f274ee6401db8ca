use Rattle.nv_alloc.proofs.places.PlaceSet.lowest.Goals as goal

pub lowest_of-requires : goal.lowest_of-requires
lowest_of-requires c = rw (c.deref.ensures.value, c.deref-2.ensures.value, c.deref-3.ensures.value) c.self.invariant

pub returns : goal.returns
returns c = rw (← c.self.view_is, ← c.deref.ensures.value) c.lowest_of.ensures
