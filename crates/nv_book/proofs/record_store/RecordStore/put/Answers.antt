use Rattle.std.proofs.Common.{◌<◌, ◌-◌, length, arith, sym, subst}
use Rattle.nv_book.specs.Store.{Store}
use Rattle.nv_book.proofs.Nodes.{wanted-at, wanted-within}
use Rattle.nv_book.proofs.record_store.RecordStore.put.Goals as goal

-- a snapshot lives, so that there is a spare node for each record that there is room for
pub retire_to-requires-clause-spare : goal.retire_to-requires-clause-spare
retire_to-requires-clause-spare c =
    let some : 0 < c.self.inside.room = subst (λ (u : Store). 0 < u.room) (sym c.self.view_is) c.requires.room in
    let lives = subst (λ (u : Store). c.args.place < length u.manifests) (sym c.self.view_is) c.requires.within in
    omega (arith, c.self.invariant.has_nodes, some, wanted-at _ _ c.self.inside.room lives)

pub retire_to-requires-clause-fits : goal.retire_to-requires-clause-fits
retire_to-requires-clause-fits c = let fit = c.self.invariant.nodes_fit in omega (arith, fit)

pub invariant_of-self : goal.invariant_of-self
invariant_of-self c =
    let held = c.self.invariant in
    let some : 0 < c.self.inside.room = subst (λ (u : Store). 0 < u.room) (sym c.self.view_is) c.requires.room in
    let lives = subst (λ (u : Store). c.args.place < length u.manifests) (sym c.self.view_is) c.requires.within in
    let before = wanted-at _ _ c.self.inside.room lives in
    let after = wanted-within c.retire_to.new.manifests.items (c.self.inside.room - 1) in
    let e = c.retire_to.ensures in
    record {
      counted = omega (arith, held.counted, e.count);
      fits = omega (arith, held.fits, some, before, after);
      has_nodes = omega (arith, held.has_nodes, some, before, after, e.one);
      nodes_fit = omega (arith, held.nodes_fit, e.room);
      has_places = rw e.places held.has_places;
    }
