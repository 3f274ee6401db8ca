use Rattle.std.proofs.Common.{◌<◌, length, arith, sym, subst}
use Rattle.nv_book.specs.Store.{Store}
use Rattle.nv_book.proofs.Nodes.{wanted-at, wanted-within}
use Rattle.nv_book.proofs.record_store.RecordStore.drop_at.Goals as goal

pub drop_at-requires-clause-fits : goal.drop_at-requires-clause-fits
drop_at-requires-clause-fits c = let fit = c.self.invariant.nodes_fit in omega (arith, fit)

pub invariant_of-self : goal.invariant_of-self
invariant_of-self c =
    let held = c.self.invariant in
    let lives = subst (λ (u : Store). c.args.place < length u.manifests) (sym c.self.view_is) c.requires.within in
    let before = wanted-at _ _ c.self.inside.room lives in
    let after = wanted-within c.drop_at.new.manifests.items c.self.inside.room in
    let e = c.drop_at.ensures in
    record {
      counted = omega (arith, held.counted, e.count);
      fits = omega (arith, held.fits, before, after);
      has_nodes = omega (arith, held.has_nodes, before, after);
      nodes_fit = omega (arith, held.nodes_fit, e.room);
      has_places = rw e.places held.has_places;
    }
