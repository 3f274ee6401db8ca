use Rattle.std.proofs.Common.{◌≡◌, arith, ap, sym, ◌∙◌}
use Rattle.nv_book.specs.Store.{Store, nodes_wanted}
use Rattle.nv_book.proofs.Counts.{all-runs-le-records, runs-le-records}
use Rattle.nv_book.proofs.record_store.RecordStore.reserve.Goals as goal

pub invariant_of-self : goal.invariant_of-self
invariant_of-self c =
    let held = c.self.invariant in
    let nodes : c.nodes_wanted-nodes.result ≡ nodes_wanted c.self.inside.manifests.items c.args.need =
    c.nodes_wanted-nodes.ensures ∙ ap (λ (u : Store). nodes_wanted u.manifests c.args.need) (sym c.self.view_is) in
    record {
      counted = held.counted;
      fits = omega (arith, held.fits, nodes);
      has_nodes = omega (arith, nodes);
      nodes_fit = held.nodes_fit;
      has_places = held.has_places;
    }

pub invariant_of-self-in_err-reserve : goal.invariant_of-self-in_err-reserve
invariant_of-self-in_err-reserve c =
    let held = c.self.invariant in
    let e = c.in_err-reserve.ensures in
    let few = all-runs-le-records c.self.inside.manifests.items in
    let few_deferred = runs-le-records c.self.inside.deferred in
    record {
      counted = held.counted;
      fits = held.fits;
      has_nodes = omega (arith, held.has_nodes, e.kept);
      nodes_fit = omega (arith, held.counted, held.fits, held.nodes_fit, e.most, few, few_deferred);
      has_places = held.has_places;
    }

pub invariant_of-self-2 : goal.invariant_of-self-2
invariant_of-self-2 c =
    let held = c.self.invariant in
    let e = c.in_ok-reserve.ensures in
    let few = all-runs-le-records c.self.inside.manifests.items in
    let few_deferred = runs-le-records c.self.inside.deferred in
    let nodes : c.nodes_wanted-nodes.result ≡ nodes_wanted c.self.inside.manifests.items c.args.need =
    c.nodes_wanted-nodes.ensures ∙ ap (λ (u : Store). nodes_wanted u.manifests c.args.need) (sym c.self.view_is) in
    record {
      counted = held.counted;
      fits = omega (arith, held.counted, nodes);
      has_nodes = omega (arith, e.ok, nodes);
      nodes_fit = omega (arith, held.counted, held.fits, held.nodes_fit, e.most, few, few_deferred);
      has_places = held.has_places;
    }
