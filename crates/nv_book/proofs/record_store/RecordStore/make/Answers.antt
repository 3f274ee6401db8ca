use Rattle.std.proofs.Common.{◌≡◌, ◌+◌, length, arith, ap, sym, ◌∙◌}
use Rattle.nv_book.specs.Manifests.{record_count, run_total}
use Rattle.nv_book.specs.Records.{run_count_of}
use Rattle.nv_book.specs.Store.{Store, nodes_wanted}
use Rattle.nv_book.proofs.Counts.{total-made}
use Rattle.nv_book.proofs.Nodes.{wanted-within}
use Rattle.nv_book.proofs.record_store.RecordStore.make.Goals as goal

pub invariant_of-self : goal.invariant_of-self
invariant_of-self c =
    let held = c.self.invariant in
    let n : record_count c.push_reserved.new.self.items ≡ record_count c.self.inside.manifests.items + length c.new.result =
    ap record_count c.push_reserved.ensures.items ∙ total-made length c.self.inside.manifests.items _ in
    let r : run_total c.push_reserved.new.self.items ≡ run_total c.self.inside.manifests.items + run_count_of c.new.result =
    ap run_total c.push_reserved.ensures.items ∙ total-made run_count_of c.self.inside.manifests.items _ in
    let n0 : length c.new.result ≡ 0 = ap length c.new.ensures in
    let r0 : run_count_of c.new.result ≡ 0 = ap run_count_of c.new.ensures in
    let room : c.nodes_wanted-self-inside.result ≡ nodes_wanted c.self.inside.manifests.items c.self.inside.room =
    c.nodes_wanted-self-inside.ensures ∙ ap (λ (u : Store). nodes_wanted u.manifests c.self.inside.room) (sym c.self.view_is) in
    let after = wanted-within c.push_reserved.new.self.items c.nodes_wanted-self-inside.result in
    record {
      counted = omega (arith, held.counted, n, n0);
      fits = omega (arith, held.fits, room, after);
      has_nodes = omega (arith, held.has_nodes, room, after);
      nodes_fit = omega (arith, held.nodes_fit, r, r0);
      has_places = rw c.push_reserved.ensures.capacity held.has_places;
    }
