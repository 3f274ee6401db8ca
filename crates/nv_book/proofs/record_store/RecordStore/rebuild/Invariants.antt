use Rattle.std.proofs.Common.{◌≡◌, [], map, take}
use Rattle.nv_book.specs.Listed.{manifest_of}
use Rattle.nv_book.proofs.record_store.RecordStore.rebuild.Given as goal

abbrev pub invariant-loop-s : goal.invariant-loop-s
invariant-loop-s l = l.store ≡ record {
  manifests = map (λ s. manifest_of s []) (take l.s-index l.living);
  most = l.most;
  deferred = [];
  room = 0;
}
