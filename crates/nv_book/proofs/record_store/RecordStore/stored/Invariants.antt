use Rattle.std.proofs.Common.{◌≡◌, ◌+◌, take}
use Rattle.nv_book.specs.Manifests.{run_total}
use Rattle.nv_book.specs.Records.{run_count_of}
use Rattle.nv_book.proofs.record_store.RecordStore.stored.Given as goal

abbrev pub invariant-loop-m : goal.invariant-loop-m
invariant-loop-m l = l.count ≡ run_count_of l.self.deferred + run_total (take l.m-index l.self.manifests)
