use Rattle.std.proofs.Common.{arith}
use Rattle.std.proofs.lemmas.List.Sums.{count_by-le-length}
use Rattle.nv_book.specs.Records.{is_page}
use Rattle.nv_book.specs.declared.record.Record.{Record}
use Rattle.nv_book.proofs.record_store.RecordStore.deferred_blocks.Goals as goal

pub returns-clause-few : goal.returns-clause-few
returns-clause-few c =
    let less = count_by-le-length (λ (r : Record). is_page r.part) c.self.inside.deferred in
    omega (arith, less, c.blocks-2.ensures, c.self.invariant.counted, c.self.invariant.fits)
