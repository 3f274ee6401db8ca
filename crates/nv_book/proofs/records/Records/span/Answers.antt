use Rattle.std.proofs.Common.{filter, length, arith, ap, slice_index, ◌∙◌}
use Rattle.nv_book.specs.Manifests.{snapshots}
use Rattle.nv_book.specs.Records.{block_count, is_held_by}
use Rattle.nv_book.proofs.Counts.{held-together, of-runs}
use Rattle.nv_book.proofs.Spans.{pages-le-records, room-for-less}
use Rattle.nv_book.proofs.records.Records.span.Goals as goal

pub span-requires-clause-room : goal.span-requires-clause-room
span-requires-clause-room c =
    room-for-less _ (omega (arith, pages-le-records c.self.inside.runs, ap length c.self.view_is)) c.requires.room

pub returns-clause-room : goal.returns-clause-room
returns-clause-room c more room =
    c.span.ensures.room more (room-for-less _ (omega (arith, pages-le-records c.self.inside.runs, ap length c.self.view_is)) room)

pub returns-clause-held : goal.returns-clause-held
returns-clause-held c place in' =
    let holds = is_held_by (slice_index (snapshots c.args.manifests.now) place) in
    let same = of-runs holds (held-together _) c.self.inside.runs ∙ ap (λ rs. block_count (filter holds rs)) c.self.view_is in
    omega (arith, same, c.span.ensures.held place in')
