use Rattle.std.proofs.Common.{ap, ◌∙◌}
use Rattle.nv_audit.specs.Records.{states_of}
use Rattle.nv_book.specs.Book.{BookValue}
use Rattle.nv_mount.proofs.ListsAnew.{lists_free}
use Rattle.nv_mount.proofs.Puts.{no_slot_plans}
use Rattle.nv_mount.proofs.mount.build.Goals as goal

pub finish-cells-requires-clause-slots : goal.finish-cells-requires-clause-slots
finish-cells-requires-clause-slots c =
    let whole = c.requires.ready.0 in
    let built = c.put_all.ensures whole c.requires.ready.1 c.requires.ready.2 in
    no_slot_plans whole built.view c.put_all.new.plan built.planned

pub finish-cells-requires-clause-pages : goal.finish-cells-requires-clause-pages
finish-cells-requires-clause-pages c =
    (c.put_all.ensures c.requires.ready.0 c.requires.ready.1 c.requires.ready.2).planned.none

pub returns-clause-made : goal.returns-clause-made
returns-clause-made c = λ whole can free.
    let built = c.put_all.ensures whole can free in
    record {
      cells = ap states_of c.finish-cells.ensures.cells ∙ built.planned.cells;
      lists = lists_free whole c.put_all.new.lists.items built.free;
      pool = c.finish-cells.ensures.pool ∙ built.planned.pool;
      book = ap (λ (b : BookValue). b.state) c.finish-cells.ensures.book ∙ built.planned.book;
    }
