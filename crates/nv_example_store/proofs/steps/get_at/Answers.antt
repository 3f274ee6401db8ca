use Rattle.std.proofs.lemmas.Result.{err_from_is_err_and}
use Rattle.nv_example_store.proofs.Backups.{show_refused, shown_result}
use Rattle.nv_example_store.proofs.Told.{key_is}
use Rattle.nv_example_store.proofs.steps.get_at.Goals as goal

pub returns-in_err-tree : goal.returns-in_err-tree
returns-in_err-tree c =
    let p = err_from_is_err_and c.from_residual.result c.from_residual.ensures.1 in
    rw (p.1, p.2) (show_refused c.args.backup c.args.key.now _ c.args.files.now c.show.new.self c.in_err-tree.ensures)

pub returns : goal.returns
returns c =
    shown_result c.args.backup c.args.key.now c.in_ok-tree.tree c.bytes_at.result c.args.files.now c.show.new.self
    (key_is c.args.key.now c.requires).1 c.in_ok-tree.ensures (rw c.as_slice.ensures at c.bytes_at.ensures.ok) c.bytes_at.ensures.err
