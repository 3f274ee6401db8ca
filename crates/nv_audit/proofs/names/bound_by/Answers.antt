use Rattle.std.proofs.Common.{◌++◌, ◌∷◌, [], List, take, ap, sym, ◌∙◌}
use Rattle.std.proofs.lemmas.List.{take_more}
use Rattle.nv_entry.specs.declared.item.Entry.{Entry}
use Rattle.nv_cell.specs.Index.{bindings_of}
use Rattle.nv_nindex.specs.NameIndex.{binding_of}
use Rattle.nv_cell.proofs.Bound.{after_push}
use Rattle.nv_audit.specs.Names.{bound_after}
use Rattle.nv_audit.proofs.names.bound_by.Goals as goal

pub loop-entry-preserved : goal.loop-entry-preserved
loop-entry-preserved c = λ name.
    let e = c.entry-item.result in
    c.in_ok-put_entry.ensures name ∙ ap (bound_after e.id e.item name) (c.loop-entry.invariant name)
    ∙ sym (ap (λ (es : List Entry). binding_of name (bindings_of es))
    (take_more c.args.log.now c.loop-entry.entry-index e c.loop-entry-test.true
    ∙ ap (λ (x : Entry). take c.loop-entry.entry-index c.args.log.now ++ x ∷ []) (sym c.entry-item.is))
    ∙ after_push (take c.loop-entry.entry-index c.args.log.now) e name)
