use Rattle.std.proofs.Common.{List, ℕ, ◌++◌, ap, ◌∙◌}
use Rattle.nv_fuse.proofs.Appends.{twice}
use Rattle.nv_fuse.proofs.reply.put_entry.Goals as goal

pub returns-clause-items : goal.returns-clause-items
returns-clause-items c =
    twice c.args.out.now.items c.put_fields.new.out.items c.put_fields-2.new.out.items _ _ c.put_fields.ensures.items
    (c.put_fields-2.ensures.items ∙ ap (λ (xs : List ℕ). c.put_fields.new.out.items ++ xs) c.attribute_fields.ensures)
    ∙ ap (λ (xs : List ℕ). c.args.out.now.items ++ xs) c.entry_fields.ensures
