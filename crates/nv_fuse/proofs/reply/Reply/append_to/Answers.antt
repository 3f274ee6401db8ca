use Rattle.std.proofs.Common.{List, ℕ, ◌++◌, ap, ◌∙◌}
use Rattle.std.specs.List.{flat_map}
use Rattle.nv_fuse.specs.Written.{field_bytes}
use Rattle.nv_fuse.proofs.Appends.{thrice}
use Rattle.nv_fuse.proofs.reply.Reply.append_to.Goals as goal

pub returns-clause-ok : goal.returns-clause-ok
returns-clause-ok c =
    let old = c.args.out.now.items in
    let fields = c.put_rows.new.out.items in
    thrice old c.put_fields.new.out.items fields c.put.new.out.items _ _ _
    (c.put_fields.ensures.items
    ∙ ap (λ (xs : List ℕ). xs ++ flat_map field_bytes c.header.result) c.reserve.ensures.items
    ∙ ap (λ (xs : List ℕ). old ++ xs) c.header.ensures)
    c.put_rows.ensures.items
    (c.put.ensures.items ∙ ap (λ (xs : List ℕ). fields ++ xs) c.rest.ensures.contents)
