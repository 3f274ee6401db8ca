use Rattle.std.proofs.Common.{List, ℕ, ◌++◌, ap, ◌∙◌}
use Rattle.nv_fuse.specs.Replies.{attribute_rows, entry_rows, open_rows}
use Rattle.nv_fuse.specs.Rows.{bytes_of}
use Rattle.nv_fuse.proofs.Appends.{twice}
use Rattle.nv_fuse.proofs.reply.Reply.put_rows.Goals as goal

pub returns-in-Created-clause-items : goal.returns-in-Created-clause-items
returns-in-Created-clause-items c =
    let one = c.put_entry-in-Created.new.out.items in
    rw c.in-Created.is
    (twice c.args.out.now.items one c.put_fields-in-Created.new.out.items (bytes_of (entry_rows c.in-Created.entry))
    (bytes_of (open_rows 0 c.in-Created.opened)) c.put_entry-in-Created.ensures.items
    (c.put_fields-in-Created.ensures.items ∙ ap (λ (xs : List ℕ). one ++ xs) c.open_fields.ensures))

pub returns-in-Node-clause-items : goal.returns-in-Node-clause-items
returns-in-Node-clause-items c =
    let one = c.put_fields-in-Node.new.out.items in
    rw c.in-Node.is
    (twice c.args.out.now.items one c.put_fields-in-Node-2.new.out.items _ (bytes_of (attribute_rows 0 c.in-Node.attributes))
    c.put_fields-in-Node.ensures.items
    (c.put_fields-in-Node-2.ensures.items ∙ ap (λ (xs : List ℕ). one ++ xs) c.attribute_fields.ensures))
