use Rattle.std.proofs.Common.{List, ℕ, ◌++◌, ap, ◌∙◌, length}
use Rattle.std.specs.List.{flat_map}
use Rattle.nv_fuse.specs.Replies.{padding}
use Rattle.nv_fuse.specs.Written.{field_bytes}
use Rattle.nv_fuse.proofs.Appends.{thrice}
use Rattle.nv_fuse.proofs.Listings.{zeros-taken}
use Rattle.nv_fuse.proofs.directory.Listed.append_to.Goals as goal

pub returns-clause-ok : goal.returns-clause-ok
returns-clause-ok c =
    let old = c.args.out.now.items in
    let named = c.put.new.out.items in
    let count = padding (length c.args.self.now.name.now) in
    thrice old c.put_fields.new.out.items named c.put-2.new.out.items _ _ _
    (c.put_fields.ensures.items
    ∙ ap (λ (xs : List ℕ). xs ++ flat_map field_bytes c.listed_fields.result) c.reserve.ensures.items
    ∙ ap (λ (xs : List ℕ). old ++ xs) c.listed_fields.ensures)
    c.put.ensures.items
    (c.put-2.ensures.items
    ∙ ap (λ (xs : List ℕ). named ++ xs) (zeros-taken c.padding.result count c.padding.ensures.padding c.padding.ensures.most))
