-- When two names of parts are one.
use Rattle.std.proofs.Common.{◌≡◌, ℕ, ◌&&◌, true, ap, ap₂, nat_eq, refl}
use Rattle.std.proofs.lemmas.Bool.{and_parts, eqb-true, false≢true}
use Rattle.nv_base.specs.Ids.{is_same_id}
use Rattle.nv_base.specs.declared.numbers.EntryId.{EntryId}
use Rattle.nv_base.proofs.Ids.{ordered}
use Rattle.nv_entry.specs.Held.{same_part}
use Rattle.nv_entry.specs.declared.part.Part.{Part}
use Rattle.nv_entry.specs.declared.part.Part.TheVariants as part
use Rattle.nv_entry.specs.declared.part.PartId.{PartId}
use Rattle.nv_audit.specs.PartLists.{is_same}
use Rattle.nv_audit.specs.declared.part_list.InodePart.{InodePart}

same_part_is : (a b : Part) → same_part a b ≡ true → a ≡ b
same_part_is part.Kind part.Kind e = refl
same_part_is part.Mode part.Mode e = refl
same_part_is part.Size part.Size e = refl
same_part_is part.Bound part.Bound e = refl
same_part_is (part.Page p) (part.Page q) e = ap (λ (n : ℕ). part.Page n) (eqb-true p q e)
same_part_is a b e = absurd (false≢true e)

pub same_name_is : (a b : PartId) → (is_same_id a.entry b.entry && same_part a.part b.part) ≡ true → a ≡ b
same_name_is a b e =
    let both = and_parts (is_same_id a.entry b.entry) (same_part a.part b.part) e in
    ap₂ (λ (entry : EntryId) (p : Part). let x : PartId = record { entry = entry; part = p } in x)
    ((ordered.same a.entry b.entry).0 both.0) (same_part_is a.part b.part both.1)

-- a part that is told the same is the same
pub same_is : (one other : InodePart) → is_same one other ≡ true → other ≡ one
same_is one other e =
    let both = and_parts (nat_eq other.ino one.ino) (is_same_id other.part.entry one.part.entry && same_part other.part.part
    one.part.part) e in
    ap₂ (λ (ino : ℕ) (p : PartId). let x : InodePart = record { ino = ino; part = p } in x)
    (eqb-true other.ino one.ino both.0) (same_name_is other.part one.part both.1)
