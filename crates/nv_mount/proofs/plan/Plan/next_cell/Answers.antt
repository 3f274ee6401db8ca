use Rattle.std.proofs.Common.{◌∷◌, ap, ◌∙◌}
use Rattle.nv_mount.specs.declared.plan.SlotPlan.{SlotPlan}
use Rattle.nv_mount.proofs.Handed.{can_place, erasing, free_placed, staying}
use Rattle.nv_mount.proofs.plan.Plan.next_cell.Goals as goal

pub give_places-requires : goal.give_places-requires
give_places-requires c = can_place _ _ _ _ _ _ _ c.requires.4 c.args.self.now.geometry.numbers c.requires.4.planned.geometry

pub staying_cell-requires : goal.staying_cell-requires
staying_cell-requires c =
    let next = c.requires.4 in
    let numbers = next.planned.geometry in
    let rest = c.pop_front.new.self.items in
    let is = c.in-Some-Cell.ensures.items ∙ ap (λ (x : SlotPlan). x ∷ rest) c.in-Some-Cell.field-0-is in
    let lists = c.give_places.new.lists.items in
    let free = free_placed _ _ _ _ _ _ _ next c.args.self.now.geometry.numbers numbers lists c.give_places.ensures in
    (c.requires.0, c.requires.1, c.requires.2, c.requires.3, numbers, staying _ _ _ _ _ _ _ next c.in-Some-Cell.tail c.in-Some-Cell.plan rest is lists free)

pub returns-in-Some-Cell-clause-made : goal.returns-in-Some-Cell-clause-made
returns-in-Some-Cell-clause-made c image view made owed next =
    let numbers = next.planned.geometry in
    let rest = c.pop_front.new.self.items in
    let is = c.in-Some-Cell.ensures.items ∙ ap (λ (x : SlotPlan). x ∷ rest) c.in-Some-Cell.field-0-is in
    let lists = c.give_places.new.lists.items in
    let free = free_placed image view made owed _ _ _ next c.args.self.now.geometry.numbers numbers lists c.give_places.ensures in
    c.staying_cell.ensures.made image view made owed numbers
    (staying image view made owed _ _ _ next c.in-Some-Cell.tail c.in-Some-Cell.plan rest is lists free)

pub erased_cell-requires : goal.erased_cell-requires
erased_cell-requires c =
    let next = c.requires.4 in
    let numbers = next.planned.geometry in
    let rest = c.pop_front.new.self.items in
    let is = c.in-Some-Erased.ensures.items ∙ ap (λ (x : SlotPlan). x ∷ rest) c.in-Some-Erased.field-0-is in
    let lists = c.give_places.new.lists.items in
    let free = free_placed _ _ _ _ _ _ _ next c.args.self.now.geometry.numbers numbers lists c.give_places.ensures in
    (c.requires.0, c.requires.1, c.requires.2, c.requires.3, numbers, erasing _ _ _ _ _ _ _ next rest is lists free)

pub returns-in-Some-Erased-clause-made : goal.returns-in-Some-Erased-clause-made
returns-in-Some-Erased-clause-made c image view made owed next =
    let numbers = next.planned.geometry in
    let rest = c.pop_front.new.self.items in
    let is = c.in-Some-Erased.ensures.items ∙ ap (λ (x : SlotPlan). x ∷ rest) c.in-Some-Erased.field-0-is in
    let lists = c.give_places.new.lists.items in
    let free = free_placed image view made owed _ _ _ next c.args.self.now.geometry.numbers numbers lists c.give_places.ensures in
    c.erased_cell.ensures image view made owed numbers (erasing image view made owed _ _ _ next rest is lists free)
