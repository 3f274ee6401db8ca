use Rattle.std.proofs.Common.{◌≡◌, ◌∙◌, Bool, List, ap, length, subst, sym}
use Rattle.std.proofs.lemmas.Bool.{eqb-true}
use Rattle.nv_cell.specs.Cell.{log_of}
use Rattle.nv_cell.specs.Removal.{MayGo}
use Rattle.nv_clean.specs.Plans.{WantedValue, entries_staying}
use Rattle.nv_clean.proofs.Cleanings.{entries_flagged, entries_may, none_dropped}
use Rattle.nv_entry.specs.Clean.{select}
use Rattle.nv_clean.proofs.thorough.leave.Goals as goal

pub returns-then-is_all-clause-log : goal.returns-then-is_all-clause-log
returns-then-is_all-clause-log c =
    let cell = c.args.cell.now.state in
    let none = eqb-true c.args.wanted.now.dropped 0 (sym c.is_all.ensures ∙ c.if-is_all.true) in
    sym (ap (λ (w : WantedValue). select w.stays (log_of cell)) c.requires.walk
    ∙ none_dropped cell c.holds_together.ensures c.requires.published (ap (λ (w : WantedValue). w.dropped) (sym c.requires.walk) ∙ none))

flags_are : (c : goal.After-deref) → c.deref.result.now ≡ entries_staying c.args.cell.now.state
flags_are c =
    c.deref.ensures.value ∙ ap (λ (w : WantedValue). w.stays) c.wanted.view_is ∙ ap (λ (w : WantedValue). w.stays) c.requires.walk

pub compact-old-requires-clause-flags : goal.compact-old-requires-clause-flags
compact-old-requires-clause-flags c =
    ap (λ (stays : List Bool). length stays) (flags_are c) ∙ entries_flagged c.args.cell.now.state c.holds_together.ensures

pub compact-old-requires-clause-may : goal.compact-old-requires-clause-may
compact-old-requires-clause-may c =
    subst (λ (stays : List Bool). MayGo stays c.args.cell.now.state) (sym (flags_are c))
    (entries_may c.args.cell.now.state c.holds_together.ensures)
