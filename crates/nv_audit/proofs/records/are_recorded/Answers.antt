use Rattle.std.proofs.Common.{◌≡◌, ℕ, List, length, ap, ap₂, arith, eqb-true, refl, sym, vec_len, ◌∙◌}
use Rattle.nv_epoch.specs.SnapList.{Snapshots, ids}
use Rattle.nv_audit.specs.Owed.{owed_records_from}
use Rattle.nv_audit.specs.Records.{states_of}
use Rattle.nv_audit.specs.declared.part_list.InodePart.{InodePart}
use Rattle.nv_audit.proofs.Owing.{all_told}
use Rattle.nv_audit.proofs.records.are_recorded.Goals as goal

pub returns-clause-ok : goal.returns-clause-ok
returns-clause-ok c =
    let states = states_of c.args.cells.now in
    let told = all_told c.args.book.now.state states c.args.hands.now.parts.items c.deref-2.result.now c.deref-3.result.now
    c.deref-4.result.now
    (c.deref-2.ensures.value ∙ c.in_ok-snapshots.ensures)
    (c.deref-3.ensures.value ∙ c.in_ok-recorded.ensures)
    (c.deref-4.ensures.value ∙ c.in_ok-owed.ensures.ok
    ∙ ap₂ (λ (ss : Snapshots) (ps : List InodePart). owed_records_from (ids ss) ps 0 states) c.snaps.ensures.snaps c.deref.ensures.value) in
    (λ t. told.0 (c.in_ok-agree.ensures.0 t), λ all. c.in_ok-agree.ensures.1 (told.1 all))

-- no snapshot lives
pub returns-then-is_empty-clause-ok : goal.returns-then-is_empty-clause-ok
returns-then-is_empty-clause-ok c =
    let none : length (ids c.args.book.now.state.snaps) ≡ 0 = omega (
      arith,
      ap (λ (l : List ℕ). length l) c.in_ok-snapshots.ensures,
      c.in_ok-snapshots.snapshots.ok,
      eqb-true (vec_len c.in_ok-snapshots.snapshots) 0 (sym c.if-is_empty.ensures),
    ) in
    (λ t k d lt part. absurd (omega (arith, lt, none)), λ all. refl)
