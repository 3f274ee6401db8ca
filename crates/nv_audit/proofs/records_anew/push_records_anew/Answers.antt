use Rattle.std.proofs.Common.{◌≡◌, ◌++◌, ℕ, List, [], length, ap, sym, ◌∙◌}
use Rattle.std.proofs.lemmas.Bool.{eqb-true}
use Rattle.std.proofs.lemmas.List.{append-nil, nil_from_length}
use Rattle.nv_book.specs.declared.record.Record.{Record}
use Rattle.nv_entry.specs.Log.{pairs}
use Rattle.nv_audit.specs.Mounted.{log_records}
use Rattle.nv_audit.proofs.RecordsAnew.{records_none}
use Rattle.nv_audit.proofs.records_anew.push_records_anew.Goals as goal

pub returns-then-is_empty-clause-ok : goal.returns-then-is_empty-clause-ok
returns-then-is_empty-clause-ok c =
    let own = c.args.logged.now in
    let living = c.args.snapshots.now in
    let none : living ≡ [] = nil_from_length living (eqb-true (length living) 0 (sym c.if-is_empty.ensures)) in
    let same : log_records own.block living c.args.ino own.log ≡ [] =
    ap (λ (ss : List ℕ). log_records own.block ss c.args.ino own.log) none ∙ records_none c.args.ino (pairs own.block own.log) in
    sym (ap (λ (rs : List Record). c.args.records.now.items ++ rs) same ∙ append-nil c.args.records.now.items)
