use Rattle.std.proofs.Common.{◌≡◌, ◌∙◌, ◌==◌, ℕ, List, [], length, ap, sym}
use Rattle.std.specs.Prelude.{slice_index_or}
use Rattle.std.specs.Global.{Vec}
use Rattle.nv_journal.specs.declared.old_tail.OldTail.{OldTail}
use Rattle.nv_script.specs.Json.{is_open}
use Rattle.nv_trace.proofs.JsonParts.{fails, none_there, passes, some_there}
use Rattle.nv_trace.proofs.json_book.open_journals.Goals as goal
use Rattle.nv_trace.proofs.json_book.open_journals.Goals.{then-not-is_empty+in_ok-push, else-not-is_empty}

pub loop-cpu-preserved : goal.loop-cpu-preserved
loop-cpu-preserved c =
    let p = is_open c.args.book.now.state in
    let n = c.loop-cpu.cpu in
    let tails = c.tails_of.result.now in
    let many : length tails ≡ length (slice_index_or c.args.book.now.state.journals n []) =
    ap (λ (ts : List OldTail). length ts) c.tails_of.ensures in
    let tested : c.is_empty.result ≡ (length (slice_index_or c.args.book.now.state.journals n []) == 0) =
    c.is_empty.ensures ∙ ap (λ k. k == 0) many in
    elim c.if-not-is_empty.branch [
      | then-not-is_empty+in_ok-push w ↦
          ap (λ (v : Vec ℕ). v.items) w.open-is
          ∙ passes p n c.loop-cpu.open.items w.push.new.self.items c.loop-cpu.invariant w.in_ok-push.ensures.items
          (some_there (length (slice_index_or c.args.book.now.state.journals n [])) (sym tested ∙ w.if-not-is_empty.true))
      | else-not-is_empty w ↦
          ap (λ (v : Vec ℕ). v.items) w.open-is
          ∙ fails p n c.loop-cpu.open.items c.loop-cpu.invariant
          (none_there (length (slice_index_or c.args.book.now.state.journals n [])) (sym tested ∙ w.if-not-is_empty.false))
    ]
