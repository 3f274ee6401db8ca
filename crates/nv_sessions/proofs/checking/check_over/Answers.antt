use Rattle.std.proofs.Common.{rules, ◌≡◌, ◌∙◌, inr, ℕ, Bool, ap}
use Rattle.std.specs.Prelude.{is_some}
use Rattle.std.specs.List.{AllByRecursion}
use Rattle.nv_calls.specs.Checked.{ends_over}
use Rattle.nv_calls.specs.Nodes.{nodes_in}
use Rattle.nv_calls.specs.Prepared.{IsStill, makes}
use Rattle.nv_cell.specs.Cell.{CellValue}
use Rattle.nv_sessions.specs.Changing.{FitsNumber, IsFreeHand, directories_there, misnamed}
use Rattle.nv_sessions.proofs.CheckedOver.{passed_by, told_by}
use Rattle.nv_sessions.proofs.checking.check_over.Goals as goal

pub returns-in-Ok-clause-ok : goal.returns-in-Ok-clause-ok
returns-in-Ok-clause-ok g c =
    let block = c.args.geometry.now.numbers.block in
    let cells = g.L.Cells.cells c.args.lent.now in
    let hand = c.args.hand.now in
    let still : AllByRecursion (λ (x : ℕ × CellValue). IsStill block x.1.state) cells = search rules in
    let free : IsFreeHand block hand = search rules in
    let fits : FitsNumber cells (makes c.args.update.now) hand.ino = search rules in
    let some : c.is_some.result ≡ is_some hand.ino = search rules in
    passed_by block cells c.args.looked.now c.args.update.now hand still free fits c.ends_at_check.result
    (rw c.new-nodes.ensures at c.ends_at_check.ensures.ends
    ∙ ap (λ (b : Bool). ends_over block (nodes_in cells) c.args.looked.now b c.args.update.now) some)
    (rw c.new-nodes.ensures at c.ends_at_check.ensures.wanted) c.in-Ok.wanted c.in-Ok.is

pub returns-in-Err-clause-err : goal.returns-in-Err-clause-err
returns-in-Err-clause-err g c =
    let block = c.args.geometry.now.numbers.block in
    let cells = g.L.Cells.cells c.args.lent.now in
    let some : c.is_some.result ≡ is_some c.args.hand.now.ino = search rules in
    let there : c.are_directories_there-there.result ≡ directories_there (nodes_in cells) c.args.update.now =
    rw c.new-nodes.ensures at c.are_directories_there-there.ensures in
    inr (inr (
      c.in-Err.end,
      c.named.ensures ∙ ap (λ (b : Bool). misnamed b c.in-Err.end) there,
      told_by c.ends_at_check.result c.in-Err.end _
          (rw c.new-nodes.ensures at c.ends_at_check.ensures.ends
          ∙ ap (λ (b : Bool). ends_over block (nodes_in cells) c.args.looked.now b c.args.update.now) some) c.in-Err.is,
    ))
