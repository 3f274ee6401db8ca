use Rattle.std.proofs.Common.{◌++◌, ap, length, refl}
use Rattle.std.specs.Prelude.{codes, decimal}
use Rattle.nv_core.specs.Shown.{shared_of}
use Rattle.nv_core.specs.declared.next_step.StepName.{StepName}
use Rattle.nv_machine.specs.World.{cell_at, list_at, owner_at}
use Rattle.nv_script.specs.Json.{book_object, cell_object, list_object, lock_object, or_null}
use Rattle.nv_trace.proofs.AnswerLines.{on_ok}
use Rattle.nv_trace.proofs.JsonWorlds.{book_lent, cell_lent, lent_by, lists_lent, lock_lent, none_lent, nothing_lent_by, one_lent, pool_lent, two_lent}
use Rattle.nv_trace.proofs.Pushes.{first_labelled, piece}
use Rattle.nv_trace.proofs.json_world.push_lent_members.Goals as goal

pub returns-in-Look : goal.returns-in-Look
returns-in-Look c =
    let s = shared_of c.args.world.now.shared in
    none_lent c.args.out.now.items (lent_by c.args.name s) (nothing_lent_by c.args.name s c.in-Look.is)

pub returns-in_ok-extend_from_slice-in-TakeBlocks : goal.returns-in_ok-extend_from_slice-in-TakeBlocks
returns-in_ok-extend_from_slice-in-TakeBlocks c =
    let s = shared_of c.args.world.now.shared in
    let out = c.args.out.now.items in
    let cpu = c.in-TakeBlocks.cpu in
    let label = codes "\"list\":" in
    let list = list_object cpu (list_at s cpu) in
    on_ok c.push_list_at.result
    (λ pushed. one_lent out c.push_list_at.new.out.items (label ++ list) (lent_by c.args.name s)
    (lists_lent c.args.name cpu s c.in-TakeBlocks.is)
    (piece out c.extend_from_slice-in-TakeBlocks.new.self.items c.push_list_at.new.out.items label list list
    c.in_ok-extend_from_slice-in-TakeBlocks.ensures.items pushed refl))
    c.push_list_at.ensures

pub returns-in_ok-extend_from_slice-in-Lock : goal.returns-in_ok-extend_from_slice-in-Lock
returns-in_ok-extend_from_slice-in-Lock c =
    let s = shared_of c.args.world.now.shared in
    let out = c.args.out.now.items in
    let ino = c.in-Lock.ino in
    let label = codes "\"lock\":" in
    let lock = lock_object ino (owner_at s ino) in
    on_ok c.push_lock.result
    (λ pushed. one_lent out c.push_lock.new.out.items (label ++ lock) (lent_by c.args.name s)
    (lock_lent c.args.name ino s c.in-Lock.is)
    (piece out c.extend_from_slice.new.self.items c.push_lock.new.out.items label lock lock
    c.in_ok-extend_from_slice-in-Lock.ensures.items pushed refl))
    c.push_lock.ensures

pub returns-in-Number : goal.returns-in-Number
returns-in-Number c =
    let s = shared_of c.args.world.now.shared in
    let out = c.args.out.now.items in
    let label = codes "\"pool\":" in
    let free = length s.pool.numbers in
    on_ok c.push_labelled.result
    (λ pushed. one_lent out c.push_labelled.new.out.items (label ++ decimal free) (lent_by c.args.name s)
    (pool_lent c.args.name s c.in-Number.is)
    (first_labelled out c.push_labelled.new.out.items label c.free_inodes.result free pushed c.free_inodes.ensures))
    c.push_labelled.ensures

pub returns-in-Append : goal.returns-in-Append
returns-in-Append c =
    let s = shared_of c.args.world.now.shared in
    let ino = c.in-Append.ino in
    on_ok c.push_cell_member-in-Append.result
    (λ pushed. one_lent c.args.out.now.items c.push_cell_member-in-Append.new.out.items (codes "\"cell\":" ++ cell_object ino (cell_at s ino))
    (lent_by c.args.name s) (cell_lent c.args.name ino s c.in-Append.is) pushed)
    c.push_cell_member-in-Append.ensures

pub returns-in_ok-push-in-Retire : goal.returns-in_ok-push-in-Retire
returns-in_ok-push-in-Retire c =
    let s = shared_of c.args.world.now.shared in
    let out = c.args.out.now.items in
    let ino = c.in-Retire.ino in
    let cell = codes "\"cell\":" ++ cell_object ino (cell_at s ino) in
    let book = codes "\"book\":" ++ book_object s.book in
    let comma = piece out c.push_cell_member.new.out.items c.push.new.self.items cell (codes ",") (codes ",")
    c.in_ok-push_cell_member-in-Retire.ensures c.in_ok-push-in-Retire.ensures.items refl in
    on_ok c.push_book_member.result
    (λ pushed. two_lent out c.push_book_member.new.out.items cell book (lent_by c.args.name s)
    (ap (λ (n : StepName). lent_by n s) c.in-Retire.is)
    (piece out c.push.new.self.items c.push_book_member.new.out.items (cell ++ codes ",") book book comma pushed refl))
    c.push_book_member.ensures

pub returns-in-Open : goal.returns-in-Open
returns-in-Open c =
    let s = shared_of c.args.world.now.shared in
    on_ok c.push_book_member-in-Open.result
    (λ pushed. one_lent c.args.out.now.items c.push_book_member-in-Open.new.out.items (codes "\"book\":" ++ book_object s.book)
    (lent_by c.args.name s) (book_lent c.args.name s c.in-Open.is) pushed)
    c.push_book_member-in-Open.ensures

pub returns-in_ok-push-in-Enter : goal.returns-in_ok-push-in-Enter
returns-in_ok-push-in-Enter c =
    let s = shared_of c.args.world.now.shared in
    let out = c.args.out.now.items in
    let book = codes "\"book\":" ++ book_object s.book in
    let lock = codes "\"commit_lock\":" ++ or_null s.holder in
    let comma = piece out c.push_book_member-in-Enter.new.out.items c.push-in-Enter.new.self.items book (codes ",") (codes ",")
    c.in_ok-push_book_member-in-Enter.ensures c.in_ok-push-in-Enter.ensures.items refl in
    on_ok c.push_commit_lock.result
    (λ pushed. two_lent out c.push_commit_lock.new.out.items book lock (lent_by c.args.name s)
    (ap (λ (n : StepName). lent_by n s) c.in-Enter.is)
    (piece out c.push-in-Enter.new.self.items c.push_commit_lock.new.out.items (book ++ codes ",") lock lock comma pushed refl))
    c.push_commit_lock.ensures

pub returns-in-Leave : goal.returns-in-Leave
returns-in-Leave c =
    let s = shared_of c.args.world.now.shared in
    on_ok c.push_commit_lock-in-Leave.result
    (λ pushed. one_lent c.args.out.now.items c.push_commit_lock-in-Leave.new.out.items (codes "\"commit_lock\":" ++ or_null s.holder)
    (lent_by c.args.name s) (ap (λ (n : StepName). lent_by n s) c.in-Leave.is) pushed)
    c.push_commit_lock-in-Leave.ensures
