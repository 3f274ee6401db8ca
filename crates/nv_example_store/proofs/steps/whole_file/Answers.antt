use Rattle.std.proofs.Common.{◌≡◌, ◌∙◌, ap, length, refl, take}
use Rattle.std.proofs.lemmas.List.{length-replicate, with_items_is}
use Rattle.std.proofs.lemmas.Result.{err_from_is_err_and}
use Rattle.nv_example_store.proofs.ReadSteps.{read_refused, room_refused, stat_refused, whole_step}
use Rattle.nv_example_store.proofs.steps.whole_file.Goals as goal

pub returns-in_err-stat : goal.returns-in_err-stat
returns-in_err-stat c =
    let p = err_from_is_err_and c.from_residual.result c.from_residual.ensures.1 in
    rw (p.1, p.2) (stat_refused c.args.file _ c.args.files.now c.stat.new.self (rw c.same.ensures at c.in_err-stat.ensures))

pub returns-in_err-bytes : goal.returns-in_err-bytes
returns-in_err-bytes c =
    let p = err_from_is_err_and c.from_residual-in_err-bytes.result c.from_residual-in_err-bytes.ensures.1 in
    let stat = c.in_ok-stat.stat in
    rw (p.1, p.2) (room_refused c.args.file stat.kind stat.mode stat.size stat.commit _ c.args.files.now c.stat.new.self refl
    (rw c.same.ensures at c.in_ok-stat.ensures))

pub returns-in_err-count : goal.returns-in_err-count
returns-in_err-count c =
    let p = err_from_is_err_and c.from_residual-in_err-count.result c.from_residual-in_err-count.ensures.1 in
    let stat = c.in_ok-stat.stat in
    let sized : length c.deref_mut.result.now ≡ stat.size =
    ap length (c.deref_mut.ensures.value ∙ c.in_ok-bytes.ensures.items_if_clones_equal (λ y same. same)) ∙ length-replicate stat.size 0 in
    rw (p.1, p.2) (read_refused c.args.file stat.kind stat.mode stat.size stat.commit c.read.new.into _ c.args.files.now c.stat.new.self
    c.read.new.self (rw c.same.ensures at c.in_ok-stat.ensures) (rw sized at c.in_err-count.ensures.told))

pub returns : goal.returns
returns c =
    let stat = c.in_ok-stat.stat in
    let sized : length c.deref_mut.result.now ≡ stat.size =
    ap length (c.deref_mut.ensures.value ∙ c.in_ok-bytes.ensures.items_if_clones_equal (λ y same. same)) ∙ length-replicate stat.size 0 in
    whole_step c.args.file stat.kind stat.mode stat.size stat.commit c.in_ok-count.count c.read.new.into c.from_vec.result c.args.files.now
    c.stat.new.self c.read.new.self (rw c.same.ensures at c.in_ok-stat.ensures) (rw sized at c.in_ok-count.ensures.told)
    (c.from_vec.ensures ∙ c.truncate.ensures.items
    ∙ ap (take c.in_ok-count.count) (with_items_is c.in_ok-bytes.bytes c.read.new.into (c.read.auto.into ∙ c.deref_mut.ensures.len)))
