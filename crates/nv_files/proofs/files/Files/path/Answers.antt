use Rattle.std.proofs.Common.{refl}
use Rattle.std.proofs.lemmas.Result.{err_from_is_err_and}
use Rattle.nv_files.proofs.Led.{way_done, way_more, way_refused}
use Rattle.nv_files.proofs.files.Files.path.Goals as goal

pub loop-name-init : goal.loop-name-init
loop-name-init c = λ s stands. (stands, rw c.root-at.ensures refl)

pub loop-name-preserved : goal.loop-name-preserved
loop-name-preserved c =
    way_more c.args.self.now c.loop-name.self c.lookup.new.self c.args.names.now c.loop-name.name-index c.name-item.result
    c.loop-name.at c.in_ok-at.at c.loop-name-test.true c.name-item.is c.loop-name.invariant
    (rw c.bytes.ensures.value at c.in_ok-at.ensures)

pub returns-in_err-at : goal.returns-in_err-at
returns-in_err-at c =
    let p = err_from_is_err_and c.from_residual.result c.from_residual.ensures.1 in
    rw (p.1, p.2) (way_refused c.args.self.now c.loop-name.self c.lookup.new.self c.args.names.now c.loop-name.name-index c.name-item.result
    c.loop-name.at _ c.loop-name-test.true c.name-item.is c.loop-name.invariant (rw c.bytes.ensures.value at c.in_err-at.ensures))

pub returns : goal.returns
returns c =
    way_done c.args.self.now c.loop-name.self c.args.names.now c.loop-name.name-index c.loop-name.at c.loop-name-test.false
    c.loop-name.invariant
