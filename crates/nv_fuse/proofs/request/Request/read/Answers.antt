use Rattle.std.proofs.Common.{List, ℕ, subst}
use Rattle.std.proofs.lemmas.List.{take_rest}
use Rattle.nv_fuse.specs.Requests.{IsRead}
use Rattle.nv_fuse.proofs.request.Request.read.Goals as goal

pub returns-clause-operation : goal.returns-clause-operation
returns-clause-operation c =
    subst (λ (b : List ℕ). IsRead c.read-header.result.operation b c.body-operation.result) (take_rest c.args.bytes.now 40)
    c.body-operation.ensures
