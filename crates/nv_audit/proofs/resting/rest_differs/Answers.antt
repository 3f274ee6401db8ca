use Rattle.std.proofs.Common.{sym, ◌∙◌}
use Rattle.nv_audit.specs.Records.{states_of}
use Rattle.nv_audit.specs.Resting.{AreAtRest, AreInodesAtRest, IsFirstAtRest, IsFirstOfInodes}
use Rattle.nv_audit.proofs.Differs.{agrees_if_none, differs_if_some}
use Rattle.nv_audit.proofs.FirstAtRest.{first_inode}
use Rattle.nv_audit.proofs.resting.rest_differs.Goals as goal

pub returns-then-is_some-clause-ok : goal.returns-then-is_some-clause-ok
returns-then-is_some-clause-ok c =
    let g = c.args.geometry.now.numbers in
    let cells = states_of c.args.cells.now in
    let lists = c.args.lists.now in
    let pool = c.args.pool.now in
    let book = c.args.book.now.state in
    differs_if_some (AreInodesAtRest book cells) (AreAtRest g cells lists pool book) (λ p. IsFirstOfInodes p book cells)
    (λ p. IsFirstAtRest p g cells lists pool book) c.in_ok-differs.differs (sym c.is_some.ensures ∙ c.if-is_some.true)
    (λ p told. first_inode p g cells lists pool book told) c.in_ok-differs.ensures.ok

pub returns-clause-ok : goal.returns-clause-ok
returns-clause-ok c =
    let cells = states_of c.args.cells.now in
    let book = c.args.book.now.state in
    record {
      inodes = agrees_if_none (AreInodesAtRest book cells) (λ p. IsFirstOfInodes p book cells) c.in_ok-differs.differs
          (sym c.is_some.ensures ∙ c.if-is_some.false) c.in_ok-differs.ensures.ok;
      trees = c.in_ok-trees.ensures.ok.0 c.if-not-trees.false;
      records = c.in_ok-records.ensures.ok.0 c.if-not-records.false;
      device = c.in_ok-parts.ensures.ok.0 c.if-not-parts.false;
    }
