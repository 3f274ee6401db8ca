use Rattle.std.proofs.Common.{subst, sym}
use Rattle.nv_audit.specs.Records.{AreRecorded, states_of}
use Rattle.nv_audit.proofs.resting.have_records.Goals as goal

pub returns-clause-ok : goal.returns-clause-ok
returns-clause-ok c =
    let scanned = AreRecorded (states_of c.args.cells.now) c.args.book.now.state in (
      λ t. record {
        whole = c.book_holds_together.ensures;
        rest = c.is_at_rest.ensures.0 c.if-not-is_at_rest.false;
        past = c.are_all_of_past.ensures.0 c.if-not-are_all_of_past.false;
        kept = c.in_ok-kept.ensures.ok.0 c.if-not-kept.false;
        scan = subst scanned c.requires (c.in_ok-scanned.ensures.ok.0 t);
      },
      λ have. c.in_ok-scanned.ensures.ok.1 (subst scanned (sym c.requires) have.scan),
    )
