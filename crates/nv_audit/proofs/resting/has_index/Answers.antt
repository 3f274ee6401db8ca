use Rattle.nv_audit.proofs.resting.has_index.Goals as goal

pub returns-clause-ok : goal.returns-clause-ok
returns-clause-ok c = (
  λ t. record {
    whole = c.holds_together.ensures;
    tail = c.ends_at_tail.ensures.0 c.if-not-ends_at_tail.false;
    apart = c.in_ok-apart.ensures.ok.0 t;
    ends = c.ends_at_size.ensures.0 c.if-not-ends_at_size.false;
  },
  λ has. c.in_ok-apart.ensures.ok.1 has.apart,
)
