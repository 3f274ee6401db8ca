use Rattle.std.proofs.Common.{◌∙◌, arith, sym, rules}
use Rattle.nv_alloc.proofs.RunLemmas.{flags_behind, moved, none_left, one_run, slots_left}
use Rattle.nv_alloc.proofs.runs.RunsIterator.next.Goals as goal

pub leading-len-requires : goal.leading-len-requires
leading-len-requires c = flags_behind _ _ _ _ _ c.split_at.ensures.back c.leading-gap.ensures.within c.self.invariant.2

pub overflow_add-self : goal.overflow_add-self
overflow_add-self c =
    let flags = flags_behind _ _ _ _ _ c.split_at.ensures.back c.leading-gap.ensures.within c.self.invariant.2 in
    omega (arith, c.leading-len.ensures.within, slots_left _ _ _ flags, c.self.invariant.3)

pub invariant_of-self : goal.invariant_of-self
invariant_of-self c =
    let place = moved _ _ _ _ _ _ c.split_at.ensures.back c.split_at-2.ensures.back c.leading-gap.ensures.within
    c.leading-len.ensures.within c.self.invariant.0 c.self.invariant.1 in
    let flags = flags_behind _ _ _ _ _ c.split_at-2.ensures.back c.leading-len.ensures.within
    (flags_behind _ _ _ _ _ c.split_at.ensures.back c.leading-gap.ensures.within c.self.invariant.2) in
    (place.0, place.1, flags, c.self.invariant.3)

pub returns-then-len-eq0-clause-steps : goal.returns-then-len-eq0-clause-steps
returns-then-len-eq0-clause-steps c =
    let left = none_left _ _ _ _ _ c.split_at.ensures.back c.split_at-2.ensures.back c.leading-gap.ensures.before
    c.leading-gap.ensures.at c.leading-len.ensures.at c.if-len-eq0.true in
    (sym c.self.view_is ∙ left.0, left.1)

pub invariant_of-self-2 : goal.invariant_of-self-2
invariant_of-self-2 c =
    let place = moved _ _ _ _ _ _ c.split_at.ensures.back c.split_at-2.ensures.back c.leading-gap.ensures.within
    c.leading-len.ensures.within c.self.invariant.0 c.self.invariant.1 in
    let flags = flags_behind _ _ _ _ _ c.split_at-2.ensures.back c.leading-len.ensures.within
    (flags_behind _ _ _ _ _ c.split_at.ensures.back c.leading-gap.ensures.within c.self.invariant.2) in
    (place.0, place.1, flags, c.self.invariant.3)

pub returns-clause-steps : goal.returns-clause-steps
returns-clause-steps c =
    let run = one_run _ _ _ _ _ _ c.split_at.ensures.back c.split_at-2.ensures.back c.self.invariant.0 c.leading-gap.ensures.before
    c.leading-len.ensures.before c.leading-len.ensures.at c.if-len-eq0.false in
    rw (c.new.ensures, c.new-2.ensures) (sym c.self.view_is ∙ run)

pub returns-clause-goes : goal.returns-clause-goes
returns-clause-goes c = rw (returns-clause-steps c) (search rules)
