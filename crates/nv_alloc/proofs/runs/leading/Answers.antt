use Rattle.std.proofs.Common.{◌≡◌, ◌∙◌, ◌+◌, ◌-◌, ap, arith, false, get_or, sym}
use Rattle.nv_alloc.proofs.RunLemmas.{flag_left, slots_left}
use Rattle.nv_alloc.proofs.runs.leading.Goals as goal

pub returns : goal.returns
returns c =
    let flags = c.args.free.now in
    let slots = c.args.slots.now in
    let left = slots_left c.args.at flags slots c.requires in
    let ends = c.end_from.ensures in
    record {
      within = omega (arith, left, ends.within, ends.from);
      before = λ k less. flag_left c.args.at k flags slots c.requires
          ∙ ends.before (c.args.at + k) (omega arith) (omega (arith, less, ends.from));
      at = λ less same. let e : c.args.at + (c.end_from.result - c.args.at) ≡ c.end_from.result = omega (arith, ends.from) in
          ends.at (omega (arith, less, left, ends.from)) (ap (λ i. get_or flags i false) (sym e)
          ∙ sym (flag_left c.args.at (c.end_from.result - c.args.at) flags slots c.requires) ∙ same);
    }
