use Rattle.std.proofs.Common.{◌∙◌, ℕ, List, get_or, ap, sym}
use Rattle.nv_findex.specs.Rows.{RunList, slot}
use Rattle.nv_findex.proofs.Rows.{slot_get}
use Rattle.nv_findex.proofs.run_rows.RunRows.at.Goals as goal

pub returns : goal.returns
returns c =
    let f = c.self.inside in
    let read = c.index.result.now in
    let at = c.slot.ensures ∙ ap (λ (s : List ℕ). slot s c.args.place) c.deref.ensures.value in
    c.index.ensures ∙ ap (λ (n : ℕ). get_or f.runs.items n read) at
    ∙ sym (slot_get f.starts.items f.runs.items c.self.invariant.0 c.args.place read)
    ∙ ap (λ (r : RunList). get_or r.items c.args.place read) c.self.view_is
