use Rattle.std.proofs.Common.{◌∙◌, ℕ, List, set, get_or, ap, sym}
use Rattle.nv_findex.specs.Rows.{RunList, in_rows, slot}
use Rattle.nv_findex.proofs.Rows.{slot_get, slot_set}
use Rattle.nv_findex.proofs.run_rows.RunRows.replace.Goals as goal

pub returns-clause-value : goal.returns-clause-value
returns-clause-value c =
    let f = c.self.inside in
    let read = c.index-out.result.now in
    let at = c.slot-at.ensures ∙ ap (λ (s : List ℕ). slot s c.args.place) c.deref.ensures.value in
    c.index-out.ensures ∙ ap (λ (n : ℕ). get_or f.runs.items n read) at
    ∙ sym (slot_get f.starts.items f.runs.items c.self.invariant.0 c.args.place read)
    ∙ ap (λ (r : RunList). get_or r.items c.args.place read) c.self.view_is

pub returns-clause-items : goal.returns-clause-items
returns-clause-items c =
    let f = c.self.inside in
    let at = c.slot-at.ensures ∙ ap (λ (s : List ℕ). slot s c.args.place) c.deref.ensures.value in
    ap (λ (n : ℕ). in_rows f.starts.items (set f.runs.items n c.args.run)) at
    ∙ slot_set f.starts.items f.runs.items c.self.invariant.0 c.args.place c.args.run
    ∙ ap (λ (r : RunList). set r.items c.args.place c.args.run) c.self.view_is
