use Rattle.std.proofs.Common.{◌≡◌, ◌+◌, ◌∙◌, false, List, ℕ, ap, subst, take}
use Rattle.nv_script.specs.Lines.{EndsLine}
use Rattle.nv_hints.specs.Recent.{Window, ends_in}
use Rattle.nv_hints.proofs.Windows.{Keeps-add}
use Rattle.nv_hints.proofs.recent.Recent.add.Goals as goal

pub returns-clause-kept : goal.returns-clause-kept
returns-clause-kept c = λ all keeps alive.
    let kept = ap (λ (w : Window). w.kept) c.self.view_is in
    let same : c.as_slice.result.now ≡ c.args.self.now.kept = c.as_slice.ensures.value ∙ kept in
    let before = ap (λ (w : Window). w.before) c.self.view_is in
    let sum = c.in-Some-Ok.ensures in
    let count = c.count_ends-lines.ensures in
    let same2 = c.as_slice-2.ensures.value ∙ kept in
    Keeps-add all c.args.bytes.now c.args.self.now
    (record { before = c.in-Some-Ok.before; kept = c.in-Some-Ok.kept.items; lost = false; all_read = false }) c.past_last_end-whole.result
    keeps (subst (λ (bytes : List ℕ). EndsLine bytes c.past_last_end-whole.result) same c.past_last_end-whole.ensures) c.in-Some-Ok.ensures'
    (sum.1 ∙ ap (λ (n : ℕ). c.self.inside.before + n) (count ∙ ap (λ (bytes : List ℕ). ends_in (take c.past_last_end-whole.result bytes)) same2)
    ∙ ap (λ (n : ℕ). n + ends_in (take c.past_last_end-whole.result c.args.self.now.kept)) before)
