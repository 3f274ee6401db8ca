use Rattle.std.proofs.Common.{◌≡◌, List, ℕ, arith, ap, length, sym, subst, ◌∙◌}
use Rattle.std.proofs.lemmas.Bool.{false≢true}
use Rattle.nv_base.specs.declared.fault.ImageFault.TheVariants as fault
use Rattle.nv_audit.specs.Image.{ImageValue, SlotImageValue}
use Rattle.nv_audit.specs.MountedLogs.{AreGoneLast, AreShaped}
use Rattle.nv_audit.proofs.Items.{gone_there, items_told, shaped_there}
use Rattle.nv_audit.proofs.MountedLogs.{tails_many}
use Rattle.nv_audit.proofs.faults.items.are_items_good.Goals as goal

pub are_gone_last-requires : goal.are_gone_last-requires
are_gone_last-requires c =
    let image = c.args.image.now in
    let tails = c.in_ok-tails.tails.items in
    ap (λ (ts : List ℕ). length ts) c.deref-2.ensures.value
    ∙ tails_many image tails c.in_ok-tails.ensures.ok
    ∙ sym (ap (λ (ss : List SlotImageValue). length ss) c.deref.ensures.value ∙ ap (λ (i : ImageValue). length i.slots) c.image.view_is)

pub returns-then-not-are_gone_last-clause-ok : goal.returns-then-not-are_gone_last-clause-ok
returns-then-not-are_gone_last-clause-ok c =
    let image = c.args.image.now in
    let tails = c.in_ok-tails.tails.items in
    let slots : c.deref.result.now ≡ image.slots = c.deref.ensures.value ∙ ap (λ (i : ImageValue). i.slots) c.image.view_is in (
      λ no. absurd (false≢true no),
      λ good. absurd (false≢true (sym c.if-not-are_gone_last.true ∙ c.are_gone_last.ensures.1
          (subst (λ (ss : List SlotImageValue). AreGoneLast c.deref-2.result.now ss) (sym slots)
          (subst (λ (ts : List ℕ). AreGoneLast ts image.slots) (sym c.deref-2.ensures.value)
          (gone_there image tails c.in_ok-tails.ensures.ok good))))),
    )

pub mounted_logs-requires-clause-tails : goal.mounted_logs-requires-clause-tails
mounted_logs-requires-clause-tails c = c.deref-3.ensures.value ∙ c.in_ok-tails.ensures.ok

pub mounted_logs-requires-clause-fits : goal.mounted_logs-requires-clause-fits
mounted_logs-requires-clause-fits c = c.requires fault.Geometry (omega arith)

pub mounted_logs-requires-clause-ordered : goal.mounted_logs-requires-clause-ordered
mounted_logs-requires-clause-ordered c = c.requires fault.Entry (omega arith)

pub returns-then-not-are_shaped-clause-ok : goal.returns-then-not-are_shaped-clause-ok
returns-then-not-are_shaped-clause-ok c =
    let image = c.args.image.now in
    let logs = c.in_ok-logs.logs.items in (
      λ no. absurd (false≢true no),
      λ good. absurd (false≢true (sym c.if-not-are_shaped.true ∙ c.are_shaped.ensures.1
          (subst AreShaped (sym c.deref-4.ensures.value) (shaped_there image logs c.in_ok-logs.ensures.ok good)))),
    )

pub returns-clause-ok : goal.returns-clause-ok
returns-clause-ok c =
    let image = c.args.image.now in
    let tails = c.in_ok-tails.tails.items in
    let logs = c.in_ok-logs.logs.items in
    let slots : c.deref.result.now ≡ image.slots = c.deref.ensures.value ∙ ap (λ (i : ImageValue). i.slots) c.image.view_is in
    let gone : AreGoneLast tails image.slots =
    subst (λ (ts : List ℕ). AreGoneLast ts image.slots) c.deref-2.ensures.value
    (subst (λ (ss : List SlotImageValue). AreGoneLast c.deref-2.result.now ss) slots (c.are_gone_last.ensures.0 c.if-not-are_gone_last.false)) in
    let shaped : AreShaped logs = subst AreShaped c.deref-4.ensures.value (c.are_shaped.ensures.0 c.if-not-are_shaped.false) in
    items_told image tails logs c.in_ok-tails.ensures.ok c.in_ok-logs.ensures.ok gone shaped c.deref-5.result.now c.deref-6.result.now
    (c.deref-5.ensures.value ∙ ap (λ (i : ImageValue). i.snapshots) c.image.view_is) c.deref-6.ensures.value c.form_trees_of.result
    c.form_trees_of.ensures.ok
