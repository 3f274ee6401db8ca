use Rattle.std.proofs.Common.{◌<◌, ◌∙◌, ℕ, ap, arith, length, subst, sym}
use Rattle.nv_calls.specs.Ready.{plan_at}
use Rattle.nv_calls.specs.declared.progress.CommitStep.TheVariants as step
use Rattle.nv_calls.proofs.LentSlots.{lent_length}
use Rattle.nv_machine.specs.Reads.{slot_at}
use Rattle.nv_machine.specs.StepNames as named
use Rattle.nv_core.specs.Shown.{slots_in}
use Rattle.nv_core.proofs.NextSteps.{name_at, slot_written}
use Rattle.nv_core.proofs.Phases.{append_within}
use Rattle.nv_core.proofs.PublishPhase.{publish_within}
use Rattle.nv_core.proofs.RetirePhase.{retire_within}
use Rattle.nv_core.proofs.Stages.{append_due, publish_due, retire_due}
use Rattle.nv_core.proofs.next_step.name_in.Goals as goal

pub written-requires-clause-place : goal.written-requires-clause-place
written-requires-clause-place c =
    let commit = c.args.commit.now in
    let slots = slots_in c.args.running.now.slots in
    subst (λ (n : ℕ). (plan_at commit.plans n).at < length slots) (sym c.appended.ensures)
    (omega (
      arith,
      append_within _ _ _ commit c.requires.rooms.3 (append_due commit (sym c.in-Append.ensures)),
      lent_length slots c.args.shared.now.cells.items,
    ))

pub written-requires-in-Publish-clause-place : goal.written-requires-in-Publish-clause-place
written-requires-in-Publish-clause-place c =
    let commit = c.args.commit.now in
    let slots = slots_in c.args.running.now.slots in
    subst (λ (n : ℕ). (plan_at commit.plans n).at < length slots) (sym c.published.ensures)
    (omega (
      arith,
      publish_within _ _ _ commit c.requires.rooms.3 (publish_due commit (sym c.in-Publish.ensures)),
      lent_length slots c.args.shared.now.cells.items,
    ))

pub written-requires-in-Retire-clause-place : goal.written-requires-in-Retire-clause-place
written-requires-in-Retire-clause-place c =
    let commit = c.args.commit.now in
    let slots = slots_in c.args.running.now.slots in
    subst (λ (n : ℕ). (plan_at commit.plans n).at < length slots) (sym c.retired.ensures)
    (omega (
      arith,
      retire_within _ _ _ commit c.requires.rooms.3 (retire_due commit (sym c.in-Retire.ensures)),
      lent_length slots c.args.shared.now.cells.items,
    ))

pub returns-in-Append : goal.returns-in-Append
returns-in-Append c told is =
    let commit = c.args.commit.now in
    let slots = slots_in c.args.running.now.slots in
    let due = append_due commit (sym c.in-Append.ensures) in
    ap named.Append (c.written.ensures ∙ ap (λ (n : ℕ). slot_at slots (plan_at commit.plans n).at) c.appended.ensures
    ∙ slot_written slots commit told is commit.appended due)
    ∙ name_at step.Append commit told c.args.running.now (length c.args.shared.now.lists.items) c.args.actor c.in-Append.ensures

pub returns-in-Publish : goal.returns-in-Publish
returns-in-Publish c told is =
    let commit = c.args.commit.now in
    let slots = slots_in c.args.running.now.slots in
    let due = publish_due commit (sym c.in-Publish.ensures) in
    ap named.Publish (c.written-in-Publish.ensures ∙ ap (λ (n : ℕ). slot_at slots (plan_at commit.plans n).at) c.published.ensures
    ∙ slot_written slots commit told is commit.published due.some)
    ∙ name_at step.Publish commit told c.args.running.now (length c.args.shared.now.lists.items) c.args.actor c.in-Publish.ensures

pub returns-in-Retire : goal.returns-in-Retire
returns-in-Retire c told is =
    let commit = c.args.commit.now in
    let slots = slots_in c.args.running.now.slots in
    let due = retire_due commit (sym c.in-Retire.ensures) in
    ap named.Retire (c.written-in-Retire.ensures ∙ ap (λ (n : ℕ). slot_at slots (plan_at commit.plans n).at) c.retired.ensures
    ∙ slot_written slots commit told is commit.retired due.2)
    ∙ name_at step.Retire commit told c.args.running.now (length c.args.shared.now.lists.items) c.args.actor c.in-Retire.ensures
