use Rattle.std.proofs.Common.{◌≡◌, refl}
use Rattle.nv_core.specs.declared.next.SnapshotOrCleanerStep.TheVariants as on
use Rattle.nv_core.specs.declared.next.Next.TheVariants as next
use Rattle.nv_core.proofs.Cleanings.{rest_held}
use Rattle.nv_core.proofs.FreshTurns.{fresh_shown, holds_fresh}
use Rattle.nv_core.proofs.kinds.clean.clean.Goals as goal

pub take_fresh-requires-clause-slots : goal.take_fresh-requires-clause-slots
take_fresh-requires-clause-slots c =
    let value = c.replace.ensures.value in let is = c.in-SnapshotOrCleaner-Fresh.is in
    let step = c.in-SnapshotOrCleaner-Fresh.field-0-is in let fresh = c.in-SnapshotOrCleaner-Fresh.fresh-is in
    let at : c.args.running.now.next ≡ next.SnapshotOrCleaner (on.Fresh c.in-SnapshotOrCleaner-Fresh.fresh) = cc in
    holds_fresh c.args.shared.now c.args.hand.now c.args.running.now c.in-SnapshotOrCleaner-Fresh.fresh at c.requires.can.own

pub returns-in-SnapshotOrCleaner-Fresh-clause-turn : goal.returns-in-SnapshotOrCleaner-Fresh-clause-turn
returns-in-SnapshotOrCleaner-Fresh-clause-turn c told granted =
    let value = c.replace.ensures.value in let is = c.in-SnapshotOrCleaner-Fresh.is in
    let step = c.in-SnapshotOrCleaner-Fresh.field-0-is in let fresh = c.in-SnapshotOrCleaner-Fresh.fresh-is in
    let at : c.args.running.now.next ≡ next.SnapshotOrCleaner (on.Fresh c.in-SnapshotOrCleaner-Fresh.fresh) = cc in
    fresh_shown told c.args.running.now _ c.in-SnapshotOrCleaner-Fresh.fresh _ c.args.actor granted _ _ _ at (c.take_fresh.ensures.turn told)

pub returns-in-SnapshotOrCleaner-Unlink-clause-rest : goal.returns-in-SnapshotOrCleaner-Unlink-clause-rest
returns-in-SnapshotOrCleaner-Unlink-clause-rest c =
    let value = c.replace.ensures.value in let is = c.in-SnapshotOrCleaner-Unlink.is in
    let step = c.in-SnapshotOrCleaner-Unlink.field-0-is in let plan = c.in-SnapshotOrCleaner-Unlink.plan-is in
    let at : c.args.running.now.next ≡ next.SnapshotOrCleaner (on.Unlink c.in-SnapshotOrCleaner-Unlink.plan) = cc in
    rest_held c.args.shared.now _ c.args.hand.now c.args.running.now c.args.actor (on.Unlink c.in-SnapshotOrCleaner-Unlink.plan) at
    c.requires.can.own (λ slots. refl) (c.unlink.ensures.rest c.args.actor)

pub returns-in-SnapshotOrCleaner-Compact-clause-rest : goal.returns-in-SnapshotOrCleaner-Compact-clause-rest
returns-in-SnapshotOrCleaner-Compact-clause-rest c =
    let value = c.replace.ensures.value in let is = c.in-SnapshotOrCleaner-Compact.is in
    let step = c.in-SnapshotOrCleaner-Compact.field-0-is in let plan = c.in-SnapshotOrCleaner-Compact.plan-is in
    let at : c.args.running.now.next ≡ next.SnapshotOrCleaner (on.Compact c.in-SnapshotOrCleaner-Compact.plan) = cc in
    rest_held c.args.shared.now _ c.args.hand.now c.args.running.now c.args.actor (on.Compact c.in-SnapshotOrCleaner-Compact.plan) at
    c.requires.can.own (λ slots. refl) (c.compact.ensures.rest c.args.actor)
