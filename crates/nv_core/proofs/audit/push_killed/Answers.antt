use Rattle.std.proofs.Common.{◌<◌, ◌++◌, ◌∙◌, ap, ap₂, arith, length, length-take, map, sym, take}
use Rattle.std.specs.List.{flat_map}
use Rattle.std.proofs.lemmas.List.{get_or-take, get_or_default}
use Rattle.std.proofs.lemmas.List.Concat.{flat_map-cons}
use Rattle.nv_audit.proofs.Pushing.{step}
use Rattle.nv_calls.specs.Ready.{no_plan, plan_at}
use Rattle.nv_machine.specs.Reads.{slot_at}
use Rattle.nv_core.specs.Audited.{killed_by_plan, killed_part}
use Rattle.nv_core.specs.Shown.{slots_in}
use Rattle.nv_core.proofs.audit.push_killed.Goals as goal

pub loop-j-preserved : goal.loop-j-preserved
loop-j-preserved c =
    let commit = c.args.commit.now in
    let f = killed_by_plan (slots_in c.args.slots.now) in
    let first = take commit.published commit.plans in
    let j = c.loop-j.j in
    let plan = plan_at commit.plans j in
    let under : j < commit.published = omega (arith, c.loop-j-test.true, c.published-j-end.ensures) in
    let lt : j < length first = omega (arith, under, c.requires, length-take commit.published commit.plans) in
    let ino = c.slot_at-ino.ensures ∙ ap (slot_at (slots_in c.args.slots.now)) c.place_of.ensures in
    step (flat_map f) (λ x xs. f x) (λ x xs. flat_map-cons f x xs) first j plan lt
    (get_or_default commit.plans j no_plan plan (omega (arith, under, c.requires))
    ∙ sym (get_or-take commit.published commit.plans j plan under))
    c.loop-j.parts.items c.push_killed_of.new.parts.items _
    (c.in_ok-push_killed_of.ensures ∙ ap₂ (λ n ks. c.loop-j.parts.items ++ map (killed_part n) ks) ino c.killed_of.ensures)
    c.loop-j.invariant
