use Rattle.std.proofs.Common.{◌∙◌, ◌++◌, ap}
use Rattle.std.specs.Prelude.{codes}
use Rattle.nv_core.specs.NextSteps.{name_in}
use Rattle.nv_core.specs.Shown.{shared_of}
use Rattle.nv_machine.specs.World.{Shared, actor_at}
use Rattle.nv_script.specs.JsonWorld.{hand_object, lent_object}
use Rattle.nv_trace.specs.Traced.{lent_named}
use Rattle.nv_trace.proofs.AnswerLines.{on_ok}
use Rattle.nv_trace.proofs.Pushes.{behind}
use Rattle.nv_trace.proofs.events.push_made.Goals as goal

pub returns : goal.returns
returns c =
    let out = c.args.out.now.items in
    let parts = lent_named (name_in c.args.name) in
    let label = codes ",\"hand\":" in
    let lent = codes ",\"lent\":" in
    on_ok c.push_lent.result
    (λ pushed m shows.
    let hand = hand_object (actor_at m c.args.actor).hand in
    behind out (label ++ hand ++ lent) (lent_object parts (shared_of c.args.world.now.shared))
    (behind out (label ++ hand) lent (behind out label hand c.in_ok-extend_from_slice.ensures.items (c.in_ok-push_hand_of.ensures m shows))
    c.in_ok-extend_from_slice-2.ensures.items) pushed
    ∙ ap (λ (shared : Shared). out ++ (label ++ hand ++ lent ++ lent_object parts shared)) shows.shared)
    c.push_lent.ensures
