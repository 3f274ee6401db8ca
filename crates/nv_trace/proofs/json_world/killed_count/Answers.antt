use Rattle.std.proofs.Common.{◌≡◌, ◌∙◌, List, [], ap, length, subst, sym}
use Rattle.std.specs.Prelude.{MatchOption}
use Rattle.nv_cell.specs.declared.killed.KilledPart.{KilledPart}
use Rattle.nv_core.specs.Shown.{killed_in}
use Rattle.nv_machine.specs.World.{actor_at}
use Rattle.nv_script.specs.JsonWorld.{all_killed}
use Rattle.nv_trace.proofs.json_world.killed_count.Goals as goal

pub returns-in_ok-killed_parts-in-Some : goal.returns-in_ok-killed_parts-in-Some
returns-in_ok-killed_parts-in-Some c m shows =
    let killed = (actor_at m c.args.actor).hand.killed in
    let is =
    subst (λ o. MatchOption o (killed ≡ []) (λ commit. killed ≡ killed_in commit.now)) c.in-Some.is (c.commit_of.ensures m shows) in
    ap (λ (parts : List KilledPart). length parts) (c.as_slice.ensures.value ∙ c.in_ok-killed_parts-in-Some.ensures)
    ∙ ap (λ (ks : List (List KilledPart)). length (all_killed ks)) (sym is)

pub returns-in-None : goal.returns-in-None
returns-in-None c m shows =
    let killed = (actor_at m c.args.actor).hand.killed in
    let is =
    subst (λ o. MatchOption o (killed ≡ []) (λ commit. killed ≡ killed_in commit.now)) c.in-None.is (c.commit_of.ensures m shows) in
    ap (λ (ks : List (List KilledPart)). length (all_killed ks)) (sym is)
