use Rattle.std.proofs.Common.{◌≡◌, subst, sym, ◌∙◌}
use Rattle.nv_audit.specs.Lists.{blocks_had}
use Rattle.nv_audit.specs.Tree.{IsOnce}
use Rattle.nv_audit.proofs.sound.are_blocks_apart.Goals as goal

pub returns-clause-ok : goal.returns-clause-ok
returns-clause-ok c =
    let had : c.push_places.new.numbers.items ≡ blocks_had c.args.cell.now.state =
    rw c.new-numbers.ensures.items at c.in_ok-push_places.ensures ∙ c.part_blocks.ensures.numbers in (
      λ t. subst IsOnce had (c.are_all_apart.ensures.0 t),
      λ once. c.are_all_apart.ensures.1 (subst IsOnce (sym had) once),
    )
