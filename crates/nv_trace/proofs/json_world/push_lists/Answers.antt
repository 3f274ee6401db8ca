use Rattle.std.proofs.Common.{◌∙◌, ◌<◌, ◌≤◌, ◌+◌, ℕ, ◌++◌, List, ap, append-nil, append_assoc, arith, drop, length, refl, sym}
use Rattle.std.proofs.lemmas.List.{drop_all, drop_more}
use Rattle.nv_alloc.specs.FreeList.{FreeBlocks}
use Rattle.nv_core.specs.Shown.{shared_of}
use Rattle.nv_machine.specs.World.{list_at, no_list}
use Rattle.nv_script.specs.Json.{comma_at, list_object, values_from}
use Rattle.nv_trace.proofs.Pushes.{piece}
use Rattle.nv_trace.proofs.json_world.push_lists.Goals as goal

pub loop-cpu-preserved : goal.loop-cpu-preserved
loop-cpu-preserved c =
    let lists = c.args.world.now.shared.lists.items in
    let n = c.loop-cpu.cpu in
    let before = c.loop-cpu.out.items in
    let there : n < length lists = omega (arith, c.loop-cpu-test.true, c.cpus-cpu-end.ensures) in
    let one = list_object n (list_at (shared_of c.args.world.now.shared) n) in
    let left = values_from list_object (n + 1) (drop (n + 1) lists) in
    let pushed = piece before c.push_comma.new.out.items c.push_list_at.new.out.items (comma_at n) one one c.in_ok-push_comma.ensures
    c.in_ok-push_list_at.ensures refl in
    ap (λ (bytes : List ℕ). bytes ++ left) pushed ∙ append_assoc before (comma_at n ++ one) left
    ∙ ap (λ (all : List FreeBlocks). before ++ values_from list_object n all) (sym (drop_more lists n no_list there)) ∙ c.loop-cpu.invariant

pub returns : goal.returns
returns c =
    let lists = c.args.world.now.shared.lists.items in
    let n = c.loop-cpu.cpu in
    let before = c.loop-cpu.out.items in
    let past : length lists ≤ n = omega (arith, c.loop-cpu-test.false, c.cpus-cpu-end.ensures) in
    sym (append-nil before) ∙ sym (ap (λ (all : List FreeBlocks). before ++ values_from list_object n all) (drop_all n lists past))
    ∙ c.loop-cpu.invariant
