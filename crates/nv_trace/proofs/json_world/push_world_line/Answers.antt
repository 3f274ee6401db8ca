use Rattle.std.proofs.Common.{◌∙◌, ℕ, ◌++◌, List, ap, append_assoc, refl, sym}
use Rattle.std.specs.Prelude.{codes, decimal}
use Rattle.nv_script.specs.JsonWorld.{world_object}
use Rattle.nv_trace.proofs.AnswerLines.{on_pushed}
use Rattle.nv_trace.proofs.Pushes.{piece}
use Rattle.nv_trace.proofs.json_world.push_world_line.Goals as goal

pub returns : goal.returns
returns c =
    let out = c.args.out.now.items in
    let line = codes "{\"line\":" ++ decimal c.args.number in
    let label = codes ",\"world\":" in
    let labelled = piece out c.push_labelled.new.out.items c.extend_from_slice.new.self.items line label label c.in_ok-push_labelled.ensures
    c.in_ok-extend_from_slice.ensures.items refl in
    on_pushed c.extend_from_slice-2.result c.extend_from_slice-2.new.self.items (c.push_world.new.out.items ++ codes "}\n")
    c.push_world.new.out.items c.extend_from_slice-2.ensures.items
    (λ pushed m shows.
    let world = world_object m in
    let told = piece out c.extend_from_slice.new.self.items c.push_world.new.out.items (line ++ label) world world labelled
    (c.in_ok-push_world.ensures m shows) refl in
    piece out c.push_world.new.out.items c.extend_from_slice-2.new.self.items (line ++ label ++ world) (codes "}\n") (codes "}\n") told
    pushed refl
    ∙ ap (λ (bytes : List ℕ). out ++ bytes) (sym (append_assoc (line ++ label ++ world) (codes "}") (codes "\n"))))
