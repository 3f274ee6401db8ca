use Rattle.std.proofs.Common.{◌≡◌, ◌∙◌, ◌++◌, List, ℕ, ap}
use Rattle.std.specs.Prelude.{codes}
use Rattle.std.specs.List.{flat_map}
use Rattle.nv_script.specs.Play.{nodes_at}
use Rattle.nv_script.specs.Texts.{node_line, refused_line}
use Rattle.nv_trace.proofs.AnswerLines.{on_ok, on_pushed}
use Rattle.nv_trace.proofs.JsonActs.{tree_listed, tree_refused}
use Rattle.nv_trace.proofs.json_act.push_tree.Goals as goal

pub returns-in_ok-push_nodes-in-Ok : goal.returns-in_ok-push_nodes-in-Ok
returns-in_ok-push_nodes-in-Ok c =
    let tree = c.in-Ok.tree in
    let slice = c.as_slice.result.now in
    let nodes : c.push_nodes.new.out.items ≡ flat_map node_line tree =
    c.in_ok-push_nodes-in-Ok.ensures ∙ ap (λ (t : List ℕ). t ++ flat_map node_line slice) c.requires
    ∙ ap (flat_map node_line) c.as_slice.ensures in
    on_pushed c.extend_from_slice.result c.extend_from_slice.new.self.items (c.push_nodes.new.out.items ++ codes "end\n")
    c.push_nodes.new.out.items c.extend_from_slice.ensures.items
    (λ pushed m shows. tree_listed (nodes_at m c.args.snapshot) tree c.extend_from_slice.new.self.items (c.in-Ok.ensures m shows)
    (pushed ∙ ap (λ (t : List ℕ). t ++ codes "end\n") nodes))

pub returns-in-Err : goal.returns-in-Err
returns-in-Err c =
    on_ok c.push_refused.result
    (λ wrote m shows. tree_refused (nodes_at m c.args.snapshot) c.in-Err.fault c.push_refused.new.out.items (c.in-Err.ensures m shows)
    (wrote ∙ ap (λ (t : List ℕ). t ++ refused_line c.in-Err.fault) c.requires))
    c.push_refused.ensures
