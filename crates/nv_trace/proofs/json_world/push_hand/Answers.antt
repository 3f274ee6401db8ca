use Rattle.std.proofs.Common.{◌≡◌, ◌∙◌, ℕ, ◌++◌, List, Option, ap, length, refl, sym}
use Rattle.std.specs.Prelude.{codes, decimal}
use Rattle.nv_alloc.specs.Block.{BlockValue, numbers_of}
use Rattle.nv_script.specs.Json.{array, numbers_array, or_null}
use Rattle.nv_script.specs.JsonWorld.{all_killed}
use Rattle.nv_trace.proofs.JsonWorlds.{same_number}
use Rattle.nv_trace.proofs.Pushes.{labelled_piece, piece}
use Rattle.nv_trace.proofs.json_world.push_hand.Goals as goal

pub returns : goal.returns
returns c h blocks pages chain ino killed =
    let out = c.args.out.now.items in
    let numbers : List BlockValue → List ℕ = λ bs. array decimal (numbers_of bs) in
    let label_data = codes "{\"data\":" in
    let label_log = codes ",\"log\":" in
    let label_chain = codes ",\"chain\":" in
    let label_ino = codes ",\"ino\":" in
    let data_is : array decimal c.as_slice.result.now ≡ numbers_array h.blocks =
    ap (λ (ns : List ℕ). array decimal ns) (c.as_slice.ensures.value ∙ c.in_ok-numbers.ensures)
    ∙ ap numbers (c.iter.ensures ∙ sym blocks) in
    let log_is : array decimal c.as_slice-2.result.now ≡ numbers_array h.pages =
    ap (λ (ns : List ℕ). array decimal ns) (c.as_slice-2.ensures.value ∙ c.in_ok-numbers-2.ensures)
    ∙ ap numbers (c.iter-2.ensures ∙ sym pages) in
    let chain_is : array decimal c.as_slice-3.result.now ≡ numbers_array h.chain =
    ap (λ (ns : List ℕ). array decimal ns) (c.as_slice-3.ensures.value ∙ c.in_ok-numbers-3.ensures)
    ∙ ap numbers (c.iter-3.ensures ∙ sym chain) in
    let ino_is : c.map.result ≡ h.ino =
    same_number c.ino.result c.map.result c.map.ensures.cases ∙ c.ino.ensures ∙ sym ino in
    let with_data = label_data ++ numbers_array h.blocks in
    let with_log = with_data ++ label_log ++ numbers_array h.pages in
    let with_chain = with_log ++ label_chain ++ numbers_array h.chain in
    let with_ino = with_chain ++ label_ino ++ or_null h.ino in
    let blocked = piece out c.extend_from_slice.new.self.items c.push_array.new.out.items label_data (array decimal c.as_slice.result.now)
    (numbers_array h.blocks) c.in_ok-extend_from_slice.ensures.items c.in_ok-push_array.ensures data_is in
    let before_log = piece out c.push_array.new.out.items c.extend_from_slice-2.new.self.items with_data label_log label_log blocked
    c.in_ok-extend_from_slice-2.ensures.items refl in
    let log = piece out c.extend_from_slice-2.new.self.items c.push_array-2.new.out.items (with_data ++ label_log)
    (array decimal c.as_slice-2.result.now) (numbers_array h.pages) before_log c.in_ok-push_array-2.ensures log_is in
    let before_chain = piece out c.push_array-2.new.out.items c.extend_from_slice-3.new.self.items with_log label_chain label_chain log
    c.in_ok-extend_from_slice-3.ensures.items refl in
    let chained = piece out c.extend_from_slice-3.new.self.items c.push_array-3.new.out.items (with_log ++ label_chain)
    (array decimal c.as_slice-3.result.now) (numbers_array h.chain) before_chain c.in_ok-push_array-3.ensures chain_is in
    let before_ino = piece out c.push_array-3.new.out.items c.extend_from_slice-4.new.self.items with_chain label_ino label_ino chained
    c.in_ok-extend_from_slice-4.ensures.items refl in
    let numbered = piece out c.extend_from_slice-4.new.self.items c.push_or_null.new.out.items (with_chain ++ label_ino)
    (or_null c.map.result) (or_null h.ino) before_ino c.in_ok-push_or_null.ensures (ap (λ (o : Option ℕ). or_null o) ino_is) in
    let counted = labelled_piece out c.push_or_null.new.out.items c.push_labelled.new.out.items with_ino (codes ",\"killed\":")
    c.args.killed (length (all_killed h.killed)) numbered c.in_ok-push_labelled.ensures killed in
    piece out c.push_labelled.new.out.items c.push.new.self.items
    (with_ino ++ codes ",\"killed\":" ++ decimal (length (all_killed h.killed))) (codes "}") (codes "}") counted c.in_ok-push.ensures.items refl
