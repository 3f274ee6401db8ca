use Rattle.std.proofs.Common.{ℕ, List, ◌++◌, ap, refl}
use Rattle.std.specs.Prelude.{codes}
use Rattle.nv_script.specs.Json.{quoted}
use Rattle.nv_script.specs.Texts.{handle_text}
use Rattle.nv_script.specs.Words.{escaped}
use Rattle.nv_trace.proofs.Pushes.{piece}
use Rattle.nv_trace.proofs.json_log.push_bind.Goals as goal

pub returns : goal.returns
returns c =
    let out = c.args.out.now.items in
    let name = quoted (escaped c.args.name.now) in
    let one = codes "\"item\":\"bind\",\"name\":" in
    let label = codes ",\"to\":\"" in
    let past_one = c.extend_from_slice.new.self.items in
    let past_name = c.push_name.new.out.items in
    let past_label = c.extend_from_slice-2.new.self.items in
    let past_handle = c.push_handle.new.out.items in
    let named = piece out past_one past_name one (quoted (escaped c.bytes.result.now)) name c.in_ok-extend_from_slice.ensures.items
    c.in_ok-push_name.ensures (ap (λ (bytes : List ℕ). quoted (escaped bytes)) c.bytes.ensures.value) in
    let labelled = piece out past_name past_label (one ++ name) label label named c.in_ok-extend_from_slice-2.ensures.items refl in
    let to = handle_text c.args.to.now in
    let told = piece out past_label past_handle (one ++ name ++ label) to to labelled c.in_ok-push_handle.ensures refl in
    piece out past_handle c.push.new.self.items (one ++ name ++ label ++ to) (codes "\"") (codes "\"") told c.in_ok-push.ensures.items refl
