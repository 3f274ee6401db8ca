use Rattle.std.proofs.Common.{◌≡◌, ◌∙◌, ◌+◌, ◌-◌, ◌≤◌, ℕ, List, drop, take, length, ap, arith, sym}
use Rattle.std.proofs.lemmas.List.{drop-drop, drop-take, length-take}
use Rattle.nv_mount_tool.proofs.stream.Stream.skip.Goals as goal

skipped : (items now : List ℕ) (at have count : ℕ) → take (have - at) (drop at items) ≡ now → count ≤ length now
    → take (have - (at + count)) (drop (at + count) items) ≡ drop count now
skipped items now at have count is fits =
    let most = length-take (have - at) (drop at items) in
    let within : count ≤ have - at = omega (arith, ap length is) in
    let rest : count + (have - (at + count)) ≡ have - at = omega arith in
    ap (take (have - (at + count))) (sym (drop-drop count at items))
    ∙ (sym (drop-take count (have - (at + count)) (drop at items))
    ∙ (ap (λ n. drop count (take n (drop at items))) rest ∙ ap (drop count) is))

pub returns : goal.returns
returns c = skipped c.self.inside.bytes.items c.args.self.now c.self.inside.at c.self.inside.have c.args.count c.self.view_is c.requires
