use Rattle.std.proofs.Common.{◌≡◌, ◌∙◌, ◌+◌, ◌-◌, ◌<◌, ◌≤◌, ◌++◌, ℕ, List, take, length, ap, arith, sym}
use Rattle.std.proofs.lemmas.List.{length-take-le, take-append-le}
use Rattle.std.proofs.Math.Seq.{take-append-add}
use Rattle.nv_mount_tool.proofs.stream.read_behind.Goals as goal

-- a front, and behind it the front of what was read
behind : (a b p : List ℕ) (h n : ℕ) → length a ≡ h → n ≤ length b → take (h + n) (a ++ (b ++ p)) ≡ a ++ take n b
behind a b p h n l le =
    ap (λ k. take (k + n) (a ++ (b ++ p))) (sym l) ∙ (take-append-add a (b ++ p) n ∙ ap (λ v. a ++ v) (take-append-le n b p le))

pub returns-in-Ok-clause-read : goal.returns-in-Ok-clause-read
returns-in-Ok-clause-read g c =
    let bytes = c.move_to_front.new.bytes in
    let waiting : ℕ = c.args.have - c.args.at in
    let fits : waiting ≤ length bytes = omega arith in
    let some : 0 < length c.read.new.buf = omega arith in (
      take c.in-Ok.count c.read.new.buf,
      sym c.in-Ok.ensures.bound.1,
      c.in-Ok.ensures.bytes.0,
      behind (take waiting bytes) c.read.new.buf _ waiting c.in-Ok.count (length-take-le waiting bytes fits) c.in-Ok.ensures.bound.0
          ∙ ap (λ v. v ++ take c.in-Ok.count c.read.new.buf) c.move_to_front.ensures.moved,
      λ none. c.in-Ok.ensures.bytes.1 none some,
    )
