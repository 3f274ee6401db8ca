use Rattle.std.proofs.Common.{◌≡◌, ◌∙◌, ◌+◌, ◌-◌, ◌<◌, ◌++◌, ℕ, List, drop, take, length, ap, arith, sym}
use Rattle.std.proofs.lemmas.Grind.{common_steps}
use Rattle.std.proofs.lemmas.List.{take_at}
use Rattle.nv_mount_tool.proofs.stream.Stream.read.Goals as goal

-- what stands in a buffer whose items are all written anew
items_back : (n : ℕ) (new old : List ℕ) → n ≡ length new → take n (new ++ drop (length new) old) ≡ new
items_back n new old h = take_at new (drop (length new) old) n (sym h)

less_nothing : (n : ℕ) → n - 0 ≡ n
less_nothing n = omega arith

pub returns-in-Ok-clause-ok : goal.returns-in-Ok-clause-ok
returns-in-Ok-clause-ok g c =
    let waiting : ℕ = c.self.inside.have - c.self.inside.at in
    let read = c.in-Ok.ensures.read in
    let new = c.read_behind-read.new.bytes in
    let some : 0 < length read.0 = grind (arith, common_steps) in
    let all : c.self.inside.bytes.len ≡ length new = omega (arith, c.read_behind-read.ensures.length, c.as_mut_slice.ensures.len, ap length c.as_mut_slice.ensures.value) in (
      read.0,
      some,
      read.2,
      ap (λ n. take n (take c.self.inside.bytes.len (new ++ drop (length new) c.self.inside.bytes.items))) (less_nothing (waiting + c.in-Ok.count))
          ∙ (ap (take (waiting + c.in-Ok.count)) (items_back c.self.inside.bytes.len new c.self.inside.bytes.items all)
          ∙ (read.3 ∙ ap (λ v. v ++ read.0) (ap (λ v. take waiting (drop c.self.inside.at v)) c.as_mut_slice.ensures.value ∙ c.self.view_is))),
    )
