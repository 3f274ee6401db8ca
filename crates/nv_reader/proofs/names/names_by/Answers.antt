use Rattle.std.proofs.Common.{◌≡◌, ◌+◌, ◌-◌, ◌<◌, ℕ, take, drop, length, reverse, arith, ap, sym, ◌∙◌}
use Rattle.std.proofs.lemmas.List.{reverse-reverse}
use Rattle.nv_entry.specs.declared.item.Entry.{Entry}
use Rattle.nv_entry.specs.declared.item.Item.TheVariants.{Gone}
use Rattle.nv_entry.specs.Index.{names_of}
use Rattle.nv_reader.proofs.Logs.{names_behind, split_at}
use Rattle.nv_reader.proofs.names.names_by.Goals as goal
use Rattle.nv_reader.proofs.names.names_by.Goals.{else-loop-i-test, then-loop-i-test+in-Gone}

pub returns : goal.returns
returns c = elim c.loop-i-test.branch [
  | else-loop-i-test w ↦
      let log = c.args.log.now in
      let none : c.loop-i.i ≡ 0 = omega (arith, w.loop-i-test.false) in
      let all : names_of (drop c.loop-i.i log) ≡ names_of log = ap (λ (n : ℕ). names_of (drop n log)) none in
      c.from_vec.ensures ∙ c.reverse.ensures.items ∙ ap reverse c.loop-i.invariant.names ∙ reverse-reverse (names_of (drop c.loop-i.i log))
      ∙ all
  | then-loop-i-test+in-Gone w ↦
      let log = c.args.log.now in
      let i : ℕ = c.loop-i.i - 1 in
      let next : i + 1 ≡ c.loop-i.i = omega (arith, w.loop-i-test.true) in
      let e = w.index-log-i.result in
      let lt : i < length log = omega (arith, w.loop-i-test.true, c.loop-i.auto.i) in
      let gone : e.item ≡ Gone = ap (λ (x : Entry). x.item) w.index-log-i.is ∙ w.in-Gone.is in
      let behind : names_of log ≡ names_of (drop (i + 1) log) =
      ap names_of (split_at log i e lt w.index-log-i.is) ∙ names_behind (take i log) (drop (i + 1) log) e gone in
      let all : names_of (drop c.loop-i.i log) ≡ names_of log = ap (λ (n : ℕ). names_of (drop n log)) (sym next) ∙ sym behind in
      c.from_vec.ensures ∙ c.reverse.ensures.items ∙ ap reverse c.loop-i.invariant.names ∙ reverse-reverse (names_of (drop c.loop-i.i log))
      ∙ all
]
