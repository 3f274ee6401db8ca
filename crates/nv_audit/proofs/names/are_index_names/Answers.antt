use Rattle.std.proofs.Common.{ℕ, List, [], arith, sym, ◌∙◌}
use Rattle.std.proofs.lemmas.Bool.{false≢true}
use Rattle.nv_nindex.specs.declared.binding.Binding.{Binding}
use Rattle.nv_audit.proofs.names.are_index_names.Goals as goal

none : List ℕ × Binding
none = ([], record { to = record { ino = 0; generation = 0 }; entry = record { commit = 0; place = 0 } })

pub returns-then-not-is_name_at : goal.returns-then-not-is_name_at
returns-then-not-is_name_at c = (
  λ no. absurd (false≢true no),
  λ all. absurd (false≢true (sym c.if-not-is_name_at.true
      ∙ (c.is_name_at.ensures none).1 (all c.loop-place.place none
      (omega (arith, c.loop-place-test.true, c.len-place-end.ensures.value))))),
)
