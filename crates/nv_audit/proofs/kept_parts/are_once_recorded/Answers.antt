use Rattle.std.proofs.Common.{◌≡◌, ℕ, ◌+◌, ◌<◌, Bool, true, false, List, Option, length, ap, sym, ◌∙◌, subst, slice_index_or}
use Rattle.std.specs.Prelude.{IfSome}
use Rattle.std.proofs.lemmas.Bool.{false≢true}
use Rattle.nv_cell.specs.Cell.{log_of}
use Rattle.nv_cell.specs.Named.{number_named}
use Rattle.nv_audit.specs.KeptParts.{is_left, taken_from}
use Rattle.nv_audit.specs.Pending.{part_of}
use Rattle.nv_audit.proofs.TakenAway.{AreTaken, taken_all, taken_more, taken_none, taken_once, taken_twice}
use Rattle.nv_audit.proofs.kept_parts.are_once_recorded.Goals as goal

pub loop-record-init : goal.loop-record-init
loop-record-init c = (
  c.requires.parts.firsts,
  taken_none (log_of c.args.cell.now.state) c.args.cell.now.state.marks c.args.records.now c.args.parts.left.items
      c.requires.left,
)

pub take_away-requires : goal.take_away-requires
take_away-requires c =
    subst (λ (k : ℕ). IfSome c.number_of-number.result (λ n. n < k)) (sym c.loop-record.invariant.1.len)
    c.number_of-number.ensures.within

pub loop-record-preserved : goal.loop-record-preserved
loop-record-preserved c =
    let log = log_of c.args.cell.now.state in
    let marks = c.args.cell.now.state.marks in
    let d = c.record-item.result in
    let left = c.loop-record.parts.left.items in
    let named : c.number_of-number.result ≡ number_named log (part_of d) =
    c.number_of-number.ensures.number ∙ ap (number_named log) c.part_of.ensures in
    let within : IfSome (number_named log (part_of d)) (λ m. m < length left) =
    subst (λ (o : Option ℕ). IfSome o (λ m. m < length left)) named
    (subst (λ (k : ℕ). IfSome c.number_of-number.result (λ n. n < k)) (sym c.loop-record.invariant.1.len)
    c.number_of-number.ensures.within) in
    let there : is_left (number_named log (part_of d)) left ≡ true =
    ap (λ (o : Option ℕ). is_left o left) (sym named) ∙ sym c.take_away.ensures.there ∙ c.if-not-take_away.false in
    let more = taken_more log marks c.args.records.now c.loop-record.record-index d left c.loop-record-test.true c.record-item.is within there
    c.loop-record.invariant.1 in (
      c.loop-record.invariant.0,
      subst (AreTaken log marks c.args.records.now (c.loop-record.record-index + 1))
          (sym (c.take_away.ensures.left ∙ ap (λ (o : Option ℕ). taken_from o left) named)) more,
    )

pub returns-then-not-take_away : goal.returns-then-not-take_away
returns-then-not-take_away c =
    let log = log_of c.args.cell.now.state in
    let marks = c.args.cell.now.state.marks in
    let d = c.record-item.result in
    let left = c.loop-record.parts.left.items in
    let named : c.number_of-number.result ≡ number_named log (part_of d) =
    c.number_of-number.ensures.number ∙ ap (number_named log) c.part_of.ensures in
    let gone : is_left (number_named log (part_of d)) left ≡ false =
    ap (λ (o : Option ℕ). is_left o left) (sym named) ∙ sym c.take_away.ensures.there ∙ c.if-not-take_away.true in (
      λ no. absurd (false≢true no),
      λ once. absurd (taken_twice log marks c.args.records.now c.loop-record.record-index d left c.loop-record-test.true c.record-item.is gone
          c.loop-record.invariant.1 once),
    )

pub returns : goal.returns
returns c =
    let log = log_of c.args.cell.now.state in
    let marks = c.args.cell.now.state.marks in
    let left = c.loop-record.parts.left.items in
    let none = λ (l : List Bool). (n : ℕ) → slice_index_or l n false ≡ false in (
      λ t. taken_all log marks c.args.records.now c.loop-record.record-index left c.loop-record-test.false c.loop-record.invariant.1
          (subst none c.deref.ensures.value (c.are_none_left.ensures.0 t)),
      λ once. c.are_none_left.ensures.1 (subst none (sym c.deref.ensures.value)
          (taken_once log marks c.args.records.now c.loop-record.record-index left c.loop-record-test.false c.loop-record.invariant.1 once)),
    )
