use Rattle.std.proofs.Common.{◌≡◌, ◌∙◌, ◌<◌, ℕ, arith, get_or, length, ltb, rules, sym}
use Rattle.std.proofs.lemmas.Bool.Decides.{nat_tests}
use Rattle.std.proofs.lemmas.List.{get_or_default}
use Rattle.std.proofs.lemmas.List.Sorted.{IsPartitionPoint-from_clause, IsPartitionedBy-ltb}
use Rattle.std.proofs.lemmas.Map.Keys.{ge_from_not_lt}
use Rattle.nv_cell.proofs.Holding.{climbs, tells, unheld_past}
use Rattle.nv_cell.proofs.mark.is_held.Goals as goal

pub returns-then-count-first : goal.returns-then-count-first
returns-then-count-first c =
    let living = c.args.living.now in
    let birth = c.args.birth in
    let first = c.partition_point-first.result in
    let halves = IsPartitionedBy-ltb (λ (s : ℕ). s) living birth (climbs living c.requires) in
    let point =
    IsPartitionPoint-from_clause (λ (s : ℕ). ltb s birth) living first c.partition_point-first.ensures.partitioned halves
    (λ a r f' called. search rules) in
    sym (unheld_past birth c.args.death first living c.requires point (omega (arith, c.if-count-first.true)))

pub returns : goal.returns
returns c =
    let living = c.args.living.now in
    let birth = c.args.birth in
    let death = c.args.death in
    let first = c.partition_point-first.result in
    let s = c.index-living-first.result in
    let halves = IsPartitionedBy-ltb (λ (s : ℕ). s) living birth (climbs living c.requires) in
    let point =
    IsPartitionPoint-from_clause (λ (s : ℕ). ltb s birth) living first c.partition_point-first.ensures.partitioned halves
    (λ a r f' called. search rules) in
    let within : first < length living = omega (arith, c.if-count-first.false) in
    let at : s ≡ get_or living first 0 = c.index-living-first.is ∙ get_or_default living first s 0 within in
    tells birth death first living c.requires point c.lt.result within
    (λ q. let test = sym c.lt.ensures ∙ q in let early : s < death = grind (arith, nat_tests, test) in omega (arith, early, at))
    (λ q. let late = ge_from_not_lt s death (sym c.lt.ensures ∙ q) in omega (arith, late, at))
