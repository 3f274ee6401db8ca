use Rattle.std.proofs.Common.{◌≡◌, [], arith, ap, map, refl, take, length, get_or, List, ℕ, ◌∙◌}
use Rattle.std.proofs.lemmas.List.{take_all}
use Rattle.std.specs.Char.{to_ascii_lowercase}
use Rattle.std.specs.Prelude.{nat_eq}
use denote.Ref.{Bor}
use Rattle.strsim.specs.Edits.{levenshtein_row}
use Rattle.nv_hints.specs.Nearest.{edits}
use Rattle.nv_hints.proofs.Nearer.{IsFewest, IsNearest-nearer, IsNearest-farther, texts-more}
use Rattle.nv_hints.proofs.nearest.nearest.Goals as goal
use Rattle.nv_hints.proofs.nearest.nearest.Goals.{then-is_nearer, else-is_nearer}

pub loop-name-init : goal.loop-name-init
unfolding IsFewest
loop-name-init c = record { nearest = λ k d none. absurd (omega arith); fewest = refl }

pub loop-name-preserved : goal.loop-name-preserved
unfolding IsFewest
loop-name-preserved c =
    let name : Bor (List ℕ) = get_or c.args.names.now c.loop-name.name-index (record { ref_ptr = (0, 0); now = [] }) in
    let more = texts-more c.args.names.now c.loop-name.name-index (record { ref_ptr = (0, 0); now = [] }) c.loop-name-test.true in
    let from : c.as_slice-from.result.now ≡ map to_ascii_lowercase c.args.word.now = c.as_slice-from.ensures.value ∙ c.in_ok-lowered.ensures in
    let taken : c.in_ok-edits.edits ≡ edits c.args.word.now name.now =
    c.in_ok-edits.ensures.value ∙ ap (λ (word : List ℕ). levenshtein_row nat_eq word name.now (length name.now)) from in
    let names = map (λ (n : Bor (List ℕ)). n.now) (take c.loop-name.name-index c.args.names.now) in
    let before = c.loop-name.invariant in
    elim c.if-is_nearer.branch [
      | then-is_nearer w ↦
          let nearer = c.is_nearer.ensures.nearer.0 w.if-is_nearer.true in
          record {
            nearest = rw (w.found-is, more) (IsNearest-nearer c.args.word.now names name.now _ c.loop-name.fewest before.nearest before.fewest
                (omega (arith, taken, nearer.0)) (omega (arith, taken, nearer.1)));
            fewest = rw (w.found-is, w.fewest-is) taken;
          }
      | else-is_nearer w ↦ record {
        nearest = rw (w.found-is, more) (IsNearest-farther c.args.word.now names name.now _ c.loop-name.fewest before.nearest before.fewest
            (λ fewer near. let nearer = c.is_nearer.ensures.nearer.1 (omega (arith, taken, fewer), omega (arith, taken, near)) in
            absurd (cc (nearer, w.if-is_nearer.false))) c.is_nearer.ensures.length);
        fewest = rw (w.found-is, w.fewest-is) before.fewest;
      }
    ]

pub returns : goal.returns
returns c = rw (← take_all c.loop-name.name-index c.args.names.now c.loop-name-test.false) c.loop-name.invariant.nearest
