use Rattle.std.proofs.Common.{◌≡◌, ◌∙◌, ℕ, ◌+◌, ◌++◌, List, [], ◌∷◌, Option, None, ap, arith, drop, length, replicate, slice_set}
use Rattle.std.specs.Prelude.{slice_index_or}
use Rattle.std.proofs.Math.ListN.{drop_of_length-le}
use Rattle.std.proofs.lemmas.List.{append-nil, at_drop_more, length-set}
use Rattle.nv_core.proofs.RestartedWorlds.{same_more}
use Rattle.nv_core.proofs.restart.free_owners.Goals as goal

pub loop-ino-preserved : goal.loop-ino-preserved
loop-ino-preserved c =
    let all = c.args.owners.now.items in
    let k = c.loop-ino.ino in
    let rest = drop (k + 1) all in
    record {
      items =
          ap (λ (xs : List (Option ℕ)). slice_set xs k None) c.loop-ino.invariant.items
          ∙ at_drop_more (λ (xs : List (Option ℕ)). slice_set (replicate k None ++ xs) k None) all k None
          (omega (arith, c.loop-ino.invariant.len, c.loop-ino-test.true))
          ∙ same_more k None (slice_index_or all k None) rest;
      len = length-set c.loop-ino.owners.items k None ∙ c.loop-ino.invariant.len;
    }

pub returns : goal.returns
returns c =
    let all = c.args.owners.now.items in
    let k = c.loop-ino.ino in
    let done : k ≡ length all = omega (arith, c.loop-ino.invariant.len, c.loop-ino-test.false) in
    c.loop-ino.invariant.items
    ∙ ap (λ (xs : List (Option ℕ)). replicate k None ++ xs) (drop_of_length-le all (omega (arith, done)))
    ∙ append-nil (replicate k None) ∙ ap (λ (n : ℕ). replicate n None) done
