use Rattle.std.proofs.Common.{rules}
use Rattle.nv_work.proofs.Crews.{all_zip-maps, all_zip-same, both_ok, of_jobs}
use Rattle.nv_work.proofs.crew.play_all.Goals as goal

pub returns-clause-texts : goal.returns-clause-texts
returns-clause-texts g c =
    both_ok c.map_vec-played.result _ _ _ c.map_vec-played.ensures.len c.map_vec-played.ensures.each
    (λ v len each. all_zip-maps _ _ _ c.args.jobs.items v.items (of_jobs _ _ _ _ _ (λ j r met. search rules) (search rules) each))

pub returns-clause-seats : goal.returns-clause-seats
returns-clause-seats g c =
    both_ok c.map_vec-played.result _ _ _ c.map_vec-played.ensures.len c.map_vec-played.ensures.each
    (λ v len each. all_zip-same _ _ c.args.jobs.items v.items (of_jobs _ _ _ _ _ (λ j r met. search rules) (search rules) each))
