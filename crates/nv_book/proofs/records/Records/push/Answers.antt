use Rattle.std.proofs.Common.{◌++◌, ◌∷◌, [], ap, ◌∙◌}
use Rattle.nv_book.specs.Runs.{series}
use Rattle.nv_book.proofs.Series.{put-records}
use Rattle.nv_book.proofs.records.Records.push.Goals as goal

pub returns-clause-records : goal.returns-clause-records
unfolding series
returns-clause-records c = rw c.add.ensures.list (put-records c.self.inside.runs _ ∙ ap (λ rs. rs ++ c.args.last ∷ []) c.self.view_is)
