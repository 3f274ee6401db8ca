use Rattle.nv_example_store.proofs.StoreLaws.{put_got, put_others, removed_none, removed_others}
use Rattle.nv_example_store.proofs.laws.what_was_put_is_got.Goals as goal

pub returns-clause-put : goal.returns-clause-put
returns-clause-put c = put_got

pub returns-clause-others : goal.returns-clause-others
returns-clause-others c = put_others

pub returns-clause-removed : goal.returns-clause-removed
returns-clause-removed c = removed_none

pub returns-clause-left : goal.returns-clause-left
returns-clause-left c = removed_others
