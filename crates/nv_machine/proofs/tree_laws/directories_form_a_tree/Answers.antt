use Rattle.nv_machine.proofs.CopiesAll.{all_whole}
use Rattle.nv_machine.proofs.DirectoryLaws.{all_numbered, all_trees}
use Rattle.nv_machine.proofs.tree_laws.directories_form_a_tree.Goals as goal

pub returns-clause-tree : goal.returns-clause-tree
returns-clause-tree c = all_trees

pub returns-clause-numbers : goal.returns-clause-numbers
returns-clause-numbers c = all_numbered

pub returns-clause-copies : goal.returns-clause-copies
returns-clause-copies c g start records events snapshot is_start lives =
    (all_whole g start records is_start events snapshot lives).one_tree
