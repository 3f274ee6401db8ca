use Rattle.std.proofs.Common.{◌∙◌, ℕ, List, Bor, Option, ap}
use Rattle.std.specs.List.{list_any}
use Rattle.nv_base.specs.Names.{same_name}
use Rattle.nv_clean.specs.Cover.{is_name, is_of_name}
use Rattle.nv_clean.proofs.Covering.{inserted}
use Rattle.nv_clean.proofs.cover.add_name.Goals as goal

pub returns-in_ok-insert : goal.returns-in_ok-insert
returns-in_ok-insert c = λ name.
    c.in_ok-insert.ensures.updates.0 (record { ref_ptr = (0, 0); now = name })
    ∙ inserted _ (is_of_name c.args.item.now name) (list_any (λ (k : Bor (List ℕ)). same_name name k.now) c.args.names.now.keys)
    (ap (λ (o : Option (List ℕ)). is_name o name) c.in-Some.ensures)
