-- A change that is answered at its check has nothing to commit.
use Rattle.std.proofs.Common.{◌≡◌, ℕ, ◌||◌, ◌∙◌, inl, inr, Bool, true, false, not, List, Some, ap, refl}
use Rattle.std.specs.Prelude.{Ok, Err, is_some}
use Rattle.nv_alloc.specs.declared.hand.Hand.{Hand}
use Rattle.nv_cell.specs.Cell.{CellValue}
use Rattle.nv_calls.specs.AllCalls.{early, is_nothing, late, looked}
use Rattle.nv_calls.specs.Checked.{check_ends, same_looked}
use Rattle.nv_calls.specs.Nodes.{nodes_in}
use Rattle.nv_calls.specs.Prepared.{makes}
use Rattle.nv_calls.specs.Refusals.{Check}
use Rattle.nv_calls.specs.Updates.{blank_call}
use Rattle.nv_calls.specs.declared.check_end.CheckEnd.{CheckEnd}
use Rattle.nv_calls.specs.declared.check_end.CheckEnd.TheVariants as ends
use Rattle.nv_calls.specs.declared.looked.LookupResult.{LookupResult}
use Rattle.nv_calls.specs.declared.update.Update.{Update}
use Rattle.nv_sessions.specs.Changing.{EndsCheck, directories_there}
use Rattle.nv_sessions.proofs.Misnamed.{told_as_it_is}

has_nothing : (e l : Check) (same numbered nothing : Bool) → check_ends e same l numbered nothing ≡ Some ends.Answers
    → nothing ≡ true
has_nothing (Err f) l same numbered nothing h = cc
has_nothing (Ok passed) l false numbered nothing h = cc
has_nothing (Ok passed) (Err f) true numbered nothing h = cc
has_nothing (Ok passed) (Ok all) true false nothing h = cc
has_nothing (Ok passed) (Ok all) true true true h = refl
has_nothing (Ok passed) (Ok all) true true false h = cc

pub answers_nothing : (block : ℕ) (cells : List (ℕ × CellValue)) (before : LookupResult) (u : Update) (hand : Hand)
    → EndsCheck block cells before u hand ends.Answers → is_nothing (blank_call u) ≡ true
answers_nothing block cells before u hand (inl refused) = let e = refused.1 in cc
answers_nothing block cells before u hand (inr (inl refused)) = let e = refused.0 in cc
answers_nothing block cells before u hand (inr (inr told)) =
    let c = blank_call u in
    let nodes = nodes_in cells in
    let is = told_as_it_is (directories_there nodes u) told.0 ends.Answers told.1 (λ why wrong. cc) in
    has_nothing (early nodes c) (late block nodes before c) (same_looked (looked nodes c) before)
    (is_some hand.ino || not (makes u)) (is_nothing c) (told.2 ∙ ap (λ (end : CheckEnd). Some end) is)
