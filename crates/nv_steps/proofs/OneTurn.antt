-- A call of one turn on the book is a run.
use Rattle.std.proofs.Common.{◌≢◌, ℕ, Bool, [], ◌∷◌, None, refl}
use Rattle.std.specs.Prelude.{Result}
use Rattle.nv_base.specs.declared.fault.Fault.{Fault}
use Rattle.nv_base.specs.declared.geometry.GeometryNumbers.{GeometryNumbers}
use Rattle.nv_book.specs.Book.{BookState}
use Rattle.nv_calls.specs.declared.answer.Answer.{Answer}
use Rattle.nv_machine.specs.World.{HandState, Running}
use Rattle.nv_steps.specs.OnBook.{on_book}
use Rattle.nv_steps.specs.Parts.{BookIs, HolderIs, IsThere, TheBook, TheHolder}
use Rattle.nv_steps.specs.Runs.{IsRun}
use Rattle.nv_steps.specs.Turns.{IsEnd}
use Rattle.nv_steps.proofs.States.{some_state}

places_apart : TheHolder ≢ TheBook
places_apart is = cc

-- some state has this book, and its commit lock free
pub book_there : (numbers : GeometryNumbers) (book : BookState) → IsThere numbers (BookIs book ∷ HolderIs None ∷ [])
book_there numbers book =
    some_state numbers (BookIs book ∷ HolderIs None ∷ []) ((places_apart, tt), (tt, tt)) (tt, (tt, tt))

pub one_turn : (numbers : GeometryNumbers) (actor : ℕ) (granted : Bool) (r : Running) (h after : HandState) (old new : BookState)
    (result : Result Answer Fault) → IsEnd numbers actor (on_book r h granted old new) result after → IsRun numbers actor h r result after
one_turn numbers actor granted r h after old new result ends = record {
  turns = [];
  last = on_book r h granted old new;
  leads = (refl, refl);
  fits = (tt, (tt, tt));
  there = book_there numbers old;
  ends = ends;
}
