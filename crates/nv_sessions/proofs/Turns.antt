-- The turn of a seat's takings once a call is refused.
use Rattle.std.proofs.Common.{◌≡◌, ◌∙◌, ℕ, zero, suc, Bool, List, [], ◌∷◌, ap, arith, inl, inr, refl, sym}
use Rattle.std.specs.Prelude.{Contains, IfErr, IsErrAnd, Result, Ok, Err}
use Rattle.std.specs.List.{AllByRecursion}
use Rattle.nv_base.specs.Memory.{out_of_memory}
use Rattle.nv_base.specs.declared.fault.Fault.{Fault}
use Rattle.nv_base.specs.declared.fault.Fault.TheVariants as fault
use Rattle.nv_base.specs.declared.fault.MismatchPart.{MismatchPart}
use Rattle.nv_base.specs.declared.fault.MismatchPart.TheVariants as part
use Rattle.nv_book.specs.Book.{BookValue}
use Rattle.nv_calls.specs.Ready.{ReadyValue}
use Rattle.nv_calls.specs.declared.update.Update.{Update}
use Rattle.nv_calls.specs.declared.update.Update.TheVariants as update
use Rattle.nv_cell.specs.Cell.{CellValue}
use Rattle.nv_sessions.specs.Asking.{IsNoShortage, turned_by, turned_in}
use Rattle.nv_sessions.specs.Committing.{RefusesCommit}
use Rattle.nv_sessions.specs.Refusing.{MayRefuseCheck, check_faults}

-- the exit of a `?`
pub turned_out : {A : Type 0} (result : Result A Fault) (why : Fault) (old new : Bool) → IsErrAnd result (λ f. f ≡ why)
    → new ≡ turned_by why old → new ≡ turned_in result old
turned_out (Ok done) why old new is turned = absurd is
turned_out (Err f) why old new is turned = turned ∙ ap (λ (other : Fault). turned_by other old) (sym is)

-- ---- which faults leave it

pub memory_keeps : (why : Fault) → why ≡ out_of_memory → IsNoShortage why
memory_keeps why is = λ turn. ap (λ (f : Fault). turned_by f turn) (sym is)

pub misfit_keeps : (why : Fault) (p : MismatchPart) → why ≡ fault.Mismatch p → IsNoShortage why
misfit_keeps why p is = λ turn. ap (λ (f : Fault). turned_by f turn) (sym is)

pub commit_keeps : (book : BookValue) (cells : List (ℕ × CellValue)) (ready : ReadyValue) (cpu : ℕ) (why : Fault)
    → RefusesCommit book cells ready cpu why → IsNoShortage why
commit_keeps book cells ready cpu why (inl limit) = λ turn. ap (λ (f : Fault). turned_by f turn) (sym limit.0)
commit_keeps book cells ready cpu why (inr (inl journal)) = misfit_keeps why part.Records journal.0
commit_keeps book cells ready cpu why (inr (inr (inl take))) = misfit_keeps why part.Index take.0
commit_keeps book cells ready cpu why (inr (inr (inr room))) = memory_keeps why room.0

kept_in : (faults : List Fault) → AllByRecursion IsNoShortage faults → (why : Fault) → Contains faults why → IsNoShortage why
kept_in [] all why (k, lt, is) = absurd (omega (arith, lt))
kept_in (f ∷ faults) all why (zero, lt, is) = λ turn. all.0 turn ∙ ap (λ (other : Fault). turned_by other turn) is
kept_in (f ∷ faults) all why (suc k, lt, is) = kept_in faults all.1 why (k, omega (arith, lt), is)

-- no check wants blocks
kept_by_checks : (u : Update) → AllByRecursion IsNoShortage (check_faults u)
kept_by_checks (update.Create dir name mode) = (λ t. refl, (λ t. refl, (λ t. refl, (λ t. refl, (λ t. refl, tt)))))
kept_by_checks (update.Mkdir dir name mode) = (λ t. refl, (λ t. refl, (λ t. refl, (λ t. refl, (λ t. refl, tt)))))
kept_by_checks (update.Write file offset count) = (λ t. refl, (λ t. refl, (λ t. refl, (λ t. refl, tt))))
kept_by_checks (update.Size file size) = (λ t. refl, (λ t. refl, (λ t. refl, tt)))
kept_by_checks (update.Mode handle mode) = (λ t. refl, tt)
kept_by_checks (update.Unlink dir name) = (λ t. refl, (λ t. refl, (λ t. refl, (λ t. refl, (λ t. refl, tt)))))
kept_by_checks (update.Rmdir dir name) = (λ t. refl, (λ t. refl, (λ t. refl, (λ t. refl, (λ t. refl, tt)))))
kept_by_checks (update.Rename from old to new) = (λ t. refl, (λ t. refl, (λ t. refl, (λ t. refl, (λ t. refl, (λ t. refl, tt))))))

pub check_keeps : (u : Update) (why : Fault) → MayRefuseCheck u why → IsNoShortage why
check_keeps u why (inl has) = kept_in (check_faults u) (kept_by_checks u) why has
check_keeps u why (inr (p, is)) = misfit_keeps why p is

-- a call that is refused so behind its taking
pub still_kept : {A E : Type 0} (result : Result A (Fault × E)) (old new : Bool) → new ≡ old
    → IfErr result (λ refused. IsNoShortage refused.0) → IfErr result (λ refused. new ≡ turned_by refused.0 old)
still_kept (Ok done) old new is none = tt
still_kept (Err refused) old new is none = is ∙ none old
