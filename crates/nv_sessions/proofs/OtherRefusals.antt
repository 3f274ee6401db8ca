-- By which faults views, calls on snapshots and cleaners may be refused.
use Rattle.std.proofs.Common.{◌≡◌, ℕ, zero, suc, ◌<◌, ◌⊎◌, inl, inr, ◌∙◌, true, false, List, Option, Some, None, length, refl, ap, sym, subst, arith}
use Rattle.std.specs.Prelude.{Contains, IfErr, IsErrAnd, IsOk, MatchResult, Result, Ok, Err, ◌↔◌}
use Rattle.std.specs.Option.{IsSomeAnd}
use Rattle.std.proofs.lemmas.Bool.{cases_lt}
use Rattle.nv_base.specs.Memory.{out_of_memory}
use Rattle.nv_base.specs.Refusals.{FailsAsChecked, FailsEither}
use Rattle.nv_base.specs.declared.fault.MismatchPart.{MismatchPart}
use Rattle.nv_base.specs.declared.fault.Fault.{Fault}
use Rattle.nv_base.specs.declared.fault.Fault.TheVariants as fault
use Rattle.nv_base.specs.declared.limits.TheConstants.{NUMBER}
use Rattle.nv_base.specs.declared.numbers.Handle.{Handle}
use Rattle.nv_calls.specs.Nodes.{alone, copies_by, view_refusal}
use Rattle.nv_calls.specs.Refusals.{Check, kind_of, passes}
use Rattle.nv_calls.specs.declared.call.Call.TheVariants as call
use Rattle.nv_calls.specs.declared.view.View.{View}
use Rattle.nv_cell.specs.Cell.{CellValue}
use Rattle.nv_epoch.specs.SnapList.{IsSound, Snapshots}
use Rattle.nv_sessions.specs.Refusing.{IsMisfit, view_faults}
use Rattle.nv_sessions.proofs.Refusals.{Within, dir_within, file_within, look, node_within, refused_as}

-- ---- views

-- the refusals of each kind of view stand in its list
pub read_within : (bytes : ℕ → List ℕ) (ino : ℕ) (cell : CellValue) (file : Handle) (offset count : ℕ)
    → Within (view_faults (call.Read file offset count)) (view_refusal bytes ino cell (call.Read file offset count))
read_within bytes ino cell file offset count =
    file_within (view_faults (call.Read file offset count)) (kind_of (copies_by bytes (alone ino cell) file)) passes (0, omega arith, refl)
    (1, omega arith, refl) tt

pub stat_within : (bytes : ℕ → List ℕ) (ino : ℕ) (cell : CellValue) (handle : Handle)
    → Within (view_faults (call.Stat handle)) (view_refusal bytes ino cell (call.Stat handle))
stat_within bytes ino cell handle =
    node_within (view_faults (call.Stat handle)) (kind_of (copies_by bytes (alone ino cell) handle)) passes (0, omega arith, refl) tt

pub list_within : (bytes : ℕ → List ℕ) (ino : ℕ) (cell : CellValue) (dir : Handle)
    → Within (view_faults (call.List dir)) (view_refusal bytes ino cell (call.List dir))
list_within bytes ino cell dir =
    dir_within (view_faults (call.List dir)) (kind_of (copies_by bytes (alone ino cell) dir)) passes (0, omega arith, refl)
    (1, omega arith, refl) tt

pub lookup_within : (bytes : ℕ → List ℕ) (ino : ℕ) (cell : CellValue) (dir : Handle) (name : List ℕ)
    → Within (view_faults (call.Lookup dir name)) (view_refusal bytes ino cell (call.Lookup dir name))
lookup_within bytes ino cell dir name =
    look (copies_by bytes (alone ino cell)) dir name (view_faults (call.Lookup dir name)) (0, omega arith, refl) (1, omega arith, refl)
    (2, omega arith, refl) (3, omega arith, refl)

-- a refused view is refused as its check says, or for want of memory
pub grown_view : {A : Type 0} (faults : List Fault) (result : Result A Fault) (found : Result View Fault) (check : Check)
    → Within faults check → Contains faults out_of_memory → IfErr result (λ why. found ≡ Err why) → FailsAsChecked check found
    → IfErr result (λ why. Contains faults why ⊎ IsMisfit why)
grown_view faults (Ok seen) found check all memory is so = tt
grown_view faults (Err why) (Ok view) check all memory is so = cc
grown_view faults (Err why) (Err f) check all memory is (inl refused) =
    let same : f ≡ why = cc in inl (refused_as faults check why all (refused ∙ ap (λ (x : Fault). Err x) same))
grown_view faults (Err why) (Err f) check all memory is (inr wanted) =
    let no_room = wanted.1 in
    let same : out_of_memory ≡ why = cc in inl (subst (Contains faults) same memory)

pub plain_view : {A : Type 0} (faults : List Fault) (result : Result A Fault) (found : Result View Fault) (check : Check)
    (P : View → Type 0) → Within faults check → IfErr result (λ why. found ≡ Err why) → MatchResult found P (λ why. check ≡ Err why)
    → IfErr result (λ why. Contains faults why ⊎ IsMisfit why)
plain_view faults (Ok seen) found check P all is so = tt
plain_view faults (Err why) (Ok view) check P all is so = cc
plain_view faults (Err why) (Err f) check P all is so =
    let same : f ≡ why = cc in inl (refused_as faults check why all (so ∙ ap (λ (x : Fault). Err x) same))

-- ---- snapshots

pub making_fails : {A : Type 0} (result : Result A Fault) (list : Snapshots) → IsSound list
    → (IsOk result ↔ ((list.epoch < NUMBER) × (length list.living < list.most)))
    → ((result ≡ Err fault.EpochLimit) ↔ (list.epoch ≡ NUMBER))
    → ((result ≡ Err fault.TooManySnapshots) ↔ ((list.epoch < NUMBER) × (length list.living ≡ list.most)))
    → FailsEither fault.EpochLimit fault.TooManySnapshots result
making_fails (Ok s) list sound made late many = tt
making_fails (Err why) list sound made late many = elim (cases_lt list.epoch NUMBER) [
  | inl early ↦ elim (cases_lt (length list.living) list.most) [
    | inl few ↦ let no : false ≡ true = made.1 (early, few) in cc
    | inr full ↦ let is = many.1 (early, omega (arith, full, sound.fits)) in let same : why ≡ fault.TooManySnapshots = cc in inr same
  ]
  | inr last ↦ let is = late.1 (omega (arith, last, sound.epoch_fits)) in let same : why ≡ fault.EpochLimit = cc in inl same
]

pub drop_fails : {A : Type 0} (result : Result A Fault) (pins : Option ℕ) → (IsOk result ↔ (pins ≡ Some 0))
    → ((result ≡ Err fault.NoSnapshot) ↔ (pins ≡ None)) → ((result ≡ Err fault.Pinned) ↔ IsSomeAnd pins (λ n. 0 < n))
    → FailsEither fault.NoSnapshot fault.Pinned result
drop_fails (Ok done) pins dropped none pinned = tt
drop_fails (Err why) None dropped none pinned = let is = none.1 refl in let same : why ≡ fault.NoSnapshot = cc in inl same
drop_fails (Err why) (Some zero) dropped none pinned = let no : false ≡ true = dropped.1 refl in cc
drop_fails (Err why) (Some (suc n)) dropped none pinned =
    let is = pinned.1 (omega arith) in let same : why ≡ fault.Pinned = cc in inr same

-- ---- the lists

-- the exit of a `?`
pub exits : {A : Type 0} (Q : Fault → Type 0) (result : Result A Fault) (why : Fault) → IsErrAnd result (λ f. f ≡ why) → Q why
    → IfErr result Q
exits Q (Ok x) why is has = absurd is
exits Q (Err f) why is has = subst Q (sym is) has

pub exit_is : {A : Type 0} (result : Result A Fault) (why : Fault) → IsErrAnd result (λ f. f ≡ why) → result ≡ Err why
exit_is (Ok x) why is = absurd is
exit_is {A} (Err f) why is = ap (λ (g : Fault). let r : Result A Fault = Err g in r) is

pub one_of : (faults : List Fault) (why one other : Fault) → Contains faults one → Contains faults other → (why ≡ one) ⊎ (why ≡ other)
    → Contains faults why ⊎ IsMisfit why
one_of faults why one other has too (inl is) = inl (subst (Contains faults) (sym is) has)
one_of faults why one other has too (inr is) = inl (subst (Contains faults) (sym is) too)

-- a fault, or a part that does not fit
pub fault_or : (faults : List Fault) (why one : Fault) → Contains faults one → (why ≡ one) ⊎ IsMisfit why
    → Contains faults why ⊎ IsMisfit why
fault_or faults why one has (inl is) = inl (subst (Contains faults) (sym is) has)
fault_or faults why one has (inr misfit) = inr misfit

pub misfit_or : (faults : List Fault) (why one : Fault) (p : MismatchPart) → Contains faults one → (why ≡ one) ⊎ (why ≡ fault.Mismatch p)
    → Contains faults why ⊎ IsMisfit why
misfit_or faults why one p has is = fault_or faults why one has (elim is [ inl same ↦ inl same | inr wrong ↦ inr (p, wrong) ])

pub either_in : {A : Type 0} (faults : List Fault) (result : Result A Fault) (one other : Fault) → Contains faults one
    → Contains faults other → FailsEither one other result → IfErr result (λ why. Contains faults why ⊎ IsMisfit why)
either_in faults (Ok done) one other has too is = tt
either_in faults (Err why) one other has too (inl is) = inl (subst (Contains faults) (sym is) has)
either_in faults (Err why) one other has too (inr is) = inl (subst (Contains faults) (sym is) too)
