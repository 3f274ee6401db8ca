-- A turn on lent parts leaves what the table does not lend to its step.
use Rattle.std.proofs.Common.{◌≡◌, ◌≢◌, ◌∙◌, ◌⊎◌, ℕ, ◌==◌, Bool, true, false, List, [], ◌∷◌, Option, Some, None, ap, arith, inl, inr, length, refl, subst, sym}
use Rattle.std.specs.Prelude.{Result}
use Rattle.std.specs.List.{AllByRecursion}
use Rattle.std.proofs.lemmas.Bool.{eq-eqb, eqb-true, true≢false}
use Rattle.nv_base.specs.declared.fault.Fault.{Fault}
use Rattle.nv_base.specs.declared.geometry.GeometryNumbers.{GeometryNumbers}
use Rattle.nv_calls.specs.declared.answer.Answer.{Answer}
use Rattle.nv_machine.specs.Frame.{Frame, IsFramed, Lent, Stays, lent}
use Rattle.nv_machine.specs.World.{HandState, Running, Shared}
use Rattle.nv_machine.proofs.StepFrames.{framed}
use Rattle.nv_steps.specs.Lent.{IsLentOrSame}
use Rattle.nv_steps.specs.Parts.{AreApart, BookIs, CellIs, Has, HasPart, HolderIs, IsOf, IsPartOf, ListIs, OwnerIs, Part, PoolIs, with_parts}
use Rattle.nv_steps.specs.Turns.{IsEnd, IsMove, Made}
use Rattle.nv_steps.proofs.States.{has_parts}

-- ---- turns

pub moves_framed : (numbers : GeometryNumbers) (actor : ℕ) (t : Made) (h : HandState) (r : Running) (s : Shared)
    → IsMove numbers actor t h r → IsOf numbers s → Has s t.found
    → Frame (lent t.running.next numbers.cpus actor t.running) s (with_parts t.left s)
moves_framed numbers actor t h r s moves is has =
    subst (λ (cpus : ℕ). Frame (lent t.running.next cpus actor t.running) s (with_parts t.left s)) is.lists
    (subst (IsFramed (lent t.running.next (length s.lists) actor t.running) s) (moves s is has)
    (framed t.running.next numbers.block actor t.granted s t.hand t.running))

pub ends_framed : (numbers : GeometryNumbers) (actor : ℕ) (t : Made) (result : Result Answer Fault) (h : HandState) (s : Shared)
    → IsEnd numbers actor t result h → IsOf numbers s → Has s t.found
    → Frame (lent t.running.next numbers.cpus actor t.running) s (with_parts t.left s)
ends_framed numbers actor t result h s ends is has =
    subst (λ (cpus : ℕ). Frame (lent t.running.next cpus actor t.running) s (with_parts t.left s)) is.lists
    (subst (IsFramed (lent t.running.next (length s.lists) actor t.running) s) (ends s is has)
    (framed t.running.next numbers.block actor t.granted s t.hand t.running))

-- ---- parts

lent_or_not : (lent : Option ℕ) (n : ℕ) → (lent ≡ Some n) ⊎ (lent ≢ Some n)
lent_or_not None n = inr (λ is. cc)
lent_or_not (Some m) n = go (m == n) refl where
  go : (b : Bool) → (m == n) ≡ b → (Some m ≡ Some n) ⊎ (Some m ≢ Some n)
  go true e = inl (ap Some (eqb-true m n e))
  go false e = inr (λ is. let same : m ≡ n = cc in true≢false (sym (eq-eqb m n same) ∙ e))

stays_or_lent : (lent : Bool) (claim : Type 0) → Stays lent claim → (lent ≡ true) ⊎ claim
stays_or_lent true claim stays = inl refl
stays_or_lent false claim stays = inr stays

or_same : (A B C : Type 0) → A ⊎ B → (B → C) → A ⊎ C
or_same A B C (inl a) f = inl a
or_same A B C (inr b) f = inr (f b)

part_left : (l : Lent) (s t : Shared) → Frame l s t → (part : Part) → HasPart t part → IsLentOrSame l s part
part_left l s t frame (ListIs cpu list) has =
    or_same (l.list ≡ Some cpu) (l.list ≢ Some cpu) (HasPart s (ListIs cpu list)) (lent_or_not l.list cpu)
    (λ apart. (omega (arith, has.0, frame.cpus), sym (frame.lists cpu apart) ∙ has.1))
part_left l s t frame (PoolIs pool) has =
    or_same (l.pool ≡ true) (t.pool ≡ s.pool) (s.pool ≡ pool) (stays_or_lent l.pool (t.pool ≡ s.pool) frame.pool) (λ same. sym same ∙ has)
part_left l s t frame (CellIs ino cell) has =
    or_same (l.cell ≡ Some ino) (l.cell ≢ Some ino) (HasPart s (CellIs ino cell)) (lent_or_not l.cell ino)
    (λ apart. (omega (arith, has.0, frame.slots), sym (frame.cells ino apart) ∙ has.1))
part_left l s t frame (OwnerIs ino owner) has =
    or_same (l.lock ≡ Some ino) (l.lock ≢ Some ino) (HasPart s (OwnerIs ino owner)) (lent_or_not l.lock ino)
    (λ apart. (omega (arith, has.0, frame.locks), sym (frame.owners ino apart) ∙ has.1))
part_left l s t frame (BookIs book) has =
    or_same (l.book ≡ true) (t.book ≡ s.book) (s.book ≡ book) (stays_or_lent l.book (t.book ≡ s.book) frame.book) (λ same. sym same ∙ has)
part_left l s t frame (HolderIs holder) has =
    or_same (l.commit_lock ≡ true) (t.holder ≡ s.holder) (s.holder ≡ holder)
    (stays_or_lent l.commit_lock (t.holder ≡ s.holder) frame.holder) (λ same. sym same ∙ has)

all_left : (l : Lent) (s t : Shared) → Frame l s t → (parts : List Part) → Has t parts → AllByRecursion (IsLentOrSame l s) parts
all_left l s t frame [] has = tt
all_left l s t frame (part ∷ parts) has = (part_left l s t frame part has.0, all_left l s t frame parts has.1)

pub parts_left : (numbers : GeometryNumbers) (l : Lent) (s : Shared) (left : List Part) → IsOf numbers s → AreApart left
    → AllByRecursion (IsPartOf numbers) left → Frame l s (with_parts left s) → AllByRecursion (IsLentOrSame l s) left
parts_left numbers l s left is apart are frame =
    all_left l s (with_parts left s) frame left (has_parts numbers left s apart are is).0
