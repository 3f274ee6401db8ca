-- What the first difference tells, if there is one.
use Rattle.std.proofs.Common.{◌≡◌, true, false, Option, Some, None}
use Rattle.std.specs.Prelude.{MatchOption, is_some}
use Rattle.std.proofs.lemmas.Bool.{false≢true, true≢false}
use Rattle.nv_base.specs.declared.fault.MismatchPart.{MismatchPart}
use Rattle.nv_base.specs.declared.fault.MismatchPart.TheVariants.{Counts}
use Rattle.nv_audit.specs.Whole.{Agrees, Device, HasCounts, HasLists, HasRecords}

pub agrees_if_none : {X : Type 0} (A : Type 0) (B : X → Type 0) (o : Option X) → is_some o ≡ false → MatchOption o A B → A
agrees_if_none A B None e h = h
agrees_if_none A B (Some x) e h = absurd (true≢false e)

pub differs_if_some : {X : Type 0} (A C : Type 0) (B D : X → Type 0) (o : Option X) → is_some o ≡ true → ((x : X) → B x → D x)
    → MatchOption o A B → MatchOption o C D
differs_if_some A C B D None e f h = absurd (false≢true e)
differs_if_some A C B D (Some x) e f h = f x h

-- nothing was found in the cells, the records or the lists
pub all_agree : (d : Device) (found : Option MismatchPart) → is_some found ≡ false
    → MatchOption found (HasCounts d) (λ p. (p ≡ Counts) × (¬ HasCounts d)) → HasRecords d → HasLists d → Agrees d
all_agree d found none told records lists = record {
  counts = agrees_if_none (HasCounts d) (λ p. (p ≡ Counts) × (¬ HasCounts d)) found none told;
  records = records;
  lists = lists;
}

-- the same, of what is the same
pub told_alike : (A B : Type 0) (o : Option MismatchPart) → (A → B) → (B → A) → MatchOption o A (λ p. (p ≡ Counts) × (¬ A))
    → MatchOption o B (λ p. (p ≡ Counts) × (¬ B))
told_alike A B None to back told = to told
told_alike A B (Some p) to back told = (told.0, λ b. told.1 (back b))
