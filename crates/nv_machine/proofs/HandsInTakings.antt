-- What the hand of an actor has from the check to the enter.
use Rattle.std.proofs.Common.{Bool, List, None, Some, [], ap, arith, false, length, length-append, refl, subst, sym, take, true, ℕ, ◌++◌, ◌+◌, ◌<◌, ◌^◌, ◌∙◌, ◌∷◌, ◌≡◌}
use Rattle.std.specs.Prelude.{Err, Ok}
use Rattle.std.specs.List.{AllByRecursion}
use Rattle.std.proofs.lemmas.Bool.{false≢true}
use Rattle.std.proofs.lemmas.List.{length-map}
use Rattle.nv_alloc.specs.Block.{BlockValue, number_of, numbers_of}
use Rattle.nv_base.specs.declared.geometry.GeometryNumbers.{GeometryNumbers}
use Rattle.nv_calls.specs.AllCalls.{blocks_wanted, early, effect, looked, refusal}
use Rattle.nv_calls.specs.Refusals.{Check as Tests}
use Rattle.nv_machine.specs.Hands.{BeginsAnew, FitsFile, HasFitting, HasPlanned, HasTakenNone, makes_inode, planned_blocks}
use Rattle.nv_machine.specs.Kinds.{blocks_in, check_ending, with_bytes}
use Rattle.nv_calls.proofs.FillPages.{filled_numbers}
use Rattle.nv_calls.specs.FillPages.{filled, fresh_pages}
use Rattle.nv_machine.specs.Reads.{copies, has_last_page, is_written, plan_by, taken_by, written_slots}
use Rattle.nv_machine.specs.Sequence.{beginning}
use Rattle.nv_machine.specs.Step.{ending_at, is_numbered, made_in, same_looked}
use Rattle.nv_machine.specs.World.{Enter, HandState, BoundAnew, Ready, Running, Shared}
use Rattle.nv_machine.proofs.Fitting.{checked, plan_few, plan_first, plan_within, planned_few, wants_fitting}
use Rattle.nv_machine.proofs.HandsAfterSteps.{is_empty, same_nothing}
use Rattle.nv_machine.proofs.Homes.{AreBelow}
use Rattle.nv_machine.proofs.Lists.{rising_filter}
use Rattle.nv_machine.proofs.LocksHeld.{Before}

-- ---- the check's own

-- a call that is overtaken has looked names up
overtaken_looked : (early : Tests) (same : Bool) (tests : Tests) (numbered : Bool) (changes : List _)
    → check_ending early same tests numbered changes ≡ Some BoundAnew → same ≡ false
overtaken_looked (Err fault) same tests numbered changes h = cc
overtaken_looked (Ok passed) false tests numbered changes h = refl
overtaken_looked (Ok passed) true (Err fault) numbered changes h = cc
overtaken_looked (Ok passed) true (Ok all) false changes h = cc
overtaken_looked (Ok passed) true (Ok all) true [] h = cc
overtaken_looked (Ok passed) true (Ok all) true (change ∷ changes) h = cc

or_true : (b : Bool) → (b ≡ true → ⊥) → b ≡ false
or_true true h = absurd (h refl)
or_true false h = refl

pub check_overtaken : (block : ℕ) (s : Shared) (h : HandState) (r : Running) → HasTakenNone h r
    → ending_at block s h r ≡ Some BoundAnew → BeginsAnew h r
check_overtaken block s h r none is =
    let bound_anew = overtaken_looked (early (copies s) r.call) (same_looked (looked (copies s) r.call) r.looked)
    (refusal block (copies s) r.call) (is_numbered (beginning r.call) h.ino)
    (effect (copies s) (made_in s h.ino r.made) r.call) is in
    let looks = or_true (makes_inode (beginning r.call))
    (λ makes. false≢true (sym bound_anew ∙ same_nothing (copies s) r.call r.looked makes (none.looked makes))) in
    record { empty = is_empty h none.blocks (none.number looks) none.killed; looks = looks }

pub check_fits : (g : GeometryNumbers) (s : Shared) (h : HandState) (r : Running) → 0 < g.block → HasTakenNone h r
    → ending_at g.block s h r ≡ None
    → HasFitting g.block h r (length h.blocks + blocks_wanted g.block (copies s) (has_last_page g.block s r.call) r.call)
check_fits g s h r some none is =
    let is_checked = checked (early (copies s) r.call) (same_looked (looked (copies s) r.call) r.looked)
    (refusal g.block (copies s) r.call) (is_numbered (beginning r.call) h.ino)
    (effect (copies s) (made_in s h.ino r.made) r.call) is in
    let wanted = blocks_wanted g.block (copies s) (has_last_page g.block s r.call) r.call in
    let fits = wants_fitting g.block (copies s) (made_in s h.ino r.made) (has_last_page g.block s r.call) r.call some
    is_checked.passed is_checked.some in
    let empty = ap length none.blocks in
    let same : wanted ≡ length h.blocks + wanted =
    omega (arith, empty, length-append (h.blocks ++ h.pages) h.chain, length-append h.blocks h.pages) in
    record { killed = none.killed; fits = subst (λ (n : ℕ). FitsFile g.block r.call n) same fits }

-- ---- ready

numbers_below : (many : ℕ) (bs : List BlockValue) → AreBelow many bs → AllByRecursion (λ n. n < many) (numbers_of bs)
numbers_below many [] h = tt
numbers_below many (b ∷ bs) h = (h.0, numbers_below many bs h.1)

below_front : (many : ℕ) (xs ys : List BlockValue) → AreBelow many (xs ++ ys) → AreBelow many xs
below_front many [] ys h = tt
below_front many (x ∷ xs) ys h = (h.0, below_front many xs ys h.1)

pub first_below : (many : ℕ) (h : HandState) → AreBelow many (blocks_in h) → AreBelow many h.blocks
first_below many h below = below_front many h.blocks h.pages (below_front many (h.blocks ++ h.pages) h.chain below)

pub ready_planned : (g : GeometryNumbers) (a : ℕ) (s : Shared) (h : HandState) (r : Running) → HasFitting g.block h r (length h.blocks)
    → g.blocks < 2 ^ 64 → AreBelow g.blocks h.blocks → Before a s Ready r
    → HasPlanned (with_bytes g.block s r h) (record r { plan = plan_by g.block s h r; next = Enter })
    (written_slots (record r { plan = plan_by g.block s h r }))
ready_planned g a s h r fits small below b =
    let plan = plan_by g.block s h r in
    let few = plan_few g.block (copies s) (taken_by g.block s h r) r.call (numbers_of h.blocks) refl in
    let rising = planned_few plan (written_slots (record r { plan = plan })) (rising_filter (is_written plan) r.slots b.are.rising) in
    let same = ap length (filled_numbers (fresh_pages g.block (copies s) r.call) h.blocks) in
    record {
      killed = fits.killed;
      enough = omega (
        arith,
        few,
        rising,
        same,
        length-map h.blocks number_of,
        length-map (filled (fresh_pages g.block (copies s) r.call) h.blocks) number_of,
      );
      first = subst (λ (l : List ℕ). take (length (planned_blocks plan (written_slots (record r { plan = plan })))) l
          ≡ planned_blocks plan (written_slots (record r { plan = plan })))
          (sym (filled_numbers (fresh_pages g.block (copies s) r.call) h.blocks))
          (plan_first g.block g.blocks (copies s) (taken_by g.block s h r) r.call (numbers_of h.blocks)
          (written_slots (record r { plan = plan })) refl small (numbers_below g.blocks h.blocks below)
          (rising_filter (is_written plan) r.slots b.are.rising));
      within = plan_within g.block (copies s) (taken_by g.block s h r) r.call (numbers_of h.blocks) refl
          (subst (λ (n : ℕ). FitsFile g.block r.call n) (sym (length-map h.blocks number_of)) fits.fits);
    }
