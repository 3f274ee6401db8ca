-- Dialogues whose calls only read, and those that change the world by their last call alone.
use Rattle.std.proofs.Common.{◌≡◌, ◌∙◌, Bool, true, false, inl, inr, Result, Ok, Err, refl, sym}
use Rattle.nv_base.specs.declared.fault.Fault.{Fault}
use Rattle.nv_calls.specs.declared.answer.Answer.{Answer}
use Rattle.nv_calls.specs.declared.call.Call.{Call}
use Rattle.nv_calls.specs.declared.call.Call.TheVariants as calls
use Rattle.nv_effects.specs.Suits.{Suits}
use Rattle.nv_effects.proofs.Effects.{calls_have_effects}
use Rattle.nv_effects.proofs.Fair.{answer_fair}
use Rattle.nv_mount_beside.specs.declared.refusal.Refusal.{Refusal}
use Rattle.nv_mounted.specs.Dialogues.{Asks, Dialogue, Ends, Grows, GrowsOr, IsHad, ◌>>=◌}
use Rattle.nv_serial.specs.OneCall.{serial_call}
use Rattle.nv_serial.specs.Serial.{Serial, told}
use Rattle.nv_mount_laws.specs.Refused.{ChangesNothing}
use Rattle.nv_mount_laws.specs.World.{Calls}

-- ---- calls that only read

abbrev pub only_reads : Call → Bool
only_reads (calls.Read file offset count) = true
only_reads (calls.Stat handle) = true
only_reads (calls.List dir) = true
only_reads (calls.Lookup dir name) = true
only_reads other = false

no_step : {P : Type 0} → true ≡ false → P
no_step e = cc

read_same : (old new : Serial) (c : Call) (a : Answer) → only_reads c ≡ true → serial_call old 0 c
    ≡ told a new → new ≡ old
read_same old new (calls.Read file offset count) a reads is =
    (calls_have_effects old new 0 (calls.Read file offset count) a refl is).1.same refl
read_same old new (calls.Stat handle) a reads is =
    (calls_have_effects old new 0 (calls.Stat handle) a refl is).1.same refl
read_same old new (calls.List dir) a reads is =
    (calls_have_effects old new 0 (calls.List dir) a refl is).1.same refl
read_same old new (calls.Lookup dir name) a reads is =
    (calls_have_effects old new 0 (calls.Lookup dir name) a refl is).1.same refl
read_same old new other a reads is = no_step (sym reads)

-- a call that was refused, or only reads, has changed nothing
pub refusal_same : (old new : Serial) (c : Call) (why : Fault) → Calls old c (Err why) new → new
    ≡ old
refusal_same old new c why called = called.answered.1

pub reading_same : (old new : Serial) (c : Call) (result : Result Answer Fault) → only_reads c
    ≡ true → Calls old c result new → new ≡ old
reading_same old new c (Ok a) reads called = read_same old new c a reads called.answered
reading_same old new c (Err why) reads called = refusal_same old new c why called

-- ---- dialogues

-- all its calls only read
abbrev pub OnlyReads : {A : Type 0} → Dialogue A → Type 0
OnlyReads (Ends is_told) = Unit {0}
OnlyReads (Grows rest) = OnlyReads rest
OnlyReads (GrowsOr refused rest) = OnlyReads refused × OnlyReads rest
OnlyReads (Asks call rest) = (only_reads call ≡ true)
    × ((answer : Result Answer Fault) → OnlyReads (rest answer))

-- it is over, with a value
abbrev pub Succeeds : {A : Type 0} → Dialogue A → Type 0
Succeeds (Ends (Ok a)) = Unit {0}
Succeeds other = ⊥

-- whatever its calls are answered, only the last one that is not refused changes anything, and then
-- it isn't refused
abbrev pub ChangesLast : {A : Type 0} → Dialogue A → Type 0
ChangesLast (Ends is_told) = Unit {0}
ChangesLast (Grows rest) = ChangesLast rest
ChangesLast (GrowsOr refused rest) = ChangesLast refused × ChangesLast rest
ChangesLast (Asks call rest) =
    ((why : Fault) → ChangesLast (rest (Err why)))
    × ((a : Answer) → Suits call a → only_reads call ≡ true → ChangesLast (rest (Ok a)))
    × ((a : Answer) → Suits call a → only_reads call ≡ false → Succeeds (rest (Ok a)))

pub reads_same : {A : Type 0} (d : Dialogue A) → OnlyReads d → ChangesNothing d
reads_same (Ends is_told) reads old new end had = had.1
reads_same (Grows rest) reads old new end (inl had) = had.1
reads_same (Grows rest) reads old new end (inr had) = reads_same rest reads old new end had
reads_same (GrowsOr refused rest) reads old new end (inl had) =
    reads_same refused reads.0 old new end had
reads_same (GrowsOr refused rest) reads old new end (inr had) =
    reads_same rest reads.1 old new end had
reads_same (Asks call rest) reads old new end had =
    reads_same (rest had.0) (reads.1 had.0) had.1 new end had.3
    ∙ reading_same old had.1 call had.0 reads.0 had.2

no_refusal : {A : Type 0} (d : Dialogue A) (old new : Serial) (refusal : Refusal) → Succeeds d
    → IsHad Calls d old (Err refusal) new → ⊥
no_refusal (Ends (Ok a)) old new refusal good had = let e = had.0 in cc
no_refusal (Ends (Err why)) old new refusal good had = good
no_refusal (Grows rest) old new refusal good had = good
no_refusal (GrowsOr refused rest) old new refusal good had = good
no_refusal (Asks call rest) old new refusal good had = good

-- A DIALOGUE THAT CHANGES THE WORLD BY ITS LAST CALL ALONE has changed nothing where it is refused
pub refused_same : {A : Type 0} (d : Dialogue A) → ChangesLast d
    → (old new : Serial) (refusal : Refusal)
    → IsHad Calls d old (Err refusal) new → new ≡ old
refused_same (Ends is_told) last old new refusal had = had.1
refused_same (Grows rest) last old new refusal (inl had) = had.1
refused_same (Grows rest) last old new refusal (inr had) =
    refused_same rest last old new refusal had
refused_same (GrowsOr refused rest) last old new refusal (inl had) =
    refused_same refused last.0 old new refusal had
refused_same (GrowsOr refused rest) last old new refusal (inr had) =
    refused_same rest last.1 old new refusal had
refused_same (Asks call rest) last old new refusal (Err why, between, called, had) =
    refused_same (rest (Err why)) (last.0 why) between new refusal had
    ∙ refusal_same old between call why called
refused_same (Asks call rest) last old new refusal (Ok a, between, called, had) =
    go (only_reads call) refl (λ next. refused_same (rest (Ok a)) next between new refusal had)
  where
    suits : Suits call a
    suits = answer_fair old between 0 call a called.answered

    go : (reads : Bool) → only_reads call ≡ reads → (ChangesLast (rest (Ok a)) → new ≡ between)
        → new ≡ old
    go true is later = later (last.1 a suits is) ∙ reading_same old between call (Ok a) is called
    go false is later = absurd (no_refusal (rest (Ok a)) between new refusal (last.2 a suits is)
        had)

-- ---- one behind the other

pub both_read : {A B : Type 0} (d : Dialogue A) (next : A → Dialogue B) → OnlyReads d
    → ((a : A) → OnlyReads (next a))
    → OnlyReads (d >>= next)
unfolding ◌>>=◌
both_read (Ends (Ok a)) next first then = then a
both_read (Ends (Err why)) next first then = tt
both_read (Grows rest) next first then = both_read rest next first then
both_read (GrowsOr refused rest) next first then =
    (both_read refused next first.0 then, both_read rest next first.1 then)
both_read (Asks call rest) next first then = (
  first.0,
  λ answer. both_read (rest answer) next
      (first.1 answer) then,
)

-- it reads, and then changes the world by its last call alone
pub reads_first : {A B : Type 0} (d : Dialogue A) (next : A → Dialogue B) → OnlyReads d
    → ((a : A) → ChangesLast (next a))
    → ChangesLast (d >>= next)
unfolding ◌>>=◌
reads_first (Ends (Ok a)) next first then = then a
reads_first (Ends (Err why)) next first then = tt
reads_first (Grows rest) next first then = reads_first rest next first then
reads_first (GrowsOr refused rest) next first then =
    (reads_first refused next first.0 then, reads_first rest next first.1 then)
reads_first (Asks call rest) next first then = (
  λ why. reads_first (rest (Err why)) next (first.1 (Err why)) then,
  λ a suits reads. reads_first (rest (Ok a)) next (first.1 (Ok a)) then,
  λ a suits changes. no_step (sym first.0 ∙ changes),
)

succeeds_too : {A B : Type 0} (d : Dialogue A) (next : A → Dialogue B) → Succeeds d
    → ((a : A) → Succeeds (next a)) → Succeeds (d >>= next)
unfolding ◌>>=◌
succeeds_too (Ends (Ok a)) next first then = then a
succeeds_too (Ends (Err why)) next first then = absurd first
succeeds_too (Grows rest) next first then = absurd first
succeeds_too (GrowsOr refused rest) next first then = absurd first
succeeds_too (Asks call rest) next first then = absurd first

-- what stands behind the last call has a value
pub ends_well : {A B : Type 0} (d : Dialogue A) (next : A → Dialogue B) → ChangesLast d
    → ((a : A) → Succeeds (next a))
    → ((a : A) → ChangesLast (next a)) → ChangesLast (d >>= next)
unfolding ◌>>=◌
ends_well (Ends (Ok a)) next first then last = last a
ends_well (Ends (Err why)) next first then last = tt
ends_well (Grows rest) next first then last = ends_well rest next first then last
ends_well (GrowsOr refused rest) next first then last =
    (ends_well refused next first.0 then last, ends_well rest next first.1 then last)
ends_well (Asks call rest) next first then last = (
  λ why. ends_well (rest (Err why)) next (first.0 why) then last,
  λ a suits reads. ends_well (rest (Ok a)) next (first.1 a suits reads) then last,
  λ a suits changes. succeeds_too (rest (Ok a)) next (first.2 a suits changes) then,
)
