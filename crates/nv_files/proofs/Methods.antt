-- What a method is told, by what its whole call is told.
use Rattle.std.proofs.Common.{◌≡◌, ◌∙◌, ◌⊎◌, ◌≤◌, ℕ, true, false, List, Result, Ok, Err, ap, inl, inr, length, refl, subst, sym, take}
use Rattle.nv_base.specs.Limits.{IsWithinLimits}
use Rattle.nv_base.specs.Memory.{out_of_memory}
use Rattle.nv_base.specs.declared.fault.Fault.{Fault}
use Rattle.nv_base.specs.declared.geometry.GeometryNumbers.{GeometryNumbers}
use Rattle.nv_base.specs.declared.numbers.Handle.{Handle}
use Rattle.nv_calls.specs.declared.answer.Answer.{Answer}
use Rattle.nv_calls.specs.declared.answer.Answer.TheVariants as answers
use Rattle.nv_calls.specs.declared.call.Call.{Call}
use Rattle.nv_calls.specs.declared.call.Call.TheVariants as call
use Rattle.nv_machine.specs.Format.{formatted}
use Rattle.nv_machine.specs.World.{Done, Refused, Reply, Waiting}
use Rattle.nv_core.specs.declared.whole.CallFault.{CallFault}
use Rattle.nv_core.specs.declared.whole.CallFault.TheVariants as fault
use Rattle.nv_core.specs.Whole.{Calls, last_reply}
use Rattle.nv_core.specs.Worlds as worlds
use Rattle.nv_core.specs.Worlds.{Shows, WorldState}
use Rattle.nv_serial.specs.Law.{IsOutcome, grows_nothing}
use Rattle.nv_serial.specs.OneCall.{serial_call}
use Rattle.nv_serial.specs.Serial.{Outcome, Serial, new_serial, told}
use Rattle.nv_serial.proofs.SerialHistories.{stands_new}
use Rattle.nv_effects.specs.Suits.{IsBytes, IsCount, IsMade, IsNothing, Suits}
use Rattle.nv_effects.proofs.Fair.{FairBy, all_fair, answer_fair, refused_fair}
use Rattle.nv_files.specs.Stands.{IsResting, Leads, Stands}
use Rattle.nv_files.specs.Told.{FindsHandle, HasBytes, IsAnswered, IsRefused, IsRefusedOrStarved, TellsNothing}
use Rattle.nv_files.proofs.WholeCalls.{call_told}

no_step : {P : Type 0} → true ≡ false → P
no_step e = cc

-- ---- a whole call

abbrev Whole : Call → Result Answer CallFault → WorldState → WorldState → Type 0
Whole c result old new = worlds.Leads (λ m n. Calls m 0 c (last_reply result) n) old new

-- an outcome is its reply and its world
outcome_is : (o : Outcome) (r : Reply) (s : Serial) → r ≡ o.reply → s ≡ o.world → o ≡ record { reply = r; world = s }
outcome_is o r s reply world = λ i. record { reply = sym reply i; world = sym world i }

answered : (c : Call) (a : Answer) (s t : Serial) → IsOutcome c s (serial_call s 0 c) (Done a) t
    → serial_call s 0 c ≡ told a t
answered c a s t (inl both) = outcome_is (serial_call s 0 c) (Done a) t both.0 both.1
answered c a s t (inr starved) = let e = starved.1 in cc

denied : (c : Call) (why : Fault) (s t : Serial) → IsOutcome c s (serial_call s 0 c) (Refused why) t
    → IsAnswered c (Err why) s t
denied c why s t (inl both) =
    let same : (serial_call s 0 c).world ≡ s = refused_fair c s (serial_call s 0 c) why (sym both.0) (all_fair s 0 c) in
    (inl (outcome_is (serial_call s 0 c) (Refused why) s both.0 (sym same)), both.1 ∙ same)
denied c why s t (inr starved) =
    let is : why ≡ out_of_memory = let e = starved.1 in cc in (inr (starved.0, is), starved.2)

pub ok_told : (c : Call) (a : Answer) (old new : WorldState) → Whole c (Ok a) old new → Leads (IsAnswered c (Ok a)) old new
ok_told c a old new whole = λ s stands.
    let called = call_told old new 0 c (Ok a) s stands whole in
    (called.0, answered c a s called.0 called.1, called.2)

pub refused_told : (c : Call) (why : Fault) (old new : WorldState) → Whole c (Err (fault.Refused why)) old new
    → Leads (IsAnswered c (Err why)) old new
refused_told c why old new whole = λ s stands.
    let called = call_told old new 0 c (Err (fault.Refused why)) s stands whole in
    (called.0, denied c why s called.0 called.1, called.2)

-- an answer that came suits the call
pub ok_suits : (c : Call) (a : Answer) (old new : WorldState) → IsResting old → Whole c (Ok a) old new → Suits c a
ok_suits c a old new (s, stands) whole =
    let called = call_told old new 0 c (Ok a) s stands whole in
    answer_fair s called.0 0 c a (answered c a s called.0 called.1)

-- no call waits
pub never_waits : {P : Type 0} (c : Call) (old new : WorldState) → IsResting old → Whole c (Err fault.Waits) old new → P
never_waits c old new (s, stands) whole =
    let called = call_told old new 0 c (Err fault.Waits) s stands whole in go called.0 called.1 where
      go : {Q : Type 0} (t : Serial) → IsOutcome c s (serial_call s 0 c) Waiting t → Q
      go t (inl both) = absurd (subst (λ (r : Reply). FairBy c s r (serial_call s 0 c).world) (sym both.0) (all_fair s 0 c))
      go t (inr starved) = absurd (let e = starved.1 in cc)

-- files rest again
pub rests : (c : Call) (result : Result Answer CallFault) (old new : WorldState) → IsResting old → Whole c result old new
    → IsResting new
rests c result old new (s, stands) whole =
    let called = call_told old new 0 c result s stands whole in (called.0, called.2)

-- ---- methods

-- a copy was refused, and no call was made
pub starved : (c : Call) (w : WorldState) → Leads (IsRefusedOrStarved c out_of_memory) w w
starved c w = λ s stands. (s, (inr refl, refl), stands)

-- an answer, read as a value
pub method_ok : {T : Type 0} (c : Call) (a : Answer) (value : T) (says : T → Answer) (old new : WorldState) → a ≡ says value
    → Leads (IsAnswered c (Ok a)) old new → Leads (λ s t. serial_call s 0 c ≡ told (says value) t) old new
method_ok c a value says old new is leads = λ s stands.
    let known = leads s stands in (known.0, known.1 ∙ ap (λ (b : Answer). told b known.0) is, known.2)

weaker : {A B C : Type 0} → A ⊎ (B × C) → A ⊎ C
weaker (inl a) = inl a
weaker (inr both) = inr both.1

-- a refusal
pub method_err : (c : Call) (why : Fault) (old new : WorldState) → Leads (IsAnswered c (Err why)) old new
    → Leads (IsRefusedOrStarved c why) old new
method_err c why old new leads = λ s stands.
    let known = leads s stands in (known.0, (weaker known.1.0, known.1.1), known.2)

-- the refusal of a call that grows nothing
pub small_err : (c : Call) (why : Fault) (old new : WorldState) → grows_nothing c ≡ true → Leads (IsAnswered c (Err why)) old new
    → Leads (IsRefused c why) old new
small_err c why old new small leads = λ s stands.
    let known = leads s stands in (known.0, (exact known.1.0, known.1.1), known.2) where
      exact : {A B : Type 0} → A ⊎ ((grows_nothing c ≡ false) × B) → A
      exact (inl a) = a
      exact (inr both) = no_step (sym small ∙ both.0)

-- ---- the answers of some calls

pub finds : (c : Call) (a : Answer) → FindsHandle c → Suits c a → IsMade a
finds (call.Create dir name mode) a of suits = suits
finds (call.Mkdir dir name mode) a of suits = suits
finds (call.Lookup dir name) a of suits = suits
finds other a of suits = absurd of

pub tells_nothing : (c : Call) (a : Answer) → TellsNothing c → Suits c a → IsNothing a
tells_nothing (call.Size file size) a of suits = suits
tells_nothing (call.Mode handle mode) a of suits = suits
tells_nothing (call.Unlink dir name) a of suits = suits
tells_nothing (call.Rmdir dir name) a of suits = suits
tells_nothing (call.Rename from old to new) a of suits = suits
tells_nothing other a of suits = absurd of

pub has_bytes : (count : ℕ) (a : Answer) → IsBytes count a → HasBytes a
has_bytes count (answers.Bytes bytes) is = tt
has_bytes count other is = absurd is

pub few_bytes : (count : ℕ) (a : Answer) (bytes : List ℕ) → a ≡ answers.Bytes bytes → IsBytes count a → length bytes ≤ count
few_bytes count a bytes is few = subst (IsBytes count) is few

pub is_count : (a : Answer) (count : ℕ) → a ≡ answers.Count count → IsCount a
is_count a count is = subst IsCount (sym is) tt

-- the bytes that were found stand in front
pub front_is : (a : Answer) (found new : List ℕ) (count : ℕ) → a ≡ answers.Bytes found → take (length found) new ≡ found
    → count ≡ length found → a ≡ answers.Bytes (take count new)
front_is a found new count is front many =
    is ∙ ap (λ (bytes : List ℕ). answers.Bytes bytes) (sym (ap (λ (n : ℕ). take n new) many ∙ front))

-- a copy of the text was written
pub wrote : (file : Handle) (offset : ℕ) (copy text : List ℕ) (a : Answer) (old new : WorldState) → copy ≡ text
    → a ≡ answers.Count (length copy) → Leads (IsAnswered (call.Write file offset copy) (Ok a)) old new
    → Leads (λ s t. serial_call s 0 (call.Write file offset text) ≡ told (answers.Count (length text)) t) old new
wrote file offset copy text a old new is suits leads =
    subst (λ (bytes : List ℕ). Leads (λ s t. serial_call s 0 (call.Write file offset bytes) ≡ told (answers.Count (length bytes)) t) old new)
    is (method_ok (call.Write file offset copy) a tt (λ (done : Unit {0}). answers.Count (length copy)) old new suits leads)

-- new files stand as the new world
pub new_stands : (g : GeometryNumbers) → IsWithinLimits g → (w : WorldState) → Shows w (formatted g) → Stands w (new_serial g)
new_stands g limits w shows = record { world = formatted g; shows = shows; stands = stands_new g limits }
