-- What a mount was told by one call of the plain world.
use Rattle.std.proofs.Common.{◌≡◌, ◌∙◌, inl, inr, ℕ, List, Option, Some, None, Result, Ok, Err, ap, refl, subst, sym}
use Rattle.std.specs.Option.{option_map}
use Rattle.nv_base.specs.declared.fault.Fault.{Fault}
use Rattle.nv_base.specs.declared.node.Kind.{Kind}
use Rattle.nv_base.specs.declared.numbers.Handle.{Handle}
use Rattle.nv_calls.specs.Plain.{PlainNode}
use Rattle.nv_calls.specs.Refusals.{kind_of, lookup}
use Rattle.nv_calls.specs.calls.Stat.{stat_answer}
use Rattle.nv_calls.specs.declared.answer.Answer.{Answer}
use Rattle.nv_calls.specs.declared.answer.Answer.TheVariants as answers
use Rattle.nv_calls.specs.declared.call.Call.{Call}
use Rattle.nv_calls.specs.declared.call.Call.TheVariants as calls
use Rattle.nv_effects.proofs.Effects.{calls_have_effects}
use Rattle.nv_effects.proofs.Visits.{lookup_found}
use Rattle.nv_mount_answers.specs.declared.kept.Shape.{Shape}
use Rattle.nv_mount_beside.specs.declared.refusal.Refusal.{Refusal}
use Rattle.nv_mounted.specs.Asks.{ask_done, ask_handle, ask_shape, done_told, handle_told, shape_told}
use Rattle.nv_mounted.specs.Dialogues.{Ends, Grows, IsHad}
use Rattle.nv_serial.specs.OneCall.{serial_call}
use Rattle.nv_serial.specs.Serial.{Serial, copies_now, told}
use Rattle.nv_mount_laws.specs.World.{CanStand, Calls}

no_value : {A P : Type 0} {a : A} {why : Refusal} → Ok a ≡ Err why → P
no_value e = cc

-- ---- the end, after memory was asked for

pub grown : {A : Type 0} (is : Result A Refusal) (old new : Serial) (a : A)
    → IsHad Calls (Grows (Ends is)) old (Ok a) new
    → (is ≡ Ok a) × (new ≡ old)
grown is old new a (inl had) = no_value had.0
grown is old new a (inr had) = (sym had.0, had.1)

-- ---- a handle

handle_is : (result : Result Answer Fault) (handle : Handle) → handle_told result ≡ Ok handle
    → result ≡ Ok (answers.Made handle)
handle_is (Ok (answers.Made made)) handle e = let same : made ≡ handle =
    cc in ap (λ (h : Handle). Ok (answers.Made h)) same
handle_is (Ok other) handle e = no_value (sym e)
handle_is (Err why) handle e = no_value (sym e)

-- a look-up told a handle: the name is bound to it, and nothing has changed
pub looked_up : (old new : Serial) (dir : Handle) (name : List ℕ) (handle : Handle)
    → IsHad Calls (ask_handle (calls.Lookup dir name)) old (Ok handle) new
    → (lookup (copies_now old) dir name ≡ Some handle) × (new ≡ old)
looked_up old new dir name handle (result, between, called, (is, same)) =
    let made : result ≡ Ok (answers.Made handle) = handle_is result handle (sym is) in
    let answered : Calls old (calls.Lookup dir name) (Ok (answers.Made handle)) between =
    subst (λ (r : Result Answer Fault). Calls old (calls.Lookup dir name) r between) made called in
    let found = lookup_found old between 0 dir name handle answered.answered in
    (found.0, same ∙ found.1)

-- a making told a handle
pub made_asked : (old new : Serial) (c : Call) (handle : Handle)
    → IsHad Calls (ask_handle c) old (Ok handle) new
    → serial_call old 0 c ≡ told (answers.Made handle) new
made_asked old new c handle (result, between, called, (is, same)) =
    let made : result ≡ Ok (answers.Made handle) = handle_is result handle (sym is) in
    let there : Calls old c (Ok (answers.Made handle)) between =
    subst (λ (r : Result Answer Fault). Calls old c r between) made called in
    there.answered ∙ ap (λ (s : Serial). told (answers.Made handle) s) (sym same)

-- ---- a shape

pub stat_is : (result : Result Answer Fault) (shape : Shape) → shape_told result ≡ Ok shape
    → (commit : ℕ) × (result ≡ Ok (answers.Stat shape.kind shape.mode shape.size commit))
stat_is (Ok (answers.Stat kind mode size commit)) shape e =
    let same : (let s : Shape = record { kind = kind; mode = mode; size = size } in s) ≡ shape =
    cc in
    (commit, ap (λ (s : Shape). Ok (answers.Stat s.kind s.mode s.size commit)) same)
stat_is (Ok other) shape e = no_value (sym e)
stat_is (Err why) shape e = no_value (sym e)

kind_told : (node : Option PlainNode) (kind : Kind) (mode size commit : ℕ)
    → answers.Stat kind mode size commit ≡ stat_answer node
    → kind_of (option_map (λ (p : PlainNode). p.node) node) ≡ Some kind
kind_told None kind mode size commit e = cc
kind_told (Some p) kind mode size commit e = let same : kind ≡ p.node.kind =
    cc in ap (λ (k : Kind). Some k) (sym same)

pub shape_asked : (old new : Serial) (handle : Handle) (shape : Shape)
    → IsHad Calls (ask_shape handle) old (Ok shape) new
    → (kind_of (copies_now old handle) ≡ Some shape.kind) × (new ≡ old)
shape_asked old new handle shape (result, between, called, (is, same)) =
    let stat = stat_is result shape (sym is) in
    let answer : Answer = answers.Stat shape.kind shape.mode shape.size stat.0 in
    let answered : Calls old (calls.Stat handle) (Ok answer) between =
    subst (λ (r : Result Answer Fault). Calls old (calls.Stat handle) r between) stat.1 called in
    let has = calls_have_effects old between 0 (calls.Stat handle) answer refl answered.answered in (
      kind_told (old.plain.nodes handle) shape.kind shape.mode shape.size stat.0 has.1.told,
      same ∙ has.1.same refl,
    )

-- ---- that it was done

done_is : (result : Result Answer Fault) → done_told result ≡ Ok tt → (a : Answer) × (result ≡ Ok a)
done_is (Ok a) e = (a, refl)
done_is (Err why) e = no_value (sym e)

-- a call was answered
pub record Answered (old : Serial) (c : Call) (new : Serial) : Type 0 where
  pub answer : Answer
  pub is : serial_call old 0 c ≡ told answer new
  pub stands : CanStand new

pub done_asked : (old new : Serial) (c : Call) (done : Unit {0})
    → IsHad Calls (ask_done c) old (Ok done) new → Answered old c new
done_asked old new c done (result, between, called, (is, same)) =
    let answered = done_is result (sym is) in
    let there : Calls old c (Ok answered.0) between =
    subst (λ (r : Result Answer Fault). Calls old c r between) answered.1 called in
    record {
      answer = answered.0;
      is = there.answered ∙ ap (λ (s : Serial). told answered.0 s) (sym same);
      stands = subst CanStand (sym same) there.stands;
    }
