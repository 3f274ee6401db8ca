-- The handle of a new inode of a call that is made alone: the lowest number that was free at its start, with the generation of
-- its slot.
use Rattle.std.proofs.Common.{◌≡◌, ◌∙◌, ℕ, ◌+◌, Bool, true, false, List, [], ◌∷◌, Option, Some, None, ap, refl, slice_index_or, sym}
use Rattle.std.specs.Prelude.{Err, Ok}
use Rattle.std.proofs.lemmas.Bool.{false≢true}
use Rattle.nv_base.specs.declared.fault.Fault.{Fault}
use Rattle.nv_base.specs.declared.numbers.Handle.{Handle}
use Rattle.nv_calls.specs.Plain.{Change}
use Rattle.nv_calls.specs.Refusals.{Check as Tests}
use Rattle.nv_calls.specs.declared.call.Call.{Call}
use Rattle.nv_cell.specs.Cell.{CellState}
use Rattle.nv_entry.specs.Tree.{root}
use Rattle.nv_machine.specs.Hands.{is_going}
use Rattle.nv_machine.specs.Kinds.{check_ending}
use Rattle.nv_machine.specs.Reads.{written_slots}
use Rattle.nv_machine.specs.Sequence as sequence
use Rattle.nv_machine.specs.Sequence.{Beginning, appending, beginning, locking, looking, publishing, retiring}
use Rattle.nv_machine.specs.Step.{ending_at, is_numbered, kind_turn, made_in, with_made}
use Rattle.nv_machine.specs.World.{Answers, Append, Check, Close, Ending, Enter, Give, HandState, Leave, Lock, Look, SnapshotOrCleaner, Next, Number, Open, BoundAnew, Publish, Ready, Refuses, Retire, ReturnNumber, Running, Shared, TakeBlocks, TakeLogPages, Turn, Unlock, Visit, go_to, no_cell}
use Rattle.nv_machine.proofs.LoopSteps.{Commits, appending_any, is_on_files, locking_any, looking_any, publishing_any, retiring_any}
use Rattle.nv_machine.proofs.NextSteps.{Known, KnowsNext, OnKnown, Untold}
use Rattle.nv_machine.proofs.StepWalk.{WaysOf, any_takes, walk_of}
use Rattle.nv_machine.proofs.StepWays.{Closes, Rests, any_ends, any_overs, by_last, by_taking, is_taking, noted}
use Rattle.nv_machine.proofs.StepWork.{number_work, work}

-- the number that a call takes which begins so
abbrev pub first_number : Beginning → List ℕ → Option ℕ
first_number sequence.Numbers (ino ∷ numbers) = Some ino
first_number other numbers = None

-- a check that goes on has the number that its call needs
has_number : (first : Tests) (same : Bool) (tests : Tests) (numbered : Bool) (changes : List Change)
    → check_ending first same tests numbered changes ≡ None → numbered ≡ true
has_number (Err fault) same tests numbered changes e = cc
has_number (Ok passed) false tests numbered changes e = cc
has_number (Ok passed) true (Err fault) numbered changes e = cc
has_number (Ok passed) true (Ok all) false changes e = cc
has_number (Ok passed) true (Ok all) true changes e = refl

module _ (block actor : ℕ) (s0 : Shared) (c : Call) where
  abbrev pub number_for : Option ℕ
  number_for = first_number (beginning c) s0.pool.numbers

  -- up to the check the hand has that number, and a call that takes none has the root for a handle
  pub record IsNumbered (ino : Option ℕ) (made : Handle) (call : Call) : Type 0 where
    pub call_is : call ≡ c
    pub ino_is : ino ≡ number_for
    pub made_is : ino ≡ None → made ≡ root

  pub record IsMade (made : Handle) : Type 0 where
    pub made_is : made ≡ made_in s0 number_for root
    pub there : is_numbered (beginning c) number_for ≡ true

  abbrev pub NumberedIn : HandState → Running → Type 0
  NumberedIn h r = IsNumbered h.ino r.made r.call

  abbrev pub MadeStage : Known
  MadeStage Number s h r =
      (r.call ≡ c) × (h.ino ≡ None) × (s.pool.numbers ≡ s0.pool.numbers) × (r.made ≡ root) × (beginning c ≡ sequence.Numbers)
  MadeStage (Look place) s h r = NumberedIn h r
  MadeStage (Lock place) s h r = NumberedIn h r
  MadeStage Check s h r = NumberedIn h r
  MadeStage (TakeBlocks asked) s h r = IsMade r.made
  MadeStage (TakeLogPages asked) s h r = IsMade r.made
  MadeStage Ready s h r = IsMade r.made
  MadeStage Enter s h r = IsMade r.made
  MadeStage (Unlock place) s h r = r.ending ≡ BoundAnew → NumberedIn h r
  MadeStage other s h r = Unit {0}

  abbrev pub OnMade : Turn → Type 0
  OnMade t = OnKnown MadeStage t

  made_closes : {s : Shared} {h : HandState} {r : Running} {e : Ending} → (e ≡ BoundAnew → NumberedIn h r)
      → Closes (KnowsNext MadeStage) Untold s h r e
  made_closes {s = s} {h = h} {r = r} {e = e} numbered = record {
    last = by_last (λ (n : Next). MadeStage n s h (record r { ending = e; next = n })) (λ place. numbered) (λ cpu. tt) tt;
    told = tt;
    again = λ n over some. numbered over;
    picks = λ d left drains some. tt;
  }

  refused_made : {s : Shared} {h : HandState} {r : Running} {fault : Fault} → Closes (KnowsNext MadeStage) Untold s h r (Refuses fault)
  refused_made = made_closes (λ over. cc)

  -- ---- number

  after_number : (numbers : List ℕ) (s : Shared) (h : HandState) → h.ino ≡ None
      → (number_work numbers s h).hand.ino ≡ first_number sequence.Numbers numbers
  after_number [] s h none = none
  after_number (ino ∷ numbers) s h none = refl

  -- ---- check

  made_same : (s : Shared) (o : Option ℕ) (made : Handle) → s.cells ≡ s0.cells → (o ≡ None → made ≡ root) → made_in s o made ≡ made_in s0 o root
  made_same s None made cells none = none refl
  made_same s (Some ino) made cells none =
      ap (λ (cs : List CellState). let x : Handle = record { ino = ino; generation = (slice_index_or cs ino no_cell).generation } in x) cells

  module _ (granted : Bool) (s : Shared) (h : HandState) (r : Running) where
    check_made : s.cells ≡ s0.cells → NumberedIn h r → ending_at block s h r ≡ None → IsMade (made_in s h.ino r.made)
    check_made cells numbered none = record {
      made_is = made_same s h.ino r.made cells numbered.made_is ∙ ap (λ (o : Option ℕ). made_in s0 o root) numbered.ino_is;
      there = sym (ap (λ (o : Option ℕ). is_numbered (beginning c) o) numbered.ino_is)
          ∙ sym (ap (λ (d : Call). is_numbered (beginning d) h.ino) numbered.call_is) ∙ has_number _ _ _ _ _ none;
    }

    walks : (k : Next) → WaysOf (KnowsNext MadeStage) Untold k block actor granted s h r → is_on_files k ≡ true
        → OnMade (kind_turn k block actor granted s h r)
    walks k ways is = walk_of (KnowsNext MadeStage) Untold block actor s h r k granted ways is

    -- a taking goes on to a taking
    module _ (made : Handle) (are : IsMade made) (t : Shared) (i : HandState) (n : ℕ) (next : Next) (on : is_taking next ≡ true) where
      taking_made : (q : Running) → q.made ≡ made → MadeStage next t i (record q { made = made; wanted = n; next = next })
      taking_made q same =
          by_taking (λ (x : Next). MadeStage x t i (record q { made = made; wanted = n; next = x })) (λ asked. are) (λ asked. are) are next on

    late : (t : Shared) (i : HandState) (q : Running) → Commits (λ (k : Next). MadeStage k t i q)
    late t i q = record { append = λ place. tt; opens = tt; publish = λ place. tt; close = tt; retire = λ place. tt; leave = tt }

    rests_made : {home : Option ℕ} {t : Shared} {i : HandState} {e : Ending} → Rests (KnowsNext MadeStage) Untold home t i r e
    rests_made = record {
      give = λ cpu is. tt;
      back = λ ino none is. tt;
      lasts = λ none is. record { told = λ full. tt; picks = λ d left drains some. tt };
    }

    abbrev W : List ℕ
    W = written_slots r

    -- EVERY KIND
    pub kind_made : (k : Next) → is_on_files k ≡ true → (k ≡ Check → s.cells ≡ s0.cells) → (is_going k ≡ true → r.ending ≡ Answers)
        → MadeStage k s h r → OnMade (kind_turn k block actor granted s h r)
    kind_made Number files cells going on =
        let q = noted Number block s h r in
        let d = number_work s.pool.numbers s h in
        let numbered : NumberedIn d.hand q = record {
          call_is = on.0;
          ino_is = after_number s.pool.numbers s h on.1 ∙ ap (first_number sequence.Numbers) on.2
              ∙ ap (λ (b : Beginning). first_number b s0.pool.numbers) (sym on.4);
          made_is = λ none. on.3;
        } in
        walks Number (locking_any (λ (k : Next). MadeStage k d.shared d.hand (go_to (locking 0 q.slots) q)) (λ place. numbered) numbered 0
        q.slots) refl
    kind_made (Look place) files cells going on =
        let q = noted (Look place) block s h r in
        walks (Look place) (
          λ fault free by. any_ends refused_made,
          λ clear. looking_any (λ (k : Next). MadeStage k s h (go_to (looking (place + 1) q) q)) (λ place. on) (λ place. on) on (place + 1) q,
        ) refl
    kind_made (Lock place) files cells going on =
        let d = work (Lock place) block actor s h r in
        walks (Lock place) (λ clear. locking_any (λ (k : Next). MadeStage k d.shared d.hand (go_to (locking (place + 1) r.slots) r))
        (λ place. on) on (place + 1) r.slots) refl
    kind_made Check files cells going on =
        let made = made_in s h.ino r.made in
        walks Check (
          λ e by. any_ends (made_closes (λ over. record {
            call_is = on.call_is;
            ino_is = on.ino_is;
            made_is = λ none. ap (λ (o : Option ℕ). made_in s o r.made) none ∙ on.made_is none;
          })),
          λ none lacks. any_ends refused_made,
          λ none. any_takes (KnowsNext MadeStage) Untold block actor s h r Check
              (λ n next taking. taking_made made (check_made (cells refl) on none) s h n next taking (with_made s h r) refl) refl,
        ) refl
    kind_made (TakeBlocks asked) files cells going on =
        let d = work (TakeBlocks asked) block actor s h r in
        walks (TakeBlocks asked) (
          any_takes (KnowsNext MadeStage) Untold block actor s h r (TakeBlocks asked)
              (λ n next taking. taking_made r.made on d.shared d.hand n next taking r refl) refl,
          λ n is last. any_ends refused_made,
        ) refl
    kind_made (TakeLogPages asked) files cells going on =
        let d = work (TakeLogPages asked) block actor s h r in
        walks (TakeLogPages asked) (
          any_takes (KnowsNext MadeStage) Untold block actor s h r (TakeLogPages asked)
              (λ n next taking. taking_made r.made on d.shared d.hand n next taking r refl) refl,
          λ n is last. any_ends refused_made,
        ) refl
    kind_made Ready files cells going on = walks Ready (λ lacks. any_ends refused_made, on) refl
    kind_made Enter files cells going on =
        let d = work Enter block actor s h r in
        let t : Running = go_to (appending 0 W) (noted Enter block s h r) in
        walks Enter (
          λ free last. any_ends refused_made,
          λ clear lacks. any_ends refused_made,
          λ clear. appending_any (λ (n : Next). MadeStage n d.shared d.hand t) (late d.shared d.hand t) 0 W,
        ) refl
    kind_made (Append place) files cells going on =
        let d = work (Append place) block actor s h r in let t : Running = go_to (appending (place + 1) W) r in
        walks (Append place) (appending_any (λ (n : Next). MadeStage n d.shared d.hand t) (late d.shared d.hand t) (place + 1) W) refl
    kind_made Open files cells going on =
        let d = work Open block actor s h r in let t : Running = go_to (publishing 0 W) r in
        walks Open (publishing_any (λ (n : Next). MadeStage n d.shared d.hand t) (late d.shared d.hand t) 0 W) refl
    kind_made (Publish place) files cells going on =
        let d = work (Publish place) block actor s h r in let t : Running = go_to (publishing (place + 1) W) r in
        walks (Publish place) (publishing_any (λ (n : Next). MadeStage n d.shared d.hand t) (late d.shared d.hand t) (place + 1) W) refl
    kind_made Close files cells going on =
        let d = work Close block actor s h r in let t : Running = go_to (retiring 0 W) r in
        walks Close (retiring_any (λ (n : Next). MadeStage n d.shared d.hand t) (late d.shared d.hand t) 0 W) refl
    kind_made (Retire place) files cells going on =
        let d = work (Retire place) block actor s h r in let t : Running = go_to (retiring (place + 1) W) r in
        walks (Retire place) (retiring_any (λ (n : Next). MadeStage n d.shared d.hand t) (late d.shared d.hand t) (place + 1) W) refl
    kind_made Leave files cells going on = walks Leave (any_ends (made_closes (λ over. absurd (not_over (sym (going refl) ∙ over))))) refl where
      not_over : Answers ≡ BoundAnew → ⊥
      not_over x = cc
    kind_made (Unlock place) files cells going on = walks (Unlock place) (λ more. on, λ past. any_overs (made_closes on)) refl
    kind_made (Give cpu) files cells going on = walks (Give cpu) rests_made refl
    kind_made ReturnNumber files cells going on = walks ReturnNumber (record { told = λ full. tt; picks = λ d left drains some. tt }) refl
    kind_made Visit files cells going on = walks Visit (
      λ fault free by. any_ends refused_made,
      λ free passed lacks. any_ends refused_made,
      λ free passed. tt,
    ) refl
    kind_made (SnapshotOrCleaner step) files cells going on = absurd (false≢true files)
