-- The turns of a session's call, one after another.
use Rattle.std.proofs.Common.{◌≡◌, ◌≢◌, ◌∙◌, ℕ, ◌+◌, ◌<◌, ◌==◌, Bool, true, false, List, [], ◌∷◌, Option, Some, None, ap, arith, length, nat_lt, refl, subst, sym}
use Rattle.std.specs.Prelude.{◌↔◌, IsOk, IsSome, OnOk, Result, Ok, Err}
use Rattle.std.specs.Option.{ForSome}
use Rattle.std.proofs.lemmas.Bool.{eq-eqb, false≢true, lt-ltb, ltb-true, true≢false}
use Rattle.nv_alloc.specs.Block.{BlockValue}
use Rattle.nv_alloc.specs.FreeList.{FreeBlocks}
use Rattle.nv_alloc.specs.InodePool.{FreeInodes}
use Rattle.nv_base.specs.declared.fault.Fault.{Fault}
use Rattle.nv_base.specs.declared.geometry.GeometryNumbers.{GeometryNumbers}
use Rattle.nv_cell.specs.Cell.{CellState}
use Rattle.nv_machine.specs.Kinds.{blocks_in, over_turn, rest_turn, unlocked_turn}
use Rattle.nv_machine.specs.Reads.{home_from, slot_at}
use Rattle.nv_machine.specs.Step.{turn}
use Rattle.nv_machine.specs.World.{Answers, BoundAnew, Cleans, Drains, Ending, Give, HandState, Moves, Refuses, ReturnNumber, Running, Shared, Unlock, go_to, with_owner}
use Rattle.nv_steps.specs.LastSteps.{IsLast}
use Rattle.nv_steps.specs.OnList.{HasNumber, IsGive, home_left, on_list}
use Rattle.nv_steps.specs.OnPool.{on_pool}
use Rattle.nv_steps.specs.Parts.{Has, IsAtHome, IsOf, ListIs, OwnerIs, PoolIs, with_parts}
use Rattle.nv_steps.specs.Runs.{IsOwn, Known, LeftAs, Unheld, Unseen, known_cell}
use Rattle.nv_steps.specs.Turns.{Made}
use Rattle.nv_steps.specs.declared.lists.LeftInHand.{LeftInHand}
use Rattle.nv_steps.specs.declared.lists.LeftInHand.TheVariants as left_in
use Rattle.nv_steps.proofs.BookTurns.{by_next}
use Rattle.nv_steps.proofs.LastTurns.{lasts}
use Rattle.nv_steps.proofs.States.{some_state}
use Rattle.nv_sessions.specs.Underway.{GivesBack, IsFirstHome, UnlocksNext, number_left, unlocking}

-- ---- what is left in a hand

numbered : (number : Option ℕ) (s : Shared) (h : HandState) (r : Running) → IsSome number
    → rest_turn None number s h r ≡ Moves s h (go_to ReturnNumber r)
numbered None s h r some = absurd (false≢true some)
numbered (Some ino) s h r some = refl

-- a turn that comes to what is left is a give, of any part
pub left_comes : (numbers : GeometryNumbers) (actor : ℕ) (t : Made) (h : HandState) (left : LeftInHand) → HasNumber left h.ino
    → ((s : Shared) → IsOf numbers s → Has s t.found
    → turn numbers.block actor t.granted s t.hand t.running ≡ rest_turn (home_left left) h.ino (with_parts t.left s) h t.running)
    → IsGive numbers actor t left h
left_comes numbers actor t h (left_in.Blocks home) number comes = comes
left_comes numbers actor t h left_in.Number number comes =
    λ s is has. comes s is has ∙ numbered h.ino (with_parts t.left s) h t.running number
left_comes numbers actor t h left_in.Nothing number comes =
    lasts numbers actor t h t.running.ending (λ s is has.
    comes s is has ∙ ap (λ (o : Option ℕ). rest_turn None o (with_parts t.left s) h t.running) number)

-- once no block is left, the number is told
pub told_left : (left : LeftInHand) (number : Option ℕ) → HasNumber left number → home_left left ≡ None → left ≡ number_left number
told_left (left_in.Blocks home) number has none = absurd (cc)
told_left left_in.Number None has none = absurd (false≢true has)
told_left left_in.Number (Some ino) has none = refl
told_left left_in.Nothing number has none = ap number_left (sym has)

-- ---- what turns hold

own : (actor : ℕ) (known : Known CellState) → IsOwn actor known (Some actor)
own actor Unheld = tt
own actor Unseen = refl
own actor (LeftAs cell) = refl

-- a lock that is given back is held no more
pub unlocked_free : (actor ino : ℕ) (h : HandState) (r : Running) (turns : List Made) → ((other : ℕ) → ino ≢ other
    → known_cell actor turns other ≡ Unheld) → (other : ℕ) → known_cell actor (unlocking actor ino h r ∷ turns) other ≡ Unheld
unlocked_free actor ino h r turns others other = go (ino == other) refl where
  go : (x : Bool) → (ino == other) ≡ x → known_cell actor (unlocking actor ino h r ∷ turns) other ≡ Unheld
  go true q = rw q refl
  go false q = rw q (others other (λ same. true≢false (sym (eq-eqb ino other same) ∙ q)))

-- ---- the unlock

over_rest : (ending : Ending) (s : Shared) (h : HandState) (r : Running) → ending ≢ BoundAnew
    → over_turn ending s h r ≡ rest_turn (home_from 0 0 s.lists (blocks_in h)) h.ino s h r
over_rest Answers s h r ends = refl
over_rest (Refuses fault) s h r ends = refl
over_rest BoundAnew s h r ends = absurd (ends refl)
over_rest (Drains draining) s h r ends = refl
over_rest (Cleans cleaned) s h r ends = refl

one_slot : (ino : ℕ) (slots : List ℕ) (s : Shared) (h : HandState) (r : Running) → slots ≡ ino ∷ []
    → unlocked_turn (nat_lt (0 + 1) (length slots)) 0 (with_owner (slot_at slots 0) None s) h r ≡ over_turn r.ending (with_owner ino None s) h r
one_slot ino slots s h r is = rw is refl

-- an unlock comes to what is left in the hand
pub unlocks : (numbers : GeometryNumbers) (actor : ℕ) (h0 : HandState) (r0 : Running) (h : HandState) (r : Running) (left : LeftInHand)
    → UnlocksNext numbers actor h0 r0 h r → HasNumber left h.ino
    → ((s : Shared) → IsOf numbers s → home_from 0 0 s.lists (blocks_in h) ≡ home_left left) → GivesBack numbers actor h0 r0 left h r
unlocks numbers actor h0 r0 h r left w number home = record {
  turns = w.turns;
  last = unlocking actor w.ino h r;
  leads = w.leads;
  fits = (own actor (known_cell actor w.turns w.ino), tt);
  there = some_state numbers (OwnerIs w.ino (Some actor) ∷ []) (tt, tt) (w.inside, tt);
  gives = left_comes numbers actor (unlocking actor w.ino h r) h left number (λ s is has.
      let after = with_owner w.ino None s in
      by_next (Unlock 0) numbers.block actor true s h r w.next
      ∙ one_slot w.ino r.slots s h r w.slots
      ∙ over_rest r.ending after h r w.ends
      ∙ ap (λ (o : Option ℕ). rest_turn o h.ino after h r) (home s is));
  same = refl;
  free = record { cells = unlocked_free actor w.ino h r w.turns w.others; book = w.book };
}

-- ---- gives

module _ (numbers : GeometryNumbers) (actor : ℕ) (h0 : HandState) (r0 : Running) (h after : HandState) (r : Running) where
  -- a list takes what is at home there
  pub gives_on : (cpu : ℕ) (old new : FreeBlocks) (left : LeftInHand) → cpu < numbers.cpus → IsAtHome numbers cpu old
      → ((q : Running) → q.next ≡ Give cpu → IsGive numbers actor (on_list q h cpu old new) left after)
      → GivesBack numbers actor h0 r0 (left_in.Blocks cpu) h r → GivesBack numbers actor h0 r0 left after r
  gives_on cpu old new left inside home gives w = record {
    turns = w.last ∷ w.turns;
    last = on_list (go_to (Give cpu) w.last.running) h cpu old new;
    leads = (w.leads, w.fits, w.there, w.gives);
    fits = (tt, tt);
    there = some_state numbers (ListIs cpu old ∷ []) (tt, tt) ((inside, home), tt);
    gives = gives (go_to (Give cpu) w.last.running) refl;
    same = ap (go_to (Give cpu)) w.same;
    free = record { cells = w.free.cells; book = w.free.book };
  }

  -- the pool takes the number
  pub returns_on : (old new : FreeInodes)
      → ((q : Running) → q.next ≡ ReturnNumber → IsLast numbers actor (on_pool q h old new) q.ending after)
      → GivesBack numbers actor h0 r0 left_in.Number h r → GivesBack numbers actor h0 r0 left_in.Nothing after r
  returns_on old new lasts w = record {
    turns = w.last ∷ w.turns;
    last = on_pool (go_to ReturnNumber w.last.running) h old new;
    leads = (w.leads, w.fits, w.there, w.gives);
    fits = (tt, tt);
    there = some_state numbers (PoolIs old ∷ []) (tt, tt) (tt, tt);
    gives = lasts (go_to ReturnNumber w.last.running) refl;
    same = ap (go_to ReturnNumber) w.same;
    free = record { cells = w.free.cells; book = w.free.book };
  }

  pub returns_ok : {A : Type 0} (result : Result A Fault) (old new : FreeInodes)
      → ((q : Running) → q.next ≡ ReturnNumber → OnOk result (IsLast numbers actor (on_pool q h old new) q.ending after))
      → GivesBack numbers actor h0 r0 left_in.Number h r → OnOk result (GivesBack numbers actor h0 r0 left_in.Nothing after r)
  returns_ok (Ok done) old new lasts w = returns_on old new lasts w
  returns_ok (Err fault) old new lasts w = tt

-- whether what is left is at home behind a CPU
pub later_of : (left : LeftInHand) (home cpu : ℕ) → left ≡ left_in.Blocks home
    → (nat_lt cpu home ≡ true) ↔ ForSome (home_left left) (λ other. cpu < other)
later_of (left_in.Blocks first) home cpu is =
    let same : first ≡ home = cc in (
      λ yes other at.
          let here : first ≡ other = cc in
          let low = ltb-true cpu home yes in omega (arith, same, here, low),
      λ all. let low = all first refl in lt-ltb cpu home (omega (arith, low, same)),
    )
later_of left_in.Number home cpu is = absurd (cc)
later_of left_in.Nothing home cpu is = absurd (cc)

-- what is no block is at home nowhere
pub no_home : (left : LeftInHand) → ((cpu : ℕ) → left ≡ left_in.Blocks cpu → ⊥) → (home : ℕ) → home_left left ≡ Some home → ⊥
no_home (left_in.Blocks cpu) not home is = not cpu refl
no_home left_in.Number not home is = cc
no_home left_in.Nothing not home is = cc

-- and blocks at the home that is told
pub home_is : (left : LeftInHand) (cpu home : ℕ) → left ≡ left_in.Blocks cpu → home_left left ≡ Some home → cpu ≡ home
home_is left cpu home is told = let same : Some cpu ≡ Some home = sym (ap home_left is) ∙ told in cc

-- where no block is left, the number is told
pub none_left : {A : Type 0} (result : Result A Fault) (g : GeometryNumbers) (bs : List BlockValue) (left : LeftInHand) (number : Option ℕ)
    (P : LeftInHand → Type 0) → IsFirstHome g bs (home_left left) → HasNumber left number → (IsOk result ↔ (length bs ≡ 0)) → P left
    → OnOk result (P (number_left number))
none_left (Ok done) g bs left number P home has none is =
    let empty = none.0 refl in subst P (told_left left number has (none_home (home_left left) home empty)) is where
      none_home : (found : Option ℕ) → IsFirstHome g bs found → length bs ≡ 0 → found ≡ None
      none_home None home empty = refl
      none_home (Some cpu) home empty = absurd (omega (arith, home.0, empty))
none_left (Err fault) g bs left number P home has none is = tt
