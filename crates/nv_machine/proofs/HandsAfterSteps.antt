-- What the hand of an actor has after a step, and that it is empty at the end of a call.
use Rattle.std.proofs.Common.{List, None, Option, Some, [], ap, arith, false, length, nat_lt, refl, subst, sym, true, ℕ, ◌++◌, ◌<◌, ◌∙◌, ◌∷◌, ◌≡◌, ◌≤◌}
use Rattle.std.proofs.lemmas.Bool.{false≢true}
use Rattle.nv_alloc.specs.Block.{BlockValue}
use Rattle.nv_base.specs.declared.fault.Fault.{Fault}
use Rattle.nv_base.specs.declared.geometry.GeometryNumbers.{GeometryNumbers}
use Rattle.nv_calls.specs.AllCalls.{looked}
use Rattle.nv_calls.specs.declared.call.Call.{Call}
use Rattle.nv_calls.specs.declared.looked.LookupResult.{LookupResult}
use Rattle.nv_cell.specs.declared.killed.KilledPart.{KilledPart}
use Rattle.nv_machine.specs.Hands.{AreGiven, AreLists, BeginsAnew, HandOf, HasTakenNone, makes_inode}
use Rattle.nv_machine.specs.Kinds.{blocks_in}
use Rattle.nv_machine.specs.Reads.{home_from, slots_of}
use Rattle.nv_machine.specs.Sequence.{beginning, directories, locking, looking, nothing_looked}
use Rattle.nv_machine.specs.Step.{same_looked}
use Rattle.nv_machine.specs.World.{Answers, Ending, HandState, Look, Next, BoundAnew, Refuses, Running, Shared, Turn, empty_hand, go_to}
use Rattle.nv_machine.proofs.StepWork.{number_work}
use Rattle.nv_machine.proofs.Homes.{AreBelow, IsFound, found_home, given_all_home, given_none}
use Rattle.nv_machine.proofs.LoopSteps.{either, locking_any}
use Rattle.nv_machine.proofs.StepWays.{After, EndsBy, Going, Lasts, Overs, Rests, Telling, is_overtaken, numbered_slots}
use Rattle.nv_calls.specs.declared.call.Call.TheVariants as call

-- ---- hands

-- after a turn
abbrev pub HandGoes : GeometryNumbers → Going
HandGoes g s h q = HandOf g h (Some q)

abbrev pub HandTold : Telling
HandTold x s h = h ≡ empty_hand

abbrev pub OnHand : GeometryNumbers → Turn → Type 0
OnHand g t = After (HandGoes g) HandTold t

-- the blocks of a hand go home: each has a number that is at home somewhere
pub record GoesHome (g : GeometryNumbers) (s : Shared) (h : HandState) : Type 0 where
  pub some : 0 < g.cpus
  pub lists : AreLists g s
  pub below : AreBelow g.blocks (blocks_in h)

none_left : (xs ys : List BlockValue) → xs ++ ys ≡ [] → (xs ≡ []) × (ys ≡ [])
none_left [] ys h = (refl, h)
none_left (x ∷ xs) ys h = cc

abbrev hand_with : List BlockValue → List BlockValue → List BlockValue → Option ℕ → List (List KilledPart) → HandState
hand_with a b c number killed = record { blocks = a; pages = b; chain = c; ino = number; killed = killed }

all_empty : (a b c : List BlockValue) (number : Option ℕ) (killed : List (List KilledPart)) → a ≡ [] → b ≡ [] → c ≡ []
    → number ≡ None → killed ≡ [] → hand_with a b c number killed ≡ empty_hand
all_empty a b c number killed e f k l m = rw (e, f, k, l, m) refl

pub is_empty : (h : HandState) → blocks_in h ≡ [] → h.ino ≡ None → h.killed ≡ [] → h ≡ empty_hand
is_empty h none number killed =
    let both = none_left (h.blocks ++ h.pages) h.chain none in
    let first = none_left h.blocks h.pages both.0 in
    all_empty h.blocks h.pages h.chain h.ino h.killed first.0 first.1 both.1 number killed

no_blocks : (h : HandState) → h ≡ empty_hand → blocks_in h ≡ []
no_blocks h e = ap blocks_in e

-- ---- the last steps

module _ (g : GeometryNumbers) where
  -- the hand is empty
  pub lasts_hand : {s : Shared} {h : HandState} {r : Running} {e : Ending} → h ≡ empty_hand → Lasts (HandGoes g) HandTold s h r e
  lasts_hand empty = record { told = λ full. empty; picks = λ d left drains some. (empty, λ e. refl) }

  pub rests_hand : {home : Option ℕ} {r : Running} {e : Ending} (from : ℕ) (s t : Shared) (h : HandState) → GoesHome g s h
      → home_from from 0 s.lists (blocks_in h) ≡ home → from ≤ g.cpus → AreGiven g from (blocks_in h) → h.killed ≡ []
      → Rests (HandGoes g) HandTold home t h r e
  rests_hand from s t h goes is few given killed = record {
    give = λ cpu some. (let f = subst (λ (o : Option ℕ). IsFound g g.cpus (blocks_in h) o) (is ∙ some) found in
        ((killed, f.0, f.1), λ e. absurd (false≢true e)));
    back = λ ino none number. ((killed, gone (is ∙ none)), λ e. absurd (false≢true e));
    lasts = λ none number. lasts_hand (is_empty h (gone (is ∙ none)) number killed);
  } where
    found : IsFound g g.cpus (blocks_in h) (home_from from 0 s.lists (blocks_in h))
    found = found_home g from s (blocks_in h) goes.lists few given

    gone : home_from from 0 s.lists (blocks_in h) ≡ None → blocks_in h ≡ []
    gone none =
        given_all_home g (blocks_in h) goes.some goes.below
        (subst (λ (o : Option ℕ). IsFound g g.cpus (blocks_in h) o) none found)

  pub overs_hand : {r : Running} {e : Ending} (s : Shared) (h : HandState) → GoesHome g s h → h.killed ≡ []
      → (e ≡ BoundAnew → BeginsAnew h r) → Overs (HandGoes g) HandTold s h r e
  overs_hand s h goes killed o = record {
    again = λ n over some. (((o over).empty, (o over).looks), λ e. refl);
    contended = λ over none. (o over).empty;
    rests = λ is. rests_hand 0 s s h goes refl (omega arith) (given_none g (blocks_in h) goes.some) killed;
  }

  pub ends_hand : {slots : List ℕ} {r : Running} {e : Ending} (s : Shared) (h : HandState) → GoesHome g s h → h.killed ≡ []
      → (e ≡ BoundAnew → BeginsAnew h r) → EndsBy (HandGoes g) HandTold slots s h r e
  ends_hand s h goes killed o = record {
    unlock = λ some. (
      (killed, λ is. record { empty = (o is).empty; looks = (o is).looks }),
      λ is. absurd (false≢true is),
    );
    overs = λ none. overs_hand s h goes killed o;
  }

  pub denied_hand : {slots : List ℕ} {r : Running} {fault : Fault} (s : Shared) (h : HandState) → GoesHome g s h → h.killed ≡ []
      → EndsBy (HandGoes g) HandTold slots s h r (Refuses fault)
  denied_hand s h goes killed = ends_hand s h goes killed (λ over. absurd (false≢true (ap is_overtaken over)))

-- ---- before the check

pub locking_hand : (g : GeometryNumbers) (place : ℕ) (t : Shared) (h : HandState) (r : Running) → HasTakenNone h r
    → r.ending ≡ Answers → HandGoes g t h (go_to (locking place r.slots) r)
locking_hand g place t h r none going =
    locking_any (λ (k : Next). HandOf g h (Some (go_to k r))) (λ place. (at, λ e. going)) (at, λ e. going) place r.slots where
      at : {k : Next} → HasTakenNone h (go_to k r)
      at = record { blocks = none.blocks; killed = none.killed; number = none.number; looked = none.looked }

pub taken_none : (h : HandState) (r : Running) → h ≡ empty_hand → makes_inode (beginning r.call) ≡ false → HasTakenNone h r
taken_none h r empty looks = record {
  blocks = no_blocks h empty;
  killed = ap (λ (x : HandState). x.killed) empty;
  number = λ e. ap (λ (x : HandState). x.ino) empty;
  looked = λ e. absurd (false≢true (sym looks ∙ e));
}

pub number_hand : (g : GeometryNumbers) (numbers : List ℕ) (s : Shared) (h : HandState) (r : Running) → h ≡ empty_hand
    → makes_inode (beginning r.call) ≡ true → r.looked ≡ nothing_looked → r.ending ≡ Answers
    → let q = record r { slots = numbered_slots numbers s r } in let d = number_work numbers s h in
    HandGoes g d.shared d.hand (go_to (locking 0 q.slots) q)
number_hand g [] s h r empty makes none going =
    locking_hand g 0 s h (record r { slots = slots_of s None r.looked r.call }) (record {
      blocks = no_blocks h empty;
      killed = ap (λ (x : HandState). x.killed) empty;
      number = λ e. ap (λ (x : HandState). x.ino) empty;
      looked = λ e. none;
    }) going
number_hand g (ino ∷ numbers) s h r empty makes none going =
    locking_hand g 0 s (record h { ino = Some ino }) (record r { slots = slots_of s (Some ino) r.looked r.call }) (record {
      blocks = no_blocks h empty;
      killed = ap (λ (x : HandState). x.killed) empty;
      number = λ e. absurd (false≢true (sym e ∙ makes));
      looked = λ e. none;
    }) going

pub looking_hand : (g : GeometryNumbers) (place : ℕ) (t : Shared) (h : HandState) (r : Running) → h ≡ empty_hand
    → makes_inode (beginning r.call) ≡ false → r.ending ≡ Answers → HandGoes g t h (go_to (looking place r) r)
looking_hand g place t h r empty looks going =
    either (λ (k : Next). HandOf g h (Some (go_to k r))) (nat_lt place (length (directories r.call))) (Look place) (locking 0 r.slots)
    ((empty, looks), λ e. going) (locking_hand g 0 t h r (taken_none h r empty looks) going)

-- a name that a call does not look up is bound as before
pub same_nothing : (nodes : _) (c : Call) (before : LookupResult) → makes_inode (beginning c) ≡ true → before ≡ nothing_looked
    → same_looked (looked nodes c) before ≡ true
same_nothing nodes (call.Create dir name mode) before makes is = rw is refl
same_nothing nodes (call.Mkdir dir name mode) before makes is = rw is refl
same_nothing nodes other before makes is = cc
