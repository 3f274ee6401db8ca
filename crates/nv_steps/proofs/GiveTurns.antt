-- Blocks go home to a list, wherever the other parts are.
use Rattle.std.proofs.Common.{◌≡◌, ◌∙◌, ℕ, ◌+◌, true, ◌++◌, Option, Some, None, ap, refl, sym}
use Rattle.std.specs.Prelude.{IsSome}
use Rattle.std.proofs.lemmas.Bool.{false≢true}
use Rattle.nv_alloc.specs.FreeList.{FreeBlocks}
use Rattle.nv_alloc.specs.Giving.{after_giving, not_taken}
use Rattle.nv_alloc.specs.Hand.{blocks_of}
use Rattle.nv_alloc.specs.Queue.{after_home}
use Rattle.nv_alloc.specs.declared.hand.Hand.{Hand}
use Rattle.nv_base.specs.declared.geometry.GeometryNumbers.{GeometryNumbers}
use Rattle.nv_machine.specs.Kinds.{blocks_in, given, rest_turn, with_given}
use Rattle.nv_machine.specs.Reads.{home_from}
use Rattle.nv_machine.specs.Step.{turn}
use Rattle.nv_machine.specs.World.{Give, HandState, Moves, ReturnNumber, Running, Shared, go_to, list_at, with_list}
use Rattle.nv_steps.specs.Hands.{hand_of}
use Rattle.nv_steps.specs.OnList.{HasNumber, IsGive, home_left, on_list}
use Rattle.nv_steps.specs.Parts.{HasPart, IsOf, ListIs}
use Rattle.nv_steps.specs.declared.lists.LeftInHand.{LeftInHand}
use Rattle.nv_steps.specs.declared.lists.LeftInHand.TheVariants as left_in
use Rattle.nv_steps.proofs.BookTurns.{by_next}
use Rattle.nv_steps.proofs.LastTurns.{last_comes, lasts}

-- the hand behind it
pub handed : (list : FreeBlocks) (cpu : ℕ) (s : Shared) (old new : Hand) → list_at s cpu ≡ list → new.data ≡ after_home list old.data
    → new.pages ≡ after_home (after_giving list old.data.blocks) old.pages
    → new.chain ≡ not_taken (after_giving list (old.data.blocks ++ old.pages.blocks)) old.chain → new.ino ≡ old.ino
    → given cpu s (hand_of old) ≡ hand_of new
handed list cpu s old new is front pages chain ino = rw (is, front, pages, chain, ino) refl

numbered : (number : Option ℕ) (s : Shared) (h : HandState) (r : Running) → IsSome number
    → rest_turn None number s h r ≡ Moves s h (go_to ReturnNumber r)
numbered None s h r some = absurd (false≢true some)
numbered (Some ino) s h r some = refl

module _ (numbers : GeometryNumbers) (actor cpu : ℕ) (r : Running) (old new : FreeBlocks) (h after : HandState) where
  -- what is left is told by its first home, and by the number
  left_told : (left : LeftInHand) → HasNumber left after.ino
      → ((s : Shared) → IsOf numbers s → HasPart s (ListIs cpu old)
      → turn numbers.block actor true s h r ≡ rest_turn (home_left left) after.ino (with_list cpu new s) after r)
      → IsGive numbers actor (on_list r h cpu old new) left after
  left_told (left_in.Blocks home) number comes = λ s is has. comes s is has.0
  left_told left_in.Number number comes = λ s is has. comes s is has.0 ∙ numbered after.ino (with_list cpu new s) after r number
  left_told left_in.Nothing number comes =
      lasts numbers actor (on_list r h cpu old new) after r.ending (λ s is has.
      comes s is has.0 ∙ ap (λ (o : Option ℕ). rest_turn None o (with_list cpu new s) after r) number)

  -- and back
  pub give_comes : (left : LeftInHand) → HasNumber left after.ino → IsGive numbers actor (on_list r h cpu old new) left after
      → (s : Shared) → IsOf numbers s → HasPart s (ListIs cpu old)
      → turn numbers.block actor true s h r ≡ rest_turn (home_left left) after.ino (with_list cpu new s) after r
  give_comes (left_in.Blocks home) number gives s is has = gives s is (has, tt)
  give_comes left_in.Number number gives s is has =
      gives s is (has, tt) ∙ sym (numbered after.ino (with_list cpu new s) after r number)
  give_comes left_in.Nothing number gives s is has =
      last_comes numbers actor (on_list r h cpu old new) after r.ending gives s is (has, tt)
      ∙ ap (λ (o : Option ℕ). rest_turn None o (with_list cpu new s) after r) (sym number)

pub gives : (numbers : GeometryNumbers) (actor cpu : ℕ) (r : Running) (old new : FreeBlocks) (hand after : Hand) (left : LeftInHand)
    → r.next ≡ Give cpu → after.data ≡ after_home old hand.data → after.pages ≡ after_home (after_giving old hand.data.blocks) hand.pages
    → after.chain ≡ not_taken (after_giving old (hand.data.blocks ++ hand.pages.blocks)) hand.chain → after.ino ≡ hand.ino
    → new ≡ after_giving old (blocks_of hand) → HasNumber left after.ino
    → ((s : Shared) → IsOf numbers s → home_from (cpu + 1) 0 s.lists (blocks_of after) ≡ home_left left)
    → IsGive numbers actor (on_list r (hand_of hand) cpu old new) left (hand_of after)
gives numbers actor cpu r old new hand after left next front pages chain ino took number home =
    left_told numbers actor cpu r old new (hand_of hand) (hand_of after) left number (λ s is has.
    let h = hand_of hand in
    by_next (Give cpu) numbers.block actor true s h r next
    ∙ ap (λ (x : HandState). rest_turn (home_from (cpu + 1) 0 s.lists (blocks_in x)) h.ino (with_given cpu h s) x r)
    (handed old cpu s hand after has.1 front pages chain ino)
    ∙ ap (λ (o : Option ℕ). rest_turn o hand.ino (with_given cpu h s) (hand_of after) r) (home s is)
    ∙ ap (λ (o : Option ℕ). rest_turn (home_left left) o (with_given cpu h s) (hand_of after) r) (sym ino)
    ∙ ap (λ (l : FreeBlocks). rest_turn (home_left left) after.ino (with_list cpu (after_giving l (blocks_of hand)) s) (hand_of after) r) has.1
    ∙ ap (λ (l : FreeBlocks). rest_turn (home_left left) after.ino (with_list cpu l s) (hand_of after) r) (sym took))
