-- A whole call, where no call runs, is one call of the world with numbers.
use Rattle.std.proofs.Common.{◌≡◌, ◌∙◌, ℕ, List, [], ◌∷◌, Result, inl, inr, ap, refl, subst, sym}
use Rattle.nv_base.specs.declared.geometry.GeometryNumbers.{GeometryNumbers}
use Rattle.nv_calls.specs.declared.answer.Answer.{Answer}
use Rattle.nv_calls.specs.declared.call.Call.{Call}
use Rattle.nv_machine.specs.Step.{after, replies, step}
use Rattle.nv_machine.specs.World.{Reply, Start, Started, World}
use Rattle.std.specs.Prelude.{Bool}
use Rattle.nv_core.specs.declared.whole.CallFault.{CallFault}
use Rattle.nv_core.specs.Whole.{Calls, RunsFrom, last_reply}
use Rattle.nv_core.specs.Worlds as worlds
use Rattle.nv_core.specs.Worlds.{WorldState, gos}
use Rattle.nv_serial.specs.Histories.{IsServed, StandsAs}
use Rattle.nv_serial.specs.Law.{AreRepliesTo, IsOutcome, alone}
use Rattle.nv_serial.specs.OneCall.{serial_call}
use Rattle.nv_serial.specs.Serial.{Serial}
use Rattle.nv_serial.proofs.SerialHistories.{call_stands}
use Rattle.nv_files.specs.Stands.{Stands}

-- its events are those of a call that is made alone, which may be refused at its start
record IsMade (m : World) (actor : ℕ) (c : Call) (last : Reply) (n : World) : Type 0 where
  grants : List Bool
  replies_are : AreRepliesTo grants (replies m (alone actor c grants)) last
  world_is : n ≡ after m (alone actor c grants)

made_of : (m : World) (actor : ℕ) (c : Call) (last : Reply) (n : World) → Calls m actor c last n → IsMade m actor c last n
made_of m actor c last n calls = go (step m (Start actor c)).reply refl calls where
  go : (first : Reply) → (step m (Start actor c)).reply ≡ first → RunsFrom first (step m (Start actor c)).world actor last n
      → IsMade m actor c last n
  go Started is runs =
      let moves = runs.goes in
      record {
        grants = moves.grants;
        replies_are = inr (
          moves.replies.before,
          ap (λ (r : Reply). r ∷ replies (step m (Start actor c)).world (gos actor moves.grants)) is
              ∙ ap (λ (told : List Reply). Started ∷ told) moves.replies.all_are,
          runs.ended,
        );
        world_is = moves.world;
      }
  go _ is ends = record {
    grants = [];
    replies_are = inl (refl, ap (λ (r : Reply). r ∷ []) (is ∙ sym ends.0), λ started. let other = ends.0 in cc);
    world_is = ends.1;
  }

-- the world with numbers has the numbers of the geometry
numbers_of : (g : GeometryNumbers) (m : World) (s : Serial) → StandsAs g m s → g ≡ s.numbers
numbers_of g m s stands = ap (λ (t : Serial). t.numbers) stands.serial_is

-- A WHOLE CALL leads to what one call of the world with numbers leaves
pub call_told : (old new : WorldState) (actor : ℕ) (c : Call) (result : Result Answer CallFault) (s : Serial) → Stands old s
    → worlds.Leads (λ m n. Calls m actor c (last_reply result) n) old new
    → (t : Serial) × IsOutcome c s (serial_call s actor c) (last_reply result) t × Stands new t
call_told old new actor c result s stands leads =
    let called = leads stands.world stands.shows in
    let made = made_of stands.world actor c (last_reply result) called.0 called.1 in
    let served : IsServed s.numbers stands.world s actor c made.grants (last_reply result) =
    call_stands s.numbers stands.world s stands.stands actor c made.grants (last_reply result) made.replies_are in
    let there : StandsAs s.numbers called.0 served.next =
    subst (λ (w : World). StandsAs s.numbers w served.next) (sym made.world_is) served.stands in (
      served.next,
      served.outcome,
      record {
        world = called.0;
        shows = called.2;
        stands = subst (λ (g : GeometryNumbers). StandsAs g called.0 served.next)
            (numbers_of s.numbers called.0 served.next there) there;
      },
    )
