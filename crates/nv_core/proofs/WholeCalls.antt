-- Whole calls: one step more of an actor's call, at the end of some, up to its last.
use Rattle.std.proofs.Common.{◌≡◌, ◌≢◌, ℕ, zero, suc, ◌+◌, ◌<◌, ◌≤◌, ◌∙◌, arith, Bool, true, false, List, [], ◌∷◌, ◌++◌, Option, Some, None, Result, Ok, Err, ap, replicate, refl, subst, sym, nat_lt, length}
use Rattle.nv_calls.specs.declared.answer.Answer.{Answer}
use Rattle.nv_calls.specs.declared.call.Call.{Call}
use Rattle.nv_machine.specs.Step.{after, go_step, replies, start_step, step, turned}
use Rattle.nv_machine.specs.World as machine
use Rattle.nv_machine.specs.World.{Ends, Moves, Turn, actor_at}
use Rattle.nv_core.proofs.Replies.{go_reply, start_reply}
use Rattle.nv_core.specs.declared.event.Event.TheVariants.{Go, Start}
use Rattle.nv_core.specs.declared.event.Reply.{Reply}
use Rattle.nv_core.specs.declared.event.Reply.TheVariants.{Done, Moved, Refused, Started, Stopped, Waits}
use Rattle.nv_core.specs.declared.whole.CallFault.{CallFault}
use Rattle.nv_core.specs.Whole.{Calls, GoesOn, HasMoved, Runs, RunsFrom, last_reply}
use Rattle.nv_core.specs.Worlds.{IsBounded, IsStep, Leads, Shows, WorldState, gos, most_goes, reply_of, told_by}
use Rattle.nv_restart.specs.Happenings.{Replied}

-- the world after events and one more
pub after-more : (w : machine.World) (events : List machine.Event) (e : machine.Event)
    → after w (events ++ e ∷ []) ≡ (step (after w events) e).world
after-more w [] e = refl
after-more w (first ∷ events) e = after-more (step w first).world events e

-- the replies to them
pub replies-more : (w : machine.World) (events : List machine.Event) (e : machine.Event)
    → replies w (events ++ e ∷ []) ≡ replies w events ++ (step (after w events) e).reply ∷ []
replies-more w [] e = refl
replies-more w (first ∷ events) e =
    ap (λ (rest : List machine.Reply). (step w first).reply ∷ rest) (replies-more (step w first).world events e)

pub gos-more : (actor : ℕ) (grants : List Bool) (granted : Bool)
    → gos actor (grants ++ granted ∷ []) ≡ gos actor grants ++ machine.Go actor granted ∷ []
gos-more actor [] granted = refl
gos-more actor (first ∷ grants) granted = ap (λ (rest : List machine.Event). machine.Go actor first ∷ rest) (gos-more actor grants granted)

-- one more in front is one more behind
pub replicate-more : (n : ℕ) (reply : machine.Reply) → replicate n reply ++ reply ∷ [] ≡ replicate (suc n) reply
replicate-more zero reply = refl
replicate-more (suc n) reply = ap (λ (rest : List machine.Reply). reply ∷ rest) (replicate-more n reply)

one_more : (n : ℕ) → suc n ≡ n + 1
one_more n = omega arith

-- ---- the worlds that are shown

-- it went on so often and once more: it moved each time before the last, which had this reply
record HasGone (times actor : ℕ) (reply : Reply) (old new : machine.World) : Type 0 where
  grants : List Bool
  replies : replies old (gos actor grants) ≡ replicate times machine.Moved ++ reply_of reply ∷ []
  world : new ≡ after old (gos actor grants)

pub moved_none : (w : WorldState) (actor : ℕ) → Leads (HasMoved 0 actor) w w
moved_none w actor m shows = (m, record { grants = []; replies = refl; world = refl }, shows)

-- a step more
gone : (old mid new : WorldState) (times actor : ℕ) (reply : Reply) → Leads (HasMoved times actor) old mid
    → ((m : machine.World) → Shows mid m → IsStep m (Go actor) reply new) → Leads (HasGone times actor reply) old new
gone old mid new times actor reply moved makes m shows =
    let by = moved m shows in
    let had = by.1 in
    let made = makes by.0 by.2 in
    let events = gos actor had.grants in
    let more : gos actor (had.grants ++ made.granted ∷ []) ≡ events ++ machine.Go actor made.granted ∷ [] =
    gos-more actor had.grants made.granted in (
      (step by.0 (machine.Go actor made.granted)).world,
      record {
        grants = had.grants ++ made.granted ∷ [];
        replies =
            ap (replies m) more ∙ replies-more m events (machine.Go actor made.granted)
            ∙ ap (λ (w : machine.World). replies m events ++ (step w (machine.Go actor made.granted)).reply ∷ []) (sym had.world)
            ∙ ap (λ (r : machine.Reply). replies m events ++ r ∷ []) (sym (go_reply by.0 actor reply new made))
            ∙ ap (λ (all : List machine.Reply). all ++ reply_of reply ∷ []) had.replies;
        world =
            ap (λ (w : machine.World). (step w (machine.Go actor made.granted)).world) had.world
            ∙ sym (ap (after m) more ∙ after-more m events (machine.Go actor made.granted));
      },
      made.shows,
    )

-- it moved once more
pub moved_more : (old mid new : WorldState) (times actor : ℕ) (reply : Reply) → reply ≡ Moved → Leads (HasMoved times actor) old mid
    → ((m : machine.World) → Shows mid m → IsStep m (Go actor) reply new) → Leads (HasMoved (times + 1) actor) old new
moved_more old mid new times actor reply is moved makes m shows =
    let by = gone old mid new times actor reply moved makes m shows in
    let had = by.1 in (
      by.0,
      record {
        grants = had.grants;
        replies =
            had.replies ∙ ap (λ (r : Reply). replicate times machine.Moved ++ reply_of r ∷ []) is ∙ replicate-more times machine.Moved
            ∙ ap (λ (k : ℕ). replicate k machine.Moved) (one_more times);
        world = had.world;
      },
      by.2,
    )

-- so an actor's call goes on so often at most
pub goes : (old mid new : WorldState) (times more actor : ℕ) (reply : Reply) → times ≤ more
    → (reply_of reply ≡ machine.Moved → times ≡ more) → Leads (HasMoved times actor) old mid
    → ((m : machine.World) → Shows mid m → IsStep m (Go actor) reply new)
    → Leads (λ m n. GoesOn (more + 1) m actor (reply_of reply) n) old new
goes old mid new times more actor reply few all moved makes m shows =
    let by = gone old mid new times actor reply moved makes m shows in
    let had = by.1 in (
      by.0,
      record {
        grants = had.grants;
        replies = record {
          before = times;
          all_are = had.replies;
          few = omega (arith, few);
          ends = λ moved. ap (λ (n : ℕ). n + 1) (all moved);
        };
        world = had.world;
      },
      by.2,
    )

-- it is the machine's reply alone that says so
pub moved_only : (reply : Reply) → reply_of reply ≡ machine.Moved → reply ≡ Moved
moved_only Started is = absurd (cc)
moved_only Moved is = refl
moved_only Waits is = absurd (cc)
moved_only (Done answer) is = absurd (cc)
moved_only Stopped is = absurd (cc)
moved_only (Refused fault) is = absurd (cc)

-- ---- one step

-- where there is no reply before the last, one step was made
only_one : (w : machine.World) (actor : ℕ) (grants : List Bool) (before : ℕ) (last : machine.Reply) → before < 1
    → replies w (gos actor grants) ≡ replicate before machine.Moved ++ last ∷ []
    → (granted : Bool) × (grants ≡ granted ∷ []) × ((step w (machine.Go actor granted)).reply ≡ last)
only_one w actor [] zero last few all = absurd (cc)
only_one w actor (granted ∷ []) zero last few all = (granted, refl, cc all)
only_one w actor (granted ∷ more ∷ grants) zero last few all = absurd (cc)
only_one w actor grants (suc before) last few all = absurd (omega (arith, few))

-- so a call that goes on once at most has made its next step
pub goes_once : (old new : WorldState) (actor : ℕ) (reply : Reply) → told_by reply ≡ Replied (reply_of reply)
    → Leads (λ m n. GoesOn 1 m actor (reply_of reply) n) old new
    → (m : machine.World) → Shows old m → IsStep m (Go actor) reply new
goes_once old new actor reply told goes m shows =
    let by = goes m shows in
    let had = by.1 in
    let one = only_one m actor had.grants had.replies.before (reply_of reply) had.replies.few had.replies.all_are in
    record {
      granted = one.0;
      told_is = told ∙ ap Replied (sym one.2);
      shows = subst (λ (n : machine.World). Shows new n) (had.world ∙ ap (λ (gs : List Bool). after m (gos actor gs)) one.1) by.2;
    }

-- ---- runs

-- a call whose steps are bounded has come to where it did not move
pub ran : (old new : WorldState) (actor : ℕ) (reply : Reply) → ((m : machine.World) → Shows old m → IsBounded m)
    → Leads (λ m n. GoesOn most_goes m actor (reply_of reply) n) old new → Leads (λ m n. Runs m actor (reply_of reply) n) old new
ran old new actor reply bounded gone m shows =
    let by = gone m shows in
    let had = by.1 in
    let all = had.replies in (
      by.0,
      record {
        most = most_goes;
        goes = had;
        ended = λ moved. bounded m shows actor had.grants
            (all.all_are ∙ ap (λ (r : machine.Reply). replicate all.before machine.Moved ++ r ∷ []) moved
            ∙ replicate-more all.before machine.Moved
            ∙ ap (λ (k : ℕ). replicate k machine.Moved) (one_more all.before ∙ all.ends moved));
      },
      by.2,
    )

-- ---- what the last reply can be

turned_replies : (t : Turn) (actor : ℕ) (w : machine.World) → (turned t actor w).reply ≢ machine.Started
turned_replies (Moves s h r) actor w is = absurd (cc)
turned_replies machine.Waits actor w is = absurd (cc)
turned_replies (Ends (Ok found) s h) actor w is = absurd (cc)
turned_replies (Ends (Err fault) s h) actor w is = absurd (cc)

go_replies : (b : Bool) (running : Option machine.Running) (actor : ℕ) (granted : Bool) (w : machine.World)
    → (go_step b running actor granted w).reply ≢ machine.Started
go_replies false running actor granted w is = absurd (cc)
go_replies true None actor granted w is = absurd (cc)
go_replies true (Some r) actor granted w is = turned_replies _ actor w is

-- no step says that its call was started
no_go_starts : (w : machine.World) (actor : ℕ) (granted : Bool) → (step w (machine.Go actor granted)).reply ≢ machine.Started
no_go_starts w actor granted = go_replies (nat_lt actor (length w.actors)) (actor_at w actor).running actor granted w

last_step : (w : machine.World) (actor : ℕ) (grants : List Bool) (before : ℕ) (last : machine.Reply)
    → replies w (gos actor grants) ≡ replicate before machine.Moved ++ last ∷ [] → last ≢ machine.Started
last_step w actor [] zero last all is = absurd (cc)
last_step w actor [] (suc before) last all is = absurd (cc)
last_step w actor (granted ∷ grants) zero last all is = no_go_starts w actor granted (cc (all, is))
last_step w actor (granted ∷ grants) (suc before) last all is =
    last_step (step w (machine.Go actor granted)).world actor grants before last (cc (all)) is

start_replies : (b : Bool) (running : Option machine.Running) (actor : ℕ) (call : Call) (w : machine.World)
    → (start_step b running actor call w).reply ≢ machine.Moved
start_replies false running actor call w is = absurd (cc)
start_replies true None actor call w is = absurd (cc)
start_replies true (Some r) actor call w is = absurd (cc)

-- no start says that a call moved on
no_start_moves : (w : machine.World) (actor : ℕ) (call : Call) → (step w (machine.Start actor call)).reply ≢ machine.Moved
no_start_moves w actor call = start_replies (nat_lt actor (length w.actors)) (actor_at w actor).running actor call w

-- ---- whole calls

-- a call that went on to its end is told its last reply
pub finished : (old new : WorldState) (actor : ℕ) (reply : Reply) (result : Result Answer CallFault)
    → (reply ≢ Started → reply ≢ Moved → last_reply result ≡ reply_of reply)
    → Leads (λ m n. Runs m actor (reply_of reply) n) old new → Leads (λ m n. Runs m actor (last_reply result) n) old new
finished old new actor reply result told ran m shows =
    let by = ran m shows in
    let had = by.1 in
    let all = had.goes.replies in
    let is = told
    (λ started. last_step m actor had.goes.grants all.before (reply_of reply) all.all_are (ap reply_of started))
    (λ moved. had.ended (ap reply_of moved)) in
    (by.0, subst (λ (r : machine.Reply). Runs m actor r by.0) (sym is) by.1, by.2)

-- a call that was started runs
pub started_runs : (old mid new : WorldState) (actor : ℕ) (call : Call) (reply : Reply) (last : machine.Reply) → reply ≡ Started
    → ((m : machine.World) → Shows old m → IsStep m (Start actor call) reply mid)
    → Leads (λ m n. Runs m actor last n) mid new → Leads (λ m n. Calls m actor call last n) old new
started_runs old mid new actor call reply last started makes runs m shows =
    let made = makes m shows in
    let by = runs (step m (machine.Start actor call)).world made.shows in (
      by.0,
      subst (λ (r : machine.Reply). RunsFrom r (step m (machine.Start actor call)).world actor last by.0)
          (sym (ap reply_of started) ∙ start_reply m actor call reply mid made) by.1,
      by.2,
    )

stays_by : (reply : Reply) (w : machine.World) (actor : ℕ) → reply ≢ Started → RunsFrom (reply_of reply) w actor (reply_of reply) w
stays_by Started w actor ne = absurd (ne refl)
stays_by Moved w actor ne = (refl, refl)
stays_by Waits w actor ne = (refl, refl)
stays_by (Done answer) w actor ne = (refl, refl)
stays_by Stopped w actor ne = (refl, refl)
stays_by (Refused fault) w actor ne = (refl, refl)

-- one that was not does not
pub refused_stays : (old new : WorldState) (actor : ℕ) (call : Call) (reply : Reply) (result : Result Answer CallFault)
    → reply ≢ Started → (reply ≢ Started → reply ≢ Moved → last_reply result ≡ reply_of reply)
    → ((m : machine.World) → Shows old m → IsStep m (Start actor call) reply new)
    → Leads (λ m n. Calls m actor call (last_reply result) n) old new
refused_stays old new actor call reply result ne told makes m shows =
    let made = makes m shows in
    let after = step m (machine.Start actor call) in
    let is = told ne (λ moved. no_start_moves m actor call (sym (start_reply m actor call reply new made) ∙ ap reply_of moved)) in
    let stays = subst (λ (r : machine.Reply). RunsFrom r after.world actor (reply_of reply) after.world)
    (start_reply m actor call reply new made)
    (stays_by reply after.world actor ne) in
    (after.world, subst (λ (r : machine.Reply). Calls m actor call r after.world) (sym is) stays, made.shows)
