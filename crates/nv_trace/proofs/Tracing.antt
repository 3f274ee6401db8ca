-- Traced calls: the line of one event more, at the end of those of an actor's call, up to its last.
use Rattle.std.proofs.Common.{◌≡◌, ◌≢◌, ℕ, ◌+◌, ◌≤◌, ◌∙◌, arith, Bool, List, [], ◌∷◌, ◌++◌, ap, append-nil, append_assoc, replicate, refl, suc, subst, sym}
use Rattle.nv_calls.specs.declared.call.Call.{Call}
use Rattle.nv_machine.specs.Step.{after, replies, step}
use Rattle.nv_machine.specs.World as machine
use Rattle.nv_machine.specs.World.{actor_at}
use Rattle.nv_core.specs.CallNames.{call_name}
use Rattle.nv_core.specs.Worlds.{IsBounded, IsStep, Leads, Shows, WorldState, gos, most_goes, reply_of}
use Rattle.nv_core.specs.declared.event.Event.TheVariants as event
use Rattle.nv_core.specs.declared.event.Reply.{Reply}
use Rattle.nv_core.specs.declared.event.Reply.TheVariants as reply
use Rattle.nv_core.proofs.Replies.{start_reply}
use Rattle.nv_core.proofs.WholeCalls.{after-more, gos-more, replicate-more, replies-more}
use Rattle.nv_script.specs.declared.trace.Trace.{Trace}
use Rattle.nv_script.specs.Trace.{CallsTraced, GoesTraced, RunsTraced, RunsTracedFrom, go_line, go_lines, start_lines}
use Rattle.nv_trace.specs.Traced.{Adds, HasMovedTraced, IsTracedStep}

-- the lines of events and of one more
pub go_lines-more : (form : Trace) (number : ℕ) (m : machine.World) (actor : ℕ) (grants : List Bool) (granted : Bool)
    → go_lines form number m actor (grants ++ granted ∷ [])
    ≡ go_lines form number m actor grants
    ++ go_line form number (after m (gos actor grants)) actor granted (actor_at (after m (gos actor grants)) actor).running
go_lines-more form number m actor [] granted = append-nil (go_line form number m actor granted (actor_at m actor).running)
go_lines-more form number m actor (first ∷ grants) granted =
    let own = go_line form number m actor first (actor_at m actor).running in
    let next = (step m (machine.Go actor first)).world in
    ap (λ (rest : List ℕ). own ++ rest) (go_lines-more form number next actor grants granted)
    ∙ sym (append_assoc own (go_lines form number next actor grants)
    (go_line form number (after next (gos actor grants)) actor granted (actor_at (after next (gos actor grants)) actor).running))

-- a call went on so often and once more: it moved each time before the last, which had this reply; its events have these lines
record HasGoneTraced (form : Trace) (number times actor : ℕ) (answer : Reply) (events : List ℕ) (old new : machine.World) : Type 0 where
  grants : List Bool
  replies : replies old (gos actor grants) ≡ replicate times machine.Moved ++ reply_of answer ∷ []
  world : new ≡ after old (gos actor grants)
  lines : events ≡ go_lines form number old actor grants

-- nothing is told yet
pub traced_none : (form : Trace) (number actor : ℕ) (w : WorldState) (out : List ℕ)
    → Leads (λ m n. Adds out out (λ events. HasMovedTraced form number 0 actor events m n)) w w
traced_none form number actor w out m shows =
    (m, ([], sym (append-nil out), (record { grants = []; replies = refl; world = refl }, refl)), shows)

module _ (form : Trace) (number actor : ℕ) (old mid new : WorldState) (times : ℕ) (answer : Reply) (first before out : List ℕ)
    (moved : Leads (λ m n. Adds first before (λ events. HasMovedTraced form number times actor events m n)) old mid)
    (makes : (m : machine.World) → Shows mid m → IsTracedStep form number m actor answer before out new) where
  -- a step more
  gone : Leads (λ m n. Adds first out (λ events. HasGoneTraced form number times actor answer events m n)) old new
  gone m shows =
      let by = moved m shows in
      let n = by.0 in
      let lines = by.1.0 in
      let traced : HasMovedTraced form number times actor lines m n = by.1.2 in
      let had = traced.0 in
      let made = makes n by.2 in
      let events = gos actor had.grants in
      let line = go_line form number n actor made.granted (actor_at n actor).running in
      let more : gos actor (had.grants ++ made.granted ∷ []) ≡ events ++ machine.Go actor made.granted ∷ [] =
      gos-more actor had.grants made.granted in
      let at : go_line form number (after m events) actor made.granted (actor_at (after m events) actor).running ≡ line =
      ap (λ (w : machine.World). go_line form number w actor made.granted (actor_at w actor).running) (sym had.world) in (
        (step n (machine.Go actor made.granted)).world,
        (
          lines ++ line,
          made.text_is ∙ ap (λ (t : List ℕ). t ++ line) by.1.1 ∙ append_assoc first lines line,
          record {
            grants = had.grants ++ made.granted ∷ [];
            replies =
                ap (replies m) more ∙ replies-more m events (machine.Go actor made.granted)
                ∙ ap (λ (w : machine.World). replies m events ++ (step w (machine.Go actor made.granted)).reply ∷ []) (sym had.world)
                ∙ ap (λ (r : machine.Reply). replies m events ++ r ∷ []) (sym made.reply_is)
                ∙ ap (λ (all : List machine.Reply). all ++ reply_of answer ∷ []) had.replies;
            world =
                ap (λ (w : machine.World). (step w (machine.Go actor made.granted)).world) had.world
                ∙ sym (ap (after m) more ∙ after-more m events (machine.Go actor made.granted));
            lines =
                ap (λ (t : List ℕ). t ++ line) traced.1
                ∙ sym (go_lines-more form number m actor had.grants made.granted
                ∙ ap (λ (t : List ℕ). go_lines form number m actor had.grants ++ t) at);
          },
        ),
        made.shows,
      )

  -- it moved once more
  pub traced_more : answer ≡ reply.Moved
      → Leads (λ m n. Adds first out (λ events. HasMovedTraced form number (times + 1) actor events m n)) old new
  traced_more is m shows =
      let by = gone m shows in
      let had : HasGoneTraced form number times actor answer by.1.0 m by.0 = by.1.2 in (
        by.0,
        (
          by.1.0,
          by.1.1,
          (
            record {
              grants = had.grants;
              replies =
                  had.replies ∙ ap (λ (r : Reply). replicate times machine.Moved ++ reply_of r ∷ []) is
                  ∙ replicate-more times machine.Moved ∙ ap (λ (k : ℕ). replicate k machine.Moved) (one_more times);
              world = had.world;
            },
            had.lines,
          ),
        ),
        by.2,
      )
    where
      one_more : (n : ℕ) → suc n ≡ n + 1
      one_more n = omega arith

  -- so an actor's call goes on so often at most
  pub traced_goes : (more : ℕ) → times ≤ more → (reply_of answer ≡ machine.Moved → times ≡ more)
      → Leads (λ m n. Adds first out (λ events. GoesTraced form number (more + 1) m actor events (reply_of answer) n)) old new
  traced_goes more few all m shows =
      let by = gone m shows in
      let had : HasGoneTraced form number times actor answer by.1.0 m by.0 = by.1.2 in (
        by.0,
        (
          by.1.0,
          by.1.1,
          (
            record {
              grants = had.grants;
              replies = record {
                before = times;
                all_are = had.replies;
                few = omega (arith, few);
                ends = λ moved. ap (λ (n : ℕ). n + 1) (all moved);
              };
              world = had.world;
            },
            had.lines,
          ),
        ),
        by.2,
      )

-- ---- runs

-- a traced call whose steps are bounded has come to where it did not move
pub traced_ran : (form : Trace) (number actor : ℕ) (old new : WorldState) (answer : Reply) (first out : List ℕ)
    → ((m : machine.World) → Shows old m → IsBounded m)
    → Leads (λ m n. Adds first out (λ events. GoesTraced form number most_goes m actor events (reply_of answer) n)) old new
    → Leads (λ m n. Adds first out (λ events. RunsTraced form number m actor events (reply_of answer) n)) old new
traced_ran form number actor old new answer first out bounded gone m shows =
    let by = gone m shows in
    let traced : GoesTraced form number most_goes m actor by.1.0 (reply_of answer) by.0 = by.1.2 in
    let had = traced.0 in
    let all = had.replies in (
      by.0,
      (
        by.1.0,
        by.1.1,
        (
          record {
            most = most_goes;
            goes = had;
            ended = λ moved. bounded m shows actor had.grants
                (all.all_are ∙ ap (λ (r : machine.Reply). replicate all.before machine.Moved ++ r ∷ []) moved
                ∙ replicate-more all.before machine.Moved
                ∙ ap (λ (k : ℕ). replicate k machine.Moved) (same all.before most_goes (all.ends moved)));
          },
          traced.1,
        ),
      ),
      by.2,
    )
  where
    same : (before most : ℕ) → before + 1 ≡ most → suc before ≡ most
    same before most is = omega (arith, is)

-- ---- whole calls

module _ (form : Trace) (number actor : ℕ) (c : Call) (old mid new : WorldState) (first before out : List ℕ) where
  -- one that was started runs
  pub traced_called : (answer : Reply) → ((m : machine.World) → Shows old m → IsStep m (event.Start actor c) reply.Started mid)
      → before ≡ first ++ start_lines form number actor (call_name c) machine.Started
      → Leads (λ m n. Adds before out (λ events. RunsTraced form number m actor events (reply_of answer) n)) mid new
      → Leads (λ m n. Adds first out (λ events. CallsTraced form number m actor c events (reply_of answer) n)) old new
  traced_called answer starts begun runs m shows =
      let start = starts m shows in
      let began = step m (machine.Start actor c) in
      let is : machine.Started ≡ began.reply = start_reply m actor c reply.Started mid start in
      let by = runs began.world start.shows in
      let traced : RunsTraced form number began.world actor by.1.0 (reply_of answer) by.0 = by.1.2 in
      let own = start_lines form number actor (call_name c) machine.Started in (
        by.0,
        (
          own ++ by.1.0,
          by.1.1 ∙ ap (λ (t : List ℕ). t ++ by.1.0) begun ∙ append_assoc first own by.1.0,
          (
            by.1.0,
            subst (λ (r : machine.Reply). RunsTracedFrom r form number began.world actor by.1.0 (reply_of answer) by.0) is traced,
            ap (λ (r : machine.Reply). start_lines form number actor (call_name c) r ++ by.1.0) is,
          ),
        ),
        by.2,
      )

  -- one that was refused does not
  pub traced_refused : (answer : Reply) → answer ≢ reply.Started
      → ((m : machine.World) → Shows old m → IsStep m (event.Start actor c) answer mid)
      → before ≡ first ++ start_lines form number actor (call_name c) (reply_of answer)
      → Leads (λ m n. Adds first before (λ events. CallsTraced form number m actor c events (reply_of answer) n)) old mid
  traced_refused answer other starts begun m shows =
      let start = starts m shows in
      let began = step m (machine.Start actor c) in
      let is : reply_of answer ≡ began.reply = start_reply m actor c answer mid start in
      let events = start_lines form number actor (call_name c) began.reply in (
        began.world,
        (
          events ++ [],
          begun ∙ ap (λ (r : machine.Reply). first ++ start_lines form number actor (call_name c) r) is
              ∙ ap (λ (t : List ℕ). first ++ t) (sym (append-nil events)),
          (
            [],
            from began.reply (λ same. other (started_only answer (is ∙ same))) began.world (reply_of answer) is,
            refl,
          ),
        ),
        start.shows,
      )
    where
      from : (r : machine.Reply) → (r ≡ machine.Started → ⊥) → (w : machine.World) (last : machine.Reply) → last ≡ r
          → RunsTracedFrom r form number w actor [] last w
      from machine.Started not w last is = absurd (not refl)
      from machine.Moved not w last is = (is, refl, refl)
      from machine.Waiting not w last is = (is, refl, refl)
      from (machine.Done found) not w last is = (is, refl, refl)
      from (machine.Refused why) not w last is = (is, refl, refl)

      started_only : (a : Reply) → reply_of a ≡ machine.Started → a ≡ reply.Started
      started_only reply.Started is = refl
      started_only reply.Moved is = absurd (cc)
      started_only reply.Waits is = absurd (cc)
      started_only (reply.Done found) is = absurd (cc)
      started_only reply.Stopped is = absurd (cc)
      started_only (reply.Refused why) is = absurd (cc)
