-- A run goes on by one event.
use Rattle.std.proofs.Common.{◌≡◌, ◌∙◌, Bool, List, [], ◌∷◌, ◌++◌, ap, arith, length, map, refl, subst, sym}
use Rattle.nv_machine.specs.Step as machine_step
use Rattle.nv_machine.specs.World as machine
use Rattle.nv_restart.specs.Happenings.{Happening, Told, after_all, all_told, happen, told_at}
use Rattle.nv_core.specs.declared.event.Event.{Event}
use Rattle.nv_core.specs.declared.event.Reply.{Reply}
use Rattle.nv_core.specs.Worlds.{WorldState}
use Rattle.nv_core.specs.Worlds.{IsRun, IsStep, Shows, happening_of, happenings_of, told_by}

events-snoc : (events : List Event) (grants : List Bool) (e : Event) (granted : Bool) → length grants ≡ length events
    → happenings_of (events ++ e ∷ []) (grants ++ granted ∷ []) ≡ happenings_of events grants ++ happening_of e granted ∷ []
events-snoc [] [] e granted same = refl
events-snoc (first ∷ events) (g ∷ grants) e granted same =
    ap (λ rest. happening_of first g ∷ rest) (events-snoc events grants e granted (omega (arith, same)))
events-snoc [] (g ∷ grants) e granted same = absurd (omega (arith, same))
events-snoc (first ∷ events) [] e granted same = absurd (omega (arith, same))

pub after-snoc : (m : machine.World) (events : List machine.Event) (e : machine.Event)
    → machine_step.after m (events ++ e ∷ []) ≡ (machine_step.step (machine_step.after m events) e).world
after-snoc m [] e = refl
after-snoc m (first ∷ events) e = after-snoc (machine_step.step m first).world events e

happens-snoc : (m : machine.World) (hs : List Happening) (h : Happening) → after_all m (hs ++ h ∷ []) ≡ happen (after_all m hs) h
happens-snoc m [] h = refl
happens-snoc m (first ∷ hs) h = happens-snoc (happen m first) hs h

answers-snoc : (m : machine.World) (hs : List Happening) (h : Happening)
    → all_told m (hs ++ h ∷ []) ≡ all_told m hs ++ told_at (after_all m hs) h ∷ []
answers-snoc m [] h = refl
answers-snoc m (first ∷ hs) h = ap (λ rest. told_at m first ∷ rest) (answers-snoc (happen m first) hs h)

told-snoc : (replies : List Reply) (reply : Reply)
    → map told_by (replies ++ reply ∷ []) ≡ map told_by replies ++ told_by reply ∷ []
told-snoc [] reply = refl
told-snoc (first ∷ replies) reply = ap (λ rest. told_by first ∷ rest) (told-snoc replies reply)

count-snoc : {X Y : Type 0} (xs : List X) (ys : List Y) (x : X) (y : Y) → length xs ≡ length ys
    → length (xs ++ x ∷ []) ≡ length (ys ++ y ∷ [])
count-snoc [] [] x y same = refl
count-snoc (a ∷ xs) (b ∷ ys) x y same = omega (arith, count-snoc xs ys x y (omega (arith, same)))
count-snoc [] (b ∷ ys) x y same = absurd (omega (arith, same))
count-snoc (a ∷ xs) [] x y same = absurd (omega (arith, same))

pub run-snoc : (m : machine.World) (events : List Event) (replies : List Reply) (mid new : WorldState) (e : Event) (reply : Reply)
    → IsRun m events replies mid → ((n : machine.World) → Shows mid n → IsStep n e reply new)
    → IsRun m (events ++ e ∷ []) (replies ++ reply ∷ []) new
run-snoc m events replies mid new e reply run by =
    let done = happenings_of events run.grants in
    let step = by (after_all m done) run.shows in
    let all = events-snoc events run.grants e step.granted run.count in
    record {
      grants = run.grants ++ step.granted ∷ [];
      count = count-snoc run.grants events step.granted e run.count;
      all_are = told-snoc replies reply
          ∙ ap (λ (rs : List Told). rs ++ told_by reply ∷ []) run.all_are
          ∙ ap (λ (r : Told). all_told m done ++ r ∷ []) step.told_is
          ∙ sym (answers-snoc m done (happening_of e step.granted))
          ∙ ap (λ (hs : List Happening). all_told m hs) (sym all);
      shows = subst (λ (w : machine.World). Shows new w)
          (sym (happens-snoc m done (happening_of e step.granted)) ∙ ap (λ (hs : List Happening). after_all m hs) (sym all)) step.shows;
    }

pub run-none : (m : machine.World) (w : WorldState) → Shows w m → IsRun m [] [] w
run-none m w shows = record { grants = []; count = refl; all_are = refl; shows = shows }
