-- The line in whose text a front of the text of some lines ends.
use Rattle.std.proofs.Common.{◌≡◌, ℕ, ◌+◌, ◌<◌, ◌≤◌, inl, inr, List, [], ◌∷◌, ◌++◌, length, Option, refl, ap, ◌∙◌, append_assoc, sym, arith}
use Rattle.std.proofs.lemmas.Bool.{cases_lt}
use Rattle.nv_machine.specs.World.{World}
use Rattle.nv_script.specs.Lines.{IsCutOff, IsLine}
use Rattle.nv_script.specs.Play.{Plays, PlaysFrom, no_head}
use Rattle.nv_script.specs.Trace.{player_by}
use Rattle.nv_script.specs.declared.trace.Trace.{Trace}

-- where two splits of a text are, the one that ends first is a front of the other's front
pub shorter : (a b c d : List ℕ) → a ++ b ≡ c ++ d → length c < length a → IsCutOff c a
shorter a b [] d same less = (a, refl, less)
shorter [] b (y ∷ c) d same less = absurd (omega arith)
shorter (x ∷ a) b (y ∷ c) d same less =
    let head : x ≡ y = cc in
    let tail : a ++ b ≡ c ++ d = cc in
    let rest = shorter a b c d tail (omega arith) in
    (rest.0, (let more = rest.1 in cc), rest.2)

pub longer : (a b c d : List ℕ) → a ++ b ≡ c ++ d → length a ≤ length c → (more : List ℕ) × (c ≡ a ++ more) × (b ≡ more ++ d)
longer [] b c d same most = (c, refl, same)
longer (x ∷ a) b [] d same most = absurd (omega arith)
longer (x ∷ a) b (y ∷ c) d same most =
    let head : x ≡ y = cc in
    let tail : a ++ b ≡ c ++ d = cc in
    let rest = longer a b c d tail (omega arith) in
    (rest.0, (let more = rest.1 in cc), rest.2)

-- the lines before it, it, which has this number, and those after it; the text before its own, and what is there of its own
pub record BreaksAt (events : Trace) (head : ℕ → List ℕ → List ℕ) (number : ℕ) (old : Option World) (lines : List (List ℕ)) (front : List ℕ) : Type 0 where
  pub before : List (List ℕ)
  pub line : List ℕ
  pub after : List (List ℕ)
  pub text : List ℕ
  pub sent : List ℕ
  pub own : List ℕ
  pub world : Option World
  pub new : Option World
  pub place : ℕ
  pub place_is : place ≡ number + length before
  pub split : lines ≡ before ++ line ∷ after
  pub front_is : front ≡ text ++ sent
  pub played : PlaysFrom (player_by events head) number old before text world
  pub lawful : IsLine line
  pub plays : Plays (player_by events no_head) place world line own new
  pub cut_off : IsCutOff sent (head place line ++ own)

none_of : (front : List ℕ) → IsCutOff front [] → ⊥
none_of [] cut = let same = cut.1 in let some = cut.2 in omega (arith, ap length same)
none_of (byte ∷ front) cut = let same = cut.1 in cc

pub breaks_at : (events : Trace) (head : ℕ → List ℕ → List ℕ) (number : ℕ) (old : Option World) (lines : List (List ℕ)) (text front : List ℕ)
    (new : Option World) → PlaysFrom (player_by events head) number old lines text new → IsCutOff front text
    → BreaksAt events head number old lines front
breaks_at events head number old [] text front new all cut = absurd (none_of front (cut.0, sym all.0 ∙ cut.1, cut.2))
breaks_at events head number old (line ∷ lines) text front new all cut =
    let own = head number line ++ all.0 in
    let same : own ++ all.1 ≡ front ++ cut.0 = sym all.6 ∙ cut.1 in
    elim (cases_lt (length front) (length own)) [
      | inl less ↦ record {
        before = [];
        line = line;
        after = lines;
        text = [];
        sent = front;
        own = all.0;
        world = old;
        new = all.2;
        place = number;
        place_is = omega arith;
        split = refl;
        front_is = refl;
        played = (refl, refl);
        lawful = all.3;
        plays = all.4;
        cut_off = shorter own all.1 front cut.0 same less;
      }
      | inr most ↦
          let more = longer own all.1 front cut.0 same most in
          let at = breaks_at events head (number + 1) all.2 lines all.1 more.0 new all.5 (cut.0, more.2, cut.2) in
          record {
            before = line ∷ at.before;
            line = at.line;
            after = at.after;
            text = own ++ at.text;
            sent = at.sent;
            own = at.own;
            world = at.world;
            new = at.new;
            place = at.place;
            place_is = (let is = at.place_is in omega (arith, is));
            split = ap (λ (ls : List (List ℕ)). line ∷ ls) at.split;
            front_is = more.1 ∙ ap (λ t. own ++ t) at.front_is ∙ sym (append_assoc own at.text at.sent);
            played = (all.0, at.text, all.2, all.3, all.4, at.played, refl);
            lawful = at.lawful;
            plays = at.plays;
            cut_off = at.cut_off;
          }
    ]
