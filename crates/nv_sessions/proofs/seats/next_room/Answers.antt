use Rattle.std.proofs.Common.{All, ◌≡◌, ◌∙◌, ◌++◌, ◌∷◌, List, [], ap, arith, length, refl, slice_index_or, subst}
use Rattle.std.proofs.lemmas.List.{get_or_append_left, get_or_push, length_push}
use Rattle.nv_sessions.specs.Taken.{IsRoom}
use Rattle.nv_sessions.proofs.seats.next_room.Goals as goal

-- what holds of all holds of all except the last, and of that
all_front : {X : Type 0} (P : X → Type 0) (items front : List X) (last : X) → items ≡ front ++ last ∷ [] → All P items → All P front
all_front {X} P items front last is all = λ k d inside.
    subst P (ap (λ (l : List X). slice_index_or l k d) is ∙ get_or_append_left front (last ∷ []) d k inside)
    (all k d (omega (arith, inside, ap (λ (l : List X). length l) is, length_push front last)))

all_last : {X : Type 0} (P : X → Type 0) (items front : List X) (last : X) → items ≡ front ++ last ∷ [] → All P items → P last
all_last {X} P items front last is all =
    subst P (ap (λ (l : List X). slice_index_or l (length front) last) is ∙ get_or_push front last last (length front) refl)
    (all (length front) last (omega (arith, ap (λ (l : List X). length l) is, length_push front last)))

pub returns-clause-room : goal.returns-clause-room
returns-clause-room c =
    all_last IsRoom c.args.rooms.now.items c.pop.new.self.items c.in-Some.room c.in-Some.ensures.items c.requires.each

pub returns-clause-each : goal.returns-clause-each
returns-clause-each c =
    all_front IsRoom c.args.rooms.now.items c.pop.new.self.items c.in-Some.room c.in-Some.ensures.items c.requires.each
