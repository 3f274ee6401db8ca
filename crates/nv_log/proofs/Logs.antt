-- Logs: any two entries of one, one more entry, and what is left of one.
use Rattle.std.proofs.Common.{◌≡◌, ℕ, zero, suc, ◌-◌, ◌<◌, Bool, true, false, List, [], ◌∷◌, ◌++◌, length, get_or, take, arith}
use Rattle.std.specs.List.{AllByRecursion}
use Rattle.nv_base.proofs.Ids.{before-trans}
use Rattle.nv_entry.specs.declared.item.Entry.{Entry}
use Rattle.nv_entry.specs.Log.{IsLog, MayFollow}
use Rattle.nv_log.specs.Chain.{left_of}
use Rattle.nv_log.proofs.Flags.{all_left}

-- what holds of each item holds of the one at a place
all_at : {X : Type 0} (P : X → Type 0) (xs : List X) (k : ℕ) (d : X) → AllByRecursion P xs → k < length xs → P (get_or xs k d)
all_at P [] k d all lt = absurd (omega arith)
all_at P (x ∷ xs) zero d all lt = all.0
all_at P (x ∷ xs) (suc k) d all lt = all_at P xs k d all.1 (omega arith)

all_append : {X : Type 0} (P : X → Type 0) (xs ys : List X) → AllByRecursion P xs → AllByRecursion P ys → AllByRecursion P (xs ++ ys)
all_append P [] ys all more = more
all_append P (x ∷ xs) ys all more = (all.0, all_append P xs ys all.1 more)

-- of two entries of a log the later may follow the earlier
pub ordered_at : (es : List Entry) (i j : ℕ) (d : Entry) → IsLog es → i < j → j < length es → MayFollow (get_or es i d) (get_or es j d)
ordered_at [] i j d is lt within = absurd (omega arith)
ordered_at (e ∷ es) i zero d is lt within = absurd (omega arith)
ordered_at (e ∷ es) zero (suc j) d is lt within = all_at (MayFollow e) es j d is.0 (omega arith)
ordered_at (e ∷ es) (suc i) (suc j) d is lt within = ordered_at es i j d is.1 (omega arith) (omega arith)

follow-trans : (a b c : Entry) → MayFollow a b → MayFollow b c → MayFollow a c
follow-trans a b c p q = record { id_rises = before-trans a.id b.id c.id p.id_rises q.id_rises; epoch_stays = omega arith }

-- an entry that may follow the last may follow each
follows_each : (es : List Entry) (e : Entry) → IsLog es → (0 < length es → MayFollow (get_or es (length es - 1) e) e)
    → AllByRecursion (λ x. MayFollow x e) es
follows_each [] e is last = tt
follows_each (x ∷ []) e is last = (last (omega arith), tt)
follows_each (x ∷ y ∷ es) e is last =
    let shift : length (y ∷ es) - 1 ≡ length es = omega arith in
    let whole : length (x ∷ y ∷ es) - 1 ≡ suc (length es) = omega arith in
    let all = follows_each (y ∷ es) e is.1 (λ _. rw shift (rw whole at (last (omega arith)))) in
    (follow-trans x y e is.0.0 all.0, all)

push : (es : List Entry) (e : Entry) → IsLog es → AllByRecursion (λ x. MayFollow x e) es → IsLog (es ++ e ∷ [])
push [] e is all = (tt, tt)
push (x ∷ es) e is all = (all_append (MayFollow x) es (e ∷ []) is.0 (all.0, tt), push es e is.1 all.1)

-- a log with one more entry that may follow its last
pub IsLog-push : (es : List Entry) (e : Entry) → IsLog es → (0 < length es → MayFollow (get_or es (length es - 1) e) e)
    → IsLog (es ++ e ∷ [])
IsLog-push es e is last = push es e is (follows_each es e is last)

-- the first entries of a log are one
all_front : {X : Type 0} (P : X → Type 0) (t : ℕ) (xs : List X) → AllByRecursion P xs → AllByRecursion P (take t xs)
all_front P zero [] all = tt
all_front P (suc t) [] all = tt
all_front P zero (x ∷ xs) all = tt
all_front P (suc t) (x ∷ xs) all = (all.0, all_front P t xs all.1)

pub IsLog-take : (t : ℕ) (es : List Entry) → IsLog es → IsLog (take t es)
IsLog-take zero [] is = tt
IsLog-take (suc t) [] is = tt
IsLog-take zero (e ∷ es) is = tt
IsLog-take (suc t) (e ∷ es) is = (all_front (MayFollow e) t es is.0, IsLog-take t es is.1)

-- what is left of a log is one
pub IsLog-left_of : (stays : List Bool) (es : List Entry) → IsLog es → IsLog (left_of stays es)
IsLog-left_of [] es is = is
IsLog-left_of (b ∷ stays) [] is = tt
IsLog-left_of (true ∷ stays) (e ∷ es) is = (all_left (MayFollow e) stays es is.0, IsLog-left_of stays es is.1)
IsLog-left_of (false ∷ stays) (e ∷ es) is = IsLog-left_of stays es is.1
