-- What a pass is once a move was made, and what this says to a contract.
use Rattle.std.proofs.Common.{◌≡◌, ◌≢◌, ℕ, ◌+◌, ◌≤◌, List, [], true, sym, ap, ◌∙◌, subst, arith}
use Rattle.std.specs.Prelude.{slice_index}
use Rattle.crossbeam_utils.specs.Register.{Forks}
use Rattle.nv_sessions.specs.declared.fresh.View.{View}
use Rattle.nv_sessions.specs.Fresh.{AreFresh, Owned, greater, made_one, maker, new_owner, note, only_at, own_note, owner, seer, told, with_note}
use Rattle.nv_sessions.proofs.Moves.{makes_owner}
use Rattle.nv_sessions.proofs.Versions.{slice_index-greater, slice_index-only_at, slice_index-only_else}

-- ---- owners

abbrev IsOwner : View → Type 0
IsOwner v = v ≡ owner v.ino v.version []

pub owns_of : (v : View) → IsOwner v → v.is_owner ≡ true
owns_of v e = ap (λ (u : View). u.is_owner) e

pub still_owner : (v w : View) → IsOwner v → w ≡ v → IsOwner w
still_owner v w e s = s ∙ e ∙ sym (ap (λ (u : View). owner u.ino u.version []) s)

abbrev reset : View → View
reset v = record v { seen = [] }

-- an owner that was told, and has met, is the owner that it was
pub met_owner : (v n v' w : View) → IsOwner v → v' ≡ told v n → w ≡ reset v' → w ≡ v
met_owner v n v' w e t m = m ∙ ap reset t ∙ ap reset e ∙ sym e

abbrev risen : View → View
risen v = record v { version = v.version + 1 }

pub risen_owner : (v w : View) → IsOwner v → w ≡ risen v → IsOwner w
risen_owner v w e r = r ∙ ap risen e ∙ sym (ap (λ (u : View). owner u.ino u.version []) r)

pub is_new_owner : (v w : View) → w ≡ new_owner v → IsOwner w
is_new_owner v w s = s ∙ sym (ap (λ (u : View). owner u.ino u.version []) s)

-- an owner to a contract
abbrev owned : View → Owned
owned v = record { ino = v.ino; version = v.version }

abbrev up_by_one : Owned → Owned
up_by_one o = record { ino = o.ino; version = o.version + 1 }

pub risen_value : (v w : View) (o : Owned) → owned v ≡ o → w ≡ risen v → owned w ≡ up_by_one o
risen_value v w o e r = ap owned r ∙ ap up_by_one e

pub same_value : (v w : View) (o : Owned) → owned v ≡ o → w ≡ v → owned w ≡ o
same_value v w o e s = ap owned s ∙ e

pub new_owned : (v w : View) (n : ℕ) → v.made ≡ n → w ≡ new_owner v
    → owned w ≡ record { ino = n; version = 0 }
new_owned v w n e s = ap owned s ∙ ap (λ k. owned (owner k 0 [])) e

-- what an owner was told of, once it has met it
pub met_bound : (v n v' s : View) (seen : List ℕ) (o : Owned) → v' ≡ told v n → n ≡ note s
    → s.seen ≡ seen → owned v ≡ o → slice_index v'.seen v'.ino ≤ v'.version
    → slice_index seen o.ino ≤ o.version
met_bound v n v' s seen o t k e p h =
    let here : slice_index n.seen v.ino ≤ v.version
    = subst (λ (u : View). slice_index u.seen u.ino ≤ u.version) t h in
    let noted : slice_index seen v.ino ≤ v.version
    = subst (λ (z : List ℕ). slice_index z v.ino ≤ v.version)
    (ap (λ (u : View). u.seen) k ∙ e) here in
    subst (λ (z : Owned). slice_index seen z.ino ≤ z.version) p noted

-- ---- what was seen

pub still_seer : (v w : View) → v ≡ seer v.seen → w ≡ v → w ≡ seer w.seen
still_seer v w e s = s ∙ e ∙ sym (ap (λ (u : View). seer u.seen) s)

pub fuller_seer : (v n w : View) → v ≡ seer v.seen → w ≡ with_note v n → w ≡ seer w.seen
fuller_seer v n w e r =
    r ∙ ap (λ (u : View). with_note u n) e ∙ sym (ap (λ (u : View). seer u.seen) r)

pub is_note : (v w : View) → w ≡ note v → w ≡ seer w.seen
is_note v w s = s ∙ sym (ap (λ (u : View). seer u.seen) s)

pub told_seen : (v n s w : View) (seen : List ℕ) (o : Owned) → w ≡ with_note s n → n ≡ own_note v
    → s.seen ≡ seen → owned v ≡ o → w.seen ≡ greater seen (only_at o.ino o.version)
told_seen v n s w seen o t k e p =
    ap (λ (u : View). u.seen) t
    ∙ ap (λ (u : View). greater s.seen u.seen) k
    ∙ ap (λ z. greater z (only_at v.ino v.version)) e
    ∙ ap (λ (z : Owned). greater seen (only_at z.ino z.version)) p

pub joined_seen : (v n o w : View) (xs ys : List ℕ) → w ≡ with_note v n → n ≡ note o
    → v.seen ≡ xs → o.seen ≡ ys → w.seen ≡ greater xs ys
joined_seen v n o w xs ys t k e f =
    ap (λ (u : View). u.seen) t
    ∙ ap (λ (u : View). greater v.seen u.seen) k
    ∙ ap (λ z. greater z o.seen) e
    ∙ ap (λ z. greater xs z) f

pub first_seen : (xs ys zs : List ℕ) (i : ℕ) → zs ≡ greater xs ys
    → slice_index xs i ≤ slice_index zs i
first_seen xs ys zs i e =
    omega (arith, ap (λ z. slice_index z i) e, slice_index-greater xs ys i)

pub second_seen : (xs ys zs : List ℕ) (i : ℕ) → zs ≡ greater xs ys
    → slice_index ys i ≤ slice_index zs i
second_seen xs ys zs i e =
    omega (arith, ap (λ z. slice_index z i) e, slice_index-greater xs ys i)

-- a session that is told the version of an inode has seen that one there, where it had seen none above it
pub tell_here : (s t : List ℕ) (ino at v base version : ℕ) → t ≡ greater s (only_at at v)
    → at ≡ ino → version ≡ base + v → base + slice_index s ino ≤ version
    → base + slice_index t ino ≡ version
tell_here s t ino at v base version e same is below =
    let low : base + slice_index s at ≤ version
    = subst (λ (z : ℕ). base + slice_index s z ≤ version) (sym same) below in
    let told = ap (λ z. slice_index z at) e in
    subst (λ (z : ℕ). base + slice_index t z ≡ version) same
    (omega (arith, told, slice_index-greater s (only_at at v) at, slice_index-only_at at v))

pub tell_else : (s t : List ℕ) (ino at v i : ℕ) → t ≡ greater s (only_at at v) → at ≡ ino
    → i ≢ ino → slice_index t i ≡ slice_index s i
tell_else s t ino at v i e same apart =
    let told = ap (λ z. slice_index z i) e in
    let none = slice_index-only_else at v i (λ q. apart (q ∙ same)) in
    omega (arith, told, slice_index-greater s (only_at at v) i, none)

-- ---- the maker

pub maker_makes : (by : ℕ) (v : View) → v ≡ maker v.made
    → Forks AreFresh by v (made_one v) (new_owner v)
maker_makes by v e =
    makes_owner by v (ap (λ (u : View). u.is_maker) e) (ap (λ (u : View). u.is_owner) e)

pub next_maker : (v w : View) → v ≡ maker v.made → w ≡ made_one v → w ≡ maker w.made
next_maker v w e s = s ∙ ap made_one e ∙ sym (ap (λ (u : View). maker u.made) s)

pub still_maker : (v w : View) → v ≡ maker v.made → w ≡ v → w ≡ maker w.made
still_maker v w e s = s ∙ e ∙ sym (ap (λ (u : View). maker u.made) s)

pub none_of_maker : (v w : View) → v ≡ maker v.made → w ≡ note v → w.seen ≡ []
none_of_maker v w e s = ap (λ (u : View). u.seen) s ∙ ap (λ (u : View). u.seen) e
