-- The places of a commit's entries.
use Rattle.std.proofs.Common.{◌≡◌, ◌≢◌, ℕ, ◌+◌, ◌<◌, ◌≤◌, ◌==◌, nat_lt, Bool, true, false, cond, inl, inr, List, [], ◌∷◌, ◌++◌, length, arith, refl, sym, ◌∙◌}
use Rattle.std.specs.List.{AllByRecursion}
use Rattle.std.proofs.lemmas.Bool.{eqb-true, eqb-false, ltb-true, ltb-false}
use Rattle.std.proofs.lemmas.List.Sums.{sum_by-cons}
use Rattle.nv_entry.specs.declared.item.Entry.{Entry}
use Rattle.nv_entry.specs.declared.item.Item.{Item}
use Rattle.nv_entry.specs.Log.{IsLog, MayFollow}
use Rattle.nv_calls.specs.declared.plan.InodePlan.{InodePlan}
use Rattle.nv_calls.specs.Plan.{AreApart}
use Rattle.nv_calls.specs.Slots.{ArePlaced, entries_of, items_for, place_in}

-- ---- slot by slot

-- the items of one inode that stand before a slot
abbrev before : ℕ → InodePlan → ℕ
before ino p = cond (nat_lt p.handle.ino ino) (length p.items) 0

place-cons : (p : InodePlan) (plan : List InodePlan) (ino : ℕ) → place_in (p ∷ plan) ino ≡ before ino p + place_in plan ino
place-cons p plan ino = sum_by-cons (before ino) p plan

place-first : (plan : List InodePlan) → place_in plan 0 ≡ 0
place-first [] = refl
place-first (p ∷ plan) = omega (arith, place-cons p plan 0, place-first plan, none (nat_lt p.handle.ino 0) refl) where
  none : (b : Bool) → nat_lt p.handle.ino 0 ≡ b → cond b (length p.items) 0 ≡ 0
  none true q = absurd (omega (arith, ltb-true p.handle.ino 0 q))
  none false q = refl

-- a slot of none of them has no items
pub none_for : (plan : List InodePlan) (ino : ℕ) → AllByRecursion (λ (p : InodePlan). p.handle.ino ≢ ino) plan → length (items_for plan ino) ≡ 0
none_for [] ino all = refl
none_for (p ∷ plan) ino all = go (p.handle.ino == ino) refl (none_for plan ino all.1) where
  go : (b : Bool) → (p.handle.ino == ino) ≡ b → length (items_for plan ino) ≡ 0 → length (cond b p.items (items_for plan ino)) ≡ 0
  go true q rest = absurd (all.0 (eqb-true p.handle.ino ino q))
  go false q rest = rest

before-next : (p : InodePlan) (ino : ℕ) → p.handle.ino ≢ ino → before (ino + 1) p ≡ before ino p
before-next p ino apart = go (nat_lt p.handle.ino ino) (nat_lt p.handle.ino (ino + 1)) refl refl where
  go : (a b : Bool) → nat_lt p.handle.ino ino ≡ a → nat_lt p.handle.ino (ino + 1) ≡ b
      → cond b (length p.items) 0 ≡ cond a (length p.items) 0
  go true true q r = refl
  go false false q r = refl
  go true false q r = absurd (omega (arith, ltb-true p.handle.ino ino q, ltb-false p.handle.ino (ino + 1) r))
  go false true q r = absurd (apart (omega (arith, ltb-false p.handle.ino ino q, ltb-true p.handle.ino (ino + 1) r)))

before-own : (p : InodePlan) (ino : ℕ) → p.handle.ino ≡ ino → (before (ino + 1) p ≡ length p.items) × (before ino p ≡ 0)
before-own p ino own = (after (nat_lt p.handle.ino (ino + 1)) refl, at (nat_lt p.handle.ino ino) refl) where
  after : (b : Bool) → nat_lt p.handle.ino (ino + 1) ≡ b → cond b (length p.items) 0 ≡ length p.items
  after true q = refl
  after false q = absurd (omega (arith, ltb-false p.handle.ino (ino + 1) q))

  at : (b : Bool) → nat_lt p.handle.ino ino ≡ b → cond b (length p.items) 0 ≡ 0
  at true q = absurd (omega (arith, ltb-true p.handle.ino ino q))
  at false q = refl

place-next : (plan : List InodePlan) (ino : ℕ) → AreApart plan → place_in plan (ino + 1) ≡ place_in plan ino + length (items_for plan ino)
place-next [] ino apart = omega arith
place-next (p ∷ plan) ino apart = go (p.handle.ino == ino) refl (place-next plan ino apart.1) where
  whole : (place_in (p ∷ plan) (ino + 1) ≡ before (ino + 1) p + place_in plan (ino + 1))
      × (place_in (p ∷ plan) ino ≡ before ino p + place_in plan ino)
  whole = (place-cons p plan (ino + 1), place-cons p plan ino)

  others : p.handle.ino ≡ ino → (list : List InodePlan) → AllByRecursion (λ (other : InodePlan). other.handle.ino ≢ p.handle.ino) list
      → AllByRecursion (λ (other : InodePlan). other.handle.ino ≢ ino) list
  others own [] all = tt
  others own (q ∷ list) all = (λ e. all.0 (e ∙ sym own), others own list all.1)

  go : (b : Bool) → (p.handle.ino == ino) ≡ b → place_in plan (ino + 1) ≡ place_in plan ino + length (items_for plan ino)
      → place_in (p ∷ plan) (ino + 1) ≡ place_in (p ∷ plan) ino + length (cond b p.items (items_for plan ino))
  go true q rest =
      let own = eqb-true p.handle.ino ino q in
      omega (arith, whole, rest, before-own p ino own, none_for plan ino (others own plan apart.0))
  go false q rest = omega (arith, whole, rest, before-next p ino (eqb-false p.handle.ino ino q))

pub placed : (plan : List InodePlan) → AreApart plan → ArePlaced plan
placed plan apart = record { first = place-first plan; next = λ ino. place-next plan ino apart }

-- ---- ids

module _ (commit epoch : ℕ) where
  -- entries of one commit from a place on
  abbrev IsFrom : ℕ → Entry → Type 0
  IsFrom place e = (e.id.commit ≡ commit) × (place ≤ e.id.place) × (e.epoch ≡ epoch)

  all_from : (place at : ℕ) (items : List Item) → place ≤ at → AllByRecursion (IsFrom place) (entries_of commit epoch at items)
  all_from place at [] le = tt
  all_from place at (item ∷ items) le = ((refl, le, refl), all_from place (at + 1) items (omega arith))

  follow : (e : Entry) (place : ℕ) (later : List Entry) → e.id.commit ≡ commit → e.id.place < place → e.epoch ≤ epoch
      → AllByRecursion (IsFrom place) later → AllByRecursion (MayFollow e) later
  follow e place [] c p le all = tt
  follow e place (f ∷ later) c p le all = (
    record { id_rises = inr (c ∙ sym all.0.0, omega (arith, all.0.1)); epoch_stays = omega (arith, all.0.2) },
    follow e place later c p le all.1,
  )

  fresh_log : (place : ℕ) (items : List Item) → IsLog (entries_of commit epoch place items)
  fresh_log place [] = tt
  fresh_log place (item ∷ items) = (
    follow (record { id = record { commit = commit; place = place }; epoch = epoch; item = item }) (place + 1)
        (entries_of commit epoch (place + 1) items) refl (omega arith) (omega arith) (all_from (place + 1) (place + 1) items (omega arith)),
    fresh_log (place + 1) items,
  )

  behind : (e : Entry) (place : ℕ) (later : List Entry) → e.id.commit < commit → e.epoch ≤ epoch
      → AllByRecursion (IsFrom place) later → AllByRecursion (MayFollow e) later
  behind e place [] lt le all = tt
  behind e place (f ∷ later) lt le all = (
    record { id_rises = inl (omega (arith, all.0.0)); epoch_stays = omega (arith, all.0.2) },
    behind e place later lt le all.1,
  )

  and_behind : (e : Entry) (log later : List Entry) → AllByRecursion (MayFollow e) log → AllByRecursion (MayFollow e) later
      → AllByRecursion (MayFollow e) (log ++ later)
  and_behind e [] later h all = all
  and_behind e (f ∷ log) later h all = (h.0, and_behind e log later h.1 all)

  pub log_rises : (place : ℕ) (items : List Item) (log : List Entry) → IsLog log
      → AllByRecursion (λ (e : Entry). (e.id.commit < commit) × (e.epoch ≤ epoch)) log
      → IsLog (log ++ entries_of commit epoch place items)
  log_rises place items [] is earlier = fresh_log place items
  log_rises place items (e ∷ log) is earlier = (
    and_behind e log (entries_of commit epoch place items) is.0
        (behind e place (entries_of commit epoch place items) earlier.0.0 earlier.0.1 (all_from place place items (omega arith))),
    log_rises place items log is.1 earlier.1,
  )
