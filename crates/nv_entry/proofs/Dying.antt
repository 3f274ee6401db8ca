-- What it says of each key that no pair of an entry is needed or named.
use Rattle.std.proofs.Common.{◌≡◌, ℕ, zero, suc, ◌≤◌, Bool, true, false, ◌&&◌, nat_lt, nat_le, List, [], ◌∷◌, map, Option, Some, None, arith, refl, sym, subst}
use Rattle.std.specs.List.{list_any}
use Rattle.std.specs.Prelude.{slice_get}
use Rattle.std.proofs.lemmas.Bool.{and_parts, and_from, lt-ltb, ltb-true, ltb-false, false_from_ne_true, or_from, or_parts}
use Rattle.nv_entry.specs.declared.item.Entry.{Entry}
use Rattle.nv_entry.specs.declared.key.Datum.{Datum}
use Rattle.nv_entry.specs.declared.key.Setting.TheVariants.{Present}
use Rattle.nv_entry.specs.declared.part.Part.{Part}
use Rattle.nv_entry.specs.declared.held.Pair.{Pair}
use Rattle.nv_entry.specs.Counts.{is_entry_kept}
use Rattle.nv_entry.specs.Held.{Retention, holds, is_named, keeps}
use Rattle.nv_entry.specs.Keys.{Key, sets, parts_of, key_of}
use Rattle.nv_entry.specs.Log.{pair_of, pairs_of, first_cover}
use Rattle.nv_entry.proofs.Hiding.{clash}
use Rattle.nv_entry.proofs.PartsSet.{part_with}

-- no snapshot lies between a birth and a death
abbrev pub is_held_between : List ℕ → ℕ → ℕ → Bool
is_held_between snapshots birth death = list_any (λ s. nat_le birth s && nat_lt s death) snapshots

-- a key has a death, and no snapshot lies between a birth and it
pub record Dies (block : ℕ) (snapshots : List ℕ) (birth : ℕ) (later : List Entry) (key : Key) : Type 0 where
  pub death : ℕ
  pub covered : first_cover block later key ≡ Some death
  pub unheld : is_held_between snapshots birth death ≡ false

-- a pair that is not kept has died unheld
unkept : (r : Retention) (e : Entry) (later : List Entry) (p : Part) (o : Option ℕ) → first_cover r.block later (key_of e.item p) ≡ o
    → keeps r (record { entry = e.id; part = p; birth = e.epoch; death = o }) ≡ false
    → Dies r.block r.snapshots e.epoch later (key_of e.item p)
unkept r e later p None q h = cc
unkept r e later p (Some death) q h = record {
  death = death;
  covered = q;
  unheld = (or_parts (is_held_between r.snapshots e.epoch death)
      (is_named r.pending (record { entry = e.id; part = p; birth = e.epoch; death = Some death })) h).0;
}

-- a test over pairs that fails at each of a list fails at each one's place
fails_at : {A B : Type 0} (f : A → B) (test : B → Bool) (xs : List A) (place : ℕ) (x : A) → list_any test (map f xs) ≡ false
    → slice_get xs place ≡ Some x → test (f x) ≡ false
fails_at f test [] place x h at = cc
fails_at f test (y ∷ xs) zero x h at =
    let same : y ≡ x = cc in subst (λ z. test (f z) ≡ false) same (or_parts (test (f y)) (list_any test (map f xs)) h).0
fails_at f test (y ∷ xs) (suc place) x h at = fails_at f test xs place x (or_parts (test (f y)) (list_any test (map f xs)) h).1 at

-- a key that an entry sets to a value has a pair that fails, where all of them do
pub record FailingPair (block : ℕ) (test : Pair → Bool) (e : Entry) (later : List Entry) (key : Key) : Type 0 where
  pub part : Part
  pub key_is : key_of e.item part ≡ key
  pub fails : test (pair_of block e later part) ≡ false

pub failing : (block : ℕ) (test : Pair → Bool) (e : Entry) (later : List Entry) → list_any test (pairs_of block e later) ≡ false
    → (key : Key) (d : Datum) → sets block e.item key ≡ Present d → FailingPair block test e later key
failing block test e later h key d s =
    let x = part_with block e.item key d s in
    record { part = x.part; key_is = x.key_is; fails = fails_at (pair_of block e later) test (parts_of e.item) x.place x.part h x.at }

-- where no pair of an entry is kept, each key that it sets to a value has died unheld
pub dies : (r : Retention) (e : Entry) (later : List Entry) → is_entry_kept r e later ≡ false
    → (key : Key) (d : Datum) → sets r.block e.item key ≡ Present d → Dies r.block r.snapshots e.epoch later key
dies r e later h key d s =
    let x = failing r.block (keeps r) e later h key d s in
    subst (Dies r.block r.snapshots e.epoch later) x.key_is
    (unkept r e later x.part (first_cover r.block later (key_of e.item x.part)) refl x.fails)

-- where no pair of an entry spans an epoch that is no earlier than the entry's, each has died by it
pub record DiesBy (block epoch : ℕ) (later : List Entry) (key : Key) : Type 0 where
  pub death : ℕ
  pub covered : first_cover block later key ≡ Some death
  pub by : death ≤ epoch

unspanned : (block epoch : ℕ) (e : Entry) (later : List Entry) (p : Part) (o : Option ℕ) → first_cover block later (key_of e.item p) ≡ o
    → nat_le e.epoch epoch ≡ true
    → holds epoch (record { entry = e.id; part = p; birth = e.epoch; death = o }) ≡ false → DiesBy block epoch later (key_of e.item p)
unspanned block epoch e later p None q born h = clash (nat_le e.epoch epoch && true) (and_from (nat_le e.epoch epoch) true born refl) h
unspanned block epoch e later p (Some death) q born h = record { death = death; covered = q; by = go (nat_lt epoch death) refl } where
  go : (b : Bool) → nat_lt epoch death ≡ b → death ≤ epoch
  go true t = clash (nat_le e.epoch epoch && nat_lt epoch death) (and_from (nat_le e.epoch epoch) (nat_lt epoch death) born t) h
  go false t = ltb-false epoch death t

pub dies_by : (block epoch : ℕ) (e : Entry) (later : List Entry) → list_any (holds epoch) (pairs_of block e later) ≡ false
    → nat_le e.epoch epoch ≡ true
    → (key : Key) (d : Datum) → sets block e.item key ≡ Present d → DiesBy block epoch later key
dies_by block epoch e later h born key d s =
    let x = failing block (holds epoch) e later h key d s in
    subst (DiesBy block epoch later) x.key_is
    (unspanned block epoch e later x.part (first_cover block later (key_of e.item x.part)) refl born x.fails)

-- where each death is no later than another, what is not kept with the other deaths is not kept
earlier_unheld : (snapshots : List ℕ) (birth d death : ℕ) → d ≤ death → is_held_between snapshots birth death ≡ false
    → is_held_between snapshots birth d ≡ false
earlier_unheld [] birth d death le h = refl
earlier_unheld (s ∷ snapshots) birth d death le h =
    let q = or_parts (nat_le birth s && nat_lt s death) (is_held_between snapshots birth death) h in
    or_from (nat_le birth s && nat_lt s d) (is_held_between snapshots birth d) (one q.0)
    (earlier_unheld snapshots birth d death le q.1) where
      one : (nat_le birth s && nat_lt s death) ≡ false → (nat_le birth s && nat_lt s d) ≡ false
      one h = false_from_ne_true (nat_le birth s && nat_lt s d) (λ t.
          let p = and_parts (nat_le birth s) (nat_lt s d) t in
          clash (nat_le birth s && nat_lt s death)
          (and_from (nat_le birth s) (nat_lt s death) p.0 (lt-ltb s death (omega (arith, ltb-true s d p.1, le)))) h)

pair_earlier : (r : Retention) (e : Entry) (p : Part) (o q : Option ℕ)
    → ((death : ℕ) → q ≡ Some death → (d : ℕ) × (o ≡ Some d) × (d ≤ death))
    → keeps r (record { entry = e.id; part = p; birth = e.epoch; death = q }) ≡ false
    → keeps r (record { entry = e.id; part = p; birth = e.epoch; death = o }) ≡ false
pair_earlier r e p o None f h = cc
pair_earlier r e p o (Some death) f h =
    let x = f death refl in
    let k = or_parts (is_held_between r.snapshots e.epoch death)
    (is_named r.pending (record { entry = e.id; part = p; birth = e.epoch; death = Some death })) h in
    subst (λ (w : Option ℕ). keeps r (record { entry = e.id; part = p; birth = e.epoch; death = w }) ≡ false) (sym x.1)
    (or_from (is_held_between r.snapshots e.epoch x.0) (is_named r.pending (record {
      entry =
          e.id;
      part = p;
      birth = e.epoch;
      death = Some x.0;
    })) (earlier_unheld r.snapshots e.epoch x.0 death x.2 k.0) k.1)

pub unkept_earlier : (r : Retention) (e : Entry) (left later : List Entry)
    → ((key : Key) (death : ℕ) → first_cover r.block left key ≡ Some death
    → (d : ℕ) × (first_cover r.block later key ≡ Some d) × (d ≤ death))
    → is_entry_kept r e left ≡ false → is_entry_kept r e later ≡ false
unkept_earlier r e left later f h = over (parts_of e.item) h where
  over : (parts : List Part) → list_any (keeps r) (map (pair_of r.block e left) parts) ≡ false
      → list_any (keeps r) (map (pair_of r.block e later) parts) ≡ false
  over [] h = refl
  over (p ∷ parts) h =
      let q = or_parts (keeps r (pair_of r.block e left p)) (list_any (keeps r) (map (pair_of r.block e left) parts)) h in
      or_from (keeps r (pair_of r.block e later p)) (list_any (keeps r) (map (pair_of r.block e later) parts))
      (pair_earlier r e p (first_cover r.block later (key_of e.item p)) (first_cover r.block left (key_of e.item p))
      (f (key_of e.item p)) q.0)
      (over parts q.1)
