-- The records that a mount makes anew of a log, pair by pair.
use Rattle.std.proofs.Common.{◌≡◌, ℕ, ◌+◌, ◌<◌, ◌&&◌, ◌++◌, Bool, true, false, cond, List, [], ◌∷◌, length, map, filter, drop, get_or, None, Some, refl, ap, ◌∙◌}
use Rattle.std.specs.Option.{option_to_list}
use Rattle.std.proofs.lemmas.List.{map-append}
use Rattle.std.proofs.lemmas.List.Elements.{filter-append}
use Rattle.nv_book.specs.declared.record.Record.{Record}
use Rattle.nv_entry.specs.Log.{pairs, pairs_of}
use Rattle.nv_entry.specs.declared.held.Pair.{Pair}
use Rattle.nv_entry.specs.declared.item.Entry.{Entry}
use Rattle.nv_audit.specs.Mounted.{is_recorded, record_by}
use Rattle.nv_audit.specs.MountedLogs.{is_held_from, pair_record, pair_records}
use Rattle.nv_audit.proofs.Pushing.{step}

pub records_cons : (living : List ℕ) (ino : ℕ) (p : Pair) (ps : List Pair)
    → pair_records living ino (p ∷ ps) ≡ option_to_list (pair_record living ino p) ++ pair_records living ino ps
records_cons living ino p ps = go (is_recorded living p) where
  go : (b : Bool) → map (record_by ino) (cond b (p ∷ filter (is_recorded living) ps) (filter (is_recorded living) ps))
      ≡ option_to_list (cond b (Some (record_by ino p)) None) ++ pair_records living ino ps
  go true = refl
  go false = refl

pub records_append : (living : List ℕ) (ino : ℕ) (xs ys : List Pair)
    → pair_records living ino (xs ++ ys) ≡ pair_records living ino xs ++ pair_records living ino ys
records_append living ino xs ys =
    ap (map (record_by ino)) (filter-append (is_recorded living) xs ys)
    ∙ map-append (record_by ino) (filter (is_recorded living) xs) (filter (is_recorded living) ys)

-- where no snapshot lives nothing is recorded
never : (b : Bool) → (b && false) ≡ false
never true = refl
never false = refl

pub records_none : (ino : ℕ) (ps : List Pair) → pair_records [] ino ps ≡ []
records_none ino [] = refl
records_none ino (p ∷ ps) = records_cons [] ino p ps ∙ go (is_recorded [] p) (never _) (records_none ino ps) where
  go : (b : Bool) → b ≡ false → pair_records [] ino ps ≡ []
      → option_to_list (cond b (Some (record_by ino p)) None) ++ pair_records [] ino ps ≡ []
  go true e rest = cc
  go false e rest = rest

-- one entry more
pub recorded_more : (living : List ℕ) (ino block i : ℕ) (log : List Entry) (e : Entry) (old new whole : List Record)
    → i < length log → e ≡ get_or log i e
    → new ≡ old ++ pair_records living ino (pairs_of block e (drop (i + 1) log))
    → old ++ pair_records living ino (pairs block (drop i log)) ≡ whole
    → new ++ pair_records living ino (pairs block (drop (i + 1) log)) ≡ whole
recorded_more living ino block i log e old new whole lt at put told =
    step (λ (es : List Entry). pair_records living ino (pairs block es))
    (λ (x : Entry) (es : List Entry). pair_records living ino (pairs_of block x es))
    (λ x es. records_append living ino (pairs_of block x es) (pairs block es))
    log i e lt at old new whole put told

-- a pair that died has a record where a snapshot holds it
pub record_none : (living : List ℕ) (ino : ℕ) (pair : Pair) → pair.death ≡ None → pair_record living ino pair ≡ None
record_none living ino pair e = rw e refl

pub record_unheld : (living : List ℕ) (ino death : ℕ) (pair : Pair) → pair.death ≡ Some death
    → is_held_from living pair.birth (Some death) ≡ false → pair_record living ino pair ≡ None
record_unheld living ino death pair e out = rw (e, out) refl

pub record_held : (living : List ℕ) (ino death : ℕ) (pair : Pair) → pair.death ≡ Some death
    → is_held_from living pair.birth (Some death) ≡ true
    → pair_record living ino pair
    ≡ Some (record { ino = ino; entry = pair.entry; part = pair.part; birth = pair.birth; death = death })
record_held living ino death pair e held = rw (e, held) refl
