-- The deaths of pairs, and so of the records anew, lie within the epoch.
use Rattle.std.proofs.Common.{◌≡◌, ℕ, suc, ◌+◌, ◌<◌, ◌≤◌, Bool, true, false, cond, filter, List, [], ◌∷◌, Option, Some, None, arith, map, refl}
use Rattle.std.specs.Prelude.{unwrap_or}
use Rattle.std.specs.List.{AllByRecursion}
use Rattle.std.proofs.lemmas.Option.{none-some, same_Some}
use Rattle.nv_audit.specs.Mounted.{is_recorded, record_by}
use Rattle.nv_audit.specs.LogShape.{AreNoLater}
use Rattle.nv_book.specs.declared.record.Record.{Record}
use Rattle.nv_entry.specs.Keys.{covers, Key, key_of, parts_of}
use Rattle.nv_entry.specs.Log.{first_cover, pair_of, pairs, pairs_of}
use Rattle.nv_entry.specs.declared.held.Pair.{Pair}
use Rattle.nv_entry.specs.declared.item.Entry.{Entry}
use Rattle.nv_entry.specs.declared.part.Part.{Part}
use Rattle.nv_machine.proofs.EachElement.{all_append}

cover_low : (epoch block death : ℕ) (log : List Entry) (key : Key)
    → AllByRecursion (λ (e : Entry). e.epoch ≤ epoch) log
    → first_cover block log key ≡ Some death → death ≤ epoch
cover_low epoch block death [] key all e = absurd (none-some death e)
cover_low epoch block death (x ∷ log) key all e =
    go (covers block x.item key) e (cover_low epoch block death log key all.1) where
      go : (b : Bool) → cond b (Some x.epoch) (first_cover block log key) ≡ Some death
          → (first_cover block log key ≡ Some death → death ≤ epoch) → death ≤ epoch
      go true e more =
          (let same = same_Some x.epoch death e in let low = all.0 in omega (arith, same, low))
      go false e more = more e

abbrev IsDeadBy : ℕ → Pair → Type 0
IsDeadBy epoch pair = (death : ℕ) → pair.death ≡ Some death → death ≤ epoch

dead_of : (epoch block : ℕ) (e : Entry) (later : List Entry)
    → AllByRecursion (λ (x : Entry). x.epoch ≤ epoch) later → (parts : List Part)
    → AllByRecursion (IsDeadBy epoch) (map (pair_of block e later) parts)
dead_of epoch block e later all [] = tt
dead_of epoch block e later all (part ∷ parts) = (
  λ death is. cover_low epoch block death later (key_of e.item part) all is,
  dead_of epoch block e later all parts,
)

pub dead_pairs : (epoch block : ℕ) (log : List Entry)
    → AllByRecursion (λ (x : Entry). x.epoch ≤ epoch) log
    → AllByRecursion (IsDeadBy epoch) (pairs block log)
dead_pairs epoch block [] all = tt
dead_pairs epoch block (e ∷ log) all =
    all_append (IsDeadBy epoch) (pairs_of block e log) (pairs block log)
    (dead_of epoch block e log all.1 (parts_of e.item))
    (dead_pairs epoch block log all.1)

pub dead_records : (living : List ℕ) (ino epoch : ℕ) (ps : List Pair)
    → AllByRecursion (IsDeadBy epoch) ps
    → AllByRecursion (λ (d : Record). d.death ≤ epoch)
    (map (record_by ino) (filter (is_recorded living) ps))
dead_records living ino epoch [] all = tt
dead_records living ino epoch (pair ∷ ps) all =
    go (is_recorded living pair) (dead_records living ino epoch ps all.1) where
      own : (o : Option ℕ) → pair.death ≡ o → unwrap_or o 0 ≤ epoch
      own None e = omega arith
      own (Some death) e = all.0 death e

      go : (b : Bool)
          → AllByRecursion (λ (d : Record). d.death ≤ epoch)
          (map (record_by ino) (filter (is_recorded living) ps))
          → AllByRecursion (λ (d : Record). d.death ≤ epoch)
          (map (record_by ino)
          (cond b (pair ∷ filter (is_recorded living) ps) (filter (is_recorded living) ps)))
      go true more = (own pair.death refl, more)
      go false more = more

-- so do ids and epochs of a log
pub each_earlier : (commit epoch : ℕ) (log : List Entry) → AreNoLater commit epoch log
    → AllByRecursion (λ (e : Entry). (e.id.commit < commit + 1) × (e.epoch ≤ epoch)) log
each_earlier commit epoch [] all = tt
each_earlier commit epoch (e ∷ log) all =
    let own = all 0 e (omega arith) in
    let low = own.0 in
    let first : e.id.commit < commit + 1 = omega (arith, low) in
    ((first, own.1), each_earlier commit epoch log (λ i d lt. all (suc i) d (omega (arith, lt))))
