-- What the records of all logs and of a book tell of each snapshot.
use Rattle.std.proofs.Common.{◌≡◌, ℕ, ◌+◌, ◌<◌, ◌&&◌, Bool, true, false, cond, not, List, [], ◌∷◌, ◌++◌, length, map, filter, drop, Option, None, Some, arith, refl, ap, ap₂, sym, subst, ◌∙◌, get_or}
use Rattle.std.specs.Prelude.{◌↔◌, All, Contains, is_some}
use Rattle.std.specs.List.{flat_map}
use Rattle.std.specs.Option.{option_to_list}
use Rattle.std.proofs.lemmas.Bool.{false≢true}
use Rattle.std.proofs.lemmas.Grind.{flat_map-append}
use Rattle.std.proofs.lemmas.List.{get_or-map, length-map, map-append}
use Rattle.std.proofs.lemmas.List.Concat.{flat_map-cons}
use Rattle.std.proofs.lemmas.List.Elements.{All-contains_itself, filter-append}
use Rattle.nv_book.specs.Book.{BookState}
use Rattle.nv_book.specs.Listed.{all_records}
use Rattle.nv_book.specs.Records.{is_held_by}
use Rattle.nv_book.specs.declared.manifest.Manifest.{Manifest}
use Rattle.nv_book.specs.declared.record.Record.{Record}
use Rattle.nv_cell.specs.Cell.{CellState, log_of}
use Rattle.nv_entry.specs.Held.{is_named}
use Rattle.nv_entry.specs.Keys.{parts_of}
use Rattle.nv_entry.specs.Log.{pair_of, pairs, pairs_of}
use Rattle.nv_entry.specs.declared.held.Pair.{Pair}
use Rattle.nv_entry.specs.declared.item.Entry.{Entry}
use Rattle.nv_entry.specs.declared.part.Part.{Part}
use Rattle.nv_entry.specs.declared.part.PartId.{PartId}
use Rattle.nv_epoch.specs.Holders.{holds, youngest_holder}
use Rattle.nv_epoch.specs.SnapList.{ids}
use Rattle.nv_epoch.proofs.Last.{none_passes}
use Rattle.nv_audit.specs.KeptParts.{records_in}
use Rattle.nv_audit.specs.Owed.{died, owed_record, owed_records, owed_records_by, owed_records_from, record_of}
use Rattle.nv_audit.specs.PartLists.{HaveSameParts, times}
use Rattle.nv_audit.specs.Pending.{of_inode}
use Rattle.nv_audit.specs.Records.{IsRecorded, inode_part, owed_from, owed_pair, recorded_as, recorded_in}
use Rattle.nv_audit.specs.declared.part_list.InodePart.{InodePart}
use Rattle.nv_audit.proofs.Pushing.{step}

-- ---- by the records

in_both : (s : ℕ) (xs ys : List Record) → recorded_in s (xs ++ ys) ≡ recorded_in s xs ++ recorded_in s ys
in_both s xs ys =
    ap (map inode_part) (filter-append (is_held_by s) xs ys)
    ∙ map-append inode_part (filter (is_held_by s) xs) (filter (is_held_by s) ys)

of_manifests : (s : ℕ) (ms : List Manifest)
    → recorded_in s (all_records ms) ≡ flat_map (λ (m : Manifest). recorded_in s m.records) ms
of_manifests s [] = refl
of_manifests s (m ∷ ms) =
    in_both s m.records (all_records ms)
    ∙ ap (λ xs. recorded_in s m.records ++ xs) (of_manifests s ms)
    ∙ sym (flat_map-cons (λ (x : Manifest). recorded_in s x.records) m ms)

pub as_recorded : (s : ℕ) (book : BookState) → recorded_in s (records_in book) ≡ recorded_as s book
as_recorded s book =
    in_both s (all_records book.manifests) book.deferred
    ∙ ap (λ xs. xs ++ recorded_in s book.deferred) (of_manifests s book.manifests)

-- ---- by the logs

-- a record that one of the snapshots holds, of a pair that is or is not named
one_told : (r : Record) (s : ℕ) (nm held : Bool) (y : Option ℕ) → is_held_by s r ≡ held → (y ≡ None → held ≡ false)
    → recorded_in s (option_to_list (cond (is_some y && not nm) (Some r) None))
    ≡ cond (held && (true && not nm)) (inode_part r ∷ []) []
one_told r s nm true None e none = absurd (false≢true (sym (none refl)))
one_told r s nm false None e none = refl
one_told r s true true (Some y) e none = refl
one_told r s true false (Some y) e none = refl
one_told r s false true (Some y) e none = rw e refl
one_told r s false false (Some y) e none = rw e refl

never : (held : Bool) (xs : List InodePart) → [] ≡ cond (held && false) xs []
never true xs = refl
never false xs = refl

module _ (living : List ℕ) (named : List PartId) (ino s : ℕ) (lives : Contains living s) where
  unheld : (birth death : ℕ) → youngest_holder living birth death ≡ None → holds birth death s ≡ false
  unheld birth death none = (none_passes (holds birth death) living none).fails s lives

  pair_told : (pair : Pair) → recorded_in s (option_to_list (owed_record living named ino pair)) ≡ owed_pair s named ino pair
  pair_told pair = go pair.death refl where
    go : (death : Option ℕ) → pair.death ≡ death
        → recorded_in s (option_to_list (owed_record living named ino pair)) ≡ owed_pair s named ino pair
    go None e = rw e (never _ _)
    go (Some death) e =
        rw e (one_told (record_of ino pair death) s (is_named named pair) (holds pair.birth death s)
        (youngest_holder living pair.birth death) refl (unheld pair.birth death))

  pub pairs_told : (ps : List Pair) → recorded_in s (owed_records living named ino ps) ≡ flat_map (owed_pair s named ino) ps
  pairs_told [] = refl
  pairs_told (p ∷ ps) =
      ap (recorded_in s) (flat_map-cons (λ (x : Pair). option_to_list (owed_record living named ino x)) p ps)
      ∙ in_both s (option_to_list (owed_record living named ino p)) (owed_records living named ino ps)
      ∙ ap₂ (λ (xs ys : List InodePart). xs ++ ys) (pair_told p) (pairs_told ps)
      ∙ sym (flat_map-cons (owed_pair s named ino) p ps)

pub as_owed : (living : List ℕ) (in_hands : List InodePart) (s : ℕ) → Contains living s → (ino : ℕ) (cells : List CellState)
    → recorded_in s (owed_records_from living in_hands ino cells) ≡ owed_from s in_hands ino cells
as_owed living in_hands s lives ino [] = refl
as_owed living in_hands s lives ino (cell ∷ cells) =
    in_both s (owed_records_by living (of_inode ino in_hands) ino cell) (owed_records_from living in_hands (ino + 1) cells)
    ∙ ap₂ (λ (xs ys : List InodePart). xs ++ ys)
    (pairs_told living (of_inode ino in_hands) ino s lives (pairs cell.block (log_of cell)))
    (as_owed living in_hands s lives (ino + 1) cells)

-- ---- both

pub same_lists : (a b c d : List InodePart) → a ≡ b → c ≡ d → HaveSameParts a c → HaveSameParts b d
same_lists a b c d one other same part = sym (ap (times part) one) ∙ same part ∙ ap (times part) other

pub all_told : (book : BookState) (cells : List CellState) (in_hands : List InodePart) (snapshots : List ℕ) (recorded owed : List Record)
    → snapshots ≡ ids book.snaps → recorded ≡ records_in book → owed ≡ owed_records_from (ids book.snaps) in_hands 0 cells
    → All (λ (s : ℕ). HaveSameParts (recorded_in s recorded) (recorded_in s owed)) snapshots
    ↔ All (IsRecorded cells book in_hands) (ids book.snaps)
all_told book cells in_hands snapshots recorded owed all one other = (
  λ held k d lt.
      let s = get_or (ids book.snaps) k d in
      same_lists _ _ _ _ (by_book s) (by_logs s (All-contains_itself (ids book.snaps) k d lt))
      (subst (λ (ss : List ℕ). All (λ (t : ℕ). HaveSameParts (recorded_in t recorded) (recorded_in t owed)) ss) all held k d lt),
  λ are.
      subst (λ (ss : List ℕ). All (λ (t : ℕ). HaveSameParts (recorded_in t recorded) (recorded_in t owed)) ss) (sym all)
      (λ k d lt.
      let s = get_or (ids book.snaps) k d in
      same_lists _ _ _ _ (sym (by_book s)) (sym (by_logs s (All-contains_itself (ids book.snaps) k d lt))) (are k d lt)),
) where
  by_book : (s : ℕ) → recorded_in s recorded ≡ recorded_as s book
  by_book s = ap (recorded_in s) one ∙ as_recorded s book

  by_logs : (s : ℕ) → Contains (ids book.snaps) s → recorded_in s owed ≡ owed_from s in_hands 0 cells
  by_logs s lives = ap (recorded_in s) other ∙ as_owed (ids book.snaps) in_hands s lives 0 cells

-- ---- along a log

-- the pair of a part by its place and its death
pub pair_here : (block : ℕ) (e : Entry) (later : List Entry) (i : ℕ) (part : Part) (death : Option ℕ) (deaths : List (Option ℕ)) (pair : Pair)
    → i < length (parts_of e.item) → part ≡ get_or (parts_of e.item) i part → death ≡ get_or deaths i death
    → deaths ≡ died (pairs_of block e later) → pair ≡ record { entry = e.id; part = part; birth = e.epoch; death = death }
    → pair ≡ get_or (pairs_of block e later) i pair
pair_here block e later i part death deaths pair lt own dead are made =
    let here : get_or (pairs_of block e later) i pair ≡ pair_of block e later part =
    get_or-map (pair_of block e later) (parts_of e.item) i part pair lt ∙ ap (pair_of block e later) (sym own) in
    let below : i < length (pairs_of block e later) = omega (arith, lt, length-map (parts_of e.item) (pair_of block e later)) in
    let died_then : death ≡ (pair_of block e later part).death =
    dead ∙ ap (λ (ds : List (Option ℕ)). get_or ds i death) are
    ∙ get_or-map (λ (p : Pair). p.death) (pairs_of block e later) i pair death below
    ∙ ap (λ (p : Pair). p.death) here in
    made ∙ ap (λ (d : Option ℕ). record { entry = e.id; part = part; birth = e.epoch; death = d }) died_then ∙ sym here

pub owed_more : (living : List ℕ) (named : List PartId) (ino block i : ℕ) (log : List Entry) (e : Entry) (old new whole : List Record)
    → i < length log → e ≡ get_or log i e
    → new ≡ old ++ owed_records living named ino (pairs_of block e (drop (i + 1) log))
    → old ++ owed_records living named ino (pairs block (drop i log)) ≡ whole
    → new ++ owed_records living named ino (pairs block (drop (i + 1) log)) ≡ whole
owed_more living named ino block i log e old new whole lt at put told =
    step (λ (es : List Entry). owed_records living named ino (pairs block es))
    (λ (x : Entry) (es : List Entry). owed_records living named ino (pairs_of block x es))
    (λ x es. flat_map-append (λ (p : Pair). option_to_list (owed_record living named ino p)) (pairs_of block x es) (pairs block es))
    log i e lt at old new whole put told
