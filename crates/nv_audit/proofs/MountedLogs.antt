-- The tails at which the logs of an image are cut, and the logs that a mount makes, slot by slot.
use Rattle.std.proofs.Common.{◌≡◌, ℕ, ◌+◌, ◌<◌, ◌||◌, ◌++◌, Bool, true, false, cond, List, [], ◌∷◌, length, take, drop, get_or, map, Option, refl, ap, ap₂, arith, sym, subst, ◌∙◌}
use Rattle.std.specs.Prelude.{All, Err, IfOk, Ok, Result, slice_index_or}
use Rattle.std.specs.List.{list_all, list_any, range_with_len}
use Rattle.std.proofs.lemmas.Bool.{and_parts}
use Rattle.std.proofs.lemmas.List.{drop_more, ext_get_or, get_or-map, length-map, length-take, map-append, take_all}
use Rattle.std.proofs.lemmas.List.Folds.{list_any-append}
use Rattle.std.proofs.lemmas.List.FromFn.{get_or-map-range_with_len, length-map-range_with_len}
use Rattle.nv_base.specs.declared.fault.Fault.{Fault}
use Rattle.nv_base.specs.declared.geometry.GeometryNumbers.{GeometryNumbers}
use Rattle.nv_cell.specs.Cell.{CellState, empty_cell}
use Rattle.nv_entry.specs.Held.{is_held}
use Rattle.nv_entry.specs.Keys.{parts_of}
use Rattle.nv_entry.specs.Log.{pair_of, pairs, pairs_of}
use Rattle.nv_entry.specs.declared.item.Entry.{Entry}
use Rattle.nv_entry.specs.declared.part.Part.{Part}
use Rattle.nv_journal.specs.declared.old_tail.OldTail.{OldTail}
use Rattle.nv_audit.specs.Image.{ImageValue, SlotImageValue, all_notes, no_slot, slot_of}
use Rattle.nv_audit.specs.Logged.{LoggedValue, logged}
use Rattle.nv_audit.specs.Mounted.{are_apart, are_journals_good, cell_anew, cell_of, cell_with, cells_of, cut_tail, is_note_good, is_over, tail_of}
use Rattle.nv_audit.specs.MountedLogs.{AreNoted, cut_tails, erased_logged, front_logged, is_held_from, mounted_logs, noted_tail}
use Rattle.nv_audit.proofs.Covers.{death_of}
use Rattle.nv_audit.proofs.Notes.{notes_inside, settled_by_notes}
use Rattle.nv_audit.proofs.PartBlocks.{range_split}

-- ---- tails

abbrev pub own_tails : List SlotImageValue → List ℕ
own_tails slots = map (λ (slot : SlotImageValue). slot.chain.tail) slots

pub own_tail : (image : ImageValue) (ino : ℕ) → ino < length image.slots
    → slice_index_or (own_tails image.slots) ino 0 ≡ (slot_of image ino).chain.tail
own_tail image ino lt = get_or-map (λ (slot : SlotImageValue). slot.chain.tail) image.slots ino no_slot 0 lt

-- tails are those of an image if each is
by_each : (image : ImageValue) (tails : List ℕ) → length tails ≡ length image.slots
    → ((ino : ℕ) → ino < length image.slots → slice_index_or tails ino 0 ≡ tail_of image ino) → tails ≡ cut_tails image
by_each image tails len each =
    ext_get_or 0 tails (cut_tails image)
    (len ∙ sym (length-map-range_with_len (tail_of image) 0 (length image.slots)))
    (λ ino lt.
    let low : ino < length image.slots = omega (arith, lt, len) in
    each ino low ∙ sym (get_or-map-range_with_len (tail_of image) 0 (length image.slots) ino ino 0 low (omega arith)))

pub tails_noted : (image : ImageValue) (tails : List ℕ) → are_journals_good image ≡ true
    → AreNoted (all_notes image.journals) (own_tails image.slots) tails → tails ≡ cut_tails image
tails_noted image tails good are =
    let many : length (own_tails image.slots) ≡ length image.slots = length-map image.slots (λ (slot : SlotImageValue). slot.chain.tail) in
    by_each image tails (are.len ∙ many) (λ ino lt.
    let low : ino < length (own_tails image.slots) = omega (arith, lt, many) in
    are.each ino low ∙ ap (noted_tail (all_notes image.journals) ino) (own_tail image ino lt)
    ∙ sym (settled_by_notes image.journals ino (slot_of image ino).chain.tail)
    ∙ sym (ap (λ (b : Bool). cut_tail b image ino) good))

pub tails_own : (image : ImageValue) (tails : List ℕ) → are_journals_good image ≡ false → tails ≡ own_tails image.slots
    → tails ≡ cut_tails image
tails_own image tails bad are =
    let many : length (own_tails image.slots) ≡ length image.slots = length-map image.slots (λ (slot : SlotImageValue). slot.chain.tail) in
    by_each image tails (ap (λ (ts : List ℕ). length ts) are ∙ many) (λ ino lt.
    ap (λ (ts : List ℕ). slice_index_or ts ino 0) are ∙ own_tail image ino lt
    ∙ sym (ap (λ (b : Bool). cut_tail b image ino) bad))

-- what good journals have noted is of slots, of which each has a tail
pub inside_tails : (image : ImageValue) (tails : List ℕ) (notes : List OldTail) → are_journals_good image ≡ true
    → tails ≡ own_tails image.slots → notes ≡ all_notes image.journals → All (λ (note : OldTail). note.ino < length tails) notes
inside_tails image tails notes good own are =
    subst (λ (n : ℕ). All (λ (note : OldTail). note.ino < n) notes)
    (sym (ap (λ (ts : List ℕ). length ts) own ∙ length-map image.slots (λ (slot : SlotImageValue). slot.chain.tail)))
    (subst (λ (ns : List OldTail). All (λ (note : OldTail). note.ino < length image.slots) ns) (sym are)
    (notes_inside image (all_notes image.journals)
    (and_parts (list_all (is_note_good image) (all_notes image.journals)) (are_apart (all_notes image.journals)) good).0))

-- the tail of a slot
pub tail_at : (image : ImageValue) (tails : List ℕ) (ino d : ℕ) → tails ≡ cut_tails image → ino < length image.slots
    → slice_index_or tails ino d ≡ tail_of image ino
tail_at image tails ino d are lt =
    ap (λ (ts : List ℕ). slice_index_or ts ino d) are
    ∙ get_or-map-range_with_len (tail_of image) 0 (length image.slots) ino ino d lt (omega arith)

pub tails_many : (image : ImageValue) (tails : List ℕ) → tails ≡ cut_tails image → length tails ≡ length image.slots
tails_many image tails are =
    ap (λ (ts : List ℕ). length ts) are ∙ length-map-range_with_len (tail_of image) 0 (length image.slots)

-- ---- one log

module _ (g : GeometryNumbers) (living : List ℕ) (n : ℕ) (slot : SlotImageValue) where
  abbrev front : List Entry
  front = take n slot.chain.entries

  abbrev by : Bool → CellState
  by over = cond over (empty_cell g.block g.page (slot.generation + 1) 0) (cell_with g living n slot)

  pub log_over : is_over living g.block front ≡ true → erased_logged g.block slot ≡ logged (cell_anew g living n slot)
  log_over over = ap (λ (b : Bool). logged (by b)) (sym over)

  pub log_left : is_over living g.block front ≡ false → front_logged g.block n slot ≡ logged (cell_anew g living n slot)
  log_left over =
      ap (λ (es : List Entry). with_log es) (sym (take_all n front (omega (arith, length-take n slot.chain.entries))))
      ∙ ap (λ (b : Bool). logged (by b)) (sym over)
    where
      with_log : List Entry → LoggedValue
      with_log es = record { block = g.block; generation = slot.generation; log = es }

-- a log by its parts
pub front_told : (block tail : ℕ) (slot : SlotImageValue) (generation : ℕ) (log : List Entry) (own : LoggedValue)
    → generation ≡ slot.generation → log ≡ take tail slot.chain.entries
    → own ≡ record { block = block; generation = generation; log = log } → own ≡ front_logged block tail slot
front_told block tail slot generation log own same all is = is ∙ ap₂ with_both same all where
  with_both : ℕ → List Entry → LoggedValue
  with_both g es = record { block = block; generation = g; log = es }

pub erased_told : (block : ℕ) (slot : SlotImageValue) (next : ℕ) (own : LoggedValue) → next ≡ slot.generation + 1
    → own ≡ record { block = block; generation = next; log = [] } → own ≡ erased_logged block slot
erased_told block slot next own same is = is ∙ ap with_next same where
  with_next : ℕ → LoggedValue
  with_next g = record { block = block; generation = g; log = [] }

-- what is left of a log by numbers, snapshots and a slot that are the image's
pub left_told : (image : ImageValue) (ino tail : ℕ) (shown : ImageValue) (snapshots : List ℕ) (slot : SlotImageValue) → shown ≡ image
    → snapshots ≡ shown.snapshots → slot ≡ slot_of image ino → (r : Result LoggedValue Fault)
    → IfOk r (λ log. log ≡ logged (cell_anew shown.numbers snapshots tail slot))
    → IfOk r (λ log. log ≡ logged (cell_anew image.numbers image.snapshots tail (slot_of image ino)))
left_told image ino tail shown snapshots slot same living there (Ok log) is =
    is
    ∙ ap (λ (ss : List ℕ). logged (cell_anew shown.numbers ss tail slot)) living
    ∙ ap (λ (i : ImageValue). logged (cell_anew i.numbers i.snapshots tail slot)) same
    ∙ ap (λ (s : SlotImageValue). logged (cell_anew image.numbers image.snapshots tail s)) there
left_told image ino tail shown snapshots slot same living there (Err fault) is = is

-- ---- whether a snapshot holds anything of a log

held_pairs : (living : List ℕ) (block : ℕ) (e : Entry) (later : List Entry)
    → list_any (is_held_from living e.epoch) (map death_of (pairs_of block e later)) ≡ list_any (is_held living) (pairs_of block e later)
held_pairs living block e later = go (parts_of e.item) where
  go : (ps : List Part) → list_any (is_held_from living e.epoch) (map death_of (map (pair_of block e later) ps))
      ≡ list_any (is_held living) (map (pair_of block e later) ps)
  go [] = refl
  go (p ∷ ps) = ap (λ (b : Bool). is_held living (pair_of block e later p) || b) (go ps)

pub held_first : (living : List ℕ) (block : ℕ) (log : List Entry) (i : ℕ) (e : Entry) (own : List (Option ℕ)) (any : Bool)
    → i < length log → e ≡ get_or log i e → own ≡ map death_of (pairs_of block e (drop (i + 1) log))
    → any ≡ list_any (is_held_from living e.epoch) own
    → list_any (is_held living) (pairs block (drop i log))
    ≡ (any || list_any (is_held living) (pairs block (drop (i + 1) log)))
held_first living block log i e own any lt at is told =
    let later : List Entry = drop (i + 1) log in
    let behind : drop i log ≡ e ∷ later = drop_more log i e lt ∙ ap (λ (x : Entry). x ∷ later) (sym at) in
    ap (λ (es : List Entry). list_any (is_held living) (pairs block es)) behind
    ∙ list_any-append (is_held living) (pairs_of block e later) (pairs block later)
    ∙ ap (λ (b : Bool). b || list_any (is_held living) (pairs block later))
    (sym (told ∙ ap (list_any (is_held_from living e.epoch)) is ∙ held_pairs living block e later))

-- ---- all logs

abbrev pub front_logs : ImageValue → ℕ → List LoggedValue
front_logs image i = map logged (map (cell_of image) (range_with_len 0 i))

pub logs_more : (image : ImageValue) (i : ℕ) (old new : List LoggedValue) (own : LoggedValue) → old ≡ front_logs image i
    → own ≡ logged (cell_of image i) → new ≡ old ++ own ∷ [] → new ≡ front_logs image (i + 1)
logs_more image i old new own are is put =
    put ∙ ap₂ (λ (ls : List LoggedValue) (l : LoggedValue). ls ++ l ∷ []) are is
    ∙ sym (ap (λ (ns : List ℕ). map logged (map (cell_of image) ns)) more
    ∙ ap (map logged) (map-append (cell_of image) (range_with_len 0 i) (i ∷ []))
    ∙ map-append logged (map (cell_of image) (range_with_len 0 i)) (cell_of image i ∷ []))
  where
    more : range_with_len 0 (i + 1) ≡ range_with_len 0 i ++ i ∷ []
    more =
        let zeroth : 0 + i ≡ i = omega arith in range_split 0 i 1 ∙ ap (λ (k : ℕ). range_with_len 0 i ++ k ∷ []) zeroth

-- the log of a slot
pub log_at : (image : ImageValue) (ino : ℕ) (d : LoggedValue) → ino < length image.slots
    → slice_index_or (mounted_logs image) ino d ≡ logged (cell_of image ino)
log_at image ino d lt =
    get_or-map logged (cells_of image) ino (cell_of image ino) d
    (omega (arith, lt, length-map-range_with_len (cell_of image) 0 (length image.slots)))
    ∙ ap logged (get_or-map-range_with_len (cell_of image) 0 (length image.slots) ino ino (cell_of image ino) lt (omega arith))

pub logs_many : (image : ImageValue) → length (mounted_logs image) ≡ length image.slots
logs_many image = length-map (cells_of image) logged ∙ length-map-range_with_len (cell_of image) 0 (length image.slots)
