-- What is seen of an image without a fault: the tails at which its logs are cut, and the cut logs.
use Rattle.std.proofs.Common.{◌≡◌, ℕ, zero, suc, ◌+◌, ◌<◌, ◌≤◌, ◌==◌, Bool, true, false, cond, nat_le, nat_lt, List, [], ◌∷◌, length, take, map, Some, arith, refl, ap, ap₂, subst, sym, ◌∙◌}
use Rattle.std.specs.Prelude.{slice_index, slice_index_or}
use Rattle.std.specs.List.{find, list_all, range_with_len}
use Rattle.std.specs.List.Sorted.{IsStrictlyIncreasing}
use Rattle.std.specs.Option.{option_map}
use Rattle.std.proofs.lemmas.Bool.{and_parts, eqb-true, leb-true}
use Rattle.std.proofs.lemmas.List.{ext_get_or, get_or_default, get_or-map, length-map}
use Rattle.std.proofs.lemmas.List.FromFn.{get_or-map-range_with_len, length-map-range_with_len}
use Rattle.nv_audit.specs.Faults.{IsFaultless}
use Rattle.nv_audit.specs.Image.{ImageValue, SlotImageValue, all_notes, slot_of}
use Rattle.nv_audit.specs.Mounted.{are_apart, cut_log, cut_tail, is_note_good, is_over, tail_of}
use Rattle.nv_audit.specs.MountedLogs.{cut_tails, noted_tail}
use Rattle.nv_audit.proofs.MountedLogs.{own_tail, own_tails as image_tails, tail_at}
use Rattle.nv_audit.proofs.Notes.{settled_by_notes}
use Rattle.nv_base.specs.declared.fault.ImageFault.TheVariants as fault
use Rattle.nv_entry.specs.declared.item.Entry.{Entry}
use Rattle.nv_epoch.specs.Holders.{IsRising}
use Rattle.nv_journal.specs.Journal.{noted_or}
use Rattle.nv_journal.specs.declared.old_tail.OldTail.{OldTail}
use Rattle.nv_log.specs.Chain.{ChainState}
use Rattle.nv_mount.specs.Plan.{erased_in, is_erased}
use Rattle.nv_mount.specs.View.{IsSeen, SlotViewValue, ViewValue, nothing, slot_in}

-- ---- tails

abbrev pub own_tails : List SlotViewValue → List ℕ
own_tails slots = map (λ (s : SlotViewValue). s.chain.state.tail) slots

pub seen_tails : (image : ImageValue) (view : ViewValue) → IsSeen image view → own_tails view.slots ≡ image_tails image.slots
seen_tails image view seen =
    ext_get_or 0 (own_tails view.slots) (image_tails image.slots)
    (length-map view.slots (λ (s : SlotViewValue). s.chain.state.tail) ∙ seen.count
    ∙ sym (length-map image.slots (λ (s : SlotImageValue). s.chain.tail)))
    (λ ino lt.
    let few : ino < length view.slots = omega (arith, lt, length-map view.slots (λ (s : SlotViewValue). s.chain.state.tail)) in
    let low : ino < length image.slots = omega (arith, few, seen.count) in
    get_or-map (λ (s : SlotViewValue). s.chain.state.tail) view.slots ino nothing 0 few
    ∙ ap (λ (c : ChainState). c.tail) (seen.slots ino low).chain
    ∙ sym (own_tail image ino low))

-- a tail that good journals have noted is not past the slot's own
module _ (image : ImageValue) (ino : ℕ) where
  abbrev its_tail : ℕ
  its_tail = (slot_of image ino).chain.tail

  noted_low : (notes : List OldTail) → list_all (is_note_good image) notes ≡ true → noted_tail notes ino its_tail ≤ its_tail
  noted_low [] good = omega arith
  noted_low (note ∷ notes) good = go (note.ino == ino) refl (noted_low notes parts.1) where
    parts : (is_note_good image note ≡ true) × (list_all (is_note_good image) notes ≡ true)
    parts = and_parts (is_note_good image note) (list_all (is_note_good image) notes) good

    go : (b : Bool) → (note.ino == ino) ≡ b → noted_tail notes ino its_tail ≤ its_tail
        → noted_or (option_map (λ (t : OldTail). t.tail) (cond b (Some note) (find (λ (t : OldTail). t.ino == ino) notes))) its_tail
        ≤ its_tail
    go true q more =
        let low = leb-true note.tail (slot_of image note.ino).chain.tail
        (and_parts (nat_lt 0 (length (slot_of image note.ino).chain.pages)) (nat_le note.tail (slot_of image note.ino).chain.tail) parts.0).1 in
        let at = ap (λ (m : ℕ). (slot_of image m).chain.tail) (eqb-true note.ino ino q) in
        omega (arith, low, at)
    go false q more = more

  pub tail_low : IsFaultless image → tail_of image ino ≤ its_tail
  tail_low faultless =
      let good = faultless fault.Journal in
      let all = (and_parts (list_all (is_note_good image) (all_notes image.journals)) (are_apart (all_notes image.journals)) good).0 in
      let settled = settled_by_notes image.journals ino its_tail in
      let low = noted_low (all_notes image.journals) all in
      subst (λ (b : Bool). cut_tail b image ino ≤ its_tail) (sym good) (omega (arith, settled, low))

-- so the tails of an image without a fault are within its logs
pub tail_within : (image : ImageValue) (ino : ℕ) → IsFaultless image → ino < length image.slots
    → tail_of image ino ≤ length (slot_of image ino).chain.entries
tail_within image ino faultless lt =
    let low = tail_low image ino faultless in
    let paged = (faultless fault.Chain ino lt).within in omega (arith, low, paged)

-- ---- slots

-- a slot that is read is the one that is seen
pub slot_read : (view : ViewValue) (slots : List SlotViewValue) (ino : ℕ) (r : SlotViewValue) → slots ≡ view.slots → ino < length slots
    → r ≡ slice_index_or slots ino r → r ≡ slot_in view ino
slot_read view slots ino r same lt is =
    is ∙ get_or_default slots ino r nothing lt ∙ ap (λ (ss : List SlotViewValue). slice_index_or ss ino nothing) same

-- ---- cut logs

module _ (image : ImageValue) (view : ViewValue) (seen : IsSeen image view) where
  pub same_entries : (ino : ℕ) → ino < length image.slots → (slot_in view ino).chain.state.entries ≡ (slot_of image ino).chain.entries
  same_entries ino lt = ap (λ (c : ChainState). c.entries) (seen.slots ino lt).chain

  pub seen_within : (tails : List ℕ) (ino d : ℕ) → IsFaultless image → tails ≡ cut_tails image → ino < length image.slots
      → slice_index_or tails ino d ≤ length (slot_in view ino).chain.state.entries
  seen_within tails ino d faultless are lt =
      let at = tail_at image tails ino d are lt in
      let many = ap (λ (es : List Entry). length es) (same_entries ino lt) in
      let within = tail_within image ino faultless lt in omega (arith, at, many, within)

-- the log of a slot that is cut at the tail of a list
abbrev pub front_in : ViewValue → List ℕ → ℕ → List Entry
front_in view tails ino = take (slice_index_or tails ino 0) (slot_in view ino).chain.state.entries

pub front_is : (image : ImageValue) (view : ViewValue) (tails : List ℕ) (ino : ℕ) → IsSeen image view → tails ≡ cut_tails image
    → ino < length image.slots → front_in view tails ino ≡ cut_log image ino
front_is image view tails ino seen are lt =
    ap₂ (λ (n : ℕ) (es : List Entry). take n es) (tail_at image tails ino 0 are lt) (same_entries image view seen ino lt)

-- ---- inodes that are gone for good

abbrev pub over_in : ViewValue → List ℕ → ℕ → Bool
over_in view tails ino = is_over view.snapshots view.numbers.block (front_in view tails ino)

pub over_is : (image : ImageValue) (view : ViewValue) (tails : List ℕ) (ino : ℕ) → IsSeen image view → tails ≡ cut_tails image
    → ino < length image.slots → over_in view tails ino ≡ is_erased image ino
over_is image view tails ino seen are lt =
    ap (λ (es : List Entry). is_over view.snapshots view.numbers.block es) (front_is image view tails ino seen are lt)
    ∙ ap (λ (ss : List ℕ). is_over ss view.numbers.block (cut_log image ino)) seen.snapshots
    ∙ ap (λ (b : ℕ). is_over image.snapshots b (cut_log image ino)) (ap (λ g. g.block) seen.numbers)

pub all_over : (image : ImageValue) (view : ViewValue) (tails : List ℕ) (ended : List Bool) → IsSeen image view
    → tails ≡ cut_tails image → ended ≡ map (over_in view tails) (range_with_len 0 (length view.slots)) → ended ≡ erased_in image
all_over image view tails ended seen are made =
    ext_get_or false ended (erased_in image) (len ∙ sym (length-map-range_with_len (is_erased image) 0 (length image.slots)))
    (λ ino lt.
    let low : ino < length image.slots = omega (arith, lt, len) in
    let few : ino < length view.slots = omega (arith, low, seen.count) in
    ap (λ (bs : List Bool). slice_index_or bs ino false) made
    ∙ get_or-map-range_with_len (over_in view tails) 0 (length view.slots) ino ino false few (omega arith)
    ∙ over_is image view tails ino seen are low
    ∙ sym (get_or-map-range_with_len (is_erased image) 0 (length image.slots) ino ino false low (omega arith)))
  where
    len : length ended ≡ length image.slots
    len = ap (λ (bs : List Bool). length bs) made ∙ length-map-range_with_len (over_in view tails) 0 (length view.slots) ∙ seen.count

pub erased_at : (image : ImageValue) (ended : List Bool) (ino : ℕ) (d : Bool) → ended ≡ erased_in image → ino < length image.slots
    → slice_index_or ended ino d ≡ is_erased image ino
erased_at image ended ino d are lt =
    ap (λ (bs : List Bool). slice_index_or bs ino d) are
    ∙ get_or-map-range_with_len (is_erased image) 0 (length image.slots) ino ino d lt (omega arith)

pub erased_many : (image : ImageValue) (ended : List Bool) → ended ≡ erased_in image → length ended ≡ length image.slots
erased_many image ended are =
    ap (λ (bs : List Bool). length bs) are ∙ length-map-range_with_len (is_erased image) 0 (length image.slots)

-- ---- living snapshots

-- numbers of which each is below all later ones are each below the next
pub increasing : (ss : List ℕ) → IsRising ss → IsStrictlyIncreasing ss
increasing [] rising k lt = absurd (omega (arith, lt))
increasing (s ∷ []) rising k lt = absurd (omega (arith, lt))
increasing (s ∷ t ∷ ss) rising zero lt = rising.0 0 0 (omega arith)
increasing (s ∷ t ∷ ss) rising (suc k) lt =
    let next : suc (k + 1) ≡ suc k + 1 = omega arith in
    subst (λ (n : ℕ). slice_index (t ∷ ss) k < slice_index (s ∷ t ∷ ss) n) next (increasing (t ∷ ss) rising.1 k (omega (arith, lt)))
