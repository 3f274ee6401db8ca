-- The pool and the records that a mount makes, by what is seen of an image without a fault.
use Rattle.std.proofs.Common.{◌≡◌, ℕ, zero, suc, ◌+◌, ◌<◌, ◌≤◌, ◌||◌, ◌++◌, Bool, true, false, cond, filter, nat_le, nat_lt, not, List, [], ◌∷◌, length, take, map, Option, None, Some, arith, refl, ap, ap₂, subst, sym, ◌∙◌}
use Rattle.std.specs.Prelude.{All, slice_index_or, unwrap_or}
use Rattle.std.specs.List.{AllByRecursion, flat_map, range_with_len}
use Rattle.std.proofs.lemmas.Bool.{le-ltb, lt-ltb}
use Rattle.std.proofs.lemmas.Grind.{flat_map-append}
use Rattle.std.proofs.lemmas.List.{append-nil}
use Rattle.std.proofs.lemmas.List.FromFn.{get_or-map-range_with_len}
use Rattle.std.proofs.lemmas.Option.{none-some, same_Some}
use Rattle.nv_alloc.specs.InodePool.{IsPool}
use Rattle.nv_alloc.specs.Numbers.{IsRising, unused}
use Rattle.nv_audit.specs.Faults.{IsFaultless}
use Rattle.nv_audit.specs.Image.{ImageValue, SlotImageValue, slot_of}
use Rattle.nv_audit.specs.LogShape.{AreNoLater}
use Rattle.nv_audit.specs.Mounted.{cell_of, cell_with, cells_of, cut_log, is_recorded, log_records, record_by, records_anew, slot_records, tail_of}
use Rattle.nv_audit.specs.MountedLogs.{cut_tails}
use Rattle.nv_audit.specs.Pool.{is_in_use, is_used, no_cell}
use Rattle.nv_audit.proofs.MountedLogs.{tail_at}
use Rattle.nv_audit.proofs.PartBlocks.{range_split}
use Rattle.nv_base.specs.declared.fault.ImageFault.TheVariants as fault
use Rattle.nv_base.specs.declared.geometry.GeometryNumbers.{GeometryNumbers}
use Rattle.nv_base.specs.declared.limits.TheConstants.{NUMBER}
use Rattle.nv_book.specs.declared.record.Record.{Record}
use Rattle.nv_cell.specs.Cell.{CellState, empty_cell}
use Rattle.nv_cell.specs.Readers.{has_entry}
use Rattle.nv_epoch.specs.Holders.{IsRising as HoldersRise}
use Rattle.nv_entry.specs.Keys.{covers, Key, key_of, parts_of}
use Rattle.nv_entry.specs.Log.{first_cover, pair_of, pairs, pairs_of}
use Rattle.nv_entry.specs.declared.held.Pair.{Pair}
use Rattle.nv_entry.specs.declared.item.Entry.{Entry}
use Rattle.nv_entry.specs.declared.part.Part.{Part}
use Rattle.nv_mount.specs.Build.{is_slot_used}
use Rattle.nv_mount.specs.Plan.{erased_in, is_erased}
use Rattle.nv_mount.specs.View.{IsSeen, ViewValue, slot_in}
use Rattle.nv_mount.proofs.Seen.{erased_at, front_in, front_is, tail_within}

-- ---- numbers of a range

module _ {X : Type 0} (f h : ℕ → List X) where
  pub flat_same : (a k : ℕ) → ((i : ℕ) → a ≤ i → i < a + k → f i ≡ h i) → flat_map f (range_with_len a k) ≡ flat_map h (range_with_len a k)
  flat_same a zero same = refl
  flat_same a (suc k) same =
      ap₂ (λ (xs ys : List X). xs ++ ys) (same a (omega arith) (omega arith))
      (flat_same (a + 1) k (λ i from to. same i (omega (arith, from)) (omega (arith, to))))

pub flat_more : {X : Type 0} (f : ℕ → List X) (n : ℕ) → flat_map f (range_with_len 0 (n + 1)) ≡ flat_map f (range_with_len 0 n) ++ f n
flat_more {X} f n =
    let zeroth : 0 + n ≡ n = omega arith in
    ap (flat_map f) (range_split 0 n 1) ∙ flat_map-append f (range_with_len 0 n) ((0 + n) ∷ [])
    ∙ ap (λ (xs : List X). flat_map f (range_with_len 0 n) ++ xs) (append-nil (f (0 + n)) ∙ ap f zeroth)

filter_same : (p q : ℕ → Bool) (a k : ℕ) → ((i : ℕ) → a ≤ i → i < a + k → p i ≡ q i)
    → filter p (range_with_len a k) ≡ filter q (range_with_len a k)
filter_same p q a zero same = refl
filter_same p q a (suc k) same =
    ap₂ (λ (b : Bool) (ns : List ℕ). cond b (a ∷ ns) ns) (same a (omega arith) (omega arith))
    (filter_same p q (a + 1) k (λ i from to. same i (omega (arith, from)) (omega (arith, to))))

filter_append : (p : ℕ → Bool) (xs ys : List ℕ) → filter p (xs ++ ys) ≡ filter p xs ++ filter p ys
filter_append p [] ys = refl
filter_append p (x ∷ xs) ys = go (p x) (filter_append p xs ys) where
  go : (b : Bool) → filter p (xs ++ ys) ≡ filter p xs ++ filter p ys
      → cond b (x ∷ filter p (xs ++ ys)) (filter p (xs ++ ys)) ≡ cond b (x ∷ filter p xs) (filter p xs) ++ filter p ys
  go true e = ap (λ (ns : List ℕ). x ∷ ns) e
  go false e = e

pub filter_more : (p : ℕ → Bool) (n : ℕ)
    → filter p (range_with_len 0 (n + 1)) ≡ filter p (range_with_len 0 n) ++ cond (p n) (n ∷ []) []
filter_more p n =
    let zeroth : 0 + n ≡ n = omega arith in
    ap (filter p) (range_split 0 n 1) ∙ filter_append p (range_with_len 0 n) ((0 + n) ∷ [])
    ∙ ap (λ (k : ℕ). filter p (range_with_len 0 n) ++ cond (p k) (k ∷ []) []) zeroth

filter_all : (P : ℕ → Type 0) (p : ℕ → Bool) (a k : ℕ) → ((i : ℕ) → a ≤ i → i < a + k → P i)
    → AllByRecursion P (filter p (range_with_len a k))
filter_all P p a zero each = tt
filter_all P p a (suc k) each =
    go (p a) (filter_all P p (a + 1) k (λ i from to. each i (omega (arith, from)) (omega (arith, to)))) where
      go : (b : Bool) → AllByRecursion P (filter p (range_with_len (a + 1) k))
          → AllByRecursion P (cond b (a ∷ filter p (range_with_len (a + 1) k)) (filter p (range_with_len (a + 1) k)))
      go true rest = (each a (omega arith) (omega arith), rest)
      go false rest = rest

filter_rises : (p : ℕ → Bool) (a k : ℕ) → IsRising (filter p (range_with_len a k))
filter_rises p a zero = tt
filter_rises p a (suc k) = go (p a) (filter_rises p (a + 1) k) where
  go : (b : Bool) → IsRising (filter p (range_with_len (a + 1) k))
      → IsRising (cond b (a ∷ filter p (range_with_len (a + 1) k)) (filter p (range_with_len (a + 1) k)))
  go true rest = (filter_all (λ m. a < m) p (a + 1) k (λ i from to. omega (arith, from)), rest)
  go false rest = rest

-- what passes a test of so many numbers is a pool of as many
pub filter_pool : (p : ℕ → Bool) (n : ℕ) → IsPool (record { inodes = n; numbers = filter p (range_with_len 0 n) })
filter_pool p n = record {
  rising = filter_rises p 0 n;
  below = filter_all (λ m. m < n) p 0 n (λ i from to. omega (arith, to));
}

-- ---- the pool

abbrev pub free_in : ViewValue → List ℕ → List Bool → ℕ → Bool
free_in view tails ended ino =
    not (is_slot_used (slot_in view ino).generation (slice_index_or tails ino 0) (slice_index_or ended ino false))

has_first : (t : ℕ) (es : List Entry) → t ≤ length es → has_entry (take t (take t es)) ≡ nat_lt 0 t
has_first zero [] few = sym (le-ltb 0 0 (omega arith))
has_first zero (e ∷ es) few = sym (le-ltb 0 0 (omega arith))
has_first (suc t) [] few = absurd (omega (arith, few))
has_first (suc t) (e ∷ es) few = sym (lt-ltb 0 (suc t) (omega arith))

-- a number is in use where the cell that is made has an inode, or is withheld
module _ (image : ImageValue) (view : ViewValue) (tails : List ℕ) (ended : List Bool) (faultless : IsFaultless image)
    (seen : IsSeen image view) (cut : tails ≡ cut_tails image) (gone : ended ≡ erased_in image) where
  its_use : (ino : ℕ) → ino < length image.slots
      → is_slot_used (slot_of image ino).generation (tail_of image ino) (is_erased image ino) ≡ is_in_use (cell_of image ino)
  its_use ino lt = go (is_erased image ino) where
    g : GeometryNumbers
    g = image.numbers

    slot : SlotImageValue
    slot = slot_of image ino

    go : (b : Bool)
        → is_slot_used slot.generation (tail_of image ino) b
        ≡ is_in_use (cond b (empty_cell g.block g.page (slot.generation + 1) 0) (cell_with g image.snapshots (tail_of image ino) slot))
    go true = refl
    go false =
        ap (λ (b : Bool). b || nat_le NUMBER slot.generation)
        (sym (has_first (tail_of image ino) slot.chain.entries (tail_within image ino faultless lt)))

  used_is : (ino : ℕ) → ino < length image.slots → free_in view tails ended ino ≡ not (is_used (cells_of image) ino)
  used_is ino lt =
      ap (λ (n : ℕ). not (is_slot_used n (slice_index_or tails ino 0) (slice_index_or ended ino false))) (seen.slots ino lt).generation
      ∙ ap (λ (n : ℕ). not (is_slot_used (slot_of image ino).generation n (slice_index_or ended ino false)))
      (tail_at image tails ino 0 cut lt)
      ∙ ap (λ (b : Bool). not (is_slot_used (slot_of image ino).generation (tail_of image ino) b)) (erased_at image ended ino false gone lt)
      ∙ ap not (its_use ino lt)
      ∙ sym (ap (λ (cell : CellState). not (is_in_use cell))
      (get_or-map-range_with_len (cell_of image) 0 (length image.slots) ino ino no_cell lt (omega arith)))

  pub pool_is : (n : ℕ) → n ≡ length image.slots
      → filter (free_in view tails ended) (range_with_len 0 n) ≡ unused (is_used (cells_of image)) 0 image.numbers.inodes
  pool_is n all =
      let slots = (faultless fault.Geometry).slots in
      let many : n ≡ image.numbers.inodes = omega (arith, all, slots) in
      filter_same (free_in view tails ended) (λ m. not (is_used (cells_of image) m)) 0 n (λ i from to. used_is i (omega (arith, to, all)))
      ∙ ap (unused (is_used (cells_of image)) 0) many

-- ---- the book

-- what a book is made of fits a device
pub record FitsBook (view : ViewValue) : Type 0 where
  pub rising : HoldersRise view.snapshots
  pub below : All (λ (s : ℕ). s < view.epoch) view.snapshots
  pub few : length view.snapshots ≤ view.numbers.snaps
  pub some : 1 ≤ view.epoch
  pub epoch : view.epoch ≤ NUMBER
  pub commit : view.commit ≤ NUMBER

pub book_fits : (image : ImageValue) (view : ViewValue) → IsFaultless image → IsSeen image view → FitsBook view
book_fits image view faultless seen =
    let fits = faultless fault.Geometry in
    let snaps = faultless fault.Snaps in
    record {
      rising = subst HoldersRise (sym seen.snapshots) snaps.rising;
      below = subst (λ (n : ℕ). All (λ (s : ℕ). s < n) view.snapshots) (sym seen.epoch)
          (subst (λ (ss : List ℕ). All (λ (s : ℕ). s < image.epoch) ss) (sym seen.snapshots) snaps.below);
      few = omega (
        arith,
        ap (λ (ss : List ℕ). length ss) seen.snapshots,
        ap (λ (g : GeometryNumbers). g.snaps) seen.numbers,
        fits.snapshots,
      );
      some = omega (arith, seen.epoch, fits.some_epoch);
      epoch = omega (arith, seen.epoch, fits.epoch);
      commit = omega (arith, seen.commit, fits.commit);
    }

-- ---- records

abbrev pub records_in : ViewValue → List ℕ → ℕ → List Record
records_in view tails ino = log_records view.numbers.block view.snapshots ino (front_in view tails ino)

pub records_are : (image : ImageValue) (view : ViewValue) (tails : List ℕ) → IsSeen image view → tails ≡ cut_tails image
    → (n : ℕ) → n ≡ length image.slots → flat_map (records_in view tails) (range_with_len 0 n) ≡ records_anew image
records_are image view tails seen are n all =
    flat_same (records_in view tails) (slot_records image) 0 n
    (λ i from to.
    let lt : i < length image.slots = omega (arith, to, all) in
    ap (λ (es : List Entry). log_records view.numbers.block view.snapshots i es) (front_is image view tails i seen are lt)
    ∙ ap (λ (ss : List ℕ). log_records view.numbers.block ss i (cut_log image i)) seen.snapshots
    ∙ ap (λ (b : ℕ). log_records b image.snapshots i (cut_log image i)) (ap (λ g. g.block) seen.numbers))
    ∙ ap (λ (k : ℕ). flat_map (slot_records image) (range_with_len 0 k)) all

-- each died by now
module _ (epoch : ℕ) where
  cover_low : (block death : ℕ) (log : List Entry) (key : Key) → AllByRecursion (λ (e : Entry). e.epoch ≤ epoch) log
      → first_cover block log key ≡ Some death → death ≤ epoch
  cover_low block death [] key all e = absurd (none-some death e)
  cover_low block death (x ∷ log) key all e = go (covers block x.item key) e (cover_low block death log key all.1) where
    go : (b : Bool) → cond b (Some x.epoch) (first_cover block log key) ≡ Some death
        → (first_cover block log key ≡ Some death → death ≤ epoch) → death ≤ epoch
    go true e more = let same = same_Some x.epoch death e in let low = all.0 in omega (arith, same, low)
    go false e more = more e

  abbrev IsDead : Pair → Type 0
  IsDead pair = (death : ℕ) → pair.death ≡ Some death → death ≤ epoch

  dead_of : (block : ℕ) (e : Entry) (later : List Entry) → AllByRecursion (λ (x : Entry). x.epoch ≤ epoch) later → (parts : List Part)
      → AllByRecursion IsDead (map (pair_of block e later) parts)
  dead_of block e later all [] = tt
  dead_of block e later all (part ∷ parts) = (
    λ death is. cover_low block death later (key_of e.item part) all is,
    dead_of block e later all parts,
  )

  both : {X : Type 0} (P : X → Type 0) (xs ys : List X) → AllByRecursion P xs → AllByRecursion P ys → AllByRecursion P (xs ++ ys)
  both P [] ys p q = q
  both P (x ∷ xs) ys p q = (p.0, both P xs ys p.1 q)

  dead_pairs : (block : ℕ) (log : List Entry) → AllByRecursion (λ (e : Entry). e.epoch ≤ epoch) log → AllByRecursion IsDead (pairs block log)
  dead_pairs block [] all = tt
  dead_pairs block (e ∷ log) all =
      both IsDead (pairs_of block e log) (pairs block log) (dead_of block e log all.1 (parts_of e.item)) (dead_pairs block log all.1)

  abbrev pub AreDeadBy : List Record → Type 0
  AreDeadBy records = AllByRecursion (λ (r : Record). r.death ≤ epoch) records

  dead_records : (living : List ℕ) (ino : ℕ) (ps : List Pair) → AllByRecursion IsDead ps
      → AreDeadBy (map (record_by ino) (filter (is_recorded living) ps))
  dead_records living ino [] all = tt
  dead_records living ino (pair ∷ ps) all = go (is_recorded living pair) (dead_records living ino ps all.1) where
    own : (o : Option ℕ) → pair.death ≡ o → unwrap_or o 0 ≤ epoch
    own None e = omega arith
    own (Some death) e = all.0 death e

    go : (b : Bool) → AreDeadBy (map (record_by ino) (filter (is_recorded living) ps))
        → AreDeadBy (map (record_by ino) (cond b (pair ∷ filter (is_recorded living) ps) (filter (is_recorded living) ps)))
    go true more = (own pair.death refl, more)
    go false more = more

  earlier : (commit : ℕ) (log : List Entry) → AreNoLater commit epoch log → (t : ℕ)
      → AllByRecursion (λ (e : Entry). e.epoch ≤ epoch) (take t log)
  earlier commit [] all zero = tt
  earlier commit [] all (suc t) = tt
  earlier commit (e ∷ log) all zero = tt
  earlier commit (e ∷ log) all (suc t) =
      ((all 0 e (omega arith)).1, earlier commit log (λ i d lt. all (suc i) d (omega (arith, lt))) t)

  several : (f : ℕ → List Record) (a k : ℕ) → ((i : ℕ) → i < a + k → AreDeadBy (f i)) → AreDeadBy (flat_map f (range_with_len a k))
  several f a zero each = tt
  several f a (suc k) each =
      both (λ (r : Record). r.death ≤ epoch) (f a) (flat_map f (range_with_len (a + 1) k)) (each a (omega arith))
      (several f (a + 1) k (λ i to. each i (omega (arith, to))))

  pub all_dead : (image : ImageValue) → image.epoch ≡ epoch → IsFaultless image → AreDeadBy (records_anew image)
  all_dead image now faultless =
      several (slot_records image) 0 (length image.slots)
      (λ i to.
      let good = faultless fault.Entry i (omega (arith, to)) in
      dead_records image.snapshots i (pairs image.numbers.block (cut_log image i))
      (dead_pairs image.numbers.block (cut_log image i)
      (earlier image.commit (slot_of image i).chain.entries
      (subst (λ (n : ℕ). AreNoLater image.commit n (slot_of image i).chain.entries) now good.no_later) (tail_of image i))))
