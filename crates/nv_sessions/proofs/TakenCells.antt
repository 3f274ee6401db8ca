-- Cells that a call has taken out of their places, and what it has seen once they are back.
use Rattle.std.proofs.Common.{◌≡◌, ◌≢◌, ◌∙◌, inl, inr, ◌++◌, ◌∷◌, ℕ, ◌+◌, ◌<◌, ◌≤◌, ◌-◌, List, [], Option, Some, None, ap, arith, length, map, refl, slice_index, subst, sym, take}
use Rattle.std.specs.Prelude.{Err, IfErr, IfOk, Ok, OnErr, OnOk, Result, false, slice_index_or}
use Rattle.std.specs.List.{AllByRecursion, AllPairs}
use Rattle.core.specs.declared.rw.RwLockWriteGuard.{RwLockWriteGuard}
use Rattle.std.proofs.lemmas.List.{ext_get_or, get_or-map, get_or-take, get_or_append_left, get_or_push, length-map, length-take, length_push, map-append}
use Rattle.std.proofs.lemmas.Bool.{cases_eq}
use Rattle.std.proofs.lemmas.List.Sums.{sum_by_push}
use Rattle.nv_calls.specs.AllCalls.{is_nothing}
use Rattle.nv_calls.specs.Updates.{blank_call}
use Rattle.nv_calls.specs.Cells.{AreCells, ino_at, no_cell, state_at, value_at}
use Rattle.nv_calls.specs.Commit.{ReceiptValue}
use Rattle.nv_calls.specs.declared.update.Update.{Update}
use Rattle.nv_base.specs.declared.numbers.Handle.{Handle}
use Rattle.nv_calls.proofs.CellCommits.{all_at}
use Rattle.nv_calls.proofs.PlannedAlike.{all_map}
use Rattle.nv_cell.specs.Cell.{CellValue, block_total}
use Rattle.nv_sessions.specs.Changing.{AreRaised, AreWhole, HaveSeenHigher, IsDoneOver, IsOfCall, IsRaised, IsReceiptOf, KeepVersions, MayBeRaised, RaisesPublished, blocks_in, published_by}
use Rattle.nv_sessions.specs.Locked.{LockedValue, version_at}
use Rattle.nv_sessions.specs.Rounds.{IsEndedBy}
use Rattle.nv_sessions.specs.Sessions.{at_seat}
use Rattle.nv_sessions.specs.Taken.{ArePlaces, GoesBack, IsNext, IsStill, IsTaken, empty_place, inos_of, no_taken, pair, pairs, places_of, taken_at, versions_of}
use Rattle.nv_sessions.specs.declared.cell_list.TakenCell.{TakenCell}
use Rattle.nv_sessions.specs.declared.change.ChangeEnd.{ChangeEnd}
use Rattle.nv_sessions.proofs.Turning.{joined_last}
use Rattle.std.specs.Option.{option_map}
use Rattle.std.specs.Sync.RwLock.{write_guard_value}

-- ---- the cells as a change sees them

pub count_is : (items : List TakenCell) → length (pairs items) ≡ length items
count_is items = length-map items pair

pub value_is : (items : List TakenCell) (k : ℕ) → k < length items → value_at (pairs items) k ≡ (taken_at items k).cell
value_is items k inside = ap (λ (c : ℕ × CellValue). c.1) (get_or-map pair items k no_taken no_cell inside)

pub ino_is : (items : List TakenCell) (k : ℕ) → k < length items → ino_at (pairs items) k ≡ (taken_at items k).ino
ino_is items k inside = ap (λ (c : ℕ × CellValue). c.0) (get_or-map pair items k no_taken no_cell inside)

pub before_is : (items : List TakenCell) (k : ℕ) → k < length items → slice_index (versions_of items) k ≡ (taken_at items k).before
before_is items k inside = get_or-map (λ (t : TakenCell). t.before) items k no_taken 0 inside

pub number_is : (items : List TakenCell) (k : ℕ) → k < length items → slice_index (inos_of items) k ≡ (taken_at items k).ino
number_is items k inside = get_or-map (λ (t : TakenCell). t.ino) items k no_taken 0 inside

pub blocks_more : (front : List TakenCell) (t : TakenCell) (items : List TakenCell) → items ≡ front ++ t ∷ []
    → blocks_in (pairs items) ≡ blocks_in (pairs front) + block_total t.cell.state
blocks_more front t items is =
    ap (λ (l : List TakenCell). blocks_in (pairs l)) is
    ∙ ap blocks_in (map-append pair front (t ∷ []))
    ∙ sum_by_push (λ (c : ℕ × CellValue). block_total c.1.state) (pairs front) (pair t)

-- ---- one more, and the last

pub taken_front : (front : List TakenCell) (t : TakenCell) (items : List TakenCell) (k : ℕ) → items ≡ front ++ t ∷ [] → k < length front
    → taken_at items k ≡ taken_at front k
taken_front front t items k is inside =
    ap (λ (l : List TakenCell). taken_at l k) is ∙ get_or_append_left front (t ∷ []) no_taken k inside

pub taken_last : (front : List TakenCell) (t : TakenCell) (items : List TakenCell) → items ≡ front ++ t ∷ []
    → taken_at items (length front) ≡ t
taken_last front t items is =
    ap (λ (l : List TakenCell). taken_at l (length front)) is ∙ get_or_push front t no_taken (length front) refl

abbrev pub told : TakenCell → Option LockedValue
told t = Some (empty_place t)

pub places_more : (guards more : List (Option (RwLockWriteGuard LockedValue))) (guard : RwLockWriteGuard LockedValue) (items now : List TakenCell)
    (t : TakenCell) → ArePlaces guards items → more ≡ guards ++ Some guard ∷ [] → now ≡ items ++ t ∷ []
    → write_guard_value guard ≡ empty_place t → ArePlaces more now
places_more guards more guard items now t are by to is =
    joined_last (option_map write_guard_value) told guards more (Some guard) items now t are by to (ap Some is)

-- the last of the guards is that of the place of the last cell
pub record LastGuard (guards : List (Option (RwLockWriteGuard LockedValue))) (front : List TakenCell) (t : TakenCell) : Type 0 where
  pub before : List (Option (RwLockWriteGuard LockedValue))
  pub guard : RwLockWriteGuard LockedValue
  pub is : guards ≡ before ++ Some guard ∷ []
  pub places : ArePlaces before front
  pub place : write_guard_value guard ≡ empty_place t

no_more : {A : Type 0} (x : A) (xs : List A) → [] ≡ x ∷ xs → ⊥
no_more x xs is = cc

none_not : {A : Type 0} (x : A) → None ≡ Some x → ⊥
none_not x is = cc

alone : (guard : Option (RwLockWriteGuard LockedValue)) (guards : List (Option (RwLockWriteGuard LockedValue))) (t : TakenCell)
    → option_map write_guard_value guard ≡ told t → map (option_map write_guard_value) guards ≡ [] → LastGuard (guard ∷ guards) [] t
alone None guards t head tail = absurd (none_not (empty_place t) head)
alone (Some guard) [] t head tail =
    let place : write_guard_value guard ≡ empty_place t = cc in
    record { before = []; guard = guard; is = refl; places = refl; place = place }
alone (Some guard) (g ∷ guards) t head tail =
    absurd (no_more (option_map write_guard_value g) (map (option_map write_guard_value) guards) (sym tail))

one_more : (guard : Option (RwLockWriteGuard LockedValue)) (guards : List (Option (RwLockWriteGuard LockedValue))) (x : TakenCell) (front : List TakenCell)
    (t : TakenCell) → option_map write_guard_value guard ≡ told x → LastGuard guards front t → LastGuard (guard ∷ guards) (x ∷ front) t
one_more guard guards x front t head rest = record {
  before = guard ∷ rest.before;
  guard = rest.guard;
  is = ap (λ (l : List (Option (RwLockWriteGuard LockedValue))). guard ∷ l) rest.is;
  places = ap (λ (o : Option LockedValue). o ∷ places_of rest.before) head
      ∙ ap (λ (l : List (Option LockedValue)). told x ∷ l) rest.places;
  place = rest.place;
}

pub last_guard : (guards : List (Option (RwLockWriteGuard LockedValue))) (front : List TakenCell) (t : TakenCell)
    → map (option_map write_guard_value) guards ≡ map told (front ++ t ∷ []) → LastGuard guards front t
last_guard [] [] t is = absurd (no_more (told t) [] is)
last_guard [] (x ∷ front) t is = absurd (no_more (told x) (map told (front ++ t ∷ [])) is)
last_guard (g ∷ guards) [] t is =
    let head : option_map write_guard_value g ≡ told t = cc in
    let tail : map (option_map write_guard_value) guards ≡ [] = cc in
    alone g guards t head tail
last_guard (g ∷ guards) (x ∷ front) t is =
    let head : option_map write_guard_value g ≡ told x = cc in
    let tail : map (option_map write_guard_value) guards ≡ map told (front ++ t ∷ []) = cc in
    one_more g guards x front t head (last_guard guards front t tail)

-- who had seen no more than the version of a place has seen no less once it is at a later one
pub seen_no_less : (opened old new : List ℕ) (ino place before version later : ℕ)
    → version_at opened place (slice_index new place) ≡ version → ((i : ℕ) → i ≢ place → slice_index new i ≡ slice_index old i)
    → version_at opened ino (slice_index old ino) ≤ before → before ≤ later → place ≡ ino → version ≡ later
    → (i : ℕ) → slice_index old i ≤ slice_index new i
seen_no_less opened old new ino place before version later here elsewhere met rises own is i = elim (cases_eq i place) [
  | inl same ↦
      let seen : version_at opened i (slice_index new i) ≡ version =
      ap (λ (n : ℕ). version_at opened n (slice_index new n)) same ∙ here in
      let had : version_at opened i (slice_index old i) ≡ version_at opened ino (slice_index old ino) =
      ap (λ (n : ℕ). version_at opened n (slice_index old n)) (same ∙ own) in
      omega (arith, seen, had, met, rises, is)
  | inr apart ↦ omega (arith, elsewhere i apart)
]

-- as many guards as cells
pub places_count : (guards : List (Option (RwLockWriteGuard LockedValue))) (items : List TakenCell) → ArePlaces guards items
    → length guards ≡ length items
places_count guards items are =
    sym (length-map guards (option_map write_guard_value)) ∙ ap (λ (l : List (Option LockedValue)). length l) are ∙ length-map items told

-- ---- by rising number

pub rising_front : (front : List TakenCell) (t : TakenCell) (items : List TakenCell) → items ≡ front ++ t ∷ []
    → AllPairs (λ (a b : ℕ). a < b) (inos_of items) → AllPairs (λ (a b : ℕ). a < b) (inos_of front)
rising_front front t items is rising = λ i j d less inside.
    let inos : inos_of items ≡ inos_of front ++ t.ino ∷ [] =
    ap inos_of is ∙ map-append (λ (x : TakenCell). x.ino) front (t ∷ []) in
    let more : j < length (inos_of items) = omega (arith, inside, ap (λ (l : List ℕ). length l) inos, length_push (inos_of front) t.ino) in
    let up = rising i j d less more in
    let low : slice_index_or (inos_of items) i d ≡ slice_index_or (inos_of front) i d =
    ap (λ (l : List ℕ). slice_index_or l i d) inos ∙ get_or_append_left (inos_of front) (t.ino ∷ []) d i (omega (arith, less, inside)) in
    let high : slice_index_or (inos_of items) j d ≡ slice_index_or (inos_of front) j d =
    ap (λ (l : List ℕ). slice_index_or l j d) inos ∙ get_or_append_left (inos_of front) (t.ino ∷ []) d j inside in
    omega (arith, up, low, high)

-- the last has a number of its own
pub last_apart : (front : List TakenCell) (t : TakenCell) (items : List TakenCell) (k : ℕ) → items ≡ front ++ t ∷ []
    → AllPairs (λ (a b : ℕ). a < b) (inos_of items) → k < length front → (taken_at front k).ino ≢ t.ino
last_apart front t items k is rising inside = λ same.
    let many : length items ≡ length front + 1 = ap (λ (l : List TakenCell). length l) is ∙ length_push front t in
    let up = rising k (length front) 0 inside (omega (arith, many, length-map items (λ (x : TakenCell). x.ino))) in
    let low : slice_index (inos_of items) k ≡ (taken_at front k).ino =
    number_is items k (omega (arith, inside, many)) ∙ ap (λ (x : TakenCell). x.ino) (taken_front front t items k is inside) in
    let high : slice_index (inos_of items) (length front) ≡ t.ino =
    number_is items (length front) (omega (arith, many)) ∙ ap (λ (x : TakenCell). x.ino) (taken_last front t items is) in
    omega (arith, up, low, high, same)

-- cells of slots that rise
pub are_cells : (items : List TakenCell) (slots : List ℕ) (n : ℕ) → inos_of items ≡ take n slots → length slots ≤ 4
    → AllPairs (λ (a b : ℕ). a < b) slots → AreCells (pairs items)
are_cells items slots n inos few rising =
    let many : length items ≤ length slots = omega (
      arith,
      length-map items (λ (t : TakenCell). t.ino),
      ap (λ (l : List ℕ). length l) inos,
      length-take n slots,
    ) in
    record {
      few = omega (arith, many, few, count_is items);
      rising = λ i j d less inside.
          let there : j < length items = omega (arith, inside, count_is items) in
          let up = rises i j less there in
          let low : (slice_index_or (pairs items) i d).0 ≡ (taken_at items i).ino =
          ap (λ (c : ℕ × CellValue). c.0) (get_or-map pair items i no_taken d (omega (arith, less, there))) in
          let high : (slice_index_or (pairs items) j d).0 ≡ (taken_at items j).ino =
          ap (λ (c : ℕ × CellValue). c.0) (get_or-map pair items j no_taken d there) in
          omega (arith, up, low, high);
    } where
      at_slot : (k : ℕ) → k < length items → (taken_at items k).ino ≡ slice_index slots k
      at_slot k there =
          let short : k < n = omega (
            arith,
            there,
            length-map items (λ (t : TakenCell). t.ino),
            ap (λ (l : List ℕ). length l) inos,
            length-take n slots,
          ) in
          sym (number_is items k there) ∙ ap (λ (l : List ℕ). slice_index l k) inos ∙ get_or-take n slots k 0 short

      rises : (i j : ℕ) → i < j → j < length items → (taken_at items i).ino < (taken_at items j).ino
      rises i j less there =
          let inside : j < length slots = omega (
            arith,
            there,
            length-map items (λ (t : TakenCell). t.ino),
            ap (λ (l : List ℕ). length l) inos,
            length-take n slots,
          ) in
          omega (arith, rising i j 0 less inside, at_slot i (omega (arith, less, there)), at_slot j there)

-- the numbers of such cells rise
pub rising_inos : (items : List TakenCell) → AreCells (pairs items) → AllPairs (λ (a b : ℕ). a < b) (inos_of items)
rising_inos items are = λ i j d less inside.
    let there : j < length items = omega (arith, inside, length-map items (λ (t : TakenCell). t.ino)) in
    let up = are.rising i j no_cell less (omega (arith, there, count_is items)) in
    let low : slice_index_or (inos_of items) i d ≡ (taken_at items i).ino =
    get_or-map (λ (t : TakenCell). t.ino) items i no_taken d (omega (arith, less, there)) in
    let high : slice_index_or (inos_of items) j d ≡ (taken_at items j).ino =
    get_or-map (λ (t : TakenCell). t.ino) items j no_taken d there in
    omega (arith, up, low, high, ino_is items i (omega (arith, less, there)), ino_is items j there)

-- ---- the places of cells of which some were raised

pub told_same : (xs ys : List TakenCell) → inos_of xs ≡ inos_of ys → versions_of xs ≡ versions_of ys → map told xs ≡ map told ys
told_same [] [] inos versions = refl
told_same [] (y ∷ ys) inos versions = cc
told_same (x ∷ xs) [] inos versions = cc
told_same (x ∷ xs) (y ∷ ys) inos versions =
    let ino : x.ino ≡ y.ino = cc in
    let version : x.before ≡ y.before = cc in
    let more : inos_of xs ≡ inos_of ys = cc in
    let rest : versions_of xs ≡ versions_of ys = cc in
    let first : told x ≡ told y =
    ap (λ (n : ℕ). place n x.before) ino ∙ ap (λ (n : ℕ). place y.ino n) version in
    ap (λ (l : List (Option LockedValue)). told x ∷ l) (told_same xs ys more rest) ∙ ap (λ (o : Option LockedValue). o ∷ map told ys) first where
      place : ℕ → ℕ → Option LockedValue
      place ino version = Some (record { ino = ino; version = version; cell = None })

pub inos_same : (old new : List TakenCell) → MayBeRaised (pairs old) (pairs new) → inos_of new ≡ inos_of old
inos_same old new raised =
    ext_get_or 0 (inos_of new) (inos_of old) many (λ k inside.
    let there : k < length new = omega (arith, inside, length-map new (λ (t : TakenCell). t.ino)) in
    let was : k < length old = omega (arith, there, raised.count, count_is old, count_is new) in
    number_is new k there ∙ (sym (ino_is new k there) ∙ raised.numbers k ∙ ino_is old k was) ∙ sym (number_is old k was)) where
      many : length (inos_of new) ≡ length (inos_of old)
      many = omega (
        arith,
        raised.count,
        count_is old,
        count_is new,
        length-map new (λ (t : TakenCell). t.ino),
        length-map old (λ (t : TakenCell). t.ino),
      )

-- the guards are still those of their places
pub places_kept : (guards : List (Option (RwLockWriteGuard LockedValue))) (old new : List TakenCell) → ArePlaces guards old
    → MayBeRaised (pairs old) (pairs new) → versions_of new ≡ versions_of old → ArePlaces guards new
places_kept guards old new are raised versions =
    are ∙ sym (told_same new old (inos_same old new raised) versions)

-- ---- what was seen

-- a cell that was raised was seen so
abbrev SeenAt : List (ℕ × CellValue) → List (ℕ × CellValue) → List ℕ → List ℕ → ℕ → Type 0
SeenAt old new before after k = (state_at new k).version ≡ (state_at old k).version + 1
    → slice_index before (ino_at old k) < slice_index after (ino_at old k)

seen_higher : (old new : List (ℕ × CellValue)) (before after : List ℕ) (handles : List Handle)
    → ((k : ℕ) → k < length old → SeenAt old new before after k)
    → AreRaised old new handles → HaveSeenHigher before after handles
seen_higher old new before after handles each raised =
    all_map (λ (h : Handle). IsRaised old new h.ino) (λ (h : Handle). slice_index before h.ino < slice_index after h.ino)
    (λ h is. subst (λ (i : ℕ). slice_index before i < slice_index after i) is.ino_is (each is.at is.within is.version)) handles raised

-- ---- taken cells

pub all_whole : (opened notes : List ℕ) (items : List TakenCell) → AllByRecursion (IsTaken opened notes) items → AreWhole (pairs items)
all_whole opened notes [] all = tt
all_whole opened notes (t ∷ items) all = (all.0.whole, all_whole opened notes items all.1)

module _ (opened notes : List ℕ) (old new : List TakenCell) (taken : AllByRecursion (IsTaken opened notes) old)
    (raised : MayBeRaised (pairs old) (pairs new)) (places : versions_of new ≡ versions_of old) where
  many : length new ≡ length old
  many = omega (arith, raised.count, count_is old, count_is new)

  before_same : (k : ℕ) → k < length new → (taken_at new k).before ≡ (taken_at old k).before
  before_same k inside =
      sym (before_is new k inside) ∙ ap (λ (l : List ℕ). slice_index l k) places ∙ before_is old k (omega (arith, inside, many))

  pub ino_same : (k : ℕ) → k < length new → (taken_at new k).ino ≡ (taken_at old k).ino
  ino_same k inside =
      sym (ino_is new k inside) ∙ raised.numbers k ∙ ino_is old k (omega (arith, inside, many))

  version_now : (k : ℕ) → k < length new → (state_at (pairs new) k).version ≡ (taken_at new k).cell.state.version
  version_now k inside = ap (λ (v : CellValue). v.state.version) (value_is new k inside)

  -- it was at the version of its place
  version_was : (k : ℕ) → k < length new → (state_at (pairs old) k).version ≡ (taken_at new k).before
  version_was k inside =
      let there : k < length old = omega (arith, inside, many) in
      ap (λ (v : CellValue). v.state.version) (value_is old k there)
      ∙ ((all_at (IsTaken opened notes) old no_taken k taken there).version ∙ sym (before_same k inside))

  -- each may go back
  pub all_back : (k : ℕ) → k < length new → GoesBack opened notes (taken_at new k)
  all_back k inside =
      let was = all_at (IsTaken opened notes) old no_taken k taken (omega (arith, inside, many)) in
      record {
        least = omega (arith, raised.least k, version_now k inside, version_was k inside);
        most = omega (arith, raised.most k, version_now k inside, version_was k inside);
        met = omega (
          arith,
          was.met,
          ap (λ (n : ℕ). version_at opened n (slice_index notes n)) (ino_same k inside),
          before_same k inside,
        );
      }

  -- ---- what a seat has seen once they are back

  module _ (after : List ℕ)
      (higher : (k : ℕ) → k < length new → IsNext (taken_at new k)
      → slice_index notes (taken_at new k).ino < slice_index after (taken_at new k).ino)
      (still : ((k : ℕ) → k < length new → IsStill (taken_at new k)) → after ≡ notes) where
    seen_at : (k : ℕ) → k < length (pairs old) → SeenAt (pairs old) (pairs new) notes after k
    seen_at k within = λ up.
        let inside : k < length new = omega (arith, within, count_is old, many) in
        let next : IsNext (taken_at new k) =
        sym (version_now k inside) ∙ up ∙ ap (λ (n : ℕ). n + 1) (version_was k inside) in
        subst (λ (i : ℕ). slice_index notes i < slice_index after i) (sym (ino_is new k inside) ∙ raised.numbers k) (higher k inside next)

    pub ended : (opening number before commits : ℕ) (u : Update) (result : Result ReceiptValue ChangeEnd)
        → ((i : ℕ) → slice_index notes i ≤ slice_index after i)
        → IsDoneOver opening before commits (pairs old) (pairs new) u result
        → IsEndedBy opening (at_seat number before notes) (at_seat number commits after) u result
    ended opening number before commits u (Ok receipt) kept done = (
      done.some,
      record {
        call = done.call.call;
        made = done.call.made;
        counted = done.counted;
        number = done.least;
        higher = seen_higher (pairs old) (pairs new) notes after (published_by u receipt.made) seen_at done.raised;
        kept = kept;
        snapped = refl;
        seat = refl;
      },
    )
    ended opening number before commits u (Err end) kept done =
        let same : after ≡ notes = still (λ k inside. sym (version_now k inside) ∙ done.1 k ∙ version_was k inside) in (
          ap (λ (l : List ℕ). at_seat number commits l) same ∙ ap (λ (n : ℕ). at_seat number n notes) done.0,
          done.2,
        )

-- ---- how a change ends

pub done_over : (opening before after : ℕ) (old new : List (ℕ × CellValue)) (u : Update) (result : Result ReceiptValue ChangeEnd)
    → OnOk result (after ≡ before + 1) → IfOk result (λ (receipt : ReceiptValue). opening + after ≤ receipt.stamp.commit)
    → IfOk result (IsReceiptOf u) → IfOk result (RaisesPublished old new u)
    → OnErr result ((after ≡ before) × KeepVersions old new) → OnOk result (is_nothing (blank_call u) ≡ false)
    → IfErr result (IsOfCall u) → IsDoneOver opening before after old new u result
done_over opening before after old new u (Ok receipt) counted least call raised same some overtaken =
    record { some = some; counted = counted; least = least; call = call; raised = raised }
done_over opening before after old new u (Err end) counted least call raised same some overtaken = (same.0, same.1, overtaken)

-- where nothing was changed, nothing is raised
pub same_raised : (cells : List (ℕ × CellValue)) → MayBeRaised cells cells
same_raised cells = record { count = refl; numbers = λ k. refl; least = λ k. omega arith; most = λ k. omega arith }
