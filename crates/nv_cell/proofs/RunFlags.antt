-- Flags of runs as flags of their items.
use Rattle.std.proofs.Common.{◌≡◌, ℕ, zero, suc, ◌+◌, ◌-◌, ◌<◌, ◌≤◌, Bool, true, false, cond, List, [], ◌∷◌, ◌++◌, length, take, drop, replicate, get_or, arith, refl, ap, sym, ◌∙◌, subst, append_assoc, length-append, length-drop, Some}
use Rattle.std.specs.Prelude.{slice_get}
use Rattle.std.proofs.lemmas.Option.{get_or_from_slice_get}
use Rattle.std.proofs.lemmas.List.{append-nil, drop-drop, take-append-le, drop-append-le, length-take, get_or-take, take_all}
use Rattle.nv_entry.specs.declared.item.Entry.{Entry}
use Rattle.nv_entry.specs.Covered.{part_count, part_total}
use Rattle.std.specs.List.{AllByRecursion}
use Rattle.nv_log.specs.Chain.{gone_of, left_of}
use Rattle.nv_log.proofs.Flags.{spread}
use Rattle.nv_cell.specs.Removal.{flags_by, run_flags}
use Rattle.nv_cell.specs.Slots.{slot_count, slot_total}

-- a run that goes, and one that stays
pub left_of-goes : {X : Type 0} (n : ℕ) (flags : List Bool) (xs : List X)
    → left_of (replicate n false ++ flags) xs ≡ left_of flags (drop n xs)
left_of-goes zero flags xs = refl
left_of-goes (suc n) [] [] = refl
left_of-goes (suc n) (b ∷ flags) [] = refl
left_of-goes (suc n) flags (x ∷ xs) = left_of-goes n flags xs

pub left_of-stays : {X : Type 0} (n : ℕ) (flags : List Bool) (xs : List X)
    → left_of (replicate n true ++ flags) xs ≡ take n xs ++ left_of flags (drop n xs)
left_of-stays zero flags xs = refl
left_of-stays (suc n) [] [] = refl
left_of-stays (suc n) (b ∷ flags) [] = refl
left_of-stays (suc n) flags (x ∷ xs) = ap (λ ys. x ∷ ys) (left_of-stays n flags xs)

pub gone_of-run : {X : Type 0} (n : ℕ) (b : Bool) (flags : List Bool) (xs : List X)
    → gone_of (replicate n b ++ flags) xs ≡ cond b [] (take n xs) ++ gone_of flags (drop n xs)
gone_of-run zero true flags xs = refl
gone_of-run zero false flags xs = refl
gone_of-run (suc n) true [] [] = refl
gone_of-run (suc n) true (c ∷ flags) [] = refl
gone_of-run (suc n) false [] [] = refl
gone_of-run (suc n) false (c ∷ flags) [] = refl
gone_of-run (suc n) true flags (x ∷ xs) = gone_of-run n true flags xs
gone_of-run (suc n) false flags (x ∷ xs) = ap (λ ys. x ∷ ys) (gone_of-run n false flags xs)

all_split : {X : Type 0} (P : X → Type 0) (xs ys : List X) → AllByRecursion P (xs ++ ys) → AllByRecursion P xs × AllByRecursion P ys
all_split P [] ys h = (tt, h)
all_split P (x ∷ xs) ys h = let rest = all_split P xs ys h.1 in ((h.0, rest.0), rest.1)

pub all_append : {X : Type 0} (P : X → Type 0) (xs ys : List X) → AllByRecursion P xs → AllByRecursion P ys → AllByRecursion P (xs ++ ys)
all_append P [] ys h k = k
all_append P (x ∷ xs) ys h k = (h.0, all_append P xs ys h.1 k)

-- what holds of all that go holds of the run that goes next, and of those that go behind it
pub run_gone : {X : Type 0} (P : X → Type 0) (n : ℕ) (flags : List Bool) (xs : List X)
    → AllByRecursion P (gone_of (replicate n false ++ flags) xs)
    → AllByRecursion P (take n xs)
run_gone P n flags xs h =
    (all_split P (take n xs) (gone_of flags (drop n xs)) (subst (AllByRecursion P) (gone_of-run n false flags xs) h)).0

pub rest_gone : {X : Type 0} (P : X → Type 0) (n : ℕ) (b : Bool) (flags : List Bool) (xs : List X)
    → AllByRecursion P (gone_of (replicate n b ++ flags) xs)
    → AllByRecursion P (gone_of flags (drop n xs))
rest_gone P n b flags xs h =
    (all_split P (cond b [] (take n xs)) (gone_of flags (drop n xs)) (subst (AllByRecursion P) (gone_of-run n b flags xs) h)).1

pub gone_passes : {X : Type 0} (P : X → Type 0) (old : List X) (start count to : ℕ) (b : Bool) (ahead : List Bool) → to ≡ start + count
    → AllByRecursion P (gone_of (replicate count b ++ ahead) (drop start old)) → AllByRecursion P (gone_of ahead (drop to old))
gone_passes P old start count to b ahead is h =
    subst (λ ys. AllByRecursion P (gone_of ahead ys)) (drop-drop count start old ∙ ap (λ n. drop n old) (sym is))
    (rest_gone P count b ahead (drop start old) h)

-- a queue that the items pass through: those up to `start` have passed, and the ones that stay stand behind the others
pub record IsPassing {X : Type 0} (old queue : List X) (flags : List Bool) (start : ℕ) (ahead : List Bool) : Type 0 where
  pub done : List X
  pub queue_is : queue ≡ drop start old ++ done
  pub all : left_of flags old ≡ done ++ left_of ahead (drop start old)

stays_next : {X : Type 0} (old queue next : List X) (flags : List Bool) (start count to : ℕ) (ahead : List Bool)
    → IsPassing old queue flags start (replicate count true ++ ahead) → to ≡ start + count → to ≤ length old
    → next ≡ drop count queue ++ take count queue → IsPassing old next flags to ahead
stays_next old queue next flags start count to ahead h is le turned =
    let rest = drop start old in
    let fits : count ≤ length rest = omega (arith, is, le, length-drop start old) in
    let more : drop count rest ≡ drop to old = drop-drop count start old ∙ ap (λ n. drop n old) (sym is) in
    record {
      done = h.done ++ take count rest;
      queue_is =
          turned ∙ ap (λ q. drop count q ++ take count q) h.queue_is
          ∙ rw (drop-append-le count rest h.done fits, take-append-le count rest h.done fits, more)
          (append_assoc (drop to old) h.done (take count rest));
      all = h.all ∙ ap (λ ys. h.done ++ ys) (left_of-stays count ahead rest)
          ∙ sym (append_assoc h.done (take count rest) (left_of ahead (drop count rest)))
          ∙ ap (λ ys. (h.done ++ take count rest) ++ left_of ahead ys) more;
    }

goes_next : {X : Type 0} (old queue next : List X) (flags : List Bool) (start count to : ℕ) (ahead : List Bool)
    → IsPassing old queue flags start (replicate count false ++ ahead) → to ≡ start + count → to ≤ length old
    → next ≡ drop count queue → IsPassing old next flags to ahead
goes_next old queue next flags start count to ahead h is le shorter =
    let rest = drop start old in
    let fits : count ≤ length rest = omega (arith, is, le, length-drop start old) in
    let more : drop count rest ≡ drop to old = drop-drop count start old ∙ ap (λ n. drop n old) (sym is) in
    record {
      done = h.done;
      queue_is = shorter ∙ ap (drop count) h.queue_is ∙ drop-append-le count rest h.done fits ∙ ap (λ ys. ys ++ h.done) more;
      all = h.all ∙ ap (λ ys. h.done ++ ys) (left_of-goes count ahead rest ∙ ap (left_of ahead) more);
    }

-- one more run
pub run_passes : {X : Type 0} (old queue next : List X) (flags : List Bool) (start count to : ℕ) (b : Bool) (ahead : List Bool)
    → IsPassing old queue flags start (replicate count b ++ ahead) → to ≡ start + count → to ≤ length old
    → next ≡ drop count queue ++ cond b (take count queue) [] → IsPassing old next flags to ahead
run_passes old queue next flags start count to true ahead h is le next_is =
    stays_next old queue next flags start count to ahead h is le next_is
run_passes old queue next flags start count to false ahead h is le next_is =
    goes_next old queue next flags start count to ahead h is le (next_is ∙ append-nil (drop count queue))

-- the front of the queue is what comes next
pub front_is : {X : Type 0} (old queue : List X) (flags : List Bool) (start count : ℕ) (ahead : List Bool)
    → IsPassing old queue flags start ahead
    → start + count ≤ length old → (take count queue ≡ take count (drop start old)) × (count ≤ length queue)
front_is old queue flags start count ahead h le =
    let fits : count ≤ length (drop start old) = omega (arith, le, length-drop start old) in (
      ap (take count) h.queue_is ∙ take-append-le count (drop start old) h.done fits,
      omega (arith, fits, ap length h.queue_is, length-append (drop start old) h.done),
    )

-- once all runs have passed, those past them follow
pub all_passed : {X : Type 0} (old queue next : List X) (flags : List Bool) (start : ℕ) → IsPassing old queue flags start []
    → next ≡ drop (length old - start) queue ++ take (length old - start) queue → next ≡ left_of flags old
all_passed old queue next flags start h turned =
    let rest = drop start old in
    let n : length old - start ≡ length rest = sym (length-drop start old) in
    turned ∙ ap (λ k. drop k queue ++ take k queue) n ∙ ap (λ q. drop (length rest) q ++ take (length rest) q) h.queue_is
    ∙ rw (drop-append-le (length rest) rest h.done (omega arith), take-append-le (length rest) rest h.done (omega arith))
    (ends rest h.done) ∙ sym h.all
  where
    ends : {X : Type 0} (xs ys : List X) → (drop (length xs) xs ++ ys) ++ take (length xs) xs ≡ ys ++ xs
    ends [] ys = refl
    ends (x ∷ xs) ys = rw (none xs, whole xs) refl where
      none : {X : Type 0} (zs : List X) → drop (length zs) zs ≡ []
      none [] = refl
      none (z ∷ zs) = none zs

      whole : {X : Type 0} (zs : List X) → take (length zs) zs ≡ zs
      whole [] = refl
      whole (z ∷ zs) = ap (λ ws. z ∷ ws) (whole zs)

-- the same notion for the pages of a chain
pub spread_is : (start : ℕ) (flags : List Bool) (ends : List ℕ) → spread start flags ends ≡ run_flags start flags ends
spread_is start [] [] = refl
spread_is start [] (e ∷ ends) = refl
spread_is start (b ∷ flags) [] = refl
spread_is start (b ∷ flags) (e ∷ ends) = ap (λ fs. replicate (e - start) b ++ fs) (spread_is e flags ends)

-- flags past which all stay
pub stays_on : {X : Type 0} (t : ℕ) (flags : List Bool) (xs : List X) → ((i : ℕ) → t ≤ i → get_or flags i true ≡ true)
    → left_of flags xs ≡ left_of (take t flags) xs
stays_on zero [] xs h = refl
stays_on zero (false ∷ flags) xs h = let z : false ≡ true = h 0 (omega arith) in cc
stays_on zero (true ∷ flags) [] h = refl
stays_on zero (true ∷ flags) (x ∷ xs) h = ap (λ ys. x ∷ ys) (stays_on zero flags xs (λ i le. h (suc i) (omega arith)))
stays_on (suc t) [] xs h = refl
stays_on (suc t) (b ∷ flags) [] h = refl
stays_on (suc t) (true ∷ flags) (x ∷ xs) h = ap (λ ys. x ∷ ys) (stays_on t flags xs (λ i le. h (suc i) (omega (arith, le))))
stays_on (suc t) (false ∷ flags) (x ∷ xs) h = stays_on t flags xs (λ i le. h (suc i) (omega (arith, le)))

-- ---- parts and slots by entries

-- how many items a list of entries has, each entry so many
pub record IsTotal (count : Entry → ℕ) (total : List Entry → ℕ) : Type 0 where
  pub none : total [] ≡ 0
  pub more : (e : Entry) (es : List Entry) → total (e ∷ es) ≡ count e + total es

pub part_totals : IsTotal part_count part_total
part_totals = record { none = refl; more = λ e es. refl }

pub slot_totals : IsTotal slot_count slot_total
slot_totals = record { none = refl; more = λ e es. refl }

-- the first entries have no more than all, with each entry more they have its own more, and in the end they have all
pub base_within : {count : Entry → ℕ} {total : List Entry → ℕ} → IsTotal count total → (es : List Entry) (i : ℕ)
    → total (take i es) ≤ total es
base_within t [] zero = omega arith
base_within t [] (suc i) = omega arith
base_within t (x ∷ es) zero = omega (arith, t.none)
base_within t (x ∷ es) (suc i) = omega (arith, t.more x (take i es), t.more x es, base_within t es i)

base_on : {count : Entry → ℕ} {total : List Entry → ℕ} → IsTotal count total → (es : List Entry) (i : ℕ) (e : Entry) → i < length es
    → e ≡ get_or es i e → total (take (i + 1) es) ≡ total (take i es) + count e
base_on t [] i e lt is = absurd (omega arith)
base_on {count} t (x ∷ es) zero e lt is = omega (arith, t.more x [], t.none, ap count is)
base_on t (x ∷ es) (suc i) e lt is =
    let s : suc i + 1 ≡ suc (i + 1) = omega arith in
    rw s (omega (arith, t.more x (take (i + 1) es), t.more x (take i es), base_on t es i e (omega (arith, lt)) is))

-- the items of an entry of the log, and of those before it, are no more than all
pub own_within : {count : Entry → ℕ} {total : List Entry → ℕ} → IsTotal count total → (all : List Entry) (tail i : ℕ) (e : Entry)
    → i < tail → tail ≤ length all → slice_get all i ≡ Some e → total (take i (take tail all)) + count e ≤ total (take tail all)
own_within t all tail i e lt le at =
    let is : e ≡ get_or (take tail all) i e = sym (get_or-take tail all i e lt ∙ get_or_from_slice_get all i e e at) in
    omega (arith, base_on t (take tail all) i e (omega (arith, length-take tail all, lt, le)) is, base_within t (take tail all) (i + 1))

pub base_past : (total : List Entry → ℕ) (es : List Entry) (i : ℕ) → length es ≤ i → total (take i es) ≡ total es
base_past total es i le = ap total (take_all i es le)

-- the flags of an entry's items stand before those of the later ones
flags_next : (count : Entry → ℕ) (flags : List Bool) (es : List Entry) (i : ℕ) (b : Bool) (e : Entry) → i < length flags → i < length es
    → b ≡ get_or flags i b
    → e ≡ get_or es i e → flags_by count (drop i flags) (drop i es) ≡ replicate (count e) b
    ++ flags_by count (drop (i + 1) flags) (drop (i + 1) es)
flags_next count [] es i b e lf le qb qe = absurd (omega arith)
flags_next count (c ∷ flags) [] i b e lf le qb qe = absurd (omega arith)
flags_next count (c ∷ flags) (x ∷ es) zero b e lf le qb qe = rw (qb, qe) refl
flags_next count (c ∷ flags) (x ∷ es) (suc i) b e lf le qb qe =
    let s : suc i + 1 ≡ suc (i + 1) = omega arith in
    rw s (flags_next count flags es i b e (omega (arith, lf)) (omega (arith, le)) qb qe)

-- past the last entry no flags are left
pub flags_end : (count : Entry → ℕ) (flags : List Bool) (es : List Entry) (i : ℕ) → length flags ≤ i
    → flags_by count (drop i flags) (drop i es) ≡ []
flags_end count [] es zero le = refl
flags_end count [] es (suc i) le = refl
flags_end count (b ∷ flags) es zero le = absurd (omega arith)
flags_end count (b ∷ flags) [] (suc i) le = none (drop i flags) where
  none : (fs : List Bool) → flags_by count fs [] ≡ []
  none [] = refl
  none (c ∷ fs) = refl
flags_end count (b ∷ flags) (e ∷ es) (suc i) le = flags_end count flags es i (omega (arith, le))

-- the items of the entry that comes next, with their flag
pub record AreNext (count : Entry → ℕ) (total : List Entry → ℕ) (flags : List Bool) (es : List Entry) (i : ℕ) (b : Bool) (e : Entry)
    : Type 0 where
  pub ahead : flags_by count (drop i flags) (drop i es) ≡ replicate (count e) b ++ flags_by count (drop (i + 1) flags) (drop (i + 1) es)
  pub to : total (take (i + 1) es) ≡ total (take i es) + count e
  pub within : total (take (i + 1) es) ≤ total es

-- the entry at a place, and its flag
pub record IsAt (flags : List Bool) (es : List Entry) (i : ℕ) (e : Entry) : Type 0 where
  pub flag : i < length flags
  pub entry : i < length es
  pub is : e ≡ get_or es i e

-- its items come next
pub next_of : {count : Entry → ℕ} {total : List Entry → ℕ} {flags : List Bool} {es : List Entry} {i : ℕ} {b : Bool} {e : Entry}
    → IsTotal count total → IsAt flags es i e → b ≡ get_or flags i b → AreNext count total flags es i b e
next_of {count} {flags = flags} {es = es} {i = i} {b = b} {e = e} t at flag = record {
  ahead = flags_next count flags es i b e at.flag at.entry flag at.is;
  to = base_on t es i e at.entry at.is;
  within = base_within t es (i + 1);
}

-- a queue that the items of the first entries have passed through
abbrev pub IsPassed : {X : Type 0} → (Entry → ℕ) → (List Entry → ℕ) → List X → List X → List Bool → List Entry → ℕ → Type 0
IsPassed count total old queue flags es i =
    IsPassing old queue (flags_by count flags es) (total (take i es)) (flags_by count (drop i flags) (drop i es))

-- all items pass a test that go of those behind the first entries'
abbrev pub AllGone : {X : Type 0} → (X → Type 0) → (Entry → ℕ) → (List Entry → ℕ) → List X → List Bool → List Entry → ℕ → Type 0
AllGone P count total old flags es i = AllByRecursion P (gone_of (flags_by count (drop i flags) (drop i es)) (drop (total (take i es)) old))

module _ {X : Type 0} {count : Entry → ℕ} {total : List Entry → ℕ} {old queue : List X} {flags : List Bool} {es : List Entry} {i n : ℕ}
    {b : Bool} {e : Entry} (h : AreNext count total flags es i b e) (is : n ≡ count e)
    (passing : IsPassed count total old queue flags es i) (fits : total es ≤ length old) where
  -- the items of one more entry have passed
  pub passes_on : (next : List X) → next ≡ drop n queue ++ cond b (take n queue) [] → IsPassed count total old next flags es (i + 1)
  passes_on next turned =
      let later = flags_by count (drop (i + 1) flags) (drop (i + 1) es) in
      let start = total (take i es) in
      let ahead : flags_by count (drop i flags) (drop i es) ≡ replicate n b ++ later = h.ahead
      ∙ ap (λ k. replicate k b ++ later) (sym is) in
      run_passes old queue next (flags_by count flags es) start n (total (take (i + 1) es)) b later
      (subst (IsPassing old queue (flags_by count flags es) start) ahead passing) (omega (arith, h.to, is))
      (omega (arith, h.within, fits)) turned

  -- they stand in the queue
  pub entry_there : n ≤ length queue
  entry_there =
      (front_is old queue (flags_by count flags es) (total (take i es)) n (flags_by count (drop i flags) (drop i es)) passing
      (omega (arith, h.to, h.within, is, fits))).1

  -- the items of the next entry pass a test where it goes
  pub entry_goes : (P : X → Type 0) → b ≡ false → AllGone P count total old flags es i → AllByRecursion P (take n queue)
  entry_goes P goes all =
      let later = flags_by count (drop (i + 1) flags) (drop (i + 1) es) in
      let rest = drop (total (take i es)) old in
      let front = front_is old queue (flags_by count flags es) (total (take i es)) n (flags_by count (drop i flags) (drop i es)) passing
      (omega (arith, h.to, h.within, is, fits)) in
      let ahead : flags_by count (drop i flags) (drop i es) ≡ replicate (count e) false ++ later = h.ahead
      ∙ ap (λ c. replicate (count e) c ++ later) goes in
      let one = run_gone P (count e) later rest (subst (λ fs. AllByRecursion P (gone_of fs rest)) ahead all) in
      subst (AllByRecursion P) (ap (λ k. take k rest) (sym is) ∙ sym front.0) one

-- what goes of the rest is known to pass a test, also behind the next entry
pub goes_on : {X : Type 0} {count : Entry → ℕ} {total : List Entry → ℕ} (P : X → Type 0) (old : List X) (flags : List Bool)
    (es : List Entry) (i : ℕ) (b : Bool) (e : Entry) → AreNext count total flags es i b e
    → AllGone P count total old flags es i → AllGone P count total old flags es (i + 1)
goes_on {count = count} {total = total} P old flags es i b e h all =
    let start = total (take i es) in
    gone_passes P old start (count e) (total (take (i + 1) es)) b (flags_by count (drop (i + 1) flags) (drop (i + 1) es)) h.to
    (subst (λ fs. AllByRecursion P (gone_of fs (drop start old))) h.ahead all)

-- all entries of the log have passed
pub log_passed : {X : Type 0} (count : Entry → ℕ) (total : List Entry → ℕ) (old queue next : List X) (flags : List Bool)
    (es : List Entry) (i fresh : ℕ) → length flags ≡ length es
    → length es ≤ i
    → fresh ≡ length old - total es
    → IsPassed count total old queue flags es i
    → next ≡ drop fresh queue ++ take fresh queue → next ≡ left_of (flags_by count flags es) old
log_passed count total old queue next flags es i fresh len past size passing turned =
    let none = flags_end count flags es i (omega (arith, past, len)) in
    let start = total (take i es) in
    let rest : fresh ≡ length old - start = omega (arith, size, base_past total es i past) in
    all_passed old queue next (flags_by count flags es) start
    (subst (IsPassing old queue (flags_by count flags es) start) none passing)
    (turned ∙ ap (λ k. drop k queue ++ take k queue) rest)
