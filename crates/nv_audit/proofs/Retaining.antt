-- Which parts and which entries of a log are needed or pending, one by one.
use Rattle.std.proofs.Common.{◌≡◌, ℕ, zero, suc, ◌+◌, ◌<◌, ◌||◌, ◌==◌, Bool, true, false, cond, List, [], ◌∷◌, ◌++◌, length, take, drop, map, Option, Some, None, arith, refl, ap, ap₂, sym, ◌∙◌, get_or, slice_get, slice_set}
use Rattle.std.specs.Prelude.{count_by}
use Rattle.std.specs.List.{list_any}
use Rattle.std.proofs.Math.Bool.{or-false, or_assoc}
use Rattle.std.proofs.Math.Seq.{drop-append_seam, take-append_seam}
use Rattle.std.proofs.lemmas.Bool.{eqb-false, eqb-true}
use Rattle.std.proofs.lemmas.List.{append_assoc, drop_more, ext_get_or, get_or-map, get_or-set_other, get_or-set_same, length-drop, length-map, length-set, map-append}
use Rattle.std.proofs.lemmas.Option.{same_Some, slice_get-get_or}
use Rattle.nv_cell.specs.Cell.{CellState, IsCell, log_of}
use Rattle.nv_cell.specs.Named.{number_named}
use Rattle.nv_cell.proofs.NamedPairs.{name_is, own_name}
use Rattle.nv_cell.proofs.Runs.{count_cons}
use Rattle.nv_cell.proofs.ValuesNow.{IsLog-take}
use Rattle.nv_entry.specs.Counts.{valid_of}
use Rattle.nv_entry.specs.Covered.{part_count, part_total}
use Rattle.nv_entry.specs.Held.{Retention, has_name, is_named, is_needed, keeps, pair_name}
use Rattle.nv_entry.specs.Keys.{key_of, parts_of}
use Rattle.nv_entry.specs.Log.{IsLog, first_cover, pair_of, pairs, pairs_of}
use Rattle.nv_entry.specs.declared.held.Pair.{Pair}
use Rattle.nv_entry.specs.declared.item.Entry.{Entry}
use Rattle.nv_entry.specs.declared.part.Part.{Part}
use Rattle.nv_entry.specs.declared.part.PartId.{PartId}
use Rattle.nv_audit.specs.Retained.{is_needed_from, marked_entries, needed_in, retained_in, with_named, with_number}
use Rattle.nv_audit.proofs.Covers.{death_of}
use Rattle.nv_audit.proofs.NumberedPairs.{name_of_pair, number_of_pair}
use Rattle.nv_entry.proofs.PartLists.{length-pairs}
use Rattle.nv_audit.proofs.Pushing.{step}

-- ---- lists

abbrev itself : Bool → Bool
itself b = b

map_alike : {X Y : Type 0} (f g : X → Y) (xs : List X) → ((x : X) → f x ≡ g x) → map f xs ≡ map g xs
map_alike f g [] same = refl
map_alike {X} {Y} f g (x ∷ xs) same = ap₂ (λ (y : Y) (ys : List Y). y ∷ ys) (same x) (map_alike f g xs same)

any_map : {X : Type 0} (f : X → Bool) (xs : List X) → list_any itself (map f xs) ≡ list_any f xs
any_map f [] = refl
any_map f (x ∷ xs) = ap (λ (b : Bool). f x || b) (any_map f xs)

-- what stands before a seam, and behind it
before : {X : Type 0} (c : ℕ) (xs ys : List X) → length xs ≡ c → take c (xs ++ ys) ≡ xs
before {X} c xs ys size = ap (λ (n : ℕ). take n (xs ++ ys)) (sym size) ∙ take-append_seam xs ys

behind : {X : Type 0} (c : ℕ) (xs ys : List X) → length xs ≡ c → drop c (xs ++ ys) ≡ ys
behind {X} c xs ys size = ap (λ (n : ℕ). drop n (xs ++ ys)) (sym size) ∙ drop-append_seam xs ys

-- the entries from one on begin with it
from_one : (log : List Entry) (i : ℕ) (e : Entry) → i < length log → e ≡ get_or log i e → drop i log ≡ e ∷ drop (i + 1) log
from_one log i e lt is = drop_more log i e lt ∙ ap (λ (x : Entry). x ∷ drop (i + 1) log) (sym is)

-- ---- parts that are needed

needed_alike : (snapshots : List ℕ) (block : ℕ) (e : Entry) (later : List Entry) (p : Part)
    → is_needed_from snapshots e.epoch (first_cover block later (key_of e.item p)) ≡ is_needed snapshots (pair_of block e later p)
needed_alike snapshots block e later p = go (first_cover block later (key_of e.item p)) where
  pair : Option ℕ → Pair
  pair death = record { entry = e.id; part = p; birth = e.epoch; death = death }

  go : (death : Option ℕ) → is_needed_from snapshots e.epoch death ≡ is_needed snapshots (pair death)
  go None = refl
  go (Some d) = refl

needed_pairs : (snapshots : List ℕ) (block : ℕ) (e : Entry) (later : List Entry)
    → map (is_needed_from snapshots e.epoch) (map death_of (pairs_of block e later)) ≡ map (is_needed snapshots) (pairs_of block e later)
needed_pairs snapshots block e later = go (parts_of e.item) where
  go : (ps : List Part) → map (is_needed_from snapshots e.epoch) (map death_of (map (pair_of block e later) ps))
      ≡ map (is_needed snapshots) (map (pair_of block e later) ps)
  go [] = refl
  go (p ∷ ps) = ap₂ (λ (b : Bool) (bs : List Bool). b ∷ bs) (needed_alike snapshots block e later p) (go ps)

-- one entry more
pub needed_more : (snapshots : List ℕ) (block : ℕ) (log : List Entry) (i : ℕ) (e : Entry) (own : List (Option ℕ))
    → (old new whole : List Bool) → i < length log → e ≡ get_or log i e → own ≡ map death_of (pairs_of block e (drop (i + 1) log))
    → new ≡ old ++ map (is_needed_from snapshots e.epoch) own
    → old ++ map (is_needed snapshots) (pairs block (drop i log)) ≡ whole
    → new ++ map (is_needed snapshots) (pairs block (drop (i + 1) log)) ≡ whole
needed_more snapshots block log i e own old new whole lt is own_is put told =
    let next : List Entry = drop (i + 1) log in
    step (λ (es : List Entry). map (is_needed snapshots) (pairs block es))
    (λ (x : Entry) (es : List Entry). map (is_needed snapshots) (pairs_of block x es))
    (λ x es. map-append (is_needed snapshots) (pairs_of block x es) (pairs block es)) log i e lt is old new whole
    (put ∙ ap (λ (bs : List Bool). old ++ bs)
    (ap (map (is_needed_from snapshots e.epoch)) own_is ∙ needed_pairs snapshots block e next)) told

-- ---- parts that are pending

-- a pair at another number than that of a name has another name
other_name : (block : ℕ) (log : List Entry) (id : PartId) (i : ℕ) (pair : Pair) → IsLog log
    → slice_get (pairs block log) i ≡ Some pair → (number_named log id ≡ Some i → ⊥) → has_name pair id ≡ false
other_name block log id i pair is got apart = go (has_name pair id) refl where
  go : (b : Bool) → has_name pair id ≡ b → b ≡ false
  go true q = absurd (apart (ap (number_named log) (name_is pair id q) ∙ number_of_pair block log i pair is got))
  go false q = refl

own_or : (b c : Bool) → c ≡ true → (b || c) ≡ true
own_or true c q = refl
own_or false c q = q

none_or : (b c : Bool) → c ≡ false → (b || c) ≡ b
none_or b c q = ap (λ (x : Bool). b || x) q ∙ or-false b

one_named : (block : ℕ) (log : List Entry) (id : PartId) (f : Pair → Bool) → IsLog log
    → with_number (number_named log id) (map f (pairs block log)) ≡ map (λ (p : Pair). f p || has_name p id) (pairs block log)
one_named block log id f is = go (number_named log id) refl where
  ps : List Pair
  ps = pairs block log

  named : Pair → Bool
  named p = f p || has_name p id

  at : (i : ℕ) (p : Pair) → i < length ps → slice_get ps i ≡ Some (get_or ps i p)
  at i p lt = slice_get-get_or ps i p lt

  -- at a place of which the name is not
  apart : (i : ℕ) (p : Pair) → i < length ps → (number_named log id ≡ Some i → ⊥)
      → get_or (map f ps) i false ≡ get_or (map named ps) i false
  apart i p lt never =
      get_or-map f ps i p false lt
      ∙ sym (none_or (f (get_or ps i p)) (has_name (get_or ps i p) id)
      (other_name block log id i (get_or ps i p) is (at i p lt) never))
      ∙ sym (get_or-map named ps i p false lt)

  go : (o : Option ℕ) → number_named log id ≡ o → with_number o (map f ps) ≡ map named ps
  go None q =
      ext_get_or false (map f ps) (map named ps) (length-map ps f ∙ sym (length-map ps named)) (λ i below.
      let lt : i < length ps = omega (arith, below, length-map ps f) in
      some ps i lt (λ p. apart i p lt (λ same. let wrong : None ≡ Some i = sym q ∙ same in cc)))
    where
      some : {A : Type 0} (qs : List Pair) (i : ℕ) → i < length qs → ((p : Pair) → A) → A
      some [] i lt h = absurd (omega (arith, lt))
      some (p ∷ qs) i lt h = h p
  go (Some n) q =
      ext_get_or false (slice_set (map f ps) n true) (map named ps)
      (length-set (map f ps) n true ∙ length-map ps f ∙ sym (length-map ps named)) (λ i below.
      let lt : i < length ps = omega (arith, below, length-set (map f ps) n true, length-map ps f) in
      some ps i lt (λ p. both i p lt (i == n) refl))
    where
      some : {A : Type 0} (qs : List Pair) (i : ℕ) → i < length qs → ((p : Pair) → A) → A
      some [] i lt h = absurd (omega (arith, lt))
      some (p ∷ qs) i lt h = h p

      both : (i : ℕ) (p : Pair) → i < length ps → (b : Bool) → (i == n) ≡ b
          → get_or (slice_set (map f ps) n true) i false ≡ get_or (map named ps) i false
      both i p lt true e =
          let same : i ≡ n = eqb-true i n e in
          let own : number_named log id ≡ Some i = q ∙ ap Some (sym same) in
          let name : pair_name (get_or ps i p) ≡ id = name_of_pair block log id i (get_or ps i p) own (at i p lt) in
          let has : has_name (get_or ps i p) id ≡ true = ap (has_name (get_or ps i p)) (sym name) ∙ own_name (get_or ps i p) in
          let within : n < length (map f ps) = omega (arith, lt, same, length-map ps f) in
          ap (λ (k : ℕ). get_or (slice_set (map f ps) n true) k false) same
          ∙ get_or-set_same (map f ps) n true false within
          ∙ sym (own_or (f (get_or ps i p)) (has_name (get_or ps i p) id) has)
          ∙ sym (get_or-map named ps i p false lt)
      both i p lt false e =
          let differ = eqb-false i n e in
          get_or-set_other (map f ps) n i true false differ
          ∙ apart i p lt (λ same. differ (same_Some i n (sym same ∙ q)))

pub all_named : (block : ℕ) (log : List Entry) (names : List PartId) (f : Pair → Bool) → IsLog log
    → with_named log names (map f (pairs block log)) ≡ map (λ (p : Pair). f p || is_named names p) (pairs block log)
all_named block log [] f is = map_alike f (λ (p : Pair). f p || false) (pairs block log) (λ p. sym (or-false (f p)))
all_named block log (id ∷ names) f is =
    ap (with_named log names) (one_named block log id f is)
    ∙ all_named block log names (λ (p : Pair). f p || has_name p id) is
    ∙ map_alike (λ (p : Pair). (f p || has_name p id) || is_named names p) (λ (p : Pair). f p || (has_name p id || is_named names p))
    (pairs block log) (λ p. or_assoc (f p) (has_name p id) (is_named names p))

-- those that are needed, and then the pending ones
pub all_retained : (r : Retention) (cell : CellState) → IsCell cell
    → with_named (log_of cell) r.pending (needed_in r.snapshots cell) ≡ retained_in r cell
all_retained r cell is =
    all_named cell.block (log_of cell) r.pending (is_needed r.snapshots) (IsLog-take cell.chain.tail cell.chain.entries is.chain.rising)

pub needed_count : (snapshots : List ℕ) (cell : CellState) → IsCell cell → length (needed_in snapshots cell) ≡ length cell.marks
needed_count snapshots cell is =
    length-map (pairs cell.block (log_of cell)) (is_needed snapshots) ∙ length-pairs cell.block (log_of cell) ∙ sym is.marks.len

pub retained_count : (r : Retention) (cell : CellState) → length (retained_in r cell) ≡ part_total (log_of cell)
retained_count r cell = length-map (pairs cell.block (log_of cell)) (keeps r) ∙ length-pairs cell.block (log_of cell)

-- ---- entries

-- one entry more
pub marked_left : (log : List Entry) (i : ℕ) (e : Entry) (rest later : List Bool) → i < length log → e ≡ get_or log i e
    → length rest ≡ part_total (drop i log) → later ≡ drop (part_count e) rest → length later ≡ part_total (drop (i + 1) log)
marked_left log i e rest later lt is left cut =
    let size = ap part_total (from_one log i e lt is) in
    let own = ap (λ (bs : List Bool). length bs) cut ∙ length-drop (part_count e) rest in
    omega (arith, size, own, left)

pub marked_more : (log : List Entry) (i : ℕ) (e : Entry) (rest own later old new whole : List Bool) (b : Bool) → i < length log
    → e ≡ get_or log i e → own ≡ take (part_count e) rest → later ≡ drop (part_count e) rest → b ≡ list_any itself own
    → new ≡ old ++ b ∷ [] → old ++ marked_entries (drop i log) rest ≡ whole → new ++ marked_entries (drop (i + 1) log) later ≡ whole
marked_more log i e rest own later old new whole b lt is front cut any put told =
    let next : List Entry = drop (i + 1) log in
    let mark : b ≡ list_any itself (take (part_count e) rest) = any ∙ ap (list_any itself) front in
    ap₂ (λ (xs ys : List Bool). xs ++ marked_entries next ys) put cut
    ∙ append_assoc old (b ∷ []) (marked_entries next (drop (part_count e) rest))
    ∙ ap (λ (x : Bool). old ++ x ∷ marked_entries next (drop (part_count e) rest)) mark
    ∙ ap (λ (es : List Entry). old ++ marked_entries es rest) (sym (from_one log i e lt is))
    ∙ told

pub marked_count : (log : List Entry) (parts : List Bool) → length (marked_entries log parts) ≡ length log
marked_count [] parts = refl
marked_count (e ∷ log) parts = ap suc (marked_count log (drop (part_count e) parts))

-- which entries have a pair that is kept
abbrev kept : Retention → List Entry → List Bool
kept r log = marked_entries log (map (keeps r) (pairs r.block log))

kept_first : (r : Retention) (e : Entry) (log : List Entry) → kept r (e ∷ log) ≡ list_any (keeps r) (pairs_of r.block e log) ∷ kept r log
kept_first r e log =
    let own = map (keeps r) (pairs_of r.block e log) in
    let rest = map (keeps r) (pairs r.block log) in
    let size : length own ≡ part_count e =
    length-map (pairs_of r.block e log) (keeps r) ∙ length-map (parts_of e.item) (pair_of r.block e log) in
    ap (marked_entries (e ∷ log)) (map-append (keeps r) (pairs_of r.block e log) (pairs r.block log))
    ∙ ap₂ (λ (bs cs : List Bool). list_any itself bs ∷ marked_entries log cs) (before (part_count e) own rest size)
    (behind (part_count e) own rest size)
    ∙ ap (λ (b : Bool). b ∷ kept r log) (any_map (keeps r) (pairs_of r.block e log))

kept_drop : (r : Retention) (k : ℕ) (log : List Entry) → drop k (kept r log) ≡ kept r (drop k log)
kept_drop r zero log = refl
kept_drop r (suc k) [] = refl
kept_drop r (suc k) (e ∷ log) = ap (drop (suc k)) (kept_first r e log) ∙ kept_drop r k log

kept_valid : (r : Retention) (count : ℕ) (log : List Entry) → valid_of r count log ≡ count_by itself (take count (kept r log))
kept_valid r zero log = refl
kept_valid r (suc count) [] = refl
kept_valid r (suc count) (e ∷ log) =
    let first = list_any (keeps r) (pairs_of r.block e log) in
    ap (λ (n : ℕ). cond first 1 0 + n) (kept_valid r count log)
    ∙ sym (count_cons itself first (take count (kept r log)))
    ∙ ap (λ (bs : List Bool). count_by itself (take (suc count) bs)) (sym (kept_first r e log))

-- how many of the entries from a place on have one
pub valid_marked : (r : Retention) (cell : CellState) (start count : ℕ) → r.block ≡ cell.block
    → count_by itself (take count (drop start (marked_entries (log_of cell) (retained_in r cell))))
    ≡ valid_of r count (drop start (log_of cell))
valid_marked r cell start count block =
    ap (λ (b : ℕ). count_by itself (take count (drop start (marked_entries (log_of cell) (map (keeps r) (pairs b (log_of cell)))))))
    (sym block)
    ∙ ap (λ (bs : List Bool). count_by itself (take count bs)) (kept_drop r start (log_of cell))
    ∙ sym (kept_valid r count (drop start (log_of cell)))
