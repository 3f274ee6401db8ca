-- The pairs of a log after one more entry, and the counts of its pages.
use Rattle.std.proofs.Common.{◌≡◌, ℕ, zero, suc, ◌+◌, ◌≤◌, Bool, true, false, not, cond, ◌&&◌, ◌||◌, List, [], ◌∷◌, ◌++◌, length, map, Option, Some, None, arith, refl, ap, sym, ◌∙◌, append_assoc}
use Rattle.std.specs.List.{AllByRecursion, list_any}
use Rattle.std.specs.Option.{option_or}
use Rattle.std.proofs.lemmas.Bool.{and_parts, or_left, or_right}
use Rattle.std.proofs.lemmas.List.{append-nil}
use Rattle.nv_entry.specs.declared.held.Pair.{Pair}
use Rattle.nv_entry.specs.declared.item.Entry.{Entry}
use Rattle.nv_entry.specs.declared.part.Part.{Part}
use Rattle.nv_entry.specs.declared.part.PartId.{PartId}
use Rattle.nv_entry.specs.Counts.{is_entry_kept, is_live, live_of, valid_of}
use Rattle.nv_entry.specs.Held.{Retention, is_current, is_held, is_named, keeps}
use Rattle.nv_entry.specs.Keys.{covers, key_of, parts_of}
use Rattle.nv_entry.specs.Killing.{NamesKilled, OneMorePairs, dead_at, died_of, kills, pair_after, pairs_after, stays_live, with_pending}
use Rattle.nv_entry.specs.Log.{first_cover, pair_of, pairs, pairs_of}
use Rattle.nv_entry.proofs.Currents.{any_map, any_same}
use Rattle.nv_entry.proofs.Values.{first_cover-append}

-- the pair of an entry's part with that death
abbrev made : Entry → Part → Option ℕ → Pair
made x p death = record { entry = x.id; part = p; birth = x.epoch; death = death }

after_death : (x : Entry) (p : Part) (epoch : ℕ) (o : Option ℕ) (b : Bool)
    → made x p (option_or o (cond b (Some epoch) None)) ≡ cond (is_current (made x p o) && b) (dead_at epoch (made x p o)) (made x p o)
after_death x p epoch None true = refl
after_death x p epoch None false = refl
after_death x p epoch (Some death) b = refl

pair_of-push : (block : ℕ) (x : Entry) (later : List Entry) (e : Entry) (p : Part)
    → pair_of block x (later ++ e ∷ []) p ≡ pair_after block e x later p
pair_of-push block x later e p =
    ap (made x p) (first_cover-append block later (e ∷ []) (key_of x.item p))
    ∙ after_death x p e.epoch (first_cover block later (key_of x.item p)) (covers block e.item (key_of x.item p))

-- ---- all pairs

map_same : {X Y : Type 0} (f g : X → Y) → ((x : X) → f x ≡ g x) → (xs : List X) → map f xs ≡ map g xs
map_same f g same [] = refl
map_same f g same (x ∷ xs) = ap (λ y. y ∷ map f xs) (same x) ∙ ap (λ ys. g x ∷ ys) (map_same f g same xs)

pairs-push : (block : ℕ) (log : List Entry) (e : Entry) → pairs block (log ++ e ∷ []) ≡ pairs_after block e log ++ pairs_of block e []
pairs-push block [] e = append-nil (pairs_of block e [])
pairs-push block (x ∷ later) e =
    ap (λ ps. ps ++ pairs block (later ++ e ∷ [])) (map_same (pair_of block x (later ++ e ∷ [])) (pair_after block e x later)
    (pair_of-push block x later e) (parts_of x.item))
    ∙ ap (λ ps. map (pair_after block e x later) (parts_of x.item) ++ ps) (pairs-push block later e)
    ∙ sym (append_assoc (map (pair_after block e x later) (parts_of x.item)) (pairs_after block e later) (pairs_of block e []))

born : (block : ℕ) (e : Entry) (parts : List Part) → AllByRecursion (λ pair. is_current pair ≡ true) (map (pair_of block e []) parts)
born block e [] = tt
born block e (p ∷ parts) = (refl, born block e parts)

-- ---- live

current_after : (pair : Pair) (epoch : ℕ) (c b : Bool) → is_current pair ≡ c
    → is_current (cond (c && b) (dead_at epoch pair) pair) ≡ (c && not (c && b))
current_after pair epoch true true q = refl
current_after pair epoch true false q = q
current_after pair epoch false b q = q

live-push : (block : ℕ) (x : Entry) (later : List Entry) (e : Entry) → is_live block x (later ++ e ∷ []) ≡ stays_live block e x later
live-push block x later e =
    any_map (pair_of block x (later ++ e ∷ [])) is_current (parts_of x.item)
    ∙ any_same (λ p. is_current (pair_of block x (later ++ e ∷ []) p))
    (λ p. is_current (pair_of block x later p) && not (kills block e x later p))
    (λ p. ap is_current (pair_of-push block x later e p) ∙ current_after (pair_of block x later p) e.epoch
    (is_current (pair_of block x later p)) (covers block e.item (key_of x.item p)) refl)
    (parts_of x.item)

any_less : {X : Type 0} (f g : X → Bool) → ((x : X) → f x ≡ true → g x ≡ true) → (xs : List X) → list_any f xs ≡ true → list_any g xs ≡ true
any_less f g less [] h = cc
any_less f g less (x ∷ xs) h = go (f x) refl h (λ k. any_less f g less xs k) where
  go : (b : Bool) → f x ≡ b → (b || list_any f xs) ≡ true → (list_any f xs ≡ true → list_any g xs ≡ true) → (g x || list_any g xs) ≡ true
  go true q h rec = or_left (g x) (list_any g xs) (less x q)
  go false q h rec = or_right (g x) (list_any g xs) (rec h)

was_live : (block : ℕ) (x : Entry) (later : List Entry) (e : Entry) → stays_live block e x later ≡ true → is_live block x later ≡ true
was_live block x later e h =
    any_map (pair_of block x later) is_current (parts_of x.item)
    ∙ any_less (λ p. is_current (pair_of block x later p) && not (kills block e x later p)) (λ p. is_current (pair_of block x later p))
    (λ p k. (and_parts (is_current (pair_of block x later p)) (not (kills block e x later p)) k).0) (parts_of x.item) h

split_live : (stays live : Bool) → (stays ≡ true → live ≡ true) → cond stays 1 0 + cond (live && not stays) 1 0 ≡ cond live 1 0
split_live true true h = refl
split_live true false h = let z : false ≡ true = h refl in cc
split_live false true h = refl
split_live false false h = refl

live_of-push : (block : ℕ) (e : Entry) (count : ℕ) (log : List Entry) → count ≤ length log
    → live_of block count (log ++ e ∷ []) + died_of block e count log ≡ live_of block count log
live_of-push block e zero log le = refl
live_of-push block e (suc count) [] le = absurd (omega arith)
live_of-push block e (suc count) (x ∷ later) le =
    let one = ap {B = ℕ} (λ (b : Bool). cond b 1 0) (live-push block x later e) in
    let two = split_live (stays_live block e x later) (is_live block x later) (was_live block x later e) in
    let ih = live_of-push block e count later (omega (arith, le)) in
    omega (arith, one, two, ih)

pub one_more_pairs : (block : ℕ) (log : List Entry) (e : Entry) → OneMorePairs block log e
one_more_pairs block log e = record {
  all = pairs-push block log e;
  born = born block e (parts_of e.item);
  live = λ count le. live_of-push block e count log le;
}

-- ---- valid, where the killed pairs are named

kept_after : (r : Retention) (names : List PartId) (x : Entry) (p : Part) (epoch : ℕ) (o : Option ℕ) (b : Bool)
    → is_named names (made x p o) ≡ (is_named r.pending (made x p o) || (is_current (made x p o) && b))
    → keeps (with_pending r names) (cond (is_current (made x p o) && b) (dead_at epoch (made x p o)) (made x p o)) ≡ keeps r (made x p o)
kept_after r names x p epoch None true h =
    or_right (is_held r.snapshots (made x p (Some epoch))) (is_named names (made x p None))
    (h ∙ or_right (is_named r.pending (made x p None)) true refl)
kept_after r names x p epoch None false h = refl
kept_after r names x p epoch (Some death) b h =
    ap (λ (k : Bool). is_held r.snapshots (made x p (Some death)) || k) (h ∙ last (is_named r.pending (made x p (Some death)))) where
      last : (k : Bool) → (k || false) ≡ k
      last true = refl
      last false = refl

any_by : {X : Type 0} (P : X → Type 0) (f g : X → Bool) (xs : List X) → AllByRecursion P xs → ((x : X) → P x → f x ≡ g x)
    → list_any f xs ≡ list_any g xs
any_by P f g [] h same = refl
any_by P f g (x ∷ xs) h same = ap (λ b. b || list_any f xs) (same x h.0) ∙ ap (λ b. g x || b) (any_by P f g xs h.1 same)

abbrev names_it : Retention → List PartId → Entry → Entry → List Entry → Part → Type 0
names_it r names e x later p =
    is_named names (pair_of r.block x later p) ≡ (is_named r.pending (pair_of r.block x later p) || kills r.block e x later p)

kept-push : (r : Retention) (names : List PartId) (x : Entry) (later : List Entry) (e : Entry)
    → AllByRecursion (names_it r names e x later) (parts_of x.item) → is_entry_kept (with_pending r names) x (later ++ e ∷ []) ≡ is_entry_kept r x later
kept-push r names x later e h =
    any_map (pair_of r.block x (later ++ e ∷ [])) (keeps (with_pending r names)) (parts_of x.item)
    ∙ any_by (names_it r names e x later)
    (λ p. keeps (with_pending r names) (pair_of r.block x (later ++ e ∷ []) p)) (λ p. keeps r (pair_of r.block x later p))
    (parts_of x.item) h
    (λ p k. ap (keeps (with_pending r names)) (pair_of-push r.block x later e p)
    ∙ kept_after r names x p e.epoch (first_cover r.block later (key_of x.item p)) (covers r.block e.item (key_of x.item p)) k)
    ∙ sym (any_map (pair_of r.block x later) (keeps r) (parts_of x.item))

pub valid_of-push : (r : Retention) (names : List PartId) (e : Entry) (count : ℕ) (log : List Entry) → NamesKilled r names e log
    → count ≤ length log → valid_of (with_pending r names) count (log ++ e ∷ []) ≡ valid_of r count log
valid_of-push r names e zero log h le = refl
valid_of-push r names e (suc count) [] h le = absurd (omega arith)
valid_of-push r names e (suc count) (x ∷ later) h le =
    ap (λ (b : Bool). cond b 1 0 + valid_of (with_pending r names) count (later ++ e ∷ [])) (kept-push r names x later e h.0)
    ∙ ap (λ n. cond (is_entry_kept r x later) 1 0 + n) (valid_of-push r names e count later h.1 (omega (arith, le)))
