-- The steps of loops over a log.
use Rattle.std.proofs.Common.{length-drop, take_all, ◌≡◌, ℕ, zero, suc, ◌+◌, ◌-◌, ◌<◌, ◌≤◌, ◌||◌, add-one, drop, drop-cons, Bool, true, false, cond, nat_le, List, [], ◌∷◌, ◌++◌, length, take, get_or, arith, refl, ap, sym, ◌∙◌}
use Rattle.std.proofs.lemmas.List.{append-nil, take_more}
use Rattle.std.specs.List.{list_any}
use Rattle.std.proofs.lemmas.List.Elements.{filter-append}
use Rattle.nv_entry.specs.declared.item.Entry.{Entry}
use Rattle.nv_entry.specs.declared.held.Pair.{Pair}
use Rattle.nv_entry.specs.declared.value.When.{When}
use Rattle.nv_entry.specs.declared.value.When.TheVariants.{Now, At}
use Rattle.nv_entry.specs.Counts.{is_entry_kept, is_live, live_of, valid_of}
use Rattle.nv_entry.specs.Held.{Retention, is_current, keeps}
use Rattle.nv_entry.specs.Keys.{Key, sets}
use Rattle.nv_entry.specs.Log.{later_of, last_setting, pairs_of, seen, sees}
use Rattle.nv_entry.proofs.Values.{last_setting-push}

-- the front of a log with one more entry
take_entry : (log : List Entry) (i : ℕ) (e : Entry) → i < length log → e ≡ get_or log i e → take (i + 1) log ≡ take i log ++ e ∷ []
take_entry log i e lt is = take_more log i e lt ∙ ap (λ x. take i log ++ x ∷ []) (sym is)

-- the part of a log that is seen, with one more entry that is seen or not
seen-push : (when : When) (log : List Entry) (e : Entry) → sees when e.epoch ≡ true → seen when (log ++ e ∷ []) ≡ seen when log ++ e ∷ []
seen-push Now log e h = refl
seen-push (At last) log e h =
    filter-append (λ (x : Entry). nat_le x.epoch last) log (e ∷ []) ∙ ap (λ xs. seen (At last) log ++ xs) (rw h refl)

seen-unseen : (when : When) (log : List Entry) (e : Entry) → sees when e.epoch ≡ false → seen when (log ++ e ∷ []) ≡ seen when log
seen-unseen Now log e h = cc
seen-unseen (At last) log e h =
    filter-append (λ (x : Entry). nat_le x.epoch last) log (e ∷ []) ∙ ap (λ xs. seen (At last) log ++ xs) (rw h refl)
    ∙ append-nil (seen (At last) log)

pub last_setting-more : (block : ℕ) (when : When) (log : List Entry) (i : ℕ) (e : Entry) (key : Key) → i < length log → e ≡ get_or log i e
    → sees when e.epoch ≡ true
    → last_setting block (seen when (take (i + 1) log)) key ≡ later_of (last_setting block (seen when (take i log)) key)
    (sets block e.item key)
last_setting-more block when log i e key lt is h =
    ap (λ xs. last_setting block (seen when xs) key) (take_entry log i e lt is)
    ∙ ap (λ xs. last_setting block xs key) (seen-push when (take i log) e h)
    ∙ last_setting-push block (seen when (take i log)) e key

pub last_setting-skips : (block : ℕ) (when : When) (log : List Entry) (i : ℕ) (e : Entry) (key : Key) → i < length log → e ≡ get_or log i e
    → sees when e.epoch ≡ false
    → last_setting block (seen when (take (i + 1) log)) key ≡ last_setting block (seen when (take i log)) key
last_setting-skips block when log i e key lt is h =
    ap (λ xs. last_setting block (seen when xs) key) (take_entry log i e lt is)
    ∙ ap (λ xs. last_setting block xs key) (seen-unseen when (take i log) e h)

-- the count of a page's kept entries, from one of them on
pub valid_of-drop : (r : Retention) (count : ℕ) (log : List Entry) (i : ℕ) (e : Entry) → i < count → count ≤ length log → e ≡ get_or log i e
    → valid_of r (count - i) (drop i log) ≡ cond (is_entry_kept r e (drop (i + 1) log)) 1 0 + valid_of r (count - (i + 1)) (drop (i + 1) log)
valid_of-drop r count log i e lt le is =
    let n : count - i ≡ suc (count - (i + 1)) = omega arith in
    let short : i < length log = omega arith in
    let d : drop i log ≡ e ∷ drop (i + 1) log = rw add-one (drop-cons log i e short ∙ ap (λ x. x ∷ drop (suc i) log) (sym is)) in
    rw n (rw d refl)

-- with no snapshots and no names an entry is kept where it is live
keeps_nothing : (b : Bool) → ((b || false) || false) ≡ b
keeps_nothing true = refl
keeps_nothing false = refl

abbrev pub current_alone : ℕ → Retention
current_alone block = record { block = block; snapshots = []; pending = [] }

kept-live : (block : ℕ) (pairs : List Pair) → list_any (keeps (current_alone block)) pairs ≡ list_any is_current pairs
kept-live block [] = refl
kept-live block (p ∷ pairs) = rw (keeps_nothing (is_current p)) (ap (λ b. is_current p || b) (kept-live block pairs))

pub valid_of-live : (block count : ℕ) (log : List Entry) → valid_of (current_alone block) count log ≡ live_of block count log
valid_of-live block zero log = refl
valid_of-live block (suc count) [] = refl
valid_of-live block (suc count) (e ∷ later) =
    rw (kept-live block (pairs_of block e later)) (ap (λ n. cond (is_live block e later) 1 0 + n) (valid_of-live block count later))

-- the rest of a slice from a place on
pub rest_from : {A : Type 0} (xs : List A) (k : ℕ) → take (length xs - k) (drop k xs) ≡ drop k xs
rest_from xs k = take_all (length xs - k) (drop k xs) (omega (arith, length-drop k xs))
