-- Logs entry by entry.
use Rattle.std.proofs.Common.{◌≡◌, ℕ, zero, suc, ◌+◌, ◌<◌, ◌≤◌, List, [], ◌∷◌, ◌++◌, length, take, drop, drop-cons, add-one, get_or, Bool, true, false, cond, Option, Some, arith, filter, refl, ap, sym, ◌∙◌}
use Rattle.std.proofs.lemmas.List.{take-append-drop, take_more}
use Rattle.std.specs.List.{AllByRecursion}
use Rattle.nv_entry.specs.declared.item.Entry.{Entry}
use Rattle.nv_entry.specs.declared.item.Item.{Item}
use Rattle.nv_entry.specs.declared.item.Item.TheVariants.{Init, Write, SetSize, SetMode, Bind, Unbind, Gone}
use Rattle.nv_entry.specs.declared.names.BoundName.{BoundName}
use Rattle.nv_entry.specs.Index.{bound_name, names_of}
use Rattle.nv_entry.specs.Keys.{NameKey, covers, name_of}
use Rattle.nv_entry.specs.Log.{IsLog, MayFollow, first_cover}
use Rattle.nv_entry.specs.Stored.{stored, stored_after}
use Rattle.nv_entry.proofs.StoredItems.{stored-push}

-- what is stored with one more entry
pub stored-more : (block : ℕ) (log : List Entry) (i : ℕ) (e : Entry) → i < length log → e ≡ get_or log i e
    → stored block (take (i + 1) log) ≡ stored_after block e.item (stored block (take i log))
stored-more block log i e lt is =
    ap (stored block) (take_more log i e lt ∙ ap (λ (x : Entry). take i log ++ x ∷ []) (sym is)) ∙ stored-push block (take i log) e

-- the rest of a log from an entry on
pub drop-more : (log : List Entry) (i : ℕ) (e : Entry) → i < length log → e ≡ get_or log i e → drop i log ≡ e ∷ drop (i + 1) log
drop-more log i e lt is = rw add-one (drop-cons log i e lt ∙ ap (λ (x : Entry). x ∷ drop (suc i) log) (sym is))

-- no name that stands before a Gone is bound
gone_covers : (before later : List Entry) (e : Entry) (name : List ℕ) → e.item ≡ Gone
    → (death : ℕ) × (first_cover 1 (before ++ e ∷ later) (NameKey name) ≡ Some death)
gone_covers [] later e name is = (e.epoch, rw is refl)
gone_covers (x ∷ before) later e name is = go (covers 1 x.item (NameKey name)) (gone_covers before later e name is) where
  go : (b : Bool) → (death : ℕ) × (first_cover 1 (before ++ e ∷ later) (NameKey name) ≡ Some death)
      → (death : ℕ) × (cond b (Some x.epoch) (first_cover 1 (before ++ e ∷ later) (NameKey name)) ≡ Some death)
  go true rest = (x.epoch, refl)
  go false rest = rest

bound_no_more : (item : Item) (death : ℕ) → bound_name item (Some death) ≡ []
bound_no_more (Init kind mode) death = refl
bound_no_more (Write first run size) death = refl
bound_no_more (SetSize size) death = refl
bound_no_more (SetMode mode) death = refl
bound_no_more (Bind name to) death = refl
bound_no_more (Unbind name) death = refl
bound_no_more Gone death = refl

pub names_behind : (before later : List Entry) (e : Entry) → e.item ≡ Gone → names_of (before ++ e ∷ later) ≡ names_of later
names_behind [] later e is = rw is refl
names_behind (x ∷ before) later e is =
    let dead = gone_covers before later e (name_of x.item) is in
    ap (λ (o : Option ℕ). bound_name x.item o ++ names_of (before ++ e ∷ later)) dead.1
    ∙ ap (λ (xs : List BoundName). xs ++ names_of (before ++ e ∷ later)) (bound_no_more x.item dead.0)
    ∙ names_behind before later e is

-- a log, split at an entry
pub split_at : (log : List Entry) (i : ℕ) (e : Entry) → i < length log → e ≡ get_or log i e → log ≡ take i log ++ e ∷ drop (i + 1) log
split_at log i e lt is = sym (take-append-drop i log) ∙ ap (λ (xs : List Entry). take i log ++ xs) (drop-more log i e lt is)

-- epochs never fall along a log
behind_all : (e : Entry) (log : List Entry) → AllByRecursion (MayFollow e) log → (j : ℕ) (d : Entry) → j < length log
    → e.epoch ≤ (get_or log j d).epoch
behind_all e [] all j d lt = absurd (omega arith)
behind_all e (x ∷ log) all zero d lt = all.0.epoch_stays
behind_all e (x ∷ log) all (suc j) d lt = behind_all e log all.1 j d (omega (arith, lt))

pub epochs_climb : (log : List Entry) → IsLog log → (i j : ℕ) (d : Entry) → i ≤ j → j < length log
    → (get_or log i d).epoch ≤ (get_or log j d).epoch
epochs_climb [] is i j d le lt = absurd (omega arith)
epochs_climb (e ∷ log) is zero zero d le lt = omega arith
epochs_climb (e ∷ log) is zero (suc j) d le lt = behind_all e log is.0 j d (omega (arith, lt))
epochs_climb (e ∷ log) is (suc i) zero d le lt = absurd (omega arith)
epochs_climb (e ∷ log) is (suc i) (suc j) d le lt = epochs_climb log is.1 i j d (omega (arith, le)) (omega (arith, lt))

-- the front that passes a test, where nothing behind it does
pub front_passes : (p : Entry → Bool) (log : List Entry) (n : ℕ) → n ≤ length log
    → ((k : ℕ) (d : Entry) → k < n → p (get_or log k d) ≡ true)
    → ((k : ℕ) (d : Entry) → n ≤ k → k < length log → p (get_or log k d) ≡ false) → take n log ≡ filter p log
front_passes p [] zero le all none = refl
front_passes p [] (suc n) le all none = absurd (omega arith)
front_passes p (e ∷ log) zero le all none =
    let rest = front_passes p log zero (omega arith) (λ k d lt. absurd (omega (arith, lt)))
    (λ k d from lt. none (suc k) d (omega arith) (omega (arith, lt))) in
    rw (none zero e (omega arith) (omega arith)) rest
front_passes p (e ∷ log) (suc n) le all none =
    let rest = front_passes p log n (omega (arith, le)) (λ k d lt. all (suc k) d (omega (arith, lt)))
    (λ k d from lt. none (suc k) d (omega (arith, from)) (omega (arith, lt))) in
    rw (all zero e (omega arith)) (ap (λ (xs : List Entry). e ∷ xs) rest)
