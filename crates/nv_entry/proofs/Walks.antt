-- What the walks of the cleaners leave.
use Rattle.std.proofs.Common.{◌≡◌, ℕ, ◌<◌, ◌≤◌, Bool, true, false, not, ◌||◌, List, [], ◌∷◌, ◌++◌, length, Some, arith, refl, ap, ◌∙◌, subst, append_assoc}
use Rattle.std.specs.List.{AllByRecursion, list_any}
use Rattle.std.proofs.lemmas.Bool.{and_parts, and_from, or_from, or_parts}
use Rattle.nv_entry.specs.declared.held.Pair.{Pair}
use Rattle.nv_entry.specs.declared.item.Entry.{Entry}
use Rattle.nv_entry.specs.Clean.{IsDroppable, all_go, entries_of, entries_stay, is_droppable, is_empty, thorough_leaves, page_goes, pages_left, pages_stay, select}
use Rattle.nv_entry.specs.Held.{Retention, holds, is_current, is_held, is_named, keeps}
use Rattle.nv_entry.specs.Keys.{Key, covers}
use Rattle.nv_entry.specs.Laws.{AllDroppable, GoIfDroppable, GoIfPageDroppable, IsFast, IsPageDroppable, IsThorough, KeepsReads, NoneDroppable, ReadsSame, ReadsSameAt, SpansAreKept, pairs_where}
use Rattle.nv_entry.specs.Log.{IsLog, MayFollow, first_cover, pairs, pairs_of, up_to}
use Rattle.nv_entry.proofs.Dying.{unkept_earlier}
use Rattle.nv_entry.proofs.Hiding.{clash}
use Rattle.nv_entry.proofs.SameReads.{reads_chain, reads_refl}
use Rattle.nv_entry.proofs.Removal.{droppable, droppable_test, empty-length, length-empty, reads_at, reads_now}
use Rattle.nv_entry.proofs.Spans.{Living, Steady, epochs_of, living, pairs_stay, steady_current, steady_held, steady_pending}

-- what a walk leaves of the entries to come, and of the pages to come
abbrev walk : Retention → List Entry → List Entry → List Entry
walk r kept log = select (entries_stay r kept log) log

abbrev page_walk : Retention → List Entry → List (List Entry) → List (List Entry)
page_walk r kept pages = select (pages_stay r kept pages) pages

-- ---- what lasts over each removal lasts over a walk

-- a fact of each entry and those behind it
abbrev Along : (Entry → List Entry → Type 0) → List Entry → Type 0
Along fact [] = Unit {0}
Along fact (e ∷ later) = fact e later × Along fact later

-- a relation of logs that holds over the removal of each droppable entry of which a fact is known
record Lasts (r : Retention) (R : List Entry → List Entry → Type 0) (fact : Entry → List Entry → Type 0) : Type 0 where
  none : (log : List Entry) → R log log
  chain : (a b c : List Entry) → R a b → R b c → R a c
  step : (before : List Entry) (e : Entry) (later : List Entry) → fact e later → IsDroppable r before e later
      → R (before ++ e ∷ later) (before ++ later)

walk_lasts : (r : Retention) (R : List Entry → List Entry → Type 0) (fact : Entry → List Entry → Type 0) → Lasts r R fact
    → (kept log : List Entry) → Along fact log → R (kept ++ log) (kept ++ walk r kept log)
walk_lasts r R fact l kept [] known = l.none (kept ++ [])
walk_lasts r R fact l kept (e ∷ later) known =
    go (is_droppable r kept e later) refl (walk_lasts r R fact l kept later known.1)
    (walk_lasts r R fact l (kept ++ e ∷ []) later known.1) where
      go : (b : Bool) → is_droppable r kept e later ≡ b
          → R (kept ++ later) (kept ++ walk r kept later)
          → R ((kept ++ e ∷ []) ++ later) ((kept ++ e ∷ []) ++ walk r (kept ++ e ∷ []) later)
          → R (kept ++ e ∷ later) (kept ++ walk r kept (e ∷ later))
      go true q drops keeps =
          rw q (l.chain (kept ++ e ∷ later) (kept ++ later) (kept ++ walk r kept later)
          (l.step kept e later known.0 (droppable r kept e later q)) drops)
      go false q drops keeps = rw q (
          subst (λ (xs : List Entry). R xs (kept ++ e ∷ walk r (kept ++ e ∷ []) later)) (append_assoc kept (e ∷ []) later)
          (subst (λ (xs : List Entry). R ((kept ++ e ∷ []) ++ later) xs)
          (append_assoc kept (e ∷ []) (walk r (kept ++ e ∷ []) later)) keeps))

page_lasts : (r : Retention) (R : List Entry → List Entry → Type 0) (fact : Entry → List Entry → Type 0) → Lasts r R fact
    → (kept page later : List Entry) → Along fact (page ++ later) → all_go r kept page later ≡ true
    → R (kept ++ (page ++ later)) (kept ++ later)
page_lasts r R fact l kept [] later known h = l.none (kept ++ later)
page_lasts r R fact l kept (e ∷ page) later known h =
    let p = and_parts (is_droppable r kept e (page ++ later)) (all_go r kept page later) h in
    l.chain (kept ++ e ∷ (page ++ later)) (kept ++ (page ++ later)) (kept ++ later)
    (l.step kept e (page ++ later) known.0 (droppable r kept e (page ++ later) p.0))
    (page_lasts r R fact l kept page later known.1 p.1)

along_behind : (fact : Entry → List Entry → Type 0) (page later : List Entry) → Along fact (page ++ later) → Along fact later
along_behind fact [] later known = known
along_behind fact (e ∷ page) later known = along_behind fact page later known.1

pages_last : (r : Retention) (R : List Entry → List Entry → Type 0) (fact : Entry → List Entry → Type 0) → Lasts r R fact
    → (kept : List Entry) (pages : List (List Entry)) → Along fact (entries_of pages)
    → R (kept ++ entries_of pages) (kept ++ entries_of (page_walk r kept pages))
pages_last r R fact l kept [] known = l.none (kept ++ [])
pages_last r R fact l kept (page ∷ pages) known =
    let behind = along_behind fact page (entries_of pages) known in
    go (page_goes r kept page (entries_of pages)) refl (pages_last r R fact l kept pages behind)
    (pages_last r R fact l (kept ++ page) pages behind) where
      go : (b : Bool) → page_goes r kept page (entries_of pages) ≡ b
          → R (kept ++ entries_of pages) (kept ++ entries_of (page_walk r kept pages))
          → R ((kept ++ page) ++ entries_of pages) ((kept ++ page) ++ entries_of (page_walk r (kept ++ page) pages))
          → R (kept ++ (page ++ entries_of pages)) (kept ++ entries_of (page_walk r kept (page ∷ pages)))
      go true q goes stays =
          let p = and_parts (not (is_empty page)) (all_go r kept page (entries_of pages)) q in
          rw q (l.chain (kept ++ (page ++ entries_of pages)) (kept ++ entries_of pages) (kept ++ entries_of (page_walk r kept pages))
          (page_lasts r R fact l kept page (entries_of pages) known p.1) goes)
      go false q goes stays = rw q (
          subst (λ (xs : List Entry). R xs (kept ++ (page ++ entries_of (page_walk r (kept ++ page) pages))))
          (append_assoc kept page (entries_of pages))
          (subst (λ (xs : List Entry). R ((kept ++ page) ++ entries_of pages) xs)
          (append_assoc kept page (entries_of (page_walk r (kept ++ page) pages))) stays))

-- ---- what lasts

lasts_now : (r : Retention) → Lasts r (ReadsSame r.block) (λ e later. Unit {0})
lasts_now r =
    record { none = reads_refl r.block; chain = reads_chain r.block; step = λ before e later known h. reads_now r before e later h }

-- no pair of the entry spans the epoch unkept
abbrev SpansKept : Retention → ℕ → Entry → List Entry → Type 0
SpansKept r epoch e later = AllByRecursion (λ pair. holds epoch pair ≡ true → keeps r pair ≡ true) (pairs_of r.block e later)

unspanned : (r : Retention) (epoch : ℕ) (xs : List Pair) → AllByRecursion (λ pair. holds epoch pair ≡ true → keeps r pair ≡ true) xs
    → list_any (keeps r) xs ≡ false → list_any (holds epoch) xs ≡ false
unspanned r epoch [] all h = refl
unspanned r epoch (x ∷ xs) all h =
    let p = or_parts (keeps r x) (list_any (keeps r) xs) h in
    or_from (holds epoch x) (list_any (holds epoch) xs) (go (holds epoch x) refl) (unspanned r epoch xs all.1 p.1) where
      go : (b : Bool) → holds epoch x ≡ b → holds epoch x ≡ false
      go true q = clash (keeps r x) (all.0 q) (or_parts (keeps r x) (list_any (keeps r) xs) h).0
      go false q = q

lasts_at : (r : Retention) (epoch : ℕ) → Lasts r (ReadsSameAt r.block epoch) (SpansKept r epoch)
lasts_at r epoch = record {
  none = λ log. reads_refl r.block (up_to epoch log);
  chain = λ a b c. reads_chain r.block (up_to epoch a) (up_to epoch b) (up_to epoch c);
  step = λ before e later known h. reads_at r epoch before e later (unspanned r epoch (pairs_of r.block e later) known h.unneeded) h;
}

lasts_pairs : (r : Retention) (test : Pair → Bool) → Steady r test
    → Lasts r (λ old new. pairs_where test r.block new ≡ pairs_where test r.block old) (λ e later. AllByRecursion (MayFollow e) later)
lasts_pairs r test steady = record {
  none = λ log. refl;
  chain = λ a b c p q. q ∙ p;
  step = λ before e later follow h. pairs_stay r test steady before e later follow h;
}

-- what is known along a log
along_nothing : (log : List Entry) → Along (λ e later. Unit {0}) log
along_nothing [] = tt
along_nothing (e ∷ later) = (tt, along_nothing later)

along_log : (log : List Entry) → IsLog log → Along (λ e later. AllByRecursion (MayFollow e) later) log
along_log [] l = tt
along_log (e ∷ later) l = (l.0, along_log later l.1)

all_front : {A : Type 0} (P : A → Type 0) (xs ys : List A) → AllByRecursion P (xs ++ ys) → AllByRecursion P xs
all_front P [] ys all = tt
all_front P (x ∷ xs) ys all = (all.0, all_front P xs ys all.1)

all_back : {A : Type 0} (P : A → Type 0) (xs ys : List A) → AllByRecursion P (xs ++ ys) → AllByRecursion P ys
all_back P [] ys all = all
all_back P (x ∷ xs) ys all = all_back P xs ys all.1

along_spans : (r : Retention) (epoch : ℕ) (log : List Entry) → SpansAreKept r epoch log → Along (SpansKept r epoch) log
along_spans r epoch [] all = tt
along_spans r epoch (e ∷ later) all = (
  all_front (λ pair. holds epoch pair ≡ true → keeps r pair ≡ true) (pairs_of r.block e later) (pairs r.block later) all,
  along_spans r epoch later
      (all_back (λ pair. holds epoch pair ≡ true → keeps r pair ≡ true) (pairs_of r.block e later) (pairs r.block later) all),
)

-- a living snapshot's pairs are all needed
held_keeps : (r : Retention) (s : ℕ) → Living r s → (pair : Pair) → holds s pair ≡ true → keeps r pair ≡ true
held_keeps r s l pair h = go (is_held r.snapshots pair) refl where
  go : (b : Bool) → is_held r.snapshots pair ≡ b → keeps r pair ≡ true
  go true q = ap (λ b. (is_current pair || b) || is_named r.pending pair) q ∙ second (is_current pair) (is_named r.pending pair) where
    second : (a c : Bool) → ((a || true) || c) ≡ true
    second true c = refl
    second false c = refl
  go false q = clash (holds s pair) h (l.fails pair q)

all_pairs : (P : Pair → Type 0) → ((pair : Pair) → P pair) → (xs : List Pair) → AllByRecursion P xs
all_pairs P f [] = tt
all_pairs P f (x ∷ xs) = (f x, all_pairs P f xs)

each_living : (r : Retention) (P : ℕ → Type 0) → ((s : ℕ) → Living r s → P s) → (snapshots : List ℕ) → AllByRecursion (Living r) snapshots
    → AllByRecursion P snapshots
each_living r P f [] all = tt
each_living r P f (s ∷ snapshots) all = (f s all.0, each_living r P f snapshots all.1)

-- ---- what each walk keeps

-- what a walk owes: what lasts over each removal lasts over it
abbrev Outlasts : Retention → List Entry → List Entry → Type 1
Outlasts r old new =
    (R : List Entry → List Entry → Type 0) (fact : Entry → List Entry → Type 0) → Lasts r R fact → Along fact old → R old new

keeps_reads : (r : Retention) (old new : List Entry) → Outlasts r old new → IsLog old → KeepsReads r old new
keeps_reads r old new out l =
    let at : (epoch : ℕ) → SpansAreKept r epoch old
    → ReadsSameAt r.block epoch old new = λ epoch all. out (ReadsSameAt r.block epoch) (SpansKept r epoch) (lasts_at r epoch)
    (along_spans r epoch old all) in
    let same : (test : Pair → Bool) → Steady r test → pairs_where test r.block new ≡ pairs_where test r.block old =
    λ test steady. out (λ a b. pairs_where test r.block b ≡ pairs_where test r.block a) (λ e later. AllByRecursion (MayFollow e) later)
    (lasts_pairs r test steady) (along_log old l) in
    record {
      now = out (ReadsSame r.block) (λ e later. Unit {0}) (lasts_now r) (along_nothing old);
      kept = at;
      held = each_living r (λ s. ReadsSameAt r.block s old new)
          (λ s h. at s (all_pairs (λ pair. holds s pair ≡ true → keeps r pair ≡ true) (held_keeps r s h) (pairs r.block old))) r.snapshots
          (living r);
      current = same is_current (steady_current r);
      pending = same (is_named r.pending) (steady_pending r);
      holders = each_living r (λ s. pairs_where (holds s) r.block new ≡ pairs_where (holds s) r.block old)
          (λ s h. same (holds s) (steady_held r s h)) r.snapshots (living r);
    }

pub thorough_keeps : (r : Retention) (log : List Entry) → IsLog log → KeepsReads r log (thorough_leaves r log)
thorough_keeps r log l = keeps_reads r log (thorough_leaves r log) (λ R fact lasts known. walk_lasts r R fact lasts [] log known) l

pub fast_keeps : (r : Retention) (pages : List (List Entry)) → IsLog (entries_of pages)
    → KeepsReads r (entries_of pages) (entries_of (pages_left r pages))
fast_keeps r pages l =
    keeps_reads r (entries_of pages) (entries_of (pages_left r pages)) (λ R fact lasts known. pages_last r R fact lasts [] pages known) l

-- one removal
pub removal_keeps : (r : Retention) (before : List Entry) (e : Entry) (later : List Entry) → IsLog (before ++ e ∷ later)
    → IsDroppable r before e later → KeepsReads r (before ++ e ∷ later) (before ++ later)
removal_keeps r before e later l h =
    keeps_reads r (before ++ e ∷ later) (before ++ later)
    (λ R fact lasts known. lasts.step before e later (along_behind fact before (e ∷ later) known).0 h) l

-- ---- what goes

pub goes : (r : Retention) (kept log : List Entry) → GoIfDroppable r kept log (entries_stay r kept log)
goes r kept [] = tt
goes r kept (e ∷ later) = go (is_droppable r kept e later) refl (goes r kept later) (goes r (kept ++ e ∷ []) later) where
  go : (b : Bool) → is_droppable r kept e later ≡ b → GoIfDroppable r kept later (entries_stay r kept later)
      → GoIfDroppable r (kept ++ e ∷ []) later (entries_stay r (kept ++ e ∷ []) later)
      → GoIfDroppable r kept (e ∷ later) (entries_stay r kept (e ∷ later))
  go true q drops keeps = rw q (droppable r kept e later q, drops)
  go false q drops keeps = rw q ((λ h. clash (is_droppable r kept e later) (droppable_test r kept e later h) q), keeps)

all_droppable : (r : Retention) (kept page later : List Entry) → all_go r kept page later ≡ true → AllDroppable r kept page later
all_droppable r kept [] later h = tt
all_droppable r kept (e ∷ page) later h =
    let p = and_parts (is_droppable r kept e (page ++ later)) (all_go r kept page later) h in
    (droppable r kept e (page ++ later) p.0, all_droppable r kept page later p.1)

all_go-test : (r : Retention) (kept page later : List Entry) → AllDroppable r kept page later → all_go r kept page later ≡ true
all_go-test r kept [] later h = refl
all_go-test r kept (e ∷ page) later h =
    and_from (is_droppable r kept e (page ++ later)) (all_go r kept page later) (droppable_test r kept e (page ++ later) h.0)
    (all_go-test r kept page later h.1)

page_droppable : (r : Retention) (kept page later : List Entry) → page_goes r kept page later ≡ true → IsPageDroppable r kept page later
page_droppable r kept page later h =
    let p = and_parts (not (is_empty page)) (all_go r kept page later) h in
    record { has_entries = empty-length page (not_empty (is_empty page) p.0); all = all_droppable r kept page later p.1 } where
      not_empty : (b : Bool) → not b ≡ true → b ≡ false
      not_empty true q = cc
      not_empty false q = refl

page_goes-test : (r : Retention) (kept page later : List Entry) → IsPageDroppable r kept page later → page_goes r kept page later ≡ true
page_goes-test r kept page later h =
    and_from (not (is_empty page)) (all_go r kept page later) (ap not (length-empty page h.has_entries))
    (all_go-test r kept page later h.all)

pub pages_go : (r : Retention) (kept : List Entry) (pages : List (List Entry)) → GoIfPageDroppable r kept pages (pages_stay r kept pages)
pages_go r kept [] = tt
pages_go r kept (page ∷ pages) =
    go (page_goes r kept page (entries_of pages)) refl (pages_go r kept pages) (pages_go r (kept ++ page) pages) where
      go : (b : Bool) → page_goes r kept page (entries_of pages) ≡ b → GoIfPageDroppable r kept pages (pages_stay r kept pages)
          → GoIfPageDroppable r (kept ++ page) pages (pages_stay r (kept ++ page) pages)
          → GoIfPageDroppable r kept (page ∷ pages) (pages_stay r kept (page ∷ pages))
      go true q drops keeps = rw q (page_droppable r kept page (entries_of pages) q, drops)
      go false q drops keeps =
          rw q ((λ h. clash (page_goes r kept page (entries_of pages)) (page_goes-test r kept page (entries_of pages) h) q), keeps)

-- ---- nothing droppable is left

-- a walk leaves something only of something
walk-length : (r : Retention) (kept log : List Entry) → 0 < length (walk r kept log) → 0 < length log
walk-length r kept [] h = absurd (omega arith)
walk-length r kept (e ∷ later) h = omega arith

-- a death among the entries that a walk leaves is no earlier than the epochs of all entries
walk_no_earlier : (r : Retention) (kept log : List Entry) (epoch : ℕ) (key : Key) (death : ℕ)
    → AllByRecursion (λ (f : Entry). epoch ≤ f.epoch) log → first_cover r.block (walk r kept log) key ≡ Some death → epoch ≤ death
walk_no_earlier r kept [] epoch key death all h = cc
walk_no_earlier r kept (e ∷ later) epoch key death all h =
    go (is_droppable r kept e later) (covers r.block e.item key) refl refl
    (λ k. walk_no_earlier r kept later epoch key death all.1 k)
    (λ k. walk_no_earlier r (kept ++ e ∷ []) later epoch key death all.1 k) where
      go : (b c : Bool) → is_droppable r kept e later ≡ b → covers r.block e.item key ≡ c
          → (first_cover r.block (walk r kept later) key ≡ Some death → epoch ≤ death)
          → (first_cover r.block (walk r (kept ++ e ∷ []) later) key ≡ Some death → epoch ≤ death) → epoch ≤ death
      go true c q w drops keeps = let k : first_cover r.block (walk r kept later) key ≡ Some death = rw q at h in drops k
      go false true q w drops keeps =
          let k : first_cover r.block (e ∷ walk r (kept ++ e ∷ []) later) key ≡ Some death = rw q at h in
          let l : Some e.epoch ≡ Some death = rw w at k in
          let same : e.epoch ≡ death = cc in omega (arith, all.0)
      go false false q w drops keeps =
          let k : first_cover r.block (e ∷ walk r (kept ++ e ∷ []) later) key ≡ Some death = rw q at h in
          let l : first_cover r.block (walk r (kept ++ e ∷ []) later) key ≡ Some death = rw w at k in keeps l

-- what has died behind a walk had died before it, no later
abbrev DiedBy : ℕ → List Entry → Key → ℕ → Type 0
DiedBy block log key death = (d : ℕ) × (first_cover block log key ≡ Some d) × (d ≤ death)

died_more : (block : ℕ) (e : Entry) (later : List Entry) (key : Key) (death : ℕ) → (covers block e.item key ≡ true → e.epoch ≤ death)
    → DiedBy block later key death → DiedBy block (e ∷ later) key death
died_more block e later key death first x = go (covers block e.item key) refl where
  go : (c : Bool) → covers block e.item key ≡ c → DiedBy block (e ∷ later) key death
  go true w = (e.epoch, rw w refl, first w)
  go false w = (x.0, rw w x.1, x.2)

walk_died : (r : Retention) (kept log : List Entry) → IsLog log → (key : Key) (death : ℕ)
    → first_cover r.block (walk r kept log) key ≡ Some death → DiedBy r.block log key death
walk_died r kept [] l key death h = cc
walk_died r kept (e ∷ later) l key death h =
    go (is_droppable r kept e later) (covers r.block e.item key) refl refl
    (λ k. walk_died r kept later l.1 key death k)
    (λ k. walk_died r (kept ++ e ∷ []) later l.1 key death k) where
      go : (b c : Bool) → is_droppable r kept e later ≡ b → covers r.block e.item key ≡ c
          → (first_cover r.block (walk r kept later) key ≡ Some death → DiedBy r.block later key death)
          → (first_cover r.block (walk r (kept ++ e ∷ []) later) key ≡ Some death → DiedBy r.block later key death)
          → DiedBy r.block (e ∷ later) key death
      go true c q w drops keeps =
          let k : first_cover r.block (walk r kept later) key ≡ Some death = rw q at h in
          died_more r.block e later key death (λ t. walk_no_earlier r kept later e.epoch key death (epochs_of e later l.0) k) (drops k)
      go false true q w drops keeps =
          let k : first_cover r.block (e ∷ walk r (kept ++ e ∷ []) later) key ≡ Some death = rw q at h in
          let m : Some e.epoch ≡ Some death = rw w at k in
          let same : e.epoch ≡ death = cc in (e.epoch, rw w refl, omega arith)
      go false false q w drops keeps =
          let k : first_cover r.block (e ∷ walk r (kept ++ e ∷ []) later) key ≡ Some death = rw q at h in
          let m : first_cover r.block (walk r (kept ++ e ∷ []) later) key ≡ Some death = rw w at k in
          let x = keeps m in (x.0, rw w x.1, x.2)

-- what stays is not droppable behind the walk either
still_needed : (r : Retention) (kept : List Entry) (e : Entry) (later : List Entry) → IsLog later → is_droppable r kept e later ≡ false
    → IsDroppable r kept e (walk r (kept ++ e ∷ []) later) → ⊥
still_needed r kept e later l q h =
    clash (is_droppable r kept e later)
    (droppable_test r kept e later (record {
      not_last = walk-length r (kept ++ e ∷ []) later h.not_last;
      unneeded = unkept_earlier r e (walk r (kept ++ e ∷ []) later) later (walk_died r (kept ++ e ∷ []) later l) h.unneeded;
      hides_nothing = h.hides_nothing;
    }))
    q

walk_none : (r : Retention) (kept log : List Entry) → IsLog log → NoneDroppable r kept (walk r kept log)
walk_none r kept [] l = tt
walk_none r kept (e ∷ later) l =
    go (is_droppable r kept e later) refl (walk_none r kept later l.1) (walk_none r (kept ++ e ∷ []) later l.1) where
      go : (b : Bool) → is_droppable r kept e later ≡ b
          → NoneDroppable r kept (walk r kept later)
          → NoneDroppable r (kept ++ e ∷ []) (walk r (kept ++ e ∷ []) later)
          → NoneDroppable r kept (walk r kept (e ∷ later))
      go true q drops keeps = rw q drops
      go false q drops keeps = rw q (still_needed r kept e later l.1 q, keeps)

-- ---- the laws

pub thorough : (r : Retention) (log : List Entry) → IsLog log → IsThorough r log
thorough r log l = record { goes = goes r [] log; none_left = walk_none r [] log l; keeps = thorough_keeps r log l }

pub fast : (r : Retention) (pages : List (List Entry)) → IsLog (entries_of pages) → IsFast r pages
fast r pages l = record { goes = pages_go r [] pages; keeps = fast_keeps r pages l }
