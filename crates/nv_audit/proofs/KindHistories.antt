-- What the history of a log tells of its kind and names at an epoch.
use Rattle.std.proofs.Common.{◌≡◌, ℕ, ◌+◌, ◌<◌, ◌≤◌, ◌||◌, inl, inr, arith, get_or, length, subst, take, Bool, true, false, cond, nat_le, List, [], ◌∷◌, ◌++◌, map, Option, None, Some, refl, ap, ap₂, sym, ◌∙◌}
use Rattle.std.proofs.lemmas.Bool.{cases_lt, false≢true}
use Rattle.std.proofs.lemmas.Grind.{flat_map-append}
use Rattle.std.proofs.lemmas.List.{append-nil, get_or_append_left, get_or_push, get_or_read, take_all, take_more}
use Rattle.std.proofs.lemmas.List.Folds.{list_any-append}
use Rattle.nv_base.specs.declared.node.Kind.{Kind}
use Rattle.nv_entry.specs.Index.{bound_name, names_of}
use Rattle.nv_entry.specs.Keys.{NameKey, name_of}
use Rattle.nv_entry.specs.Log.{first_cover, seen, up_to}
use Rattle.nv_entry.specs.Refs.{is_bind}
use Rattle.nv_entry.specs.Stored.{Stored, stored, stored_after_all}
use Rattle.nv_entry.specs.declared.item.Entry.{Entry}
use Rattle.nv_entry.specs.declared.item.Item.{Item}
use Rattle.nv_entry.specs.declared.item.Item.TheVariants.{Init, Write, SetSize, SetMode, Bind, Unbind, Gone}
use Rattle.nv_entry.specs.declared.names.BoundName.{BoundName}
use Rattle.nv_entry.specs.declared.value.When.{When}
use Rattle.nv_entry.specs.declared.value.When.TheVariants.{At, Now}
use Rattle.nv_entry.proofs.StoredItems.{stored-append}
use Rattle.nv_audit.specs.Histories.{AddsEntry, IsHistoryBy, binds_any, changes_by, changes_of, kind_at, kind_from}
use Rattle.nv_audit.specs.Logged.{LoggedValue}
use Rattle.nv_audit.specs.declared.histories.History.{History}
use Rattle.nv_audit.specs.declared.histories.KindChange.{KindChange}

-- ---- kinds

abbrev item_kind : Item → Option Kind → Option Kind
item_kind (Init kind mode) before = Some kind
item_kind Gone before = None
item_kind (Write first run size) before = before
item_kind (SetSize size) before = before
item_kind (SetMode mode) before = before
item_kind (Bind name to) before = before
item_kind (Unbind name) before = before

same_both : (b : Bool) (k : Option Kind) → k ≡ cond b k k
same_both true k = refl
same_both false k = refl

by_item : (epoch at : ℕ) (item : Item) (rest : List KindChange) (k : Option Kind)
    → kind_from epoch (changes_by at item ++ rest) k ≡ kind_from epoch rest (cond (nat_le at epoch) (item_kind item k) k)
by_item epoch at (Init kind mode) rest k = refl
by_item epoch at Gone rest k = refl
by_item epoch at (Write first run size) rest k = ap (kind_from epoch rest) (same_both (nat_le at epoch) k)
by_item epoch at (SetSize size) rest k = ap (kind_from epoch rest) (same_both (nat_le at epoch) k)
by_item epoch at (SetMode mode) rest k = ap (kind_from epoch rest) (same_both (nat_le at epoch) k)
by_item epoch at (Bind name to) rest k = ap (kind_from epoch rest) (same_both (nat_le at epoch) k)
by_item epoch at (Unbind name) rest k = ap (kind_from epoch rest) (same_both (nat_le at epoch) k)

abbrev after_all : ℕ → List Entry → Stored → Stored
after_all block log s = stored_after_all block (map (λ (e : Entry). e.item) log) s

kind_item : (block : ℕ) (item : Item) (s : Stored) → item_kind item s.kind ≡ (stored_after_all block (item ∷ []) s).kind
kind_item block (Init kind mode) s = refl
kind_item block Gone s = refl
kind_item block (Write first run size) s = refl
kind_item block (SetSize size) s = refl
kind_item block (SetMode mode) s = refl
kind_item block (Bind name to) s = refl
kind_item block (Unbind name) s = refl

from_one : (block epoch : ℕ) (e : Entry) (log : List Entry) (s : Stored) (b : Bool)
    → kind_from epoch (changes_of log) (stored_after_all block (e.item ∷ []) s).kind
    ≡ (after_all block (up_to epoch log) (stored_after_all block (e.item ∷ []) s)).kind
    → kind_from epoch (changes_of log) s.kind ≡ (after_all block (up_to epoch log) s).kind
    → kind_from epoch (changes_of log) (cond b (item_kind e.item s.kind) s.kind)
    ≡ (after_all block (cond b (e ∷ up_to epoch log) (up_to epoch log)) s).kind
from_one block epoch e log s true now past = ap (kind_from epoch (changes_of log)) (kind_item block e.item s) ∙ now
from_one block epoch e log s false now past = past

from_all : (block epoch : ℕ) (log : List Entry) (s : Stored)
    → kind_from epoch (changes_of log) s.kind ≡ (after_all block (up_to epoch log) s).kind
from_all block epoch [] s = refl
from_all block epoch (e ∷ log) s =
    let after : Stored = stored_after_all block (e.item ∷ []) s in
    by_item epoch e.epoch e.item (changes_of log) s.kind
    ∙ from_one block epoch e log s (nat_le e.epoch epoch) (from_all block epoch log after) (from_all block epoch log s)

pub kind_told : (block epoch : ℕ) (log : List Entry) → kind_at epoch (changes_of log) ≡ (stored block (up_to epoch log)).kind
kind_told block epoch log =
    from_all block epoch log (stored block []) ∙ sym (ap (λ (s : Stored). s.kind) (stored-append block [] (up_to epoch log)))

-- ---- names

none_bound : (item : Item) (death : Option ℕ) → is_bind item ≡ false → bound_name item death ≡ []
none_bound (Bind name to) death e = absurd (false≢true (sym e))
none_bound (Init kind mode) death e = refl
none_bound (Write first run size) death e = refl
none_bound (SetSize size) death e = refl
none_bound (SetMode mode) death e = refl
none_bound (Unbind name) death e = refl
none_bound Gone death e = refl

neither : (a b : Bool) → (a || b) ≡ false → (a ≡ false) × (b ≡ false)
neither false false e = (refl, refl)
neither false true e = absurd (false≢true (sym e))
neither true b e = absurd (false≢true (sym e))

one_unnamed : (epoch : ℕ) (e : Entry) (log : List Entry) (b : Bool) → is_bind e.item ≡ false → names_of (up_to epoch log) ≡ []
    → names_of (cond b (e ∷ up_to epoch log) (up_to epoch log)) ≡ []
one_unnamed epoch e log true none rest =
    ap₂ (λ (xs ys : List BoundName). xs ++ ys)
    (none_bound e.item (first_cover 1 (up_to epoch log) (NameKey (name_of e.item))) none) rest
one_unnamed epoch e log false none rest = rest

pub no_names : (epoch : ℕ) (log : List Entry) → binds_any log ≡ false → names_of (up_to epoch log) ≡ []
no_names epoch [] none = refl
no_names epoch (e ∷ log) none =
    let both = neither (is_bind e.item) (binds_any log) none in
    one_unnamed epoch e log (nat_le e.epoch epoch) both.0 (no_names epoch log both.1)

pub no_names_now : (log : List Entry) → binds_any log ≡ false → names_of log ≡ []
no_names_now [] none = refl
no_names_now (e ∷ log) none =
    let both = neither (is_bind e.item) (binds_any log) none in
    ap₂ (λ (xs ys : List BoundName). xs ++ ys) (none_bound e.item (first_cover 1 log (NameKey (name_of e.item))) both.0)
    (no_names_now log both.1)

-- ---- one more entry

or_none : (b : Bool) → (b || false) ≡ b
or_none true = refl
or_none false = refl

pub history_more : (log : List Entry) (e : Entry) (old new : History) → IsHistoryBy log old → AddsEntry e old new
    → IsHistoryBy (log ++ e ∷ []) new
history_more log e old new is adds = record {
  kinds =
      adds.kinds ∙ ap (λ (xs : List KindChange). xs ++ changes_by e.epoch e.item) is.kinds
      ∙ sym (flat_map-append (λ (x : Entry). changes_by x.epoch x.item) log (e ∷ []) ∙ ap (λ (xs : List KindChange). changes_of log ++ xs) (one e));
  binds =
      adds.binds ∙ ap (λ (b : Bool). b || is_bind e.item) is.binds
      ∙ sym (list_any-append (λ (x : Entry). is_bind x.item) log (e ∷ []) ∙ ap (λ (b : Bool). binds_any log || b) (or_none (is_bind e.item)));
} where
  one : (x : Entry) → changes_of (x ∷ []) ≡ changes_by x.epoch x.item
  one x = append-nil (changes_by x.epoch x.item)

-- ---- along a log

pub history_none : (log : List Entry) (history : History) → history.kinds.items ≡ [] → history.binds ≡ false
    → IsHistoryBy (take 0 log) history
history_none log history kinds binds = record { kinds = kinds; binds = binds }

pub history_step : (log : List Entry) (i : ℕ) (e : Entry) (old new : History) → i < length log → e ≡ get_or log i e
    → IsHistoryBy (take i log) old → AddsEntry e old new → IsHistoryBy (take (i + 1) log) new
history_step log i e old new lt at is adds =
    let more : take (i + 1) log ≡ take i log ++ e ∷ [] =
    take_more log i e lt ∙ ap (λ (x : Entry). take i log ++ x ∷ []) (sym at) in
    subst (λ (es : List Entry). IsHistoryBy es new) (sym more) (history_more (take i log) e old new is adds)

pub history_all : (log : List Entry) (i : ℕ) (history : History) → length log ≤ i → IsHistoryBy (take i log) history
    → IsHistoryBy log history
history_all log i history past is = subst (λ (es : List Entry). IsHistoryBy es history) (take_all i log past) is

-- ---- along several logs

pub histories_more : (logs : List LoggedValue) (i : ℕ) (old : List History) (own : LoggedValue) (new : History) → length old ≡ i
    → i < length logs → own ≡ get_or logs i own → IsHistoryBy own.log new
    → ((n : ℕ) (l : LoggedValue) (history : History) → n < i → IsHistoryBy (get_or logs n l).log (get_or old n history))
    → (n : ℕ) (l : LoggedValue) (history : History) → n < i + 1
    → IsHistoryBy (get_or logs n l).log (get_or (old ++ new ∷ []) n history)
histories_more logs i old own new len lt at is before n l history below =
    elim (cases_lt n i) [
      | inl less ↦
          let kept : get_or (old ++ new ∷ []) n history ≡ get_or old n history =
          get_or_append_left old (new ∷ []) history n (omega (arith, less, len)) in
          subst (λ (h : History). IsHistoryBy (get_or logs n l).log h) (sym kept) (before n l history less)
      | inr from ↦
          let same : i ≡ n = omega (arith, from, below) in
          let last : get_or (old ++ new ∷ []) i history ≡ new = get_or_push old new history i len in
          subst (λ (m : ℕ). IsHistoryBy (get_or logs m l).log (get_or (old ++ new ∷ []) m history)) same
          (subst (λ (c : LoggedValue). IsHistoryBy c.log (get_or (old ++ new ∷ []) i history)) (get_or_read logs i own lt at l)
          (subst (λ (h : History). IsHistoryBy own.log h) (sym last) is))
    ]

-- ---- the history of a log

pub kind_by : (block : ℕ) (log : List Entry) (history : History) (epoch : ℕ) → IsHistoryBy log history
    → kind_at epoch history.kinds.items ≡ (stored block (up_to epoch log)).kind
kind_by block log history epoch is = ap (kind_at epoch) is.kinds ∙ kind_told block epoch log

pub names_told : (log : List Entry) (history : History) (when : When) → IsHistoryBy log history → history.binds ≡ false
    → names_of (seen when log) ≡ []
names_told log history Now is none = no_names_now log (sym is.binds ∙ none)
names_told log history (At epoch) is none = no_names epoch log (sym is.binds ∙ none)
