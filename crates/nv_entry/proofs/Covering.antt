-- The last entry of a log that covers a key, and what is covered behind an entry.
use Rattle.std.proofs.Common.{◌≡◌, ℕ, zero, suc, Bool, true, false, cond, ◌||◌, List, [], ◌∷◌, ◌++◌, Option, Some, None, refl, ap, sym, ◌∙◌, subst}
use Rattle.std.specs.Prelude.{slice_get}
use Rattle.std.specs.List.{AllByRecursion}
use Rattle.std.specs.Option.{option_or, is_some}
use Rattle.nv_entry.specs.declared.item.Entry.{Entry}
use Rattle.nv_entry.specs.declared.item.Item.{Item}
use Rattle.nv_entry.specs.declared.key.Setting.{Setting}
use Rattle.nv_entry.specs.declared.key.Setting.TheVariants.{Untouched, Absent, Present}
use Rattle.nv_entry.specs.declared.part.Part.{Part}
use Rattle.nv_entry.specs.Covered.{any_cover}
use Rattle.nv_entry.specs.Index.{last_cover}
use Rattle.nv_entry.specs.Keys.{Key, covers, key_of, parts_of, sets, touches}
use Rattle.nv_entry.specs.Laws.{is_present}
use Rattle.nv_entry.specs.Log.{first_cover, last_setting, later_of}
use Rattle.nv_entry.proofs.PartsSet.{parts_are_set}
use Rattle.nv_entry.proofs.Values.{last_cover-append}

-- ---- settings

pub touches-present : (s : Setting) → is_present s ≡ true → touches s ≡ true
touches-present Untouched h = cc
touches-present Absent h = cc
touches-present (Present value) h = refl

later_of-touching : (earlier s : Setting) → touches s ≡ true → later_of earlier s ≡ s
later_of-touching earlier Untouched h = cc
later_of-touching earlier Absent h = refl
later_of-touching earlier (Present value) h = refl

-- the last setting of a key is one exactly where an entry covers the key
pub touched : (block : ℕ) (log : List Entry) (key : Key) → touches (last_setting block log key) ≡ any_cover block log key
touched block [] key = refl
touched block (e ∷ later) key =
    go (sets block e.item key) (last_setting block later key) (any_cover block later key) (touched block later key)
  where
    go : (s l : Setting) (b : Bool) → touches l ≡ b → touches (later_of s l) ≡ (touches s || b)
    go Untouched Untouched b h = h
    go Untouched Absent b h = h
    go Untouched (Present v) b h = h
    go Absent Untouched b h = refl
    go Absent Absent b h = refl
    go Absent (Present v) b h = refl
    go (Present v) Untouched b h = refl
    go (Present v) Absent b h = refl
    go (Present v) (Present w) b h = refl

-- ---- parts

pub at_place_of : {X : Type 0} (P : X → Type 0) (xs : List X) (n : ℕ) (x : X) → AllByRecursion P xs → slice_get xs n ≡ Some x → P x
at_place_of P [] n x h q = cc
at_place_of P (y ∷ xs) zero x h q = let is : y ≡ x = cc in subst P is h.0
at_place_of P (y ∷ xs) (suc n) x h q = at_place_of P xs n x h.1 q

-- an item sets the key of each of its parts to a value, and so covers it
pub part_present : (block : ℕ) (item : Item) (n : ℕ) (p : Part) → slice_get (parts_of item) n ≡ Some p
    → is_present (sets block item (key_of item p)) ≡ true
part_present block item n p q =
    at_place_of (λ r. is_present (sets block item (key_of item r)) ≡ true) (parts_of item) n p (parts_are_set block item) q

-- ---- the last cover

pub any_cover-last : (block : ℕ) (log : List Entry) (key : Key) → any_cover block log key ≡ is_some (last_cover block log key)
any_cover-last block [] key = refl
any_cover-last block (x ∷ xs) key = go (covers block x.item key) (last_cover block xs key) (any_cover-last block xs key) where
  go : (b : Bool) (o : Option Entry) → any_cover block xs key ≡ is_some o
      → (b || any_cover block xs key) ≡ is_some (option_or o (cond b (Some x) None))
  go true None h = refl
  go true (Some y) h = refl
  go false None h = h
  go false (Some y) h = h

pub no_last : (block : ℕ) (log : List Entry) (key : Key) → any_cover block log key ≡ false → last_cover block log key ≡ None
no_last block log key h = go (last_cover block log key) refl (sym (any_cover-last block log key) ∙ h) where
  go : (o : Option Entry) → last_cover block log key ≡ o → is_some o ≡ false → last_cover block log key ≡ None
  go None q h = q
  go (Some e) q h = cc

-- where in a log the last entry that covers a key stands
pub record IsLast (block : ℕ) (log : List Entry) (key : Key) (e : Entry) : Type 0 where
  pub before : List Entry
  pub later : List Entry
  pub log_is : log ≡ before ++ e ∷ later
  pub own : covers block e.item key ≡ true
  pub rest : any_cover block later key ≡ false

pub is_last : (block : ℕ) (log : List Entry) (key : Key) (e : Entry) → last_cover block log key ≡ Some e → IsLast block log key e
is_last block [] key e h = cc
is_last block (x ∷ xs) key e h = go (covers block x.item key) (last_cover block xs key) refl refl h (λ q. is_last block xs key e q) where
  go : (b : Bool) (o : Option Entry) → covers block x.item key ≡ b → last_cover block xs key ≡ o
      → option_or o (cond b (Some x) None) ≡ Some e
      → (last_cover block xs key ≡ Some e → IsLast block xs key e) → IsLast block (x ∷ xs) key e
  go b (Some y) p q r rec = let l = rec (q ∙ r) in record {
    before = x ∷ l.before;
    later = l.later;
    log_is = ap (λ ys. x ∷ ys) l.log_is;
    own = l.own;
    rest = l.rest;
  }
  go true None p q r rec = let is : x ≡ e = cc in record {
    before = [];
    later = xs;
    log_is = ap (λ y. y ∷ xs) is;
    own = subst (λ (y : Entry). covers block y.item key ≡ true) is p;
    rest = any_cover-last block xs key ∙ ap (λ (o : Option Entry). is_some o) q;
  }
  go false None p q r rec = cc

pub last_cover-split : (block : ℕ) (before : List Entry) (e : Entry) (later : List Entry) (key : Key) → covers block e.item key ≡ true
    → any_cover block later key ≡ false → last_cover block (before ++ e ∷ later) key ≡ Some e
last_cover-split block before e later key own rest =
    last_cover-append block before (e ∷ later) key ∙ rw (no_last block later key rest, own) refl

-- ---- the last setting is that of the last cover

abbrev pub setting_by : ℕ → Key → Option Entry → Setting
setting_by block key None = Untouched
setting_by block key (Some e) = sets block e.item key

pub last_setting-last : (block : ℕ) (log : List Entry) (key : Key)
    → last_setting block log key ≡ setting_by block key (last_cover block log key)
last_setting-last block [] key = refl
last_setting-last block (x ∷ xs) key =
    ap (later_of (sets block x.item key)) (last_setting-last block xs key) ∙ go (last_cover block xs key) refl where
      alone : (s : Setting) → sets block x.item key ≡ s → s ≡ setting_by block key (cond (touches s) (Some x) None)
      alone Untouched q = refl
      alone Absent q = sym q
      alone (Present value) q = sym q

      go : (o : Option Entry) → last_cover block xs key ≡ o
          → later_of (sets block x.item key) (setting_by block key o)
          ≡ setting_by block key (option_or o (cond (covers block x.item key) (Some x) None))
      go None q = alone (sets block x.item key) refl
      go (Some y) q = later_of-touching (sets block x.item key) (sets block y.item key) (is_last block xs key y q).own

-- ---- deaths

pub any_cover-first : (block : ℕ) (log : List Entry) (key : Key) → any_cover block log key ≡ is_some (first_cover block log key)
any_cover-first block [] key = refl
any_cover-first block (x ∷ xs) key = go (covers block x.item key) (any_cover-first block xs key) where
  go : (b : Bool) → any_cover block xs key ≡ is_some (first_cover block xs key)
      → (b || any_cover block xs key) ≡ is_some (cond b (Some x.epoch) (first_cover block xs key))
  go true h = refl
  go false h = h
