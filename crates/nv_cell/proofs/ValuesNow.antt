-- The value of a key by the part that holds it, found among all entries.
use Rattle.std.proofs.Common.{◌≡◌, ℕ, zero, suc, List, [], ◌∷◌, ◌++◌, take, drop, is_some, Option, Some, None, refl, ap, sym, ◌∙◌, subst}
use Rattle.std.specs.Prelude.{option_and_then}
use Rattle.nv_base.specs.declared.numbers.EntryId.{EntryId}
use Rattle.nv_entry.specs.declared.item.Entry.{Entry}
use Rattle.nv_entry.specs.declared.item.Item.{Item}
use Rattle.nv_entry.specs.declared.item.Item.TheVariants.{Init, Write, SetSize, SetMode, Bind, Unbind, Gone}
use Rattle.nv_entry.specs.declared.part_ref.PartRef.{PartRef}
use Rattle.nv_entry.specs.declared.key.Datum.{Datum}
use Rattle.nv_entry.specs.Index.{last_cover}
use Rattle.nv_entry.specs.Keys.{Key, KindKey, sets}
use Rattle.nv_entry.specs.Log.{IsLog, value_now, value_of}
use Rattle.nv_entry.specs.Refs.{IsCurrentPart, entry_with, left_by, part_ref, place_in, ref_after, scan_ref, value_in}
use Rattle.nv_entry.specs.Stored.{kind_in, stored}
use Rattle.nv_entry.proofs.Refs.{current_part, entry_with-own, refs_give, value_now-last}
pub use Rattle.nv_log.proofs.Logs.{IsLog-take}

abbrev set_by : ℕ → Key → Entry → Option Datum
set_by block key e = value_of (sets block e.item key)

take_drop : (t : ℕ) (es : List Entry) → es ≡ take t es ++ drop t es
take_drop zero [] = refl
take_drop (suc t) [] = refl
take_drop zero (e ∷ es) = refl
take_drop (suc t) (e ∷ es) = ap (λ (xs : List Entry). e ∷ xs) (take_drop t es)

joined : (xs : List Entry) (e : Entry) (ys zs : List Entry) → (xs ++ e ∷ ys) ++ zs ≡ xs ++ e ∷ (ys ++ zs)
joined [] e ys zs = refl
joined (x ∷ xs) e ys zs = ap (λ (ws : List Entry). x ∷ ws) (joined xs e ys zs)

own : (id : EntryId) (es before : List Entry) (e : Entry) (later : List Entry) → e.id ≡ id → es ≡ before ++ e ∷ later → IsLog es
    → entry_with id es ≡ Some e
own id es before e later p q is =
    subst (λ (xs : List Entry). entry_with id xs ≡ Some e) (sym q)
    (subst (λ (i : EntryId). entry_with i (before ++ e ∷ later) ≡ Some e) p (entry_with-own before e later (subst IsLog q is)))

-- a part that holds a key lies in the same entry among all
found : (block t : ℕ) (es : List Entry) (key : Key) (r : PartRef) → IsLog es → IsCurrentPart block (take t es) key r
    → entry_with r.entry (take t es) ≡ entry_with r.entry es
found block t es key r is c =
    own r.entry (take t es) c.before c.entry c.later c.id c.log_is (IsLog-take t es is)
    ∙ sym (own r.entry es c.before c.entry (c.later ++ drop t es) c.id
    (take_drop t es ∙ ap (λ (xs : List Entry). xs ++ drop t es) c.log_is ∙ joined c.before c.entry c.later (drop t es)) is)

-- the value of a key by the part that holds it, the entry of which is looked up among all
pub value_is : (block t : ℕ) (es : List Entry) (key : Key) (part : Option PartRef) → IsLog es → part ≡ scan_ref block (take t es) key
    → value_now block (take t es) key ≡ option_and_then (λ (r : PartRef). option_and_then (set_by block key) (entry_with r.entry es)) part
value_is block t es key part is q = (refs_give block (take t es) (IsLog-take t es is)).value key ∙ go part q where
  go : (o : Option PartRef) → o ≡ scan_ref block (take t es) key
      → option_and_then (value_in block (take t es) key) (scan_ref block (take t es) key)
      ≡ option_and_then (λ (r : PartRef). option_and_then (set_by block key) (entry_with r.entry es)) o
  go None q = ap (option_and_then (value_in block (take t es) key)) (sym q)
  go (Some r) q =
      ap (option_and_then (value_in block (take t es) key)) (sym q)
      ∙ ap (option_and_then (set_by block key)) (found block t es key r is ((current_part block (take t es) key r).0 (sym q)))

-- ---- the kind

-- what an item sets the kind to is a kind
set_kind : (block : ℕ) (e : Entry) (own : PartRef)
    → is_some (option_and_then kind_in (value_of (sets block e.item KindKey))) ≡ is_some (left_by (sets block e.item KindKey) own None)
set_kind block e own = go e.item where
  go : (item : Item)
      → is_some (option_and_then kind_in (value_of (sets block item KindKey))) ≡ is_some (left_by (sets block item KindKey) own None)
  go (Init kind mode) = refl
  go (Write first run size) = refl
  go (SetSize size) = refl
  go (SetMode mode) = refl
  go (Bind name to) = refl
  go (Unbind name) = refl
  go Gone = refl

-- an inode has a kind where a part holds one
pub kind_held : (block : ℕ) (log : List Entry)
    → is_some (stored block log).kind ≡ is_some (scan_ref block log KindKey)
kind_held block log =
    ap (λ (v : Option Datum). is_some (option_and_then kind_in v)) (value_now-last block log KindKey)
    ∙ go (last_cover block log KindKey) where
      go : (o : Option Entry)
          → is_some (option_and_then kind_in (option_and_then (λ (e : Entry). value_of (sets block e.item KindKey)) o))
          ≡ is_some (option_and_then (λ (e : Entry). ref_after block e KindKey None) o)
      go None = refl
      go (Some e) = set_kind block e (part_ref e.id (place_in e.item KindKey))
