-- The names of a log, found from its end back.
use Rattle.std.proofs.Common.{◌≡◌, ℕ, ◌+◌, ◌<◌, ◌≤◌, Bool, true, false, cond, List, [], ◌∷◌, ◌++◌, length, drop, reverse, get_or, Option, None, Some, refl, ap, ap₂, sym, subst, ◌∙◌}
use Rattle.std.proofs.lemmas.List.{drop_all, drop_more, reverse-append, reverse-reverse}
use Rattle.nv_entry.specs.Index.{bound_name, names_of}
use Rattle.nv_entry.specs.Keys.{NameKey, covers, name_of}
use Rattle.nv_entry.specs.Log.{first_cover, seen, sees}
use Rattle.nv_entry.specs.declared.item.Entry.{Entry}
use Rattle.nv_entry.specs.declared.item.Item.{Item}
use Rattle.nv_entry.specs.declared.item.Item.TheVariants.{Init, Write, SetSize, SetMode, Bind, Unbind, Gone}
use Rattle.nv_entry.specs.declared.names.BoundName.{BoundName}
use Rattle.nv_entry.specs.declared.value.When.{When}
use Rattle.nv_entry.specs.declared.value.When.TheVariants.{At, Now}
use Rattle.nv_audit.specs.Deaths.{Puts, name_cover}
use Rattle.nv_audit.specs.declared.first_covers.FirstCovers.{FirstCovers}

-- a table tells of these entries which covers each name first, and these are their names from the last one back
pub record AreNamesBack (later : List Entry) (table : FirstCovers) (back : List BoundName) : Type 0 where
  pub covers : (name : List ℕ) → name_cover table name ≡ first_cover 1 later (NameKey name)
  pub names : back ≡ reverse (names_of later)

-- ---- what is seen

seen_none : (when : When) → seen when [] ≡ []
seen_none Now = refl
seen_none (At epoch) = refl

seen_first : (when : When) (e : Entry) (later : List Entry) → sees when e.epoch ≡ true → seen when (e ∷ later) ≡ e ∷ seen when later
seen_first Now e later is = refl
seen_first (At epoch) e later is = ap (λ (b : Bool). cond b (e ∷ seen (At epoch) later) (seen (At epoch) later)) is

unseen_first : (when : When) (e : Entry) (later : List Entry) → sees when e.epoch ≡ false → seen when (e ∷ later) ≡ seen when later
unseen_first Now e later is = cc
unseen_first (At epoch) e later is = ap (λ (b : Bool). cond b (e ∷ seen (At epoch) later) (seen (At epoch) later)) is

-- ---- one more entry

bound_back : (item : Item) (death : Option ℕ) → reverse (bound_name item death) ≡ bound_name item death
bound_back (Bind name to) None = refl
bound_back (Bind name to) (Some death) = refl
bound_back (Init kind mode) death = refl
bound_back (Write first run size) death = refl
bound_back (SetSize size) death = refl
bound_back (SetMode mode) death = refl
bound_back (Unbind name) death = refl
bound_back Gone death = refl

names_more : (e : Entry) (later : List Entry) (old new : FirstCovers) (names all : List BoundName) → AreNamesBack later old names
    → Puts 1 e old new → all ≡ names ++ bound_name e.item (name_cover old (name_of e.item)) → AreNamesBack (e ∷ later) new all
names_more e later old new names all are put put_name = record {
  covers = λ name.
      put.names name
      ∙ ap (λ (o : Option ℕ). cond (covers 1 e.item (NameKey name)) (Some e.epoch) o) (are.covers name);
  names =
      put_name
      ∙ ap₂ (λ (xs ys : List BoundName). xs ++ ys) are.names
      (ap (bound_name e.item) (are.covers (name_of e.item)) ∙ sym (bound_back e.item (first_cover 1 later (NameKey (name_of e.item)))))
      ∙ sym (reverse-append (bound_name e.item (first_cover 1 later (NameKey (name_of e.item)))) (names_of later));
}

-- ---- along a log, from its end back

pub back_none : (when : When) (log : List Entry) (n : ℕ) (c : FirstCovers) (names : List BoundName) → length log ≤ n
    → ((name : List ℕ) → name_cover c name ≡ None) → names ≡ [] → AreNamesBack (seen when (drop n log)) c names
back_none when log n c names past none empty =
    subst (λ (es : List Entry). AreNamesBack es c names) (sym (ap (seen when) (drop_all n log past) ∙ seen_none when))
    (record { covers = none; names = empty })

module _ (when : When) (log : List Entry) (i n : ℕ) (e : Entry) (next : i + 1 ≡ n) (lt : i < length log) (at : e ≡ get_or log i e) where
  behind : drop i log ≡ e ∷ drop n log
  behind =
      drop_more log i e lt ∙ ap (λ (x : Entry). x ∷ drop (i + 1) log) (sym at) ∙ ap (λ (m : ℕ). e ∷ drop m log) next

  pub back_seen : (old new : FirstCovers) (names all : List BoundName) → sees when e.epoch ≡ true
      → AreNamesBack (seen when (drop n log)) old names → Puts 1 e old new
      → all ≡ names ++ bound_name e.item (name_cover old (name_of e.item)) → AreNamesBack (seen when (drop i log)) new all
  back_seen old new names all sees_it are put put_name =
      subst (λ (es : List Entry). AreNamesBack es new all) (sym (ap (seen when) behind ∙ seen_first when e (drop n log) sees_it))
      (names_more e (seen when (drop n log)) old new names all are put put_name)

  pub back_unseen : (c : FirstCovers) (names : List BoundName) → sees when e.epoch ≡ false
      → AreNamesBack (seen when (drop n log)) c names → AreNamesBack (seen when (drop i log)) c names
  back_unseen c names misses are =
      subst (λ (es : List Entry). AreNamesBack es c names) (sym (ap (seen when) behind ∙ unseen_first when e (drop n log) misses)) are

pub back_all : (when : When) (log : List Entry) (n : ℕ) (c : FirstCovers) (names : List BoundName) → n ≡ 0
    → AreNamesBack (seen when (drop n log)) c names → reverse names ≡ names_of (seen when log)
back_all when log n c names none are =
    ap reverse (are.names ∙ ap (λ (m : ℕ). reverse (names_of (seen when (drop m log)))) none)
    ∙ reverse-reverse (names_of (seen when log))
