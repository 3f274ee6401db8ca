-- Directories stay a tree where a name leaves, a node goes or begins, and a name is bound.
use Rattle.std.proofs.Common.{◌≡◌, ◌≢◌, ◌⊎◌, inl, inr, zero, suc, Bool, true, false, List, [], ◌∷◌, ◌++◌, filter, Option, Some, None, IsSome, arith, refl, ap, sym, subst, ◌∙◌}
use Rattle.std.proofs.lemmas.Bool.{eq-eqb}
use Rattle.std.proofs.lemmas.List.Elements.{All-append, Contains-append_cases, Contains-append_left, Contains-append_right}
use Rattle.std.proofs.lemmas.List.Kept.{AllPairs-cons}
use Rattle.std.specs.List.{All, AllPairs, Contains}
use Rattle.nv_base.specs.declared.numbers.Handle.{Handle}
use Rattle.nv_calls.specs.Plain.{same_handle}
use Rattle.nv_calls.specs.Refusals.{is_directory, kind_of}
use Rattle.nv_entry.specs.Tree.{names_of_node, names_under, root}
use Rattle.nv_entry.specs.declared.names.BoundName.{BoundName}
use Rattle.nv_entry.specs.declared.node.NodeCopy.{NodeCopy}
use Rattle.nv_calls.proofs.CheckEnds.{handle_is}
use Rattle.nv_machine.specs.Directories.{AreApart, HasName, HaveOneName, LeadsTo}

-- ---- elements

pub same_self : (a : Handle) → same_handle a a ≡ true
same_self a = rw (eq-eqb a.ino a.ino refl, eq-eqb a.generation a.generation refl) refl

contains_none : {X : Type 0} (x : X) → Contains [] x → ⊥
contains_none x at = omega (arith, at.1)

contains_cases : {X : Type 0} (x y : X) (xs : List X) → Contains (y ∷ xs) x → (y ≡ x) ⊎ Contains xs x
contains_cases x y xs (zero, lt, is) = inl is
contains_cases x y xs (suc k, lt, is) = inr (k, omega (arith, lt), is)

contains_first : {X : Type 0} (x : X) (xs : List X) → Contains (x ∷ xs) x
contains_first x xs = (zero, omega arith, refl)

contains_later : {X : Type 0} (x y : X) (xs : List X) → Contains xs x → Contains (y ∷ xs) x
contains_later x y xs at = (suc at.0, omega (arith, at.1), at.2)

pub filter_contains : {X : Type 0} (p : X → Bool) (xs : List X) (x : X) → Contains xs x → p x ≡ true → Contains (filter p xs) x
filter_contains p [] x at passes = absurd (contains_none x at)
filter_contains {X} p (y ∷ xs) x at passes = go (p y) refl (contains_cases x y xs at) (λ later. filter_contains p xs x later passes) where
  go : (b : Bool) → p y ≡ b → (y ≡ x) ⊎ Contains xs x → (Contains xs x → Contains (filter p xs) x) → Contains (filter p (y ∷ xs)) x
  go true is (inl here) rest = rw is (subst (λ z. Contains (z ∷ filter p xs) x) (sym here) (contains_first x (filter p xs)))
  go true is (inr later) rest = rw is (contains_later x y (filter p xs) (rest later))
  go false is (inl here) rest = let z : false ≡ true = sym is ∙ ap p here ∙ passes in cc
  go false is (inr later) rest = rw is (rest later)

pub contains_filter : {X : Type 0} (p : X → Bool) (xs : List X) (x : X) → Contains (filter p xs) x → Contains xs x × (p x ≡ true)
contains_filter p [] x at = absurd (contains_none x at)
contains_filter {X} p (y ∷ xs) x at = go (p y) refl at (λ later. contains_filter p xs x later) where
  more : Contains xs x × (p x ≡ true) → Contains (y ∷ xs) x × (p x ≡ true)
  more rest = (contains_later x y xs rest.0, rest.1)

  go : (b : Bool) → p y ≡ b → Contains (filter p (y ∷ xs)) x → (Contains (filter p xs) x → Contains xs x × (p x ≡ true))
      → Contains (y ∷ xs) x × (p x ≡ true)
  go true is h rest = elim (contains_cases x y (filter p xs) (rw is at h)) [
    | inl here ↦ (subst (λ z. Contains (z ∷ xs) x) (sym here) (contains_first x xs), ap p (sym here) ∙ is)
    | inr later ↦ more (rest later)
  ]
  go false is h rest = more (rest (rw is at h))

-- ---- names that are fewer

-- kinds are as they were, and each name was there
pub record HaveFewer (nodes after : Handle → Option NodeCopy) : Type 0 where
  pub kinds : (handle : Handle) → kind_of (after handle) ≡ kind_of (nodes handle)
  pub names : (dir : Handle) (bound : BoundName) → HasName after dir bound → HasName nodes dir bound
  pub apart : (dir : Handle) → AllPairs AreApart (names_under after dir)

pub some_by_kind : (a b : Option NodeCopy) → kind_of a ≡ kind_of b → IsSome b → IsSome a
some_by_kind None None is some = some
some_by_kind None (Some n) is some = cc
some_by_kind (Some n) b is some = refl

led_before : (nodes after : Handle → Option NodeCopy) → HaveFewer nodes after → (dir handle : Handle) → LeadsTo after dir handle
    → LeadsTo nodes dir handle
led_before nodes after fewer dir handle (bound, has, to) = (bound, fewer.names dir bound has, to)

pub fewer_names : (nodes after : Handle → Option NodeCopy) → HaveFewer nodes after → HaveOneName nodes → HaveOneName after
fewer_names nodes after fewer have = record {
  top = ap is_directory (fewer.kinds root) ∙ have.top;
  unnamed = λ dir leads. have.unnamed dir (led_before nodes after fewer dir root leads);
  named = λ dir bound has. ap is_directory (fewer.kinds dir) ∙ have.named dir bound (fewer.names dir bound has);
  leads = λ dir bound has. some_by_kind (after bound.to) (nodes bound.to) (fewer.kinds bound.to)
      (have.leads dir bound (fewer.names dir bound has));
  apart = fewer.apart;
  one = λ dir other handle a b. have.one dir other handle (led_before nodes after fewer dir handle a)
      (led_before nodes after fewer other handle b);
}

-- ---- a node that goes or begins

-- one node is another, or is no more, or is new: it has no names, and none leads to it
pub record IsBare (nodes after : Handle → Option NodeCopy) (bare : Handle) : Type 0 where
  pub below_root : bare ≢ root
  pub others : (handle : Handle) → handle ≢ bare → after handle ≡ nodes handle
  pub names : names_under after bare ≡ []
  pub unnamed : (dir : Handle) → LeadsTo nodes dir bare → ⊥

-- a directory with a name is another
bare_other : (nodes after : Handle → Option NodeCopy) (bare : Handle) → IsBare nodes after bare
    → (dir : Handle) (bound : BoundName) → HasName after dir bound → dir ≢ bare
bare_other nodes after bare is dir bound has same =
    contains_none bound (subst (λ names. Contains names bound) (ap (names_under after) same ∙ is.names) has)

bare_has : (nodes after : Handle → Option NodeCopy) (bare : Handle) → IsBare nodes after bare
    → (dir : Handle) (bound : BoundName) → HasName after dir bound → HasName nodes dir bound
bare_has nodes after bare is dir bound has =
    subst (λ node. Contains (names_of_node node) bound) (is.others dir (bare_other nodes after bare is dir bound has)) has

bare_leads : (nodes after : Handle → Option NodeCopy) (bare : Handle) → IsBare nodes after bare
    → (dir handle : Handle) → LeadsTo after dir handle → LeadsTo nodes dir handle
bare_leads nodes after bare is dir handle (bound, has, to) = (bound, bare_has nodes after bare is dir bound has, to)

pub same_or : (a b : Handle) → (a ≡ b) ⊎ (a ≢ b)
same_or a b = go (same_handle a b) refl where
  go : (s : Bool) → same_handle a b ≡ s → (a ≡ b) ⊎ (a ≢ b)
  go true is = inl (handle_is a b is)
  go false is = inr (λ same. let self = same_self b in let z : true ≡ false = sym self ∙ ap (λ h. same_handle h b) (sym same) ∙ is in cc)

pub bare_names : (nodes after : Handle → Option NodeCopy) (bare : Handle) → IsBare nodes after bare → HaveOneName nodes → HaveOneName after
bare_names nodes after bare is have = record {
  top = ap (λ (node : Option NodeCopy). is_directory (kind_of node)) (is.others root (λ same. is.below_root (sym same))) ∙ have.top;
  unnamed = λ dir leads. have.unnamed dir (bare_leads nodes after bare is dir root leads);
  named = λ dir bound has.
      ap (λ (node : Option NodeCopy). is_directory (kind_of node)) (is.others dir (bare_other nodes after bare is dir bound has))
      ∙ have.named dir bound (bare_has nodes after bare is dir bound has);
  leads = λ dir bound has.
      let before = bare_has nodes after bare is dir bound has in
      subst (λ node. IsSome node) (sym (is.others bound.to (λ same. is.unnamed dir (bound, before, same)))) (have.leads dir bound before);
  apart = λ dir. apart_at dir (same_or dir bare);
  one = λ dir other handle a b. have.one dir other handle (bare_leads nodes after bare is dir handle a)
      (bare_leads nodes after bare is other handle b);
} where
  apart_at : (dir : Handle) → (dir ≡ bare) ⊎ (dir ≢ bare) → AllPairs AreApart (names_under after dir)
  apart_at dir (inl same) = subst (λ names. AllPairs AreApart names) (sym (ap (names_under after) same ∙ is.names))
      (λ i j d lt within. absurd (omega (arith, within)))
  apart_at dir (inr other) = subst (λ node. AllPairs AreApart (names_of_node node)) (sym (is.others dir other)) (have.apart dir)

-- ---- a name that is bound

-- a directory has one more name, which goes last, and was not there; it leads to a node to which none led
pub record IsBound (nodes after : Handle → Option NodeCopy) (dir : Handle) (bound : BoundName) : Type 0 where
  pub kinds : (handle : Handle) → kind_of (after handle) ≡ kind_of (nodes handle)
  pub names : names_under after dir ≡ names_under nodes dir ++ bound ∷ []
  pub others : (handle : Handle) → handle ≢ dir → names_under after handle ≡ names_under nodes handle
  pub directory : is_directory (kind_of (nodes dir)) ≡ true
  pub new : (other : BoundName) → HasName nodes dir other → other.name ≢ bound.name
  pub below_root : bound.to ≢ root
  pub there : IsSome (nodes bound.to)
  pub unnamed : (other : Handle) → LeadsTo nodes other bound.to → ⊥

-- a name was there, or is the new one
bound_cases : (nodes after : Handle → Option NodeCopy) (dir : Handle) (bound : BoundName) → IsBound nodes after dir bound
    → (at : Handle) (b : BoundName) → HasName after at b → HasName nodes at b ⊎ ((at ≡ dir) × (bound ≡ b))
bound_cases nodes after dir bound is at b has = go (same_or at dir) where
  last : Contains (names_under nodes dir) b ⊎ Contains (bound ∷ []) b → (at ≡ dir) → HasName nodes at b ⊎ ((at ≡ dir) × (bound ≡ b))
  last (inl before) same = inl (subst (λ h. HasName nodes h b) (sym same) before)
  last (inr here) same = elim (contains_cases b bound [] here) [
    | inl new ↦ inr (same, new)
    | inr later ↦ absurd (contains_none b later)
  ]

  go : (at ≡ dir) ⊎ (at ≢ dir) → HasName nodes at b ⊎ ((at ≡ dir) × (bound ≡ b))
  go (inl same) =
      last (Contains-append_cases (names_under nodes dir) (bound ∷ []) b
      (subst (λ names. Contains names b) (ap (names_under after) same ∙ is.names) has)) same
  go (inr other) = inl (subst (λ names. Contains names b) (is.others at other) has)

-- what was led to still is
pub still_leads : (nodes after : Handle → Option NodeCopy) (dir : Handle) (bound : BoundName) → IsBound nodes after dir bound
    → (at handle : Handle) → LeadsTo nodes at handle → LeadsTo after at handle
still_leads nodes after dir bound is at handle (b, has, to) = (b, go (same_or at dir), to) where
  go : (at ≡ dir) ⊎ (at ≢ dir) → HasName after at b
  go (inl same) =
      subst (λ names. Contains names b) (sym (ap (names_under after) same ∙ is.names))
      (Contains-append_left (names_under nodes dir) (bound ∷ []) b (subst (λ h. HasName nodes h b) same has))
  go (inr other) = subst (λ names. Contains names b) (sym (is.others at other)) has

pub leads_there : (nodes after : Handle → Option NodeCopy) (dir : Handle) (bound : BoundName) → IsBound nodes after dir bound
    → LeadsTo after dir bound.to
leads_there nodes after dir bound is = (
  bound,
  subst (λ names. Contains names bound) (sym is.names)
      (Contains-append_right (names_under nodes dir) (bound ∷ []) bound (contains_first bound [])),
  refl,
)

pairs_push : (names : List BoundName) (bound : BoundName) → AllPairs AreApart names
    → ((b : BoundName) → Contains names b → AreApart b bound)
    → AllPairs AreApart (names ++ bound ∷ [])
pairs_push [] bound apart each = λ i j d lt within. absurd (omega (arith, lt, within))
pairs_push (b ∷ names) bound apart each =
    AllPairs-cons AreApart b (names ++ bound ∷ [])
    (All-append (AreApart b) names (bound ∷ []) (λ k d lt. apart 0 (suc k) d (omega arith) (omega (arith, lt)))
    (All-one (each b (contains_first b names))))
    (pairs_push names bound (λ i j d lt within. apart (suc i) (suc j) d (omega (arith, lt)) (omega (arith, within)))
    (λ c at. each c (contains_later c b names at)))
  where
    All-one : AreApart b bound → All (AreApart b) (bound ∷ [])
    All-one h zero d lt = h
    All-one h (suc k) d lt = absurd (omega (arith, lt))

pub bound_names : (nodes after : Handle → Option NodeCopy) (dir : Handle) (bound : BoundName) → IsBound nodes after dir bound
    → HaveOneName nodes → HaveOneName after
bound_names nodes after dir bound is have = record {
  top = ap is_directory (is.kinds root) ∙ have.top;
  unnamed = unnamed;
  named = λ at b has. ap is_directory (is.kinds at) ∙ named at b (bound_cases nodes after dir bound is at b has);
  leads = λ at b has. some_by_kind (after b.to) (nodes b.to) (is.kinds b.to) (leads at b (bound_cases nodes after dir bound is at b has));
  apart = λ at. apart at (same_or at dir);
  one = one;
} where
  unnamed : (at : Handle) → LeadsTo after at root → ⊥
  unnamed at (b, has, to) = elim (bound_cases nodes after dir bound is at b has) [
    | inl before ↦ have.unnamed at (b, before, to)
    | inr new ↦ is.below_root (ap (λ (n : BoundName). n.to) new.1 ∙ to)
  ]

  named : (at : Handle) (b : BoundName) → HasName nodes at b ⊎ ((at ≡ dir) × (bound ≡ b)) → is_directory (kind_of (nodes at)) ≡ true
  named at b (inl before) = have.named at b before
  named at b (inr new) = ap (λ h. is_directory (kind_of (nodes h))) new.0 ∙ is.directory

  leads : (at : Handle) (b : BoundName) → HasName nodes at b ⊎ ((at ≡ dir) × (bound ≡ b)) → IsSome (nodes b.to)
  leads at b (inl before) = have.leads at b before
  leads at b (inr new) = subst (λ (n : BoundName). IsSome (nodes n.to)) new.1 is.there

  apart : (at : Handle) → (at ≡ dir) ⊎ (at ≢ dir) → AllPairs AreApart (names_under after at)
  apart at (inl same) =
      subst (λ names. AllPairs AreApart names) (sym (ap (names_under after) same ∙ is.names))
      (pairs_push (names_under nodes dir) bound (have.apart dir) (λ b has. (is.new b has, λ to. is.unnamed dir (b, has, to))))
  apart at (inr other) = subst (λ names. AllPairs AreApart names) (sym (is.others at other)) (have.apart at)

  one_of : (at other handle : Handle) (b c : BoundName) → b.to ≡ handle → c.to ≡ handle
      → HasName nodes at b ⊎ ((at ≡ dir) × (bound ≡ b)) → HasName nodes other c ⊎ ((other ≡ dir) × (bound ≡ c)) → at ≡ other
  one_of at other handle b c to led (inl x) (inl y) = have.one at other handle (b, x, to) (c, y, led)
  one_of at other handle b c to led (inl x) (inr y) = absurd (is.unnamed at (b, x, to ∙ sym led ∙ sym (ap (λ (n : BoundName). n.to) y.1)))
  one_of at other handle b c to led (inr x) (inl y) = absurd (is.unnamed other
      (c, y, led ∙ sym to ∙ sym (ap (λ (n : BoundName). n.to) x.1)))
  one_of at other handle b c to led (inr x) (inr y) = x.0 ∙ sym y.0

  one : (at other handle : Handle) → LeadsTo after at handle → LeadsTo after other handle → at ≡ other
  one at other handle (b, has, to) (c, had, led) =
      one_of at other handle b c to led (bound_cases nodes after dir bound is at b has) (bound_cases nodes after dir bound is other c had)
