-- What a rename leaves of the nodes and of their names, also where it takes another file's name.
use Rattle.std.proofs.Common.{◌≡◌, ◌≢◌, ◌∙◌, ◌⊎◌, inl, inr, ℕ, Bool, true, false, List, [], ◌∷◌, Option, Some, None, ap, length, refl, sym}
use Rattle.std.specs.Prelude.{if◌then◌else◌}
use Rattle.nv_base.specs.declared.node.Kind.TheVariants.{Dir}
use Rattle.nv_base.specs.declared.numbers.Handle.{Handle}
use Rattle.nv_calls.specs.Plain.{Change, change, goes, same_handle, with_names}
use Rattle.nv_calls.specs.Refusals.{found, kind_of, lookup}
use Rattle.nv_calls.specs.calls.Rename.{bound_effect, move_effect, own_place, replaced_effect}
use Rattle.nv_calls.specs.declared.call.Call.TheVariants as calls
use Rattle.nv_entry.specs.Index.{bound_to, with_last, without}
use Rattle.nv_entry.specs.Tree.{names_under}
use Rattle.nv_entry.specs.declared.names.BoundName.{BoundName}
use Rattle.nv_entry.specs.declared.node.NodeCopy.{NodeCopy}
use Rattle.nv_effects.specs.Effects.{HasEffect, changed}
use Rattle.nv_effects.proofs.Effects.{calls_have_effects}
use Rattle.nv_machine.proofs.DirectoriesChanged.{other_handle}
use Rattle.nv_machine.proofs.DirectoriesStay.{same_self}
use Rattle.nv_serial.specs.Serial.{Serial, copies_now}
use Rattle.nv_mount_laws.proofs.Asked.{Answered}
use Rattle.nv_mount_laws.proofs.Effects.{Passes, changed_first, changed_later, rename_passed}
use Rattle.nv_mount_laws.proofs.Flags.{one_or_other}
use Rattle.nv_mount_laws.proofs.HiddenKept.{named_kind, same_bound, there_by}
use Rattle.nv_mount_laws.proofs.Names.{bound_left, bound_other, names_changed}

-- ---- nodes

-- what a rename leaves, where the node in its way goes
pub record Renames (nodes after : Handle → Option NodeCopy) (from : Handle) (name : List ℕ)
    (to : Handle) (more : List ℕ) (way : Option Handle) : Type 0 where
  pub from_is : kind_of (nodes from) ≡ Some Dir
  pub to_is : kind_of (nodes to) ≡ Some Dir
  pub from_stays : kind_of (after from) ≡ Some Dir
  pub to_stays : kind_of (after to) ≡ Some Dir
  pub same : (h : Handle) → h ≢ from → h ≢ to → way ≢ Some h → after h ≡ nodes h
  pub gone : (h : Handle) → way ≡ Some h → h ≢ from → h ≢ to → after h ≡ None
  pub names : (dir : Handle) (n : List ℕ) → (dir ≡ from → name ≢ n) → (dir ≡ to → more ≢ n)
      → way ≢ Some dir → lookup after dir n ≡ lookup nodes dir n

way_stays : (nodes : Handle → Option NodeCopy) (way : Option Handle) (h : Handle) → way ≢ Some h
    → changed (replaced_effect way) nodes h ≡ nodes h
way_stays nodes None h other = refl
way_stays nodes (Some there) h other =
    changed_later there goes [] nodes h (λ same. other (ap (λ (i : Handle). Some i) (sym same)))

no_some : {A P : Type 0} {a : A} → None ≡ Some a → P
no_some e = cc

some_is : {A : Type 0} {a b : A} → Some a ≡ Some b → a ≡ b
some_is e = cc

way_goes : (nodes : Handle → Option NodeCopy) (way : Option Handle) (h : Handle) → way ≡ Some h
    → changed (replaced_effect way) nodes h ≡ None
way_goes nodes None h is = no_some is
way_goes nodes (Some there) h is =
    ap (λ (i : Handle). changed (change there goes ∷ []) nodes i) (sym (some_is is))
    ∙ changed_first there goes [] nodes

-- the names of a directory in which one moves
abbrev within : List ℕ → List ℕ → Handle → List BoundName → List BoundName
within name more moved names = with_last more moved (without name names)

module _ (nodes after : Handle → Option NodeCopy) (from to moved : Handle) (name more : List ℕ)
    (way : Option Handle) (from_is : kind_of (nodes from) ≡ Some Dir)
    (to_is : kind_of (nodes to) ≡ Some Dir) where
  abbrev rest : List Change
  rest = replaced_effect way

  abbrev from_node : (n : NodeCopy) × (nodes from ≡ Some n)
  from_node = there_by Dir (nodes from) from_is

  abbrev to_node : (n : NodeCopy) × (nodes to ≡ Some n)
  to_node = there_by Dir (nodes to) to_is

  -- in one directory
  module _ (one : from ≡ to)
      (each : (h : Handle) → after h ≡ changed (change from (with_names (within name more moved)) ∷
      rest) nodes h) where
    here : after from ≡ with_names (within name more moved) (nodes from)
    here = each from ∙ changed_first from (with_names (within name more moved)) rest nodes

    apart : (h : Handle) → h ≢ from → after h ≡ changed rest nodes h
    apart h other = each h ∙ changed_later from (with_names (within name more moved)) rest nodes h
        other

    stays : kind_of (after from) ≡ Some Dir
    stays = ap kind_of here ∙ named_kind (within name more moved) (nodes from) ∙ from_is

    same : (h : Handle) → h ≢ from → way ≢ Some h → after h ≡ nodes h
    same h other free = apart h other ∙ way_stays nodes way h free

    names_here : (n : List ℕ) → name ≢ n → more ≢ n → lookup after from n ≡ lookup nodes from n
    names_here n first second =
        ap (bound_to n) (names_changed nodes after from (within name more moved) from_node.0
        from_node.1 here)
        ∙ bound_other n more moved (without name (names_under nodes from)) second
        ∙ bound_left n name (names_under nodes from) first

    pub within_one : Renames nodes after from name to more way
    within_one = record {
      from_is = from_is;
      to_is = to_is;
      from_stays = stays;
      to_stays = ap (λ (d : Handle). kind_of (after d)) (sym one) ∙ stays;
      same = λ h not_from not_to free. same h not_from free;
      gone = λ h is not_from not_to. apart h not_from ∙ way_goes nodes way h is;
      names = λ dir n first second free. names dir n first second free (one_or_other dir from);
    } where
      names : (dir : Handle) (n : List ℕ) → (dir ≡ from → name ≢ n) → (dir ≡ to → more ≢ n)
          → way ≢ Some dir → (dir ≡ from) ⊎ (dir ≢ from) → lookup after dir n ≡ lookup nodes dir n
      names dir n first second free (inl at) =
          ap (λ (d : Handle). lookup after d n) at ∙ names_here n (first at) (second (at ∙ one))
          ∙ ap (λ (d : Handle). lookup nodes d n) (sym at)
      names dir n first second free (inr other) = same_bound nodes after dir n (same dir other free)

  -- to another directory
  module _ (two : from ≢ to)
      (each : (h : Handle) → after h ≡ changed (change from (with_names (without name)) ∷ change to
      (with_names (with_last more moved)) ∷ rest) nodes h) where
    abbrev arrives : List Change
    arrives = change to (with_names (with_last more moved)) ∷ rest

    left : after from ≡ with_names (without name) (nodes from)
    left = each from ∙ changed_first from (with_names (without name)) arrives nodes

    arrived : after to ≡ with_names (with_last more moved) (nodes to)
    arrived =
        each to ∙ changed_later from (with_names (without name)) arrives nodes to
        (λ at. two (sym at))
        ∙ changed_first to (with_names (with_last more moved)) rest nodes

    elsewhere : (h : Handle) → h ≢ from → h ≢ to → after h ≡ changed rest nodes h
    elsewhere h not_from not_to =
        each h ∙ changed_later from (with_names (without name)) arrives nodes h not_from
        ∙ changed_later to (with_names (with_last more moved)) rest nodes h not_to

    as_before : (h : Handle) → h ≢ from → h ≢ to → way ≢ Some h → after h ≡ nodes h
    as_before h not_from not_to free = elsewhere h not_from not_to ∙ way_stays nodes way h free

    pub to_another : Renames nodes after from name to more way
    to_another = record {
      from_is = from_is;
      to_is = to_is;
      from_stays = ap kind_of left ∙ named_kind (without name) (nodes from) ∙ from_is;
      to_stays = ap kind_of arrived ∙ named_kind (with_last more moved) (nodes to) ∙ to_is;
      same = as_before;
      gone = λ h is not_from not_to. elsewhere h not_from not_to ∙ way_goes nodes way h is;
      names = λ dir n first second free. names dir n first second free (one_or_other dir from)
          (one_or_other dir to);
    } where
      names : (dir : Handle) (n : List ℕ) → (dir ≡ from → name ≢ n) → (dir ≡ to → more ≢ n)
          → way ≢ Some dir → (dir ≡ from) ⊎ (dir ≢ from) → (dir ≡ to) ⊎ (dir ≢ to)
          → lookup after dir n ≡ lookup nodes dir n
      names dir n first second free (inl at) other =
          ap (λ (d : Handle). lookup after d n) at
          ∙ ap (bound_to n) (names_changed nodes after from (without name) from_node.0 from_node.1
          left)
          ∙ bound_left n name (names_under nodes from) (first at)
          ∙ ap (λ (d : Handle). lookup nodes d n) (sym at)
      names dir n first second free (inr not_from) (inl at) =
          ap (λ (d : Handle). lookup after d n) at
          ∙ ap (bound_to n) (names_changed nodes after to (with_last more moved) to_node.0 to_node.1
          arrived)
          ∙ bound_other n more moved (names_under nodes to) (second at)
          ∙ ap (λ (d : Handle). lookup nodes d n) (sym at)
      names dir n first second free (inr not_from) (inr not_to) =
          same_bound nodes after dir n (as_before dir not_from not_to free)

-- ---- a rename that was answered

-- it went to its own place, and nothing has changed; or it left this
pub renamed : (old new : Serial) (from : Handle) (name : List ℕ) (to : Handle) (more : List ℕ)
    → Answered old (calls.Rename from name to more) new
    → (new ≡ old) ⊎ (Renames (copies_now old) (copies_now new) from name to more
    (found (copies_now old) to more) × (length new.slots ≡ length old.slots))
renamed old new from name to more done = go (own_place from name to more) refl where
  nodes : Handle → Option NodeCopy
  nodes = copies_now old

  has : (made : Handle) × HasEffect old 0 (calls.Rename from name to more) made done.answer new
  has = calls_have_effects old new 0 (calls.Rename from name to more) done.answer refl done.is

  passed : Passes nodes from name to more
  passed = rename_passed old new from name to more has.0 done.answer has.1

  way : Option Handle
  way = found nodes to more

  each : own_place from name to more ≡ false → (h : Handle) → copies_now new h
      ≡ changed (move_effect (same_handle from to) from name to more passed.moved
      (replaced_effect way)) nodes h
  each other h =
      has.1.nodes h
      ∙ ap (λ (b : Bool). changed (if b then [] else bound_effect from name to more
      (found nodes from name) way) nodes h) other
      ∙ ap (λ (f : Option Handle). changed (bound_effect from name to more f way) nodes h)
      passed.found_is

  by : own_place from name to more ≡ false → (from ≡ to) ⊎ (from ≢ to)
      → Renames nodes (copies_now new) from name to more way
  by other (inl one) =
      within_one nodes (copies_now new) from to passed.moved name more way passed.from_is
      passed.to_is one
      (λ h. each other h ∙ ap (λ (b : Bool). changed (move_effect b from name to more passed.moved
      (replaced_effect way)) nodes h) (ap (same_handle from) (sym one) ∙ same_self from))
  by other (inr two) =
      to_another nodes (copies_now new) from to passed.moved name more way passed.from_is
      passed.to_is two
      (λ h. each other h ∙ ap (λ (b : Bool). changed (move_effect b from name to more passed.moved
      (replaced_effect way)) nodes h) (other_handle from to two))

  go : (own : Bool) → own_place from name to more ≡ own → (new ≡ old)
      ⊎ (Renames nodes (copies_now new) from name to more way
      × (length new.slots ≡ length old.slots))
  go true is = inl (has.1.same is)
  go false is = inr (by is (one_or_other from to), has.1.slots)
