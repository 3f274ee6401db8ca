-- What stands beside nodes that are there, once something was put beside one of them.
use Rattle.std.proofs.Common.{◌≡◌, ◌≢◌, ◌∙◌, ◌<◌, ◌≤◌, ◌⊎◌, inl, inr, Bool, true, false, Some, ap, arith, length, refl, subst, sym}
use Rattle.nv_base.specs.declared.numbers.Handle.{Handle}
use Rattle.nv_calls.specs.Plain.{same_handle}
use Rattle.nv_calls.proofs.CheckEnds.{handle_is}
use Rattle.nv_entry.specs.declared.node.NodeCopy.{NodeCopy}
use Rattle.nv_machine.proofs.DirectoriesStay.{same_self}
use Rattle.nv_mount_answers.specs.declared.kept.Time.{Time}
use Rattle.nv_mount_beside.specs.Beside.{beside_at, changed, renamed, with_beside}
use Rattle.nv_mount_beside.specs.declared.beside.Beside.{Beside}
use Rattle.nv_mounted.specs.Renames.{moved_now}
use Rattle.nv_mounted.specs.Side.{at_node, touched}
use Rattle.nv_mounted.specs.declared.side.Side.{Side}
use Rattle.nv_serial.specs.Serial.{Serial, copies_now}
use Rattle.nv_mount_laws.proofs.Rows.{Elsewhere, Here, Place, Stale, beside_generation, many_rows, place, put_here}
use Rattle.nv_mount_laws.proofs.Standing.{IsWell}

-- two handles are one, or they differ
pub one_or_other : (a b : Handle) → (a ≡ b) ⊎ (a ≢ b)
one_or_other a b = go (same_handle a b) refl where
  go : (t : Bool) → same_handle a b ≡ t → (a ≡ b) ⊎ (a ≢ b)
  go true is = inl (handle_is a b is)
  go false is = inr (λ same. let z : true ≡ false = sym (same_self a) ∙ ap (same_handle a) same
      ∙ is in cc)

no_step : {P : Type 0} → false ≡ true → P
no_step e = cc

module _ (s : Serial) (well : IsWell s) (side : Side)
    (rows : length s.slots ≤ length side.nodes.rows) (at : Handle) (node : NodeCopy)
    (there : copies_now s at ≡ Some node) (b : Beside) (own : b.generation ≡ at.generation) where
  in_rows : at.ino < length side.nodes.rows
  in_rows = let lt = well.slot at node there in omega (arith, lt, rows)

  -- beside the node itself it is that
  pub flags_here : beside_at (with_beside at b side.nodes) at ≡ b
  flags_here = put_here side.nodes at b in_rows own

  -- beside any other that is there it is as it was
  pub flags_there : (handle : Handle) (n : NodeCopy) → copies_now s handle ≡ Some n → handle ≢ at
      → beside_at (with_beside at b side.nodes) handle ≡ at_node side handle
  flags_there handle n is differ = go (place side.nodes at b in_rows own handle) where
    go : Place side.nodes at b handle → beside_at (with_beside at b side.nodes) handle
        ≡ at_node side handle
    go (Here same put) = absurd (differ same)
    go (Elsewhere other same) = same
    go (Stale same other told) = absurd (other (well.own handle at n node is there same))

  -- and no other is without a name that was not
  pub flags_before : (handle : Handle) → handle ≢ at
      → (beside_at (with_beside at b side.nodes) handle).nameless ≡ true
      → beside_at (with_beside at b side.nodes) handle ≡ at_node side handle
  flags_before handle differ nameless = go (place side.nodes at b in_rows own handle) where
    go : Place side.nodes at b handle → beside_at (with_beside at b side.nodes) handle
        ≡ at_node side handle
    go (Here same put) = absurd (differ same)
    go (Elsewhere other same) = same
    go (Stale same other told) = no_step (sym (ap (λ (r : Beside). r.nameless) told) ∙ nameless)

-- ---- flags that stay

-- beside a node it says the same of opens and of names
pub record SameFlags (old new : Side) (handle : Handle) : Type 0 where
  pub opens : (at_node new handle).opens ≡ (at_node old handle).opens
  pub nameless : (at_node new handle).nameless ≡ (at_node old handle).nameless

-- it says so of all nodes that are there, and no other is without a name that was not
pub record KeepsFlags (s : Serial) (old new : Side) : Type 0 where
  pub hidden : new.hidden ≡ old.hidden
  pub rows : length new.nodes.rows ≡ length old.nodes.rows
  pub there : (handle : Handle) (node : NodeCopy) → copies_now s handle ≡ Some node
      → SameFlags old new handle
  pub before : (handle : Handle) → (at_node new handle).nameless ≡ true → SameFlags old new handle

pub flags_by : (old new : Side) (handle : Handle) → at_node new handle ≡ at_node old handle
    → SameFlags old new handle
flags_by old new handle same = record {
  opens = ap (λ (r : Beside). r.opens) same;
  nameless = ap (λ (r : Beside). r.nameless) same;
}

pub same_flags : (s : Serial) (side : Side) → KeepsFlags s side side
same_flags s side = record {
  hidden = refl;
  rows = refl;
  there = λ handle node is. flags_by side side handle refl;
  before = λ handle nameless. flags_by side side handle refl;
}

pub flags_twice : (s : Serial) (old between new : Side) → KeepsFlags s old between
    → KeepsFlags s between new → KeepsFlags s old new
flags_twice s old between new first second = record {
  hidden = second.hidden ∙ first.hidden;
  rows = second.rows ∙ first.rows;
  there = λ handle node is. same_twice handle (first.there handle node is)
      (second.there handle node is);
  before = λ handle nameless.
      let last = second.before handle nameless in same_twice handle
      (first.before handle (sym last.nameless ∙ nameless)) last;
} where
  same_twice : (handle : Handle) → SameFlags old between handle → SameFlags between new handle
      → SameFlags old new handle
  same_twice handle one other = record {
    opens = other.opens ∙ one.opens;
    nameless = other.nameless
        ∙ one.nameless;
  }

-- what is put beside a node says the same of opens and of names
pub put_keeps : (s : Serial) → IsWell s → (side : Side) → length s.slots ≤ length side.nodes.rows
    → (at : Handle) (node : NodeCopy)
    → copies_now s at ≡ Some node → (b : Beside) → b.generation ≡ at.generation → b.opens
    ≡ (at_node side at).opens
    → b.nameless ≡ (at_node side at).nameless → (new : Side) → new.nodes
    ≡ with_beside at b side.nodes → new.hidden ≡ side.hidden
    → KeepsFlags s side new
put_keeps s well side rows at node there b own opens nameless new nodes_are hidden_is = record {
  hidden = hidden_is;
  rows = ap (λ n. length n.rows) nodes_are ∙ many_rows side.nodes at b;
  there = λ handle n is. each handle (λ other. flags_there s well side rows at node there b own
      handle n is other);
  before = λ handle is. each handle (λ other. flags_before s well side rows at node there b own
      handle other
      (sym (ap (λ (r : Beside). r.nameless) (moved handle)) ∙ is));
} where
  moved : (handle : Handle) → at_node new handle ≡ beside_at (with_beside at b side.nodes) handle
  moved handle = ap (λ n. beside_at n handle) nodes_are

  here : SameFlags side new at
  here =
      let is : at_node new at ≡ b = moved at ∙ flags_here s well side rows at node there b own in
      record {
        opens = ap (λ (r : Beside). r.opens) is ∙ opens;
        nameless =
            ap (λ (r : Beside). r.nameless) is ∙ nameless;
      }

  each : (handle : Handle) → (handle ≢ at → beside_at (with_beside at b side.nodes) handle
      ≡ at_node side handle)
      → SameFlags side new handle
  each handle other = go (one_or_other handle at) where
    go : (handle ≡ at) ⊎ (handle ≢ at) → SameFlags side new handle
    go (inl same) = subst (λ (h : Handle). SameFlags side new h) (sym same) here
    go (inr differ) = flags_by side new handle (moved handle ∙ other differ)

-- a node that is told to have changed is as often open as it was
pub touched_keeps : (s : Serial) → IsWell s → (side : Side)
    → length s.slots ≤ length side.nodes.rows → (now : Time) (at : Handle) (node : NodeCopy)
    → copies_now s at ≡ Some node → KeepsFlags s side (touched now at side)
touched_keeps s well side rows now at node there =
    put_keeps s well side rows at node there (changed now (at_node side at))
    (beside_generation side.nodes at) refl refl
    (touched now at side) refl refl

-- so is a node that has moved
pub moved_keeps : (s : Serial) → IsWell s → (side : Side)
    → length s.slots ≤ length side.nodes.rows → (now : Time) (at : Handle) (node : NodeCopy)
    → copies_now s at ≡ Some node → KeepsFlags s side (moved_now now at side)
moved_keeps s well side rows now at node there =
    put_keeps s well side rows at node there (renamed now (at_node side at))
    (beside_generation side.nodes at) refl refl
    (moved_now now at side) refl refl

-- what is left of the nodes keeps its flags
pub left_keeps : (s u : Serial) (old new : Side) → KeepsFlags s old new
    → ((handle : Handle) (node : NodeCopy) → copies_now u handle ≡ Some node
    → (n : NodeCopy) × (copies_now s handle ≡ Some n)) → KeepsFlags u old new
left_keeps s u old new flags were = record {
  hidden = flags.hidden;
  rows = flags.rows;
  there = λ handle node is. let was = were handle node is in flags.there handle was.0 was.1;
  before = flags.before;
}
