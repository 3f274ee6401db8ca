-- The hidden files of a new mount: there are none.
use Rattle.std.proofs.Common.{◌≡◌, ◌≢◌, ◌∙◌, inl, inr, ℕ, Bool, true, false, List, [], ◌∷◌, Option, Some, None, Ok, Err, ap, arith, length, refl, replicate, subst, sym}
use Rattle.std.specs.Prelude.{min, nat_lt}
use Rattle.std.proofs.lemmas.Bool.{ltb-false, ltb-true}
use Rattle.std.proofs.lemmas.List.{get_or-replicate, get_or_past, length-replicate}
use Rattle.nv_base.specs.declared.node.Kind.TheVariants.{Dir}
use Rattle.nv_base.specs.declared.numbers.Handle.{Handle}
use Rattle.nv_calls.specs.Plain.{Change, begins, change, with_names}
use Rattle.nv_calls.specs.Refusals.{kind_of, lookup}
use Rattle.nv_calls.specs.declared.answer.Answer.TheVariants as answers
use Rattle.nv_calls.specs.declared.call.Call.TheVariants as calls
use Rattle.nv_calls.proofs.Passed.{directory_passed}
use Rattle.nv_entry.specs.Index.{bound_to, with_last}
use Rattle.nv_entry.specs.Sound.{empty_node}
use Rattle.nv_entry.specs.Tree.{names_of_node, names_under, root}
use Rattle.nv_entry.specs.declared.node.NodeCopy.{NodeCopy}
use Rattle.nv_machine.proofs.DirectoriesChanged.{found_in}
use Rattle.nv_effects.proofs.Effects.{calls_have_effects}
use Rattle.nv_mount_answers.specs.declared.kept.Time.{Time}
use Rattle.nv_mount_beside.specs.Beside.{beside_at, new_beside, none_beside, row_at}
use Rattle.nv_mount_beside.specs.Names.{hidden}
use Rattle.nv_mount_beside.specs.declared.beside.Beside.{Beside}
use Rattle.nv_mount_beside.specs.declared.refusal.Refusal.{Refusal}
use Rattle.nv_mounted.specs.Dialogues.{Ends, IsHad}
use Rattle.nv_mounted.specs.NewMounts.{begin, hidden_mode, make_hidden, new_side, no_nodes}
use Rattle.nv_mounted.specs.Side.{at_node}
use Rattle.nv_mounted.specs.declared.side.Side.{Side}
use Rattle.nv_mounted.specs.declared.world.Room.{Room}
use Rattle.nv_serial.specs.OneCall.{serial_call}
use Rattle.nv_serial.specs.Serial.{Serial, copies_now, told}
use Rattle.nv_mount_laws.specs.Hidden.{AreHidden, IsNewMount}
use Rattle.nv_mount_laws.specs.World.{CanStand, Calls}
use Rattle.nv_mount_laws.proofs.Asked.{made_asked}
use Rattle.nv_mount_laws.proofs.Dialogues.{AreSame, went_on}
use Rattle.nv_mount_laws.proofs.Effects.{changed_first, changed_later, kind_is}
use Rattle.nv_mount_laws.proofs.HiddenKept.{arrived_last}
use Rattle.nv_mount_laws.proofs.Rows.{is_told, told_row, untold_row}
use Rattle.nv_mount_laws.proofs.Standing.{stands_well}

-- nothing was told of any slot
none_told : (slots : ℕ) (begun : Time) (ino : ℕ) → row_at (none_beside slots begun) ino
    ≡ new_beside 0 begun 0 0
none_told slots begun ino = go (nat_lt ino slots) refl where
  go : (b : Bool) → nat_lt ino slots ≡ b → row_at (none_beside slots begun) ino
      ≡ new_beside 0 begun 0 0
  go true is = get_or-replicate slots ino (new_beside 0 begun 0 0) (new_beside 0 begun 0 0)
      (ltb-true ino slots is)
  go false is =
      let many = length-replicate slots (new_beside 0 begun 0 0) in
      let past = ltb-false ino slots is in
      get_or_past (replicate slots (new_beside 0 begun 0 0)) ino (new_beside 0 begun 0 0)
      (omega (arith, many, past))

named_all : (slots : ℕ) (begun : Time) (handle : Handle)
    → (beside_at (none_beside slots begun) handle).nameless ≡ false
named_all slots begun handle = go (is_told (none_beside slots begun) handle) refl where
  go : (b : Bool) → is_told (none_beside slots begun) handle ≡ b
      → (beside_at (none_beside slots begun) handle).nameless ≡ false
  go true is =
      ap (λ (r : Beside). r.nameless) (told_row (none_beside slots begun) handle is)
      ∙ ap (λ (r : Beside). r.nameless) (none_told slots begun handle.ino)
  go false is = ap (λ (r : Beside). r.nameless) (untold_row (none_beside slots begun) handle is)

no_step : {P : Type 0} → true ≡ false → P
no_step e = cc

no_some : {A P : Type 0} {a : A} → None ≡ Some a → P
no_some e = cc

-- ---- what was made

no_value : {A P : Type 0} {a : A} {why : Refusal} → Ok a ≡ Err why → P
no_value e = cc

-- the hidden directory was made, and nothing was told of any node
record Began (old new : Serial) (side : Side) (begun : Time) (slots : ℕ) : Type 0 where
  made : serial_call old 0 (calls.Mkdir root hidden hidden_mode) ≡ told (answers.Made side.hidden) new
  stands : CanStand new
  nodes : side.nodes ≡ none_beside slots begun

same_side : (a b : Side) → AreSame (Ok a) (Ok b) → a ≡ b
same_side a b e = cc

made_in : (old between : Serial) (dir : Handle) → IsHad Calls make_hidden old (Ok dir) between
    → (serial_call old 0 (calls.Mkdir root hidden hidden_mode) ≡ told (answers.Made dir) between)
    × CanStand between
made_in old between dir (inl had) = no_value had.0
made_in old between dir (inr had) =
    (made_asked old between _ dir had, subst CanStand (sym had.3.1) had.2.stands)

began : (old new : Serial) (side : Side) (begun : Time) (room : Room)
    → IsHad Calls (begin room begun) old (Ok side) new
    → Began old new side begun (min room.inodes 65536)
began old new side begun room had =
    let next = λ (dir : Handle). Ends (Ok (new_side dir (no_nodes room begun))) in
    let on = went_on Calls next make_hidden old new side had in
    let is : side ≡ new_side on.value (no_nodes room begun) = same_side side (new_side on.value (no_nodes room begun))
    on.then.0 in
    let made = made_in old on.between on.value on.first in
    let there : serial_call old 0 (calls.Mkdir root hidden hidden_mode) ≡ told (answers.Made on.value)
    new = made.0 ∙ ap (λ (s : Serial). told (answers.Made on.value) s) (sym on.then.1) in
    record {
      made = there ∙ ap (λ (s : Side). told (answers.Made s.hidden) new) (sym is);
      stands = subst CanStand (sym on.then.1) made.1;
      nodes = ap (λ (s : Side). s.nodes) is;
    }

-- a world of the machine stands as the one of a new mount
pub new_stands : (old new : Serial) (side : Side) (begun : Time) → IsNewMount old new side begun
    → CanStand new
new_stands old new side begun mount = (began old new side begun mount.room mount.had).stands

-- A NEW MOUNT has no hidden file
pub new_hidden : (old new : Serial) (side : Side) (begun : Time) → IsNewMount old new side begun
    → AreHidden new side
new_hidden old new side begun mount =
    let slots : ℕ = min mount.room.inodes 65536 in
    let is = began old new side begun mount.room mount.had in
    let mode : ℕ = hidden_mode in
    let has = calls_have_effects old new 0 (calls.Mkdir root hidden mode) (answers.Made side.hidden)
    refl is.made in
    let made : side.hidden ≡ has.0 = (let e = has.1.told in cc) in
    let well = stands_well new is.stands in
    let nodes = copies_now old in
    let rest : List Change = change has.0 (begins Dir mode) ∷ [] in
    let top = directory_passed (nodes root) _ has.1.unrefused in
    let at_root : copies_now new root ≡ with_names (with_last hidden has.0) (nodes root) =
    has.1.nodes root ∙ changed_first root (with_names (with_last hidden has.0)) rest nodes in
    let place : lookup (copies_now new) root hidden ≡ Some has.0 =
    arrived_last nodes (copies_now new) root hidden has.0 (kind_is Dir (nodes root) top.0) at_root
    in
    let not_root : has.0 ≢ root = (λ same. well.tree.one_name.unnamed root (
      record { name = hidden; to = has.0 },
      found_in hidden (names_under (copies_now new) root) has.0
          place,
      same,
    )) in
    let empty : copies_now new has.0 ≡ Some (empty_node Dir mode) =
    has.1.nodes has.0 ∙ changed_later root (with_names (with_last hidden has.0)) rest nodes has.0
    not_root
    ∙ changed_first has.0 (begins Dir mode) [] nodes in
    let here : copies_now new side.hidden ≡ Some (empty_node Dir mode) = ap (copies_now new) made
    ∙ empty in
    let named : (handle : Handle) → (at_node side handle).nameless ≡ false =
    (λ handle. ap (λ all. (beside_at all handle).nameless) is.nodes ∙ named_all slots begun handle)
    in
    record {
      place = place ∙ ap (λ (h : Handle). Some h) (sym made);
      directory = ap kind_of here;
      stands = λ handle node there nameless. no_step (sym nameless ∙ named handle);
      kept = λ handle nameless opened. no_step (sym nameless ∙ named handle);
      only = λ name handle bound. no_some (sym
          (ap (λ (n : Option NodeCopy). bound_to name (names_of_node n)) here) ∙ bound);
      numbered = λ handle nameless. no_step (sym nameless ∙ named handle);
      rows = (let many : length side.nodes.rows ≡ slots =
          ap (λ all. length all.rows) is.nodes ∙ length-replicate slots (new_beside 0 begun 0 0) in
          let few = mount.has_room in let same = has.1.slots in
          omega (arith, many, few, same));
    }
