-- What an unlink has done: it hid a file that is open, or took one away that is not.
use Rattle.std.proofs.Common.{◌≡◌, ◌∙◌, ◌⊎◌, inl, inr, ℕ, Bool, true, false, List, Ok, ap, refl, subst, sym}
use Rattle.std.specs.Prelude.{if◌then◌else◌, ◌<◌, ◌&&◌, nat_lt, Some}
use Rattle.std.proofs.lemmas.Bool.{and_parts, lt-ltb, ltb-true}
use Rattle.nv_base.specs.declared.node.Kind.{Kind}
use Rattle.nv_base.specs.declared.node.Kind.TheVariants.{File, Dir}
use Rattle.nv_base.specs.declared.numbers.Handle.{Handle}
use Rattle.nv_calls.specs.Refusals.{kind_of, lookup}
use Rattle.nv_calls.specs.declared.call.Call.TheVariants as calls
use Rattle.nv_mount_answers.specs.declared.kept.Shape.{Shape}
use Rattle.nv_mount_answers.specs.declared.kept.Time.{Time}
use Rattle.nv_mount_beside.specs.Names.{free_name, node_named}
use Rattle.nv_mount_beside.specs.declared.outcome.Outcome.{Outcome}
use Rattle.nv_mount_beside.specs.declared.outcome.Outcome.TheVariants as outcomes
use Rattle.nv_mounted.specs.Asks.{ask_done, ask_handle, ask_shape}
use Rattle.nv_mounted.specs.Dialogues.{Dialogue, Ends, Grows, IsHad, ◌>>=◌}
use Rattle.nv_mounted.specs.Side.{at_node, touched}
use Rattle.nv_mounted.specs.Talks.{hidden_name_for, hidden_now, hide, is_file, is_open_file, take_away, unlink}
use Rattle.nv_mounted.specs.declared.side.Side.{Side}
use Rattle.nv_serial.specs.Serial.{Serial, copies_now}
use Rattle.nv_mount_laws.specs.World.{Calls}
use Rattle.nv_mount_laws.proofs.Asked.{Answered, done_asked, grown, looked_up, shape_asked}
use Rattle.nv_mount_laws.proofs.Dialogues.{side_told, went_on}

-- an open file was moved among the hidden ones
pub record Hides (old : Serial) (side : Side) (now : Time) (dir : Handle) (name : List ℕ) (handle : Handle)
    (new : Serial) (new_side : Side) : Type 0 where
  pub more : List ℕ
  pub numbered : hidden_name_for handle ≡ Ok more
  pub moved : Answered old (calls.Rename dir name side.hidden more) new
  pub side_is : new_side ≡ hidden_now now handle side

-- a name was taken away, of what is no open file
pub record Takes (old : Serial) (side : Side) (dir : Handle) (name : List ℕ) (new : Serial)
    (new_side : Side) : Type 0 where
  pub gone : Answered old (calls.Unlink dir name) new
  pub side_is : new_side ≡ side

pub hidden_by : (old : Serial) (side : Side) (now : Time) (dir : Handle) (name : List ℕ) (handle : Handle)
    (new : Serial) (new_side : Side)
    → IsHad Calls (hide side now dir name handle) old (Ok (tt, new_side)) new
    → Hides old side now dir name handle new new_side
hidden_by old side now dir name handle new new_side had =
    let first = went_on Calls _ (Grows (Ends (hidden_name_for handle))) old new (tt, new_side) had
    in
    let named_so = grown (hidden_name_for handle) old first.between first.value first.first in
    let more = first.value in
    let second = went_on Calls _ (ask_done (calls.Rename dir name side.hidden more)) first.between
    new (tt, new_side) first.then in
    let moved : Answered first.between (calls.Rename dir name side.hidden more) second.between =
    done_asked first.between second.between (calls.Rename dir name side.hidden more) second.value
    second.first in
    record {
      more = more;
      numbered = named_so.0;
      moved = subst (λ (s : Serial). Answered s (calls.Rename dir name side.hidden more) new)
          named_so.1
          (subst (λ (s : Serial). Answered first.between (calls.Rename dir name side.hidden more) s)
          (sym second.then.1) moved);
      side_is = side_told tt tt new_side (hidden_now now handle side)
          second.then.0;
    }

abbrev take : Side → Handle → List ℕ → Dialogue (Unit {0} × Side)
take side dir name = ask_done (calls.Unlink dir name) >>= λ done. Ends (Ok (tt, side))

pub taken_by : (old : Serial) (side : Side) (dir : Handle) (name : List ℕ) (new : Serial)
    (new_side : Side)
    → IsHad Calls (take side dir name) old (Ok (tt, new_side)) new
    → Takes old side dir name new new_side
taken_by old side dir name new new_side had =
    let first = went_on Calls _ (ask_done (calls.Unlink dir name)) old new (tt, new_side) had in
    let gone : Answered old (calls.Unlink dir name) first.between =
    done_asked old first.between (calls.Unlink dir name) first.value first.first in
    record {
      gone = subst (λ (s : Serial). Answered old (calls.Unlink dir name) s) (sym first.then.1) gone;
      side_is = side_told tt tt new_side side first.then.0;
    }

-- WHAT AN UNLINK HAS DONE
pub record Unlinks (old : Serial) (side : Side) (now : Time) (number : ℕ) (file : List ℕ)
    (new : Serial) (new_side : Side) : Type 0 where
  pub dir : Handle
  pub dir_is : node_named number ≡ Ok dir
  pub name : List ℕ
  pub name_is : free_name dir file ≡ Ok name
  pub handle : Handle
  pub bound : lookup (copies_now old) dir name ≡ Some handle
  pub shape : Shape
  pub kind : kind_of (copies_now old handle) ≡ Some shape.kind
  pub between : Side
  pub side_is : new_side ≡ touched now dir between
  pub away : ((is_open_file side handle shape ≡ true) × Hides old side now dir name handle new between)
      ⊎ ((is_open_file side handle shape ≡ false) × Takes old side dir name new between)

away_by : (old : Serial) (side : Side) (now : Time) (dir : Handle) (name : List ℕ) (handle : Handle)
    (shape : Shape) (new : Serial) (between : Side)
    → IsHad Calls (take_away side now dir name handle shape) old (Ok (tt, between)) new
    → ((is_open_file side handle shape ≡ true) × Hides old side now dir name handle new between)
    ⊎ ((is_open_file side handle shape ≡ false) × Takes old side dir name new between)
away_by old side now dir name handle shape new between had =
    go (is_open_file side handle shape) refl had where
      go : (b : Bool) → is_open_file side handle shape ≡ b
          → IsHad Calls (if b then hide side now dir name handle else take side dir name) old
          (Ok (tt, between)) new
          → ((is_open_file side handle shape ≡ true) × Hides old side now dir name handle new between)
          ⊎ ((is_open_file side handle shape ≡ false) × Takes old side dir name new between)
      go true is h = inl (is, hidden_by old side now dir name handle new between h)
      go false is h = inr (is, taken_by old side dir name new between h)

pub unlinks : (old : Serial) (side : Side) (now : Time) (number : ℕ) (file : List ℕ) (new : Serial)
    (outcome : Outcome) (new_side : Side)
    → IsHad Calls (unlink side now number file) old (Ok (outcome, new_side)) new
    → Unlinks old side now number file new new_side
unlinks old side now number file new outcome new_side had =
    let a = went_on Calls _ (Ends (node_named number)) old new (outcome, new_side) had in
    let dir = a.value in
    let b = went_on Calls _ (Grows (Ends (free_name dir file))) a.between new (outcome, new_side)
    a.then in
    let name = b.value in
    let named_so = grown (free_name dir file) a.between b.between name b.first in
    let at_b : b.between ≡ old = named_so.1 ∙ a.first.1 in
    let c = went_on Calls _ (ask_handle (calls.Lookup dir name)) b.between new (outcome, new_side)
    b.then in
    let handle = c.value in
    let found = looked_up b.between c.between dir name handle c.first in
    let at_c : c.between ≡ old = found.1 ∙ at_b in
    let d = went_on Calls _ (ask_shape handle) c.between new (outcome, new_side) c.then in
    let shape = d.value in
    let told = shape_asked c.between d.between handle shape d.first in
    let at_d : d.between ≡ old = told.1 ∙ at_c in
    let e = went_on Calls _ (take_away side now dir name handle shape) d.between new (outcome, new_side)
    d.then in
    let gone : IsHad Calls (take_away side now dir name handle shape) old (Ok (tt, e.value.1)) new =
    subst (λ (s : Serial). IsHad Calls (take_away side now dir name handle shape) s (Ok (tt, e.value.1))
    new) at_d
    (subst (λ (s : Serial). IsHad Calls (take_away side now dir name handle shape) d.between
    (Ok (tt, e.value.1)) s) (sym e.then.1) e.first) in
    record {
      dir = dir;
      dir_is = sym a.first.0;
      name = name;
      name_is = named_so.0;
      handle = handle;
      bound = subst (λ (s : Serial). lookup (copies_now s) dir name ≡ Some handle) at_b found.0;
      shape = shape;
      kind = subst (λ (s : Serial). kind_of (copies_now s handle) ≡ Some shape.kind) at_c told.0;
      between = e.value.1;
      side_is = side_told outcome outcomes.Done new_side (touched now dir e.value.1) e.then.0;
      away = away_by old side now dir name handle shape new e.value.1 gone;
    }

-- ---- open files

no_step : {P : Type 0} → true ≡ false → P
no_step e = cc

pub file_shape : (shape : Shape) → is_file shape ≡ true → shape.kind ≡ File
file_shape shape is = go shape.kind is where
  go : (k : Kind) → elim k [ File ↦ true | Dir ↦ false ] ≡ true → k ≡ File
  go File e = refl
  go Dir e = no_step (sym e)

-- an open file is a file, and open
pub open_is : (side : Side) (handle : Handle) (shape : Shape) → is_open_file side handle shape
    ≡ true
    → (shape.kind ≡ File) × (0 < (at_node side handle).opens)
open_is side handle shape is =
    let both = and_parts (is_file shape) (nat_lt 0 (at_node side handle).opens) is in
    (file_shape shape both.0, ltb-true 0 (at_node side handle).opens both.1)

-- a file that is not open is not open
pub not_open : (side : Side) (handle : Handle) (shape : Shape) → is_open_file side handle shape
    ≡ false → shape.kind ≡ File
    → 0 < (at_node side handle).opens → ⊥
not_open side handle shape is file opened =
    let one : is_open_file side handle shape ≡ true =
    ap (λ (k : Kind). elim k [ File ↦ true | Dir ↦ false ] && nat_lt 0 (at_node side handle).opens)
    file
    ∙ lt-ltb 0 (at_node side handle).opens opened in
    no_step (sym one ∙ is)
