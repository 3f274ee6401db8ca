-- What a release has done, and what stands beside nodes then.
use Rattle.std.proofs.Common.{◌≡◌, ◌≢◌, ◌∙◌, ◌<◌, ◌⊎◌, inl, inr, ℕ, Bool, true, false, List, Ok, ap, arith, refl, subst, sym}
use Rattle.std.specs.Prelude.{if◌then◌else◌, ◌||◌, nat_lt, not}
use Rattle.nv_base.specs.declared.numbers.Handle.{Handle}
use Rattle.nv_calls.specs.declared.call.Call.TheVariants as calls
use Rattle.nv_mount_beside.specs.Beside.{beside_at, released, untold, with_beside}
use Rattle.nv_mount_beside.specs.Names.{hidden_name, node_named}
use Rattle.nv_mount_beside.specs.declared.beside.Beside.{Beside}
use Rattle.nv_mount_beside.specs.declared.outcome.Outcome.{Outcome}
use Rattle.nv_mount_beside.specs.declared.outcome.Outcome.TheVariants as outcomes
use Rattle.nv_mounted.specs.Asks.{ask_done}
use Rattle.nv_mounted.specs.Dialogues.{Dialogue, Ends, Grows, IsHad, ◌>>=◌}
use Rattle.nv_mounted.specs.Side.{at_node, put_node}
use Rattle.nv_mounted.specs.Talks.{let_go, release_opened}
use Rattle.nv_mounted.specs.declared.side.Side.{Side}
use Rattle.nv_serial.specs.Serial.{Serial}
use Rattle.nv_mount_laws.specs.World.{Calls}
use Rattle.nv_mount_laws.proofs.Asked.{Answered, done_asked, grown}
use Rattle.nv_mount_laws.proofs.Dialogues.{side_told, went_on}
use Rattle.nv_mount_laws.proofs.Rows.{Elsewhere, Here, Place, Stale, is_told, one_told, place, put_here, told_slot, untold_row}

-- ---- what a release has done

-- it is open again, or has a name
abbrev pub stays_there : Beside → Bool
stays_there b = nat_lt 0 b.opens || not b.nameless

pub record Releases (old : Serial) (side : Side) (number : ℕ) (new : Serial)
    (new_side : Side) : Type 0 where
  pub handle : Handle
  pub handle_is : node_named number ≡ Ok handle
  pub side_is : new_side ≡ put_node handle (released (at_node side handle)) side
  pub away : ((stays_there (released (at_node side handle)) ≡ true) × (new ≡ old))
      ⊎ ((stays_there (released (at_node side handle)) ≡ false)
      × Answered old (calls.Unlink side.hidden (hidden_name number)) new)

abbrev go_from : Side → ℕ → Dialogue (Unit {0})
go_from side number = Grows (Ends (Ok (hidden_name number))) >>=
    λ name. ask_done (calls.Unlink side.hidden name)

gone_by : (old new : Serial) (side : Side) (number : ℕ) (done : Unit {0})
    → IsHad Calls (go_from side number) old (Ok done) new
    → Answered old (calls.Unlink side.hidden (hidden_name number)) new
gone_by old new side number done had =
    let first = went_on Calls _ (Grows (Ends (Ok (hidden_name number)))) old new done had in
    let so = grown (Ok (hidden_name number)) old first.between first.value first.first in
    let asked = done_asked first.between new (calls.Unlink side.hidden first.value) done first.then
    in
    let same : hidden_name number ≡ first.value = let e = so.0 in cc in
    subst (λ (s : Serial). Answered s (calls.Unlink side.hidden (hidden_name number)) new) so.1
    (subst (λ (n : List ℕ). Answered first.between (calls.Unlink side.hidden n) new) (sym same)
    asked)

let_go_by : (old new : Serial) (side : Side) (number : ℕ) (b : Beside) (done : Unit {0})
    → IsHad Calls (let_go side number b) old (Ok done) new
    → ((stays_there b ≡ true) × (new ≡ old))
    ⊎ ((stays_there b ≡ false) × Answered old (calls.Unlink side.hidden (hidden_name number)) new)
let_go_by old new side number b done had = go (stays_there b) refl had where
  go : (t : Bool) → stays_there b ≡ t → IsHad Calls
      (if t then Ends (Ok tt) else go_from side number) old (Ok done) new
      → ((stays_there b ≡ true) × (new ≡ old))
      ⊎ ((stays_there b ≡ false) × Answered old (calls.Unlink side.hidden (hidden_name number)) new)
  go true is h = inl (is, h.1)
  go false is h = inr (is, gone_by old new side number done h)

pub releases : (old new : Serial) (side : Side) (number : ℕ) (outcome : Outcome) (new_side : Side)
    → IsHad Calls (release_opened side number) old (Ok (outcome, new_side)) new
    → Releases old side number new new_side
releases old new side number outcome new_side had =
    let a = went_on Calls _ (Ends (node_named number)) old new (outcome, new_side) had in
    let handle = a.value in
    let b : Beside = released (at_node side handle) in
    let c = went_on Calls _ (let_go side number b) a.between new (outcome, new_side) a.then in
    let at : IsHad Calls (let_go side number b) old (Ok c.value) new =
    subst (λ (s : Serial). IsHad Calls (let_go side number b) s (Ok c.value) new) a.first.1
    (subst (λ (s : Serial). IsHad Calls (let_go side number b) a.between (Ok c.value) s)
    (sym c.then.1) c.first) in
    record {
      handle = handle;
      handle_is = sym a.first.0;
      side_is = side_told outcome outcomes.Done new_side (put_node handle b side) c.then.0;
      away = let_go_by old new side number b c.value at;
    }

-- ---- beside the nodes

pub no_open : {P : Type 0} (n : ℕ) → 0 < n → n ≡ 0 → P
no_open n some none = absurd (omega (arith, some, none))

-- a node that is open is told of
pub open_told : (side : Side) (handle : Handle) → 0 < (at_node side handle).opens
    → is_told side.nodes handle ≡ true
open_told side handle opened = go (is_told side.nodes handle) refl where
  go : (b : Bool) → is_told side.nodes handle ≡ b → is_told side.nodes handle ≡ true
  go true is = is
  go false is = no_open (at_node side handle).opens opened
      (ap (λ (r : Beside). r.opens) (untold_row side.nodes handle is))

module _ (side : Side) (at : Handle) (opened : 0 < (at_node side at).opens) (b : Beside)
    (own : b.generation ≡ at.generation) where
  told : is_told side.nodes at ≡ true
  told = open_told side at opened

  pub open_here : beside_at (with_beside at b side.nodes) at ≡ b
  open_here = put_here side.nodes at b (told_slot side.nodes at told).0 own

  -- beside any other it is as it was
  pub open_there : (handle : Handle) → handle ≢ at → beside_at (with_beside at b side.nodes) handle
      ≡ at_node side handle
  open_there handle differ = go (place side.nodes at b (told_slot side.nodes at told).0 own handle)
    where
      stale : handle.ino ≡ at.ino → (t : Bool) → is_told side.nodes handle ≡ t
          → untold side.nodes handle.generation ≡ at_node side handle
      stale same false is = sym (untold_row side.nodes handle is)
      stale same true is = absurd (differ (one_told side.nodes handle at same is told))

      go : Place side.nodes at b handle → beside_at (with_beside at b side.nodes) handle
          ≡ at_node side handle
      go (Here same put) = absurd (differ same)
      go (Elsewhere other same) = same
      go (Stale same other is) = is ∙ stale same (is_told side.nodes handle) refl
