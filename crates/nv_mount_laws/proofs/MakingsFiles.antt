-- Requests that make nodes leave all files as they are.
use Rattle.std.proofs.Common.{◌≡◌, ◌∙◌, ◌≢◌, Bool, inl, inr, ℕ, List, Some, Result, Ok, Err, ap, refl, sym}
use Rattle.nv_base.specs.declared.fault.Fault.{Fault}
use Rattle.nv_base.specs.declared.node.Kind.{Kind}
use Rattle.nv_base.specs.declared.node.Kind.TheVariants as kinds
use Rattle.nv_base.specs.declared.numbers.Handle.{Handle}
use Rattle.nv_calls.specs.Refusals.{kind_of}
use Rattle.nv_calls.specs.declared.answer.Answer.{Answer}
use Rattle.nv_calls.specs.declared.call.Call.{Call}
use Rattle.nv_calls.specs.declared.call.Call.TheVariants as calls
use Rattle.nv_entry.specs.declared.node.NodeCopy.{NodeCopy}
use Rattle.nv_effects.proofs.Effects.{calls_have_effects}
use Rattle.nv_fuse.specs.declared.header.Header.{Header}
use Rattle.nv_mount_answers.specs.declared.kept.Time.{Time}
use Rattle.nv_mount_beside.specs.Inherited.{mode_in}
use Rattle.nv_mount_beside.specs.Names.{free_name, node_named, number_of}
use Rattle.nv_mount_beside.specs.declared.inherited.Owner.{Owner}
use Rattle.nv_mount_beside.specs.declared.refusal.Refusal.{Refusal}
use Rattle.nv_mounted.specs.Asks.{ask_handle, ask_shape}
use Rattle.nv_mounted.specs.Dialogues.{Asks, Dialogue, Ends, Grows, GrowsOr, IsHad, ◌>>=◌}
use Rattle.nv_mounted.specs.Makings.{make, make_owned, making, owner_made, permissions}
use Rattle.nv_mounted.specs.declared.side.Side.{Side}
use Rattle.nv_serial.specs.OneCall.{serial_call}
use Rattle.nv_serial.specs.Serial.{Serial, copies_now, told}
use Rattle.nv_mount_laws.specs.World.{CanStand, Calls}
use Rattle.nv_mount_laws.proofs.Effects.{kinds_differ}
use Rattle.nv_mount_laws.proofs.MakingsHidden.{Makes, made_by}
use Rattle.nv_mount_laws.proofs.Standing.{IsWell, stands_well}

-- each file stays
abbrev KeepsFiles : Serial → Serial → Type 0
KeepsFiles old new =
    (handle : Handle) (node : NodeCopy) → copies_now old handle ≡ Some node → node.kind ≡ kinds.File
    → copies_now new handle ≡ Some node

made_files : (old new : Serial) (kind : Kind) (dir : Handle) (name : List ℕ) (mode : ℕ)
    (made : Handle) → Makes old new kind dir name mode made → KeepsFiles old new
made_files old new kind dir name mode made makes handle node is file =
    let is_file : kind_of (copies_now old handle) ≡ Some kinds.File =
    ap kind_of is ∙ ap (λ (k : Kind). Some k) file in
    let not_dir : handle ≢ dir = (λ same. kinds_differ (copies_now old) dir handle makes.dir_is
    is_file (sym same)) in
    let not_made : handle ≢ made = (λ same. makes.fresh handle node is
    (ap (λ (h : Handle). h.ino) same)) in
    makes.same handle not_dir not_made ∙ is

-- a call that makes a node, or tells of one
abbrev IsMaking : Call → Type 0
IsMaking (calls.Stat of) = Unit {0}
IsMaking (calls.Create dir name mode) = Unit {0}
IsMaking (calls.Mkdir dir name mode) = Unit {0}
IsMaking other = ⊥

-- all calls of a dialogue are such
abbrev pub OnlyMakes : {A : Type 0} → Dialogue A → Type 0
OnlyMakes (Ends is_told) = Unit {0}
OnlyMakes (Grows rest) = OnlyMakes rest
OnlyMakes (GrowsOr refused rest) = OnlyMakes refused × OnlyMakes rest
OnlyMakes (Asks call rest) = IsMaking call
    × ((answer : Result Answer Fault) → OnlyMakes (rest answer))

made_call : (old new : Serial) (c : Call) (a : Answer) → IsWell old → IsMaking c
    → serial_call old 0 c ≡ told a new → KeepsFiles old new
made_call old new (calls.Stat of) a well making_so is =
    let same : new ≡ old =
    (calls_have_effects old new 0 (calls.Stat of) a refl is).1.same refl in
    λ handle node there file. ap (λ (s : Serial). copies_now s handle) same ∙ there
made_call old new (calls.Create dir name mode) a well making_so is =
    let has = calls_have_effects old new 0 (calls.Create dir name mode) a refl is in
    made_files old new kinds.File dir name mode has.0
    (made_by old new well kinds.File dir name mode has.0
    (is ∙ ap (λ (b : Answer). told b new) has.1.told))
made_call old new (calls.Mkdir dir name mode) a well making_so is =
    let has = calls_have_effects old new 0 (calls.Mkdir dir name mode) a refl is in
    made_files old new kinds.Dir dir name mode has.0
    (made_by old new well kinds.Dir dir name mode has.0
    (is ∙ ap (λ (b : Answer). told b new) has.1.told))
made_call old new other a well making_so is = absurd making_so

called : (old new : Serial) (c : Call) (result : Result Answer Fault) → CanStand old → IsMaking c
    → Calls old c result new → KeepsFiles old new
called old new c (Ok a) stands making_so call handle node is file =
    made_call old new c a (stands_well old stands) making_so call.answered handle node is file
called old new c (Err why) stands making_so call handle node is file =
    ap (λ (s : Serial). copies_now s handle) call.answered.1 ∙ is

-- FILES STAY where nodes are made
pub makes_stay : {A : Type 0} (d : Dialogue A) → OnlyMakes d → (old new : Serial)
    (end : Result A Refusal) → CanStand old → IsHad Calls d old end new → KeepsFiles old new
makes_stay (Ends is_told) only old new end stands had handle node is file =
    ap (λ (s : Serial). copies_now s handle) had.1 ∙ is
makes_stay (Grows rest) only old new end stands (inl had) handle node is file =
    ap (λ (s : Serial). copies_now s handle) had.1 ∙ is
makes_stay (Grows rest) only old new end stands (inr had) handle node is file =
    makes_stay rest only old new end stands had handle node is file
makes_stay (GrowsOr refused rest) only old new end stands (inl had) handle node is file =
    makes_stay refused only.0 old new end stands had handle node is file
makes_stay (GrowsOr refused rest) only old new end stands (inr had) handle node is file =
    makes_stay rest only.1 old new end stands had handle node is file
makes_stay (Asks call rest) only old new end stands had handle node is file =
    makes_stay (rest had.0) (only.1 had.0) had.1 new end had.2.stands had.3 handle node
    (called old had.1 call had.0 stands only.0 had.2 handle node is file) file

-- one behind the other
pub both_make : {A B : Type 0} (d : Dialogue A) (next : A → Dialogue B) → OnlyMakes d
    → ((a : A) → OnlyMakes (next a)) → OnlyMakes (d >>= next)
unfolding ◌>>=◌
both_make (Ends (Ok a)) next first then = then a
both_make (Ends (Err why)) next first then = tt
both_make (Grows rest) next first then = both_make rest next first then
both_make (GrowsOr refused rest) next first then =
    (both_make refused next first.0 then, both_make rest next first.1 then)
both_make (Asks call rest) next first then =
    (first.0, λ answer. both_make (rest answer) next (first.1 answer) then)

is_making : (kind : Kind) (dir : Handle) (name : List ℕ) (mode : ℕ)
    → IsMaking (making kind dir name mode)
is_making kinds.File dir name mode = tt
is_making kinds.Dir dir name mode = tt

-- a making makes nodes
owned_only : (side : Side) (now : Time) (dir : Handle) (owner : Owner) (kind : Kind) (mode : ℕ)
    (file : List ℕ) (opens : Bool)
    → OnlyMakes (make_owned side now dir owner kind mode file opens)
owned_only side now dir owner kind mode file opens =
    both_make (Grows (Ends (free_name dir file))) _ tt (λ name.
    both_make (ask_handle (making kind dir name (permissions mode))) _
    (is_making kind dir name (permissions mode), λ answer. tt) (λ handle.
    both_make (Ends (number_of handle)) _ tt (λ node. tt)))

pub make_only : (side : Side) (now : Time) (header : Header) (kind : Kind) (mode : ℕ)
    (file : List ℕ) (opens : Bool) → OnlyMakes (make side now header kind mode file opens)
make_only side now header kind mode file opens =
    both_make (Ends (node_named header.node)) _ tt (λ dir.
    both_make (ask_shape dir) _ (tt, λ answer. tt) (λ parent.
    owned_only side now dir (owner_made side dir parent.mode header) kind
    (mode_in parent.mode kind mode) file opens))
