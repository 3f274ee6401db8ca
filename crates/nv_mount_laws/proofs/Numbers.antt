-- A number that is told of a node names it.
use Rattle.std.proofs.Common.{◌≡◌, ◌∙◌, ◌^◌, ◌<◌, ℕ, Bool, true, false, List, Option, Some, None, Ok, Err, ap, refl, sym}
use Rattle.std.specs.Prelude.{if◌then◌else◌, nat_lt}
use Rattle.nv_base.specs.declared.numbers.Handle.{Handle}
use Rattle.nv_calls.specs.Refusals.{lookup}
use Rattle.nv_calls.specs.declared.call.Call.TheVariants as calls
use Rattle.nv_fuse.specs.declared.attributes.Attributes.{Attributes}
use Rattle.nv_fuse.specs.declared.errno.Errno.TheVariants as errno
use Rattle.nv_mount_answers.specs.Nodes.{node_of}
use Rattle.nv_mount_answers.specs.declared.kept.Kept.{Kept}
use Rattle.nv_mount_answers.specs.declared.kept.Shape.{Shape}
use Rattle.nv_mount_answers.proofs.OneToOne.{one_to_one}
use Rattle.nv_mount_beside.specs.Names.{below_snapshots, checked_name, node_named, number_of, or_refused, refused}
use Rattle.nv_mount_beside.specs.Shown.{attributes_if, attributes_told, entry_of}
use Rattle.nv_mount_beside.specs.declared.outcome.Outcome.{Outcome}
use Rattle.nv_mount_beside.specs.declared.outcome.Outcome.TheVariants as outcomes
use Rattle.nv_mount_beside.specs.declared.refusal.Refusal.{Refusal}
use Rattle.nv_mounted.specs.Asks.{ask_handle, ask_shape}
use Rattle.nv_mounted.specs.Dialogues.{Ends, Grows, IsHad}
use Rattle.nv_mounted.specs.Side.{at_node}
use Rattle.nv_mounted.specs.Talks.{ask_attributes, get_attributes, lookup_name}
use Rattle.nv_mounted.specs.declared.side.Side.{Side}
use Rattle.nv_serial.specs.Serial.{Serial, copies_now}
use Rattle.nv_mount_laws.specs.Numbers.{TellsFound, TellsItself, number_told}
use Rattle.nv_mount_laws.specs.World.{Calls}
use Rattle.nv_mount_laws.proofs.Asked.{grown, looked_up, shape_asked}
use Rattle.nv_mount_laws.proofs.Dialogues.{AreSame, went_on}
use Rattle.nv_mount_laws.proofs.HiddenNames.{named_handle}
use Rattle.nv_mount_laws.proofs.OtherRequests.{checked_is}

no_value : {A P : Type 0} {a : A} {why : Refusal} → Err why ≡ Ok a → P
no_value e = cc

some_is : {A : Type 0} {a b : A} → Some a ≡ Some b → a ≡ b
some_is e = cc

-- the number of a node is the one that it has
number_is : (found : Option ℕ) (number : ℕ) → below_snapshots found ≡ Ok number
    → found ≡ Some number
number_is None number e = no_value e
number_is (Some node) number e = go (nat_lt node 9223372036854775808) e where
  go : (b : Bool) → (if b then Ok node else refused errno.InputOutput) ≡ Ok number
      → Some node ≡ Some number
  go true h = let same : node ≡ number = cc in ap (λ (n : ℕ). Some n) same
  go false h = no_value h

-- A NUMBER OF A NODE names it
pub named_by : (handle : Handle) (number : ℕ) → number_of handle ≡ Ok number
    → node_named number ≡ Ok handle
named_by handle number is =
    ap (or_refused errno.Stale)
    (one_to_one.back handle number (number_is (node_of handle) number is))

-- attributes have the number that they are told with
inode_told : (number : ℕ) (shape : Shape) (kept : Kept) (nameless : Bool)
    → (attributes_told number shape kept nameless).inode ≡ number
inode_told number shape kept true = refl
inode_told number shape kept false = refl

inode_is : (number : ℕ) (shape : Shape) (kept : Kept) (nameless : Bool) (attributes : Attributes)
    → attributes_if number shape kept nameless ≡ Ok attributes → attributes.inode ≡ number
inode_is number shape kept nameless attributes e = go (nat_lt 1099511627776 shape.size) e where
  go : (b : Bool)
      → (if b then refused errno.InputOutput else Ok (attributes_told number shape kept nameless))
      ≡ Ok attributes
      → attributes.inode ≡ number
  go true h = no_value h
  go false h =
      let same : attributes_told number shape kept nameless ≡ attributes = cc in
      ap (λ (a : Attributes). a.inode) (sym same) ∙ inode_told number shape kept nameless

-- attributes that were asked for have the node's number
asked_number : (side : Side) (handle : Handle) (s t : Serial) (attributes : Attributes)
    → IsHad Calls (ask_attributes side handle) s (Ok attributes) t
    → (number_of handle ≡ Ok attributes.inode) × (t ≡ s)
asked_number side handle s t attributes had =
    let a = went_on Calls _ (Ends (number_of handle)) s t attributes had in
    let b = went_on Calls _ (ask_shape handle) a.between t attributes a.then in
    let beside = at_node side handle in
    let inode : attributes.inode ≡ a.value =
    inode_is a.value b.value beside.kept beside.nameless attributes (sym b.then.0) in (
      sym a.first.0 ∙ ap (λ (n : ℕ). Ok n) (sym inode),
      b.then.1 ∙ (shape_asked a.between b.between handle b.value b.first).1 ∙ a.first.1,
    )

-- one outcome tells one number
told_of : (outcome other : Outcome) → AreSame {A = Outcome} (Ok outcome) (Ok other)
    → number_told outcome ≡ number_told other
told_of outcome other is = let same : outcome ≡ other = cc in ap number_told same

pub lookups_tell : (side : Side) (dir : Handle) (name : List ℕ)
    → TellsFound (lookup_name side dir name) dir name
lookups_tell side dir name old new outcome had =
    let a = went_on Calls _ (Grows (Ends (checked_name name))) old new outcome had in
    let so = grown (checked_name name) old a.between a.value a.first in
    let b = went_on Calls _ (ask_handle (calls.Lookup dir a.value)) a.between new outcome a.then in
    let found = looked_up a.between b.between dir a.value b.value b.first in
    let c = went_on Calls _ (ask_attributes side b.value) b.between new outcome b.then in
    let number = asked_number side b.value b.between c.between c.value c.first in
    let at_new : new ≡ a.between = c.then.1 ∙ number.1 ∙ found.1 in
    record {
      node = b.value;
      bound = ap (λ (s : Serial). lookup (copies_now s) dir name) at_new
          ∙ ap (lookup (copies_now a.between) dir) (checked_is name a.value so.0) ∙ found.0;
      number = c.value.inode;
      is_told = told_of outcome (outcomes.Found (entry_of c.value)) c.then.0;
      is_named = named_by b.value c.value.inode number.0;
    }

pub attributes_tell : (side : Side) (number : ℕ) → number < 2 ^ 64
    → TellsItself (get_attributes side number) number
attributes_tell side number small old new outcome had =
    let a = went_on Calls _ (Ends (node_named number)) old new outcome had in
    let b = went_on Calls _ (ask_attributes side a.value) a.between new outcome a.then in
    let asked = asked_number side a.value a.between b.between b.value b.first in
    let known : node_of a.value ≡ Some number =
    one_to_one.forth a.value number small (named_handle number a.value (sym a.first.0)) in
    let same : b.value.inode ≡ number =
    some_is (sym (number_is (node_of a.value) b.value.inode asked.0) ∙ known) in
    told_of outcome (outcomes.Node b.value) b.then.0 ∙ ap (λ (n : ℕ). Some n) same
