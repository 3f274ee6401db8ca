-- What a new snapshot tells of a node is what the mount told of it.
use Rattle.std.proofs.Common.{◌≡◌, ◌∙◌, ◌+◌, ◌-◌, ◌*◌, ◌/◌, ◌%◌, ◌<◌, ◌++◌, ap, arith, refl, subst, sym, ℕ, Bool, true, false, List, [], ◌∷◌, length, Option, Some, None, Result, Ok, Err}
use Rattle.std.specs.Prelude.{◌&&◌, ◌==◌, if◌then◌else◌, nat_lt, slice_index_or}
use Rattle.std.specs.Option.{option_map}
use Rattle.std.proofs.lemmas.Bool.{ltb-true, ne_eqb}
use Rattle.std.proofs.lemmas.Nat.{div-mul-add, mod-mul-add}
use Rattle.std.proofs.Math.Seq.{get_or-append_seam}
use Rattle.nv_base.specs.declared.fault.Fault.{Fault}
use Rattle.nv_base.specs.declared.node.Kind.{Kind}
use Rattle.nv_base.specs.declared.node.Kind.TheVariants as kinds
use Rattle.nv_base.specs.declared.numbers.Handle.{Handle}
use Rattle.nv_calls.specs.Plain.{PlainNode}
use Rattle.nv_calls.specs.calls.Stat.{stat_answer}
use Rattle.nv_calls.specs.declared.answer.Answer.{Answer}
use Rattle.nv_calls.specs.declared.answer.Answer.TheVariants as answers
use Rattle.nv_calls.specs.declared.call.Call.TheVariants as calls
use Rattle.nv_effects.proofs.Effects.{calls_have_effects}
use Rattle.nv_entry.specs.declared.node.NodeCopy.{NodeCopy}
use Rattle.nv_fuse.specs.declared.attributes.Attributes.{Attributes}
use Rattle.nv_fuse.specs.declared.errno.Errno.TheVariants as errno
use Rattle.nv_mount_answers.specs.Kept.{attributes_of, kind_bits}
use Rattle.nv_mount_answers.specs.declared.kept.Kept.{Kept}
use Rattle.nv_mount_answers.specs.declared.kept.Shape.{Shape}
use Rattle.nv_mount_beside.specs.Names.{number_of, refused}
use Rattle.nv_mount_beside.specs.Shown.{attributes_if, attributes_told, shape_in_snapshot, without_set_id}
use Rattle.nv_mount_beside.specs.declared.refusal.Refusal.{Refusal}
use Rattle.nv_mounted.specs.Asks.{ask_shape, shape_told}
use Rattle.nv_mounted.specs.Dialogues.{Ends, IsHad, and_then}
use Rattle.nv_mounted.specs.Side.{at_node}
use Rattle.nv_mounted.specs.Snapshots.{FoundNode, attributes_in, node_at, node_in, node_of, number_in, snapshot_attributes, snapshots_attributes, with_snapshot}
use Rattle.nv_mounted.specs.Talks.{ask_attributes}
use Rattle.nv_mounted.specs.declared.side.Side.{Side}
use Rattle.nv_mounted.specs.declared.snapshots.Snapshot.{Snapshot}
use Rattle.nv_serial.specs.Serial.{Serial, copies_now}
use Rattle.nv_mount_laws.specs.Snapshots.{TellsAsThen, in_snapshot}
use Rattle.nv_mount_laws.specs.World.{Calls}
use Rattle.nv_mount_laws.proofs.Asked.{stat_is}
use Rattle.nv_mount_laws.proofs.Dialogues.{went_on}
use Rattle.nv_mount_laws.proofs.SnapshotKept.{IsKeptOf, found_with}
use Rattle.nv_mount_laws.proofs.SnapshotMade.{IsMade, snapshot_made}

no_value : {A P : Type 0} {a : A} {why : Refusal} → Ok a ≡ Err why → P
no_value e = cc

one_value : {A : Type 0} {a b : A} → (let r : Result A Refusal = Ok a in r) ≡ Ok b → a ≡ b
one_value e = cc

-- ---- numbers

both_true : (a b : Bool) → (a && b) ≡ true → (a ≡ true) × (b ≡ true)
both_true true true e = (refl, refl)
both_true true false e = let no : ⊥ = cc in absurd no
both_true false b e = let no : ⊥ = cc in absurd no

-- a number is that of a place in a snapshot
record IsPlace (snapshot at number : ℕ) : Type 0 where
  pub is : number ≡ 9223372036854775808 + snapshot * 4294967296 + at
  pub below : at < 4294967296

place_is : (snapshot at number : ℕ) → number_in snapshot at ≡ Ok number → IsPlace snapshot at number
place_is snapshot at number e = go (nat_lt snapshot 2147483648 && nat_lt at 4294967296) refl e where
  go : (b : Bool) → (nat_lt snapshot 2147483648 && nat_lt at 4294967296) ≡ b
      → (if b then Ok (9223372036854775808 + snapshot * 4294967296 + at) else
      refused errno.InputOutput) ≡ Ok number
      → IsPlace snapshot at number
  go true test h = record {
    is = sym (one_value h);
    below = ltb-true at 4294967296
        (both_true (nat_lt snapshot 2147483648) (nat_lt at 4294967296) test).1;
  }
  go false test h = no_value (sym h)

-- the node with a number stands at its place in the newest snapshot
newest_node : (rows : List (Option Snapshot)) (new : Snapshot) (at number : ℕ) (found : FoundNode)
    → number_in (length rows) at ≡ Ok number
    → node_in (rows ++ Some new ∷ []) number ≡ Ok found
    → node_at (length rows) at new.all ≡ Ok found
newest_node rows new at number found numbered is =
    let place = place_is (length rows) at number numbered in
    let behind : number - 9223372036854775808 ≡ length rows * 4294967296 + at =
    omega (arith, place.is) in
    let snapshot : (number - 9223372036854775808) / 4294967296 ≡ length rows =
    ap (λ n. n / 4294967296) behind ∙ div-mul-add (length rows) 4294967296 at place.below in
    let here : (number - 9223372036854775808) % 4294967296 ≡ at =
    ap (λ n. n % 4294967296) behind ∙ mod-mul-add (length rows) 4294967296 at place.below in
    let row : slice_index_or (rows ++ Some new ∷ []) (length rows) None ≡ Some new =
    get_or-append_seam rows (Some new) [] None in
    sym (ap (λ n. node_of n ((number - 9223372036854775808) % 4294967296)
    (slice_index_or (rows ++ Some new ∷ []) n None)) snapshot
    ∙ ap (λ n. node_of (length rows) n (slice_index_or (rows ++ Some new ∷ []) (length rows) None)) here
    ∙ ap (node_of (length rows) at) row) ∙ is

-- ---- attributes

abbrev shape_of : NodeCopy → Shape
shape_of node = record { kind = node.kind; mode = node.mode; size = node.size }

stat_shape : (plain : Option PlainNode) (node : NodeCopy) (shape : Shape) (commit : ℕ)
    → option_map (λ (p : PlainNode). p.node) plain ≡ Some node
    → answers.Stat shape.kind shape.mode shape.size commit ≡ stat_answer plain
    → shape ≡ shape_of node
stat_shape None node shape commit is e = cc
stat_shape (Some p) node shape commit is e =
    let same : p.node ≡ node = cc in
    one_value (ap (λ (a : Answer). shape_told (Ok a)) e) ∙ ap shape_of same

-- the shape that was asked for is that of the node
shape_is : (old new : Serial) (handle : Handle) (node : NodeCopy) (shape : Shape)
    → copies_now old handle ≡ Some node → IsHad Calls (ask_shape handle) old (Ok shape) new
    → shape ≡ shape_of node
shape_is old new handle node shape there (result, between, called, (is, same)) =
    let stat = stat_is result shape (sym is) in
    let answer : Answer = answers.Stat shape.kind shape.mode shape.size stat.0 in
    let answered : Calls old (calls.Stat handle) (Ok answer) between =
    subst (λ (r : Result Answer Fault). Calls old (calls.Stat handle) r between) stat.1 called in
    let has = calls_have_effects old between 0 (calls.Stat handle) answer refl answered.answered in
    stat_shape (old.plain.nodes handle) node shape stat.0 there has.1.told

-- the bits of a kind stay
kind_stays : (kind : Kind) (mode : ℕ)
    → kind_bits kind + without_set_id mode ≡ without_set_id (kind_bits kind + mode)
kind_stays kinds.Dir mode = omega arith
kind_stays kinds.File mode = omega arith

told_in : (number node : ℕ) (shape : Shape) (kept : Kept) (nameless : Bool) (told : Attributes)
    → Ok told ≡ attributes_if node shape kept nameless
    → attributes_if number (shape_in_snapshot shape) kept false ≡ Ok (in_snapshot number told)
told_in number node shape kept nameless told e = go (nat_lt 1099511627776 shape.size) e where
  same : (nameless : Bool) → attributes_of number (shape_in_snapshot shape) kept
      ≡ in_snapshot number (attributes_told node shape kept nameless)
  same true =
      ap (λ mode. record (attributes_of number shape kept) { mode = mode })
      (kind_stays shape.kind shape.mode)
  same false =
      ap (λ mode. record (attributes_of number shape kept) { mode = mode })
      (kind_stays shape.kind shape.mode)

  go : (b : Bool)
      → Ok told ≡ (if b then refused errno.InputOutput else
      Ok (attributes_told node shape kept nameless))
      → (if b then refused errno.InputOutput else
      Ok (attributes_told number (shape_in_snapshot shape) kept false))
      ≡ Ok (in_snapshot number told)
  go true h = no_value h
  go false h =
      ap (λ (a : Attributes). Ok a)
      (same nameless ∙ ap (in_snapshot number) (sym (one_value h)))

-- ---- the law

-- what a node of a snapshot tells, by what was kept of it
kept_tells : (old later : Serial) (side : Side) (handle : Handle) (number : ℕ) (found : FoundNode)
    (told : Attributes) → copies_now old handle ≡ Some found.node.node
    → found.kept ≡ (at_node side handle).kept
    → IsHad Calls (ask_attributes side handle) old (Ok told) later
    → attributes_in number found ≡ Ok (in_snapshot number told)
kept_tells old later side handle number found told there kept had =
    let beside = at_node side handle in
    let a = went_on Calls _ (Ends (number_of handle)) old later told had in
    let b = went_on Calls _ (ask_shape handle) a.between later told a.then in
    let asked = subst (λ (s : Serial). IsHad Calls (ask_shape handle) s (Ok b.value) b.between)
    a.first.1 b.first in
    let shape = shape_is old b.between handle found.node.node b.value there asked in
    ap (λ (k : Kept). attributes_if number (shape_in_snapshot (shape_of found.node.node)) k false) kept
    ∙ told_in number a.value (shape_of found.node.node) beside.kept beside.nameless told
    (b.then.0 ∙ ap (λ (s : Shape). attributes_if a.value s beside.kept beside.nameless) shape)

not_snapshots : (snapshot at number : ℕ) → IsPlace snapshot at number → (number == 2) ≡ false
not_snapshots snapshot at number place = ne_eqb number 2 (λ same. omega (arith, place.is, same))

pub tells_as_then : (side : Side) (name : List ℕ) → TellsAsThen side name
tells_as_then side name old new new_side outcome stands does at number found numbered is handle leads
    told later had =
    let made = snapshot_made side new_side name old new outcome stands does in
    let row : Snapshot = record { name = made.name; epoch = made.epoch; all = made.all } in
    let here = newest_node side.snapshots row at number found numbered
    (sym (ap (λ rows. node_in rows number) made.rows) ∙ is) in
    let R = IsKeptOf (copies_now old) side.nodes in
    let known = found_with R (length side.snapshots) at at made.all.tree made.all.kept found
    made.each here handle leads in
    let tells = kept_tells old later side handle number found told known.0 known.1 had in
    let other = not_snapshots (length side.snapshots) at number
    (place_is (length side.snapshots) at number numbered) in
    rw (other, is) tells
