-- What a rename found: what it moves, and what is in its way.
use Rattle.std.proofs.Common.{◌≡◌, ◌∙◌, ◌<◌, ◌⊎◌, inl, inr, ℕ, ◌==◌, Bool, true, false, List, Option, Some, None, Ok, Err, arith, refl, subst, sym}
use Rattle.std.specs.Prelude.{if◌then◌else◌, nat_lt}
use Rattle.std.proofs.lemmas.Bool.{ltb-false, ltb-true}
use Rattle.nv_base.specs.Memory.{out_of_memory}
use Rattle.nv_base.specs.declared.fault.Fault.TheVariants as faults
use Rattle.nv_base.specs.declared.node.Kind.{Kind}
use Rattle.nv_base.specs.declared.node.Kind.TheVariants.{File, Dir}
use Rattle.nv_base.specs.declared.numbers.Handle.{Handle}
use Rattle.nv_calls.specs.Plain.{same_handle}
use Rattle.nv_calls.specs.Refusals.{kind_of, lookup}
use Rattle.nv_calls.specs.declared.answer.Answer.TheVariants as answers
use Rattle.nv_calls.specs.declared.call.Call.TheVariants as calls
use Rattle.nv_entry.specs.declared.node.NodeCopy.{NodeCopy}
use Rattle.nv_fuse.specs.declared.errno.Errno.TheVariants as errno
use Rattle.nv_effects.proofs.Visits.{lookup_found, lookup_missing}
use Rattle.nv_mount_beside.specs.Names.{refused}
use Rattle.nv_mount_beside.specs.declared.refusal.Refusal.{Refusal}
use Rattle.nv_mounted.specs.Asks.{ask, ask_shape}
use Rattle.nv_mounted.specs.Dialogues.{Ends, IsHad, ◌>>=◌}
use Rattle.nv_mounted.specs.Renames.{ask_way, there_told, way_over, way_past}
use Rattle.nv_mounted.specs.Side.{at_node}
use Rattle.nv_mounted.specs.declared.rename.Way.{Way}
use Rattle.nv_mounted.specs.declared.rename.Way.TheVariants as ways
use Rattle.nv_mounted.specs.declared.side.Side.{Side}
use Rattle.nv_serial.specs.OneCall.{serial_call}
use Rattle.nv_serial.specs.Serial.{Serial, copies_now, refused as refusing}
use Rattle.nv_mount_laws.specs.World.{Calls}
use Rattle.nv_mount_laws.proofs.Asked.{shape_asked}
use Rattle.nv_mount_laws.proofs.Dialogues.{went_on}
use Rattle.nv_mount_laws.proofs.HiddenKept.{there_by}
use Rattle.nv_mount_laws.proofs.Released.{no_open}
use Rattle.nv_mount_laws.proofs.RefusedRenames.{ask_there, crosses, past_same, way_if}

-- a file that nobody has opened
pub record IsClosedFile (s : Serial) (side : Side) (handle : Handle) : Type 0 where
  pub file : kind_of (copies_now s handle) ≡ Some File
  pub closed : 0 < (at_node side handle).opens → ⊥

-- an open file has the name
pub record IsOpenThere (s : Serial) (side : Side) (dir : Handle) (name : List ℕ)
    (handle : Handle) : Type 0 where
  pub bound : lookup (copies_now s) dir name ≡ Some handle
  pub file : kind_of (copies_now s handle) ≡ Some File
  pub opened : 0 < (at_node side handle).opens

-- the new name is free, or a file's that nobody has opened; or it is an open file's
abbrev pub IsWay : Serial → Side → Handle → List ℕ → Way → Type 0
IsWay s side to new ways.Free =
    (there : Handle) → lookup (copies_now s) to new ≡ Some there → IsClosedFile s side there
IsWay s side to new (ways.Open there) = IsOpenThere s side to new there
IsWay s side to new other = Unit {0}

no_refusal : {A P : Type 0} {a : A} {why : Refusal} → Ok a ≡ Err why → P
no_refusal e = cc

no_some : {A P : Type 0} {a : A} → None ≡ Some a → P
no_some e = cc

some_is : {A : Type 0} {a b : A} → Some a ≡ Some b → a ≡ b
some_is e = cc

no_step : {P : Type 0} → true ≡ false → P
no_step e = cc

-- what a look-up tells that there is, or that there is nothing
told_there : (s t : Serial) (to : Handle) (new : List ℕ) (found : Option Handle)
    → IsHad Calls (ask (calls.Lookup to new) there_told) s (Ok found) t
    → (lookup (copies_now s) to new ≡ found) × (t ≡ s)
told_there s t to new found (Ok (answers.Made made), between, called, (told_so, same)) =
    let is : found ≡ Some made = cc in
    let so = lookup_found s between 0 to new made called.answered in
    (so.0 ∙ sym is, same ∙ so.1)
told_there s t to new found (Ok other, between, called, (told_so, same)) = no_refusal told_so
told_there s t to new found (Err faults.Missing, between, called, (told_so, same)) =
    let is : found ≡ None = cc in
    (by called.answered.0 ∙ sym is, same ∙ called.answered.1) where
      by : (serial_call s 0 (calls.Lookup to new) ≡ refusing faults.Missing s)
          ⊎ ((true ≡ false) × (faults.Missing ≡ out_of_memory))
          → lookup (copies_now s) to new ≡ None
      by (inl refused_so) = lookup_missing s s 0 to new refused_so
      by (inr (grows, starved)) = no_step grows
told_there s t to new found (Err why, between, called, (told_so, same)) = no_refusal told_so

module _ (side : Side) (to : Handle) (new : List ℕ) where
  -- a file over a file
  over_file : (s : Serial) (there : Handle) (way : Way) (b : Bool)
      → nat_lt 0 (at_node side there).opens ≡ b
      → lookup (copies_now s) to new ≡ Some there → kind_of (copies_now s there) ≡ Some File
      → Ok way ≡ way_if b there → IsWay s side to new way
  over_file s there way true is bound file e =
      let same : ways.Open there ≡ way = cc in
      subst (λ (w : Way). IsWay s side to new w) same (record {
        bound = bound;
        file = file;
        opened = ltb-true 0 (at_node side there).opens is;
      })
  over_file s there way false is bound file e =
      let same : ways.Free ≡ way = cc in
      subst (λ (w : Way). IsWay s side to new w) same (λ other at.
      subst (λ (h : Handle). IsClosedFile s side h) (some_is (sym bound ∙ at)) (record {
        file = file;
        closed = λ opened. no_open (at_node side there).opens opened
            (let few = ltb-false 0 (at_node side there).opens is in omega (arith, few));
      }))

  -- a node of one kind over one of another
  over_node : (s : Serial) (there : Handle) (way : Way) (kind other : Kind)
      → lookup (copies_now s) to new ≡ Some there → kind_of (copies_now s there) ≡ Some other
      → Ok way ≡ way_over side there kind other → IsWay s side to new way
  over_node s there way File Dir bound is e = no_refusal e
  over_node s there way Dir File bound is e = no_refusal e
  over_node s there way Dir Dir bound is e =
      let same : ways.Directory ≡ way = cc in subst (λ (w : Way). IsWay s side to new w) same tt
  over_node s there way File File bound is e =
      over_file s there way (nat_lt 0 (at_node side there).opens) refl bound is e

  past : (s t : Serial) (moved : Handle) (kind : Kind) (flags : ℕ) (found : Option Handle)
      (way : Way) → lookup (copies_now s) to new ≡ found
      → IsHad Calls (way_past side moved kind flags found) s (Ok way) t → IsWay s side to new way
  past s t moved kind flags None way none had =
      let same : ways.Free ≡ way = (let e = had.0 in cc) in
      subst (λ (w : Way). IsWay s side to new w) same (λ there is. no_some (sym none ∙ is))
  past s t moved kind flags (Some there) way bound had = first (flags == 1) had where
    second : (b : Bool)
        → IsHad Calls (if b then Ends (Ok ways.Same) else ask_shape there >>=
        λ other. Ends (way_over side there kind other.kind)) s (Ok way) t
        → IsWay s side to new way
    second true h =
        let same : ways.Same ≡ way = (let e = h.0 in cc) in
        subst (λ (w : Way). IsWay s side to new w) same tt
    second false h =
        let on = went_on Calls (λ other. Ends (way_over side there kind other.kind))
        (ask_shape there) s t way h in
        over_node s there way kind on.value.kind bound
        (shape_asked s on.between there on.value on.first).0 on.then.0

    first : (b : Bool)
        → IsHad Calls (if b then Ends (refused errno.Exists) else past_same side moved there kind) s
        (Ok way) t
        → IsWay s side to new way
    first true h = no_refusal h.0
    first false h = second (same_handle there moved) h

  -- WHAT IS IN THE WAY of a rename
  pub way_found : (s t : Serial) (moved from : Handle) (flags : ℕ) (way : Way)
      → IsHad Calls (ask_way side moved from to new flags) s (Ok way) t
      → IsWay s side to new way
  way_found s t moved from flags way had =
      let b = went_on Calls _ (ask_shape moved) s t way had in
      let shaped = shape_asked s b.between moved b.value b.first in
      subst (λ (u : Serial). IsWay u side to new way) shaped.1
      (go b.between b.value.kind (crosses from to b.value.kind) b.then) where
        go : (u : Serial) (kind : Kind) (b : Bool)
            → IsHad Calls (if b then Ends (refused errno.CrossDevice) else ask_there side to new
            moved kind flags) u (Ok way) t
            → IsWay u side to new way
        go u kind true h = no_refusal h.0
        go u kind false h =
            let c = went_on Calls (λ there. way_past side moved kind flags there)
            (ask (calls.Lookup to new) there_told) u t way h in
            let told_so = told_there u c.between to new c.value c.first in
            past u t moved kind flags c.value way told_so.0
            (subst (λ (v : Serial). IsHad Calls (way_past side moved kind flags c.value) v (Ok way)
            t) told_so.1 c.then)

  -- what moves is there
  pub moved_there : (s t : Serial) (moved from : Handle) (flags : ℕ) (way : Way)
      → IsHad Calls (ask_way side moved from to new flags) s (Ok way) t
      → (n : NodeCopy) × (copies_now s moved ≡ Some n)
  moved_there s t moved from flags way had =
      let b = went_on Calls _ (ask_shape moved) s t way had in
      there_by b.value.kind (copies_now s moved)
      (shape_asked s b.between moved b.value b.first).0
