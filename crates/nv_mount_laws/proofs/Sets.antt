-- Attributes that are set: hidden files stay hidden, and a refused request has changed at most mode
-- and size of its node.
use Rattle.std.proofs.Common.{◌≡◌, ◌∙◌, ◌⊎◌, inl, inr, ℕ, Bool, true, false, Some, Result, Ok, Err, length, refl, subst, sym}
use Rattle.std.specs.Prelude.{◌≤◌, if◌then◌else◌}
use Rattle.nv_base.specs.declared.fault.Fault.{Fault}
use Rattle.nv_base.specs.declared.numbers.Handle.{Handle}
use Rattle.nv_calls.specs.declared.answer.Answer.{Answer}
use Rattle.nv_calls.specs.declared.call.Call.TheVariants as calls
use Rattle.nv_entry.specs.declared.node.NodeCopy.{NodeCopy}
use Rattle.nv_fuse.specs.declared.operation.SetAttributes.{SetAttributes}
use Rattle.nv_mount_answers.specs.Kept.{kept_after}
use Rattle.nv_mount_answers.specs.declared.kept.Shape.{Shape}
use Rattle.nv_mount_answers.specs.declared.kept.Time.{Time}
use Rattle.nv_mount_beside.specs.Beside.{changed}
use Rattle.nv_mount_beside.specs.Names.{node_named}
use Rattle.nv_mount_beside.specs.Shown.{attributes_if}
use Rattle.nv_mount_beside.specs.declared.beside.Beside.{Beside}
use Rattle.nv_mount_beside.specs.declared.outcome.Outcome.{Outcome}
use Rattle.nv_mount_beside.specs.declared.outcome.Outcome.TheVariants as outcomes
use Rattle.nv_mounted.specs.Asks.{ask_done, ask_shape, faulted}
use Rattle.nv_mounted.specs.Dialogues.{Asks, Dialogue, Ends, IsHad, ◌>>=◌}
use Rattle.nv_mounted.specs.Makings.{permissions}
use Rattle.nv_mounted.specs.Sets.{beside_set, beside_sized, set_attributes, set_mode, set_size, sets_mode, sets_node, sets_size, sized_or_back, touched_set}
use Rattle.nv_mounted.specs.Side.{at_node, put_node, touched}
use Rattle.nv_mounted.specs.declared.side.Side.{Side}
use Rattle.nv_serial.specs.Serial.{Serial, copies_now}
use Rattle.nv_mount_laws.specs.Hidden.{AreHidden, KeepsHidden}
use Rattle.nv_mount_laws.specs.Open.{LeavesOpens, LeavesOtherFiles}
use Rattle.nv_mount_laws.specs.Refused.{IsPartlySet, RefusedChanges}
use Rattle.nv_mount_laws.specs.World.{CanStand, Calls}
use Rattle.nv_mount_laws.proofs.Asked.{shape_asked}
use Rattle.nv_mount_laws.proofs.Contents.{KeepsOthers, OnlyOf, both_of, chosen_of, flags_count, names_hidden, only_keeps, others_stay}
use Rattle.nv_mount_laws.proofs.Dialogues.{GoesOn, Stops, parts, side_told, went_on}
use Rattle.nv_mount_laws.proofs.Flags.{KeepsFlags, flags_twice, put_keeps, same_flags, touched_keeps}
use Rattle.nv_mount_laws.proofs.HiddenKept.{there_by}
use Rattle.nv_mount_laws.proofs.Rows.{beside_generation}
use Rattle.nv_mount_laws.proofs.Standing.{IsWell, stands_well}

mode_of : (handle : Handle) (set : SetAttributes) → OnlyOf handle (set_mode handle set)
mode_of handle set =
    chosen_of handle (sets_mode set) (ask_done (calls.Mode handle (permissions set.mode)))
    (Ends (Ok tt)) (refl, λ answer. tt) tt

back_of : (handle : Handle) (set : SetAttributes) (mode : ℕ) (answer : Result Answer Fault)
    → OnlyOf handle (sized_or_back handle set mode answer)
back_of handle set mode (Ok answer) = tt
back_of handle set mode (Err why) =
    chosen_of handle (sets_mode set) (Asks (calls.Mode handle mode) (λ back. Ends (faulted why)))
    (Ends (faulted why)) (refl, λ back. tt) tt

size_of : (handle : Handle) (set : SetAttributes) (mode : ℕ)
    → OnlyOf handle (set_size handle set mode)
size_of handle set mode =
    chosen_of handle (sets_size set) (Asks (calls.Size handle set.size)
    (sized_or_back handle set mode)) (Ends (Ok tt))
    (refl, λ answer. back_of handle set mode answer) tt

module _ (side : Side) (now : Time) (number : ℕ) (set : SetAttributes) where
  -- what is told and kept in the end
  abbrev tells : Handle → Shape → Dialogue (Outcome × Side)
  tells handle shape =
      let beside = beside_set now set (at_node side handle) in
      Ends (attributes_if number shape beside.kept beside.nameless) >>= λ attributes.
      Ends (Ok (
        outcomes.Node attributes,
        put_node handle beside
            (touched_set now handle set side),
      ))

  abbrev sizes : Handle → ℕ → Dialogue (Outcome × Side)
  sizes handle mode = set_size handle set mode >>= λ sized. ask_shape handle >>= tells handle

  abbrev sets : Handle → Dialogue (Outcome × Side)
  sets handle = ask_shape handle >>= λ before. set_mode handle set >>=
      λ moded. sizes handle before.mode

  tells_of : (handle : Handle) (shape : Shape) → OnlyOf handle (tells handle shape)
  tells_of handle shape =
      let beside = beside_set now set (at_node side handle) in
      both_of handle (Ends (attributes_if number shape beside.kept beside.nameless)) _ tt
      (λ attributes. tt)

  sets_of : (handle : Handle) → OnlyOf handle (sets handle)
  sets_of handle =
      both_of handle (ask_shape handle) (λ before. set_mode handle set >>=
      λ moded. sizes handle before.mode) (tt, λ answer. tt) (λ before.
      both_of handle (set_mode handle set) (λ moded. sizes handle before.mode) (mode_of handle set)
      (λ moded.
      both_of handle (set_size handle set before.mode) (λ sized. ask_shape handle >>= tells handle)
      (size_of handle set before.mode) (λ sized.
      both_of handle (ask_shape handle) (tells handle) (tt, λ answer. tt)
      (λ shape. tells_of handle shape))))

  -- beside the node it says the same of opens and of names
  sized_flags : (s : Serial) (well : IsWell s) → length s.slots ≤ length side.nodes.rows
      → (handle : Handle) (node : NodeCopy)
      → copies_now s handle ≡ Some node → KeepsFlags s side (touched_set now handle set side)
  sized_flags s well rows handle node there = go (sets_node set) where
    go : (b : Bool) → KeepsFlags s side (if b then touched now handle side else side)
    go true = touched_keeps s well side rows now handle node there
    go false = same_flags s side

  beside_same : (b : Beside) → ((beside_set now set b).generation ≡ b.generation)
      × ((beside_set now set b).opens ≡ b.opens)
      × ((beside_set now set b).nameless ≡ b.nameless)
  beside_same b = go (sets_node set) where
    of : Bool → Beside
    of t = record (if t then changed now b else b) {
      kept = kept_after now set (beside_sized now set b).kept;
    }

    go : (t : Bool) → ((of t).generation ≡ b.generation) × ((of t).opens ≡ b.opens)
        × ((of t).nameless ≡ b.nameless)
    go true = (refl, refl, refl)
    go false = (refl, refl, refl)

  set_flags : (s : Serial) (well : IsWell s) → length s.slots ≤ length side.nodes.rows
      → (handle : Handle) (node : NodeCopy)
      → copies_now s handle ≡ Some node
      → KeepsFlags s side (put_node handle (beside_set now set (at_node side handle))
      (touched_set now handle set side))
  set_flags s well rows handle node there =
      let between = touched_set now handle set side in
      let first = sized_flags s well rows handle node there in
      let b = beside_set now set (at_node side handle) in
      let same = beside_same (at_node side handle) in
      let at = first.there handle node there in
      flags_twice s side between (put_node handle b between) first
      (put_keeps s well between (subst (λ (n : ℕ). length s.slots ≤ n) (sym first.rows) rows) handle
      node there b
      (same.0 ∙ beside_generation side.nodes handle) (same.1 ∙ sym at.opens)
      (same.2 ∙ sym at.nameless)
      (put_node handle b between) refl refl)

  set_so : (old new : Serial) (new_side : Side) (outcome : Outcome) → CanStand old
      → AreHidden old side
      → IsHad Calls (set_attributes side now number set) old (Ok (outcome, new_side)) new
      → KeepsFlags old side new_side
  set_so old new new_side outcome stands was all_had =
      let a = went_on Calls sets (Ends (node_named number)) old new (outcome, new_side) all_had in
      let handle = a.value in
      let had : IsHad Calls (sets handle) old (Ok (outcome, new_side)) new =
      subst (λ (s : Serial). IsHad Calls (sets handle) s (Ok (outcome, new_side)) new) a.first.1
      a.then in
      let b = went_on Calls _ (ask_shape handle) old new (outcome, new_side) had in
      let there = there_by b.value.kind (copies_now old handle)
      (shape_asked old b.between handle b.value b.first).0 in
      let c = went_on Calls _ (set_mode handle set) b.between new (outcome, new_side) b.then in
      let d = went_on Calls _ (set_size handle set b.value.mode) c.between new (outcome, new_side)
      c.then in
      let e = went_on Calls _ (ask_shape handle) d.between new (outcome, new_side) d.then in
      let beside = beside_set now set (at_node side handle) in
      let f = went_on Calls _ (Ends (attributes_if number e.value beside.kept beside.nameless))
      e.between new (outcome, new_side) e.then in
      let after : new_side ≡ put_node handle beside (touched_set now handle set side) =
      side_told outcome (outcomes.Node f.value) new_side
      (put_node handle beside (touched_set now handle set side)) f.then.0 in
      subst (λ (s : Side). KeepsFlags old side s) (sym after)
      (set_flags old (stands_well old stands) was.rows handle there.0 there.1)

  pub sets_keep : KeepsHidden (set_attributes side now number set) side
  sets_keep = names_hidden side number sets sets_of set_so

  pub sets_count : LeavesOpens (set_attributes side now number set) side
  sets_count = flags_count (set_attributes side now number set) side set_so

  pub sets_leave : LeavesOtherFiles (set_attributes side now number set) side number
  sets_leave = others_stay side number sets sets_of

  pub set_refused : RefusedChanges (IsPartlySet number) (set_attributes side now number set) side
  set_refused s t new_side refusal stands was does =
      (go (parts Calls sets (Ends (node_named number)) s t (Err refusal) does.had), does.same) where
        go : GoesOn Calls sets (Ends (node_named number)) s (Err refusal) t
            ⊎ Stops Calls sets (Ends (node_named number)) s (Err refusal) t
            → (t ≡ s) ⊎ IsPartlySet number s refusal t
        go (inl on) =
            let keeps : KeepsOthers on.value s t =
            subst (λ (u : Serial). KeepsOthers on.value u t) on.first.1
            (only_keeps on.value (sets on.value) (sets_of on.value) on.between t (Err refusal) on.then)
            in
            inr (record {
              handle = on.value;
              is_named = sym on.first.0;
              others = keeps.others;
              kind = keeps.names.kinds on.value;
              names = keeps.names.names;
            })
        go (inr stop) = inl stop.first.1
