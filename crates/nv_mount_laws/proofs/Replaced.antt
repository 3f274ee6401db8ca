-- An open file that another one takes the name of stays as it is.
use Rattle.std.proofs.Common.{◌≡◌, ◌≢◌, ◌∙◌, ℕ, Bool, true, false, List, [], ◌∷◌, Option, Some, None, Result, Ok, Err, ap, refl, subst, sym}
use Rattle.std.specs.Prelude.{if◌then◌else◌}
use Rattle.nv_base.specs.declared.node.Kind.TheVariants.{File}
use Rattle.nv_base.specs.declared.numbers.Handle.{Handle}
use Rattle.nv_calls.specs.Plain.{change, same_handle, with_names}
use Rattle.nv_calls.specs.Refusals.{found, kind_of, lookup}
use Rattle.nv_calls.specs.calls.Rename.{bound_effect, move_effect, own_place}
use Rattle.nv_calls.specs.declared.call.Call.TheVariants as calls
use Rattle.nv_entry.specs.Index.{with_last, without}
use Rattle.nv_entry.specs.declared.node.NodeCopy.{NodeCopy}
use Rattle.nv_effects.specs.Effects.{changed}
use Rattle.nv_effects.proofs.Effects.{calls_have_effects}
use Rattle.nv_mount_answers.specs.declared.kept.Time.{Time}
use Rattle.nv_mount_beside.specs.declared.outcome.Outcome.{Outcome}
use Rattle.nv_mount_beside.specs.declared.refusal.Refusal.{Refusal}
use Rattle.nv_mounted.specs.Asks.{ask_done}
use Rattle.nv_mounted.specs.Dialogues.{Asks, IsHad}
use Rattle.nv_mounted.specs.Renames.{move_over_open, moved_or_back}
use Rattle.nv_mounted.specs.Talks.{hidden_name_for}
use Rattle.nv_mounted.specs.declared.side.Side.{Side}
use Rattle.nv_serial.specs.Serial.{Serial, copies_now}
use Rattle.nv_mount_laws.specs.Hidden.{AreHidden}
use Rattle.nv_mount_laws.specs.Open.{LeavesReplaced}
use Rattle.nv_mount_laws.specs.World.{CanStand, Calls}
use Rattle.nv_mount_laws.proofs.Asked.{Answered, done_asked, grown}
use Rattle.nv_mount_laws.proofs.Dialogues.{went_on}
use Rattle.nv_mount_laws.proofs.Effects.{Moves, changed_later, found_bound, kinds_differ, rename_moves, rename_passed}
use Rattle.nv_mount_laws.proofs.HiddenNames.{one_hidden}
use Rattle.nv_mount_laws.proofs.Names.{one_place}
use Rattle.nv_mount_laws.proofs.PutBack.{left_free}
use Rattle.nv_mount_laws.proofs.RefusedRenames.{hides_there, moves}
use Rattle.nv_mount_laws.proofs.Standing.{stands_well}
use Rattle.nv_mount_laws.proofs.Stays.{stands_after, stays}

some_is : {A : Type 0} {a b : A} → Some a ≡ Some b → a ≡ b
some_is e = cc

no_some : {A P : Type 0} {a : A} → None ≡ Some a → P
no_some e = cc

-- a rename to a free name leaves every node that is no directory of it
free_stays : (nodes : Handle → Option NodeCopy) (from : Handle) (old : List ℕ) (to : Handle)
    (new : List ℕ) (h : Handle)
    → h ≢ from → h ≢ to → (own same : Bool) (first second : Option Handle) → second ≡ None
    → changed (if own then [] else bound_effect from old to new first second) nodes h ≡ nodes h
free_stays nodes from old to new h not_from not_to own same first second none =
    ap (λ (s : Option Handle). changed (if own then [] else bound_effect from old to new first s)
    nodes h) none ∙ go own first where
      by : (b : Bool) (moved : Handle) → changed (move_effect b from old to new moved []) nodes h
          ≡ nodes h
      by true moved = changed_later from (with_names
          (λ names. with_last new moved (without old names))) [] nodes h not_from
      by false moved =
          changed_later from (with_names (without old))
          (change to (with_names (with_last new moved)) ∷ []) nodes h not_from
          ∙ changed_later to (with_names (with_last new moved)) [] nodes h not_to

      go : (own : Bool) (first : Option Handle)
          → changed (if own then [] else bound_effect from old to new first None) nodes h ≡ nodes h
      go true first = refl
      go false None = refl
      go false (Some moved) = by (same_handle from to) moved

none_or : (found : Option Handle) → ((there : Handle) → found ≡ Some there → ⊥) → found ≡ None
none_or None none = refl
none_or (Some there) none = absurd (none there refl)

-- a rename to a name that is bound to nothing leaves files
renamed_stays : (old new : Serial) (from : Handle) (name : List ℕ) (to : Handle) (more : List ℕ)
    (h : Handle) (node : NodeCopy)
    → Answered old (calls.Rename from name to more) new → copies_now old h ≡ Some node → node.kind
    ≡ File
    → lookup (copies_now old) to more ≡ None → copies_now new h ≡ Some node
renamed_stays old new from name to more h node answered is kind free =
    let has = calls_have_effects old new 0 (calls.Rename from name to more) answered.answer refl
    answered.is in
    let passed = rename_passed old new from name to more has.0 answered.answer has.1 in
    let file : kind_of (copies_now old h) ≡ Some File = ap kind_of is ∙ ap (λ k. Some k) kind in
    let none : found (copies_now old) to more ≡ None =
    none_or (found (copies_now old) to more) (λ there at. no_some
    (sym free ∙ found_bound (copies_now old) to more there at)) in
    has.1.nodes h
    ∙ free_stays (copies_now old) from name to more h
    (λ same. kinds_differ (copies_now old) from h passed.from_is file (sym same))
    (λ same. kinds_differ (copies_now old) to h passed.to_is file (sym same))
    (own_place from name to more) true
    (found (copies_now old) from name) (found (copies_now old) to more) none
    ∙ is

module _ (side : Side) (now : Time) (moved from : Handle) (old : List ℕ) (to : Handle)
    (new : List ℕ) (there : Handle) (node : NodeCopy) where
  -- after the first move, whichever way it goes on
  over_stays : (hidden : List ℕ) (between t : Serial) (end : Result (Outcome × Side) Refusal)
      → copies_now between there ≡ Some node → node.kind ≡ File → lookup (copies_now between) to new
      ≡ None
      → IsHad Calls (Asks (calls.Rename from old to new)
      (moved_or_back side now moved there (calls.Rename side.hidden hidden to new))) between end t
      → copies_now t there ≡ Some node
  over_stays hidden between t end is kind free (Ok a, after, called, (told_so, same)) =
      ap (λ (s : Serial). copies_now s there) same
      ∙ renamed_stays between after from old to new there node
      (record { answer = a; is = called.answered; stands = called.stands }) is kind free
  over_stays hidden between t end is kind free
      (Err why, after, called, (Ok a, last, back, (told_so, same))) =
      let at : after ≡ between = called.answered.1 in
      ap (λ (s : Serial). copies_now s there) same
      ∙ renamed_stays after last side.hidden hidden to new there node
      (record { answer = a; is = back.answered; stands = back.stands })
      (ap (λ (s : Serial). copies_now s there) at ∙ is) kind
      (ap (λ (s : Serial). lookup (copies_now s) to new) at ∙ free)
  over_stays hidden between t end is kind free
      (Err why, after, called, (Err other, last, back, (told_so, same))) =
      ap (λ (s : Serial). copies_now s there) (same ∙ back.answered.1 ∙ called.answered.1) ∙ is

  -- A FILE WHOSE NAME ANOTHER ONE TAKES, while it is open, stays as it is
  pub replaced_stays : (s t : Serial) (end : Outcome × Side) → CanStand s → AreHidden s side
      → to ≢ side.hidden
      → lookup (copies_now s) to new ≡ Some there → copies_now s there ≡ Some node → node.kind
      ≡ File
      → IsHad Calls (move_over_open side now moved from old to new there) s (Ok end) t → copies_now t there
      ≡ Some node
  replaced_stays s t end stands was differ bound is kind had =
      let well = stands_well s stands in
      let a = went_on Calls (moves side now moved from old to new there) (hides_there there) s t end had in
      let hidden = a.value in
      let so = grown (hidden_name_for there) s a.between hidden a.first in
      let b = went_on Calls (λ gone. Asks (calls.Rename from old to new)
      (moved_or_back side now moved there (calls.Rename side.hidden hidden to new)))
      (ask_done (calls.Rename to new side.hidden hidden)) a.between t end a.then in
      let away : Answered s (calls.Rename to new side.hidden hidden) b.between =
      subst (λ (u : Serial). Answered u (calls.Rename to new side.hidden hidden) b.between) so.1
      (done_asked a.between b.between (calls.Rename to new side.hidden hidden) b.value b.first) in
      let has = calls_have_effects s b.between 0 (calls.Rename to new side.hidden hidden)
      away.answer refl away.is in
      let passed = rename_passed s b.between to new side.hidden hidden has.0 away.answer has.1 in
      let found_so : found (copies_now s) to new ≡ Some there =
      (let at = found_bound (copies_now s) to new passed.moved passed.found_is in
      let same : passed.moved ≡ there = some_is (sym at ∙ bound) in passed.found_is
      ∙ ap (λ (h : Handle). Some h) same) in
      let went : Moves s b.between to new side.hidden hidden there =
      rename_moves s b.between to new side.hidden hidden there has.0 away.answer has.1 differ
      found_so
      (λ other at. differ (one_place (copies_now s) well.tree to side.hidden new hidden there bound
      (at ∙ ap (λ (h : Handle). Some h) (one_hidden other there hidden
      (was.only hidden other at).numbered so.0))).0) in
      let file : kind_of (copies_now s there) ≡ Some File = ap kind_of is ∙ ap (λ k. Some k) kind in
      let still : copies_now b.between there ≡ Some node =
      went.same there (λ same. kinds_differ (copies_now s) to there went.from_is file (sym same))
      (λ same. kinds_differ (copies_now s) side.hidden there was.directory file (sym same)) ∙ is in
      over_stays hidden b.between t (Ok end) still kind
      (left_free (copies_now s) (copies_now b.between) to new went.from_is went.left) b.then

pub replaced_leaves : (side : Side) (now : Time) (moved from : Handle) (old : List ℕ) (to : Handle)
    (new : List ℕ) (there : Handle)
    → LeavesReplaced (move_over_open side now moved from old to new there) side to new there
replaced_leaves side now moved from old to new there s t node end stands was differ bound is kind had =
    stays s t there node (stands_after (move_over_open side now moved from old to new there) s t (Ok end)
    stands had) is kind
    (replaced_stays side now moved from old to new there node s t end stands was differ bound is kind had)
