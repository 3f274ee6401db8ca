-- What a refused rename has changed: nothing; or an empty directory went; or an open file went, and
-- came back.
use Rattle.std.proofs.Common.{◌≡◌, ◌∙◌, ◌⊎◌, inl, inr, ℕ, ◌==◌, ◌&&◌, Bool, true, false, List, Option, Some, None, Result, Ok, Err, ap, refl, subst, sym}
use Rattle.std.specs.Prelude.{if◌then◌else◌, nat_lt, not}
use Rattle.nv_base.specs.declared.fault.Fault.{Fault}
use Rattle.nv_base.specs.declared.fault.Fault.TheVariants as faults
use Rattle.nv_base.specs.declared.node.Kind.{Kind}
use Rattle.nv_base.specs.declared.node.Kind.TheVariants.{File, Dir}
use Rattle.nv_base.specs.declared.numbers.Handle.{Handle}
use Rattle.nv_calls.specs.Plain.{same_handle}
use Rattle.nv_calls.specs.Refusals.{found, lookup}
use Rattle.nv_calls.specs.declared.answer.Answer.{Answer}
use Rattle.nv_calls.specs.declared.answer.Answer.TheVariants as answers
use Rattle.nv_calls.specs.declared.call.Call.{Call}
use Rattle.nv_calls.specs.declared.call.Call.TheVariants as calls
use Rattle.nv_fuse.specs.declared.errno.Errno.TheVariants as errno
use Rattle.nv_effects.proofs.Visits.{lookup_found}
use Rattle.nv_mount_answers.specs.declared.kept.Time.{Time}
use Rattle.nv_mount_beside.specs.Names.{free_name, node_named, refused}
use Rattle.nv_mount_beside.specs.declared.outcome.Outcome.{Outcome}
use Rattle.nv_mount_beside.specs.declared.refusal.Refusal.{Refusal}
use Rattle.nv_mounted.specs.Asks.{ask, ask_done, ask_handle, ask_shape}
use Rattle.nv_mounted.specs.Dialogues.{Asks, Dialogue, Ends, Grows, IsHad, ◌>>=◌}
use Rattle.nv_mounted.specs.Renames.{ask_way, both_touched, is_directory, move_name, move_over_directory, move_over_open, moved_by, moved_or_back, rename, taken_back, there_told, way_over, way_past}
use Rattle.nv_mounted.specs.Side.{at_node}
use Rattle.nv_mounted.specs.Talks.{hidden_name_for}
use Rattle.nv_mounted.specs.declared.rename.Way.{Way}
use Rattle.nv_mounted.specs.declared.rename.Way.TheVariants as ways
use Rattle.nv_mounted.specs.declared.side.Side.{Side}
use Rattle.nv_serial.specs.Serial.{Serial, copies_now, told}
use Rattle.nv_mount_laws.specs.Refused.{HasLostDirectory}
use Rattle.nv_mount_laws.specs.World.{CanStand, Calls}
use Rattle.nv_mount_laws.proofs.Asked.{Answered, done_asked, grown, looked_up, shape_asked}
use Rattle.nv_mount_laws.proofs.Dialogues.{GoesOn, Stops, parts, went_on}
use Rattle.nv_mount_laws.proofs.ReadingOnly.{OnlyReads, both_read, reads_same, refused_same}
use Rattle.nv_mount_laws.proofs.Refused.{chosen, done_last}
use Rattle.nv_mount_laws.proofs.RefusedMakings.{Changes, before_value, behind_reads, else_changes}

-- ---- what is in the way

way_reads : (side : Side) (moved : Handle) (kind : Kind) (flags : ℕ) (there : Option Handle)
    → OnlyReads (way_past side moved kind flags there)
way_reads side moved kind flags None = tt
way_reads side moved kind flags (Some there) =
    chosen (λ d. OnlyReads d) (flags == 1) (Ends (refused errno.Exists)) _ tt
    (chosen (λ d. OnlyReads d) (same_handle there moved) (Ends (Ok ways.Same)) _ tt
    (both_read (ask_shape there) _ (refl, λ answer. tt) (λ other. tt)))

-- what stands at the new name is looked up
abbrev pub ask_there : Side → Handle → List ℕ → Handle → Kind → ℕ → Dialogue Way
ask_there side to new moved kind flags = ask (calls.Lookup to new) there_told >>=
    λ there. way_past side moved kind flags there

abbrev pub crosses : Handle → Handle → Kind → Bool
crosses from to kind = is_directory kind && not (same_handle from to)

pub asks_way : (side : Side) (moved from to : Handle) (new : List ℕ) (flags : ℕ)
    → OnlyReads (ask_way side moved from to new flags)
asks_way side moved from to new flags =
    both_read (ask_shape moved) _ (refl, λ answer. tt) (λ shape.
    chosen (λ d. OnlyReads d) (crosses from to shape.kind) (Ends (refused errno.CrossDevice))
    (ask_there side to new moved shape.kind flags) tt
    (both_read (ask (calls.Lookup to new) there_told)
    (λ there. way_past side moved shape.kind flags there) (refl, λ answer. tt)
    (λ there. way_reads side moved shape.kind flags there)))

no_refusal : {A P : Type 0} {a : A} {why : Refusal} → Ok a ≡ Err why → P
no_refusal e = cc

-- an open file is in the way where the new name leads to one
there_is : (result : Result Answer Fault) (there : Handle) → there_told result ≡ Ok (Some there)
    → result ≡ Ok (answers.Made there)
there_is (Ok (answers.Made made)) there e = let same : made ≡ there =
    cc in ap (λ (h : Handle). Ok (answers.Made h)) same
there_is (Ok other) there e = no_refusal (sym e)
there_is (Err faults.Missing) there e = cc
there_is (Err why) there e = no_refusal (sym e)

abbrev pub way_if : Bool → Handle → Result Way Refusal
way_if b there = if b then Ok (ways.Open there) else Ok ways.Free

over_is : (side : Side) (there open_one : Handle) (kind other : Kind)
    → way_over side there kind other ≡ Ok (ways.Open open_one) → there ≡ open_one
over_is side there open_one File Dir e = no_refusal (sym e)
over_is side there open_one Dir File e = no_refusal (sym e)
over_is side there open_one Dir Dir e = cc
over_is side there open_one File File e = go (nat_lt 0 (at_node side there).opens) e where
  go : (b : Bool) → way_if b there ≡ Ok (ways.Open open_one) → there ≡ open_one
  go true h = cc
  go false h = cc

-- past what stands there
abbrev pub past_same : Side → Handle → Handle → Kind → Dialogue Way
past_same side moved there kind =
    if same_handle there moved then Ends (Ok ways.Same) else ask_shape there >>=
    λ other. Ends (way_over side there kind other.kind)

past_open : (side : Side) (moved : Handle) (kind : Kind) (flags : ℕ) (found : Option Handle)
    (open_one : Handle) (s t : Serial)
    → IsHad Calls (way_past side moved kind flags found) s (Ok (ways.Open open_one)) t → found
    ≡ Some open_one
past_open side moved kind flags None open_one s t had = let e = had.0 in cc
past_open side moved kind flags (Some there) open_one s t had = first (flags == 1) had where
  last : IsHad Calls (ask_shape there >>= λ other. Ends (way_over side there kind other.kind)) s
      (Ok (ways.Open open_one)) t
      → Some there ≡ Some open_one
  last h =
      let on = went_on Calls (λ other. Ends (way_over side there kind other.kind)) (ask_shape there)
      s t (ways.Open open_one) h in
      ap (λ (x : Handle). Some x) (over_is side there open_one kind on.value.kind (sym on.then.0))

  second : (b : Bool)
      → IsHad Calls (if b then Ends (Ok ways.Same) else ask_shape there >>=
      λ other. Ends (way_over side there kind other.kind)) s (Ok (ways.Open open_one)) t
      → Some there ≡ Some open_one
  second true h = let e = h.0 in cc
  second false h = last h

  first : (b : Bool) → IsHad Calls (if b then Ends (refused errno.Exists) else past_same side moved
      there kind) s (Ok (ways.Open open_one)) t
      → Some there ≡ Some open_one
  first true h = no_refusal h.0
  first false h = second (same_handle there moved) h

-- AN OPEN FILE IN THE WAY is what the new name leads to
way_open : (side : Side) (moved from to : Handle) (new : List ℕ) (flags : ℕ)
    (open_one : Handle) (s t : Serial)
    → IsHad Calls (ask_way side moved from to new flags) s (Ok (ways.Open open_one)) t
    → lookup (copies_now s) to new ≡ Some open_one
way_open side moved from to new flags open_one s t had =
    let b = went_on Calls _ (ask_shape moved) s t (ways.Open open_one) had in
    let shaped = shape_asked s b.between moved b.value b.first in
    subst (λ (u : Serial). lookup (copies_now u) to new ≡ Some open_one) shaped.1
    (go b.between b.value.kind (crosses from to b.value.kind) b.then) where
      told_there : (u : Serial) (found : Option Handle) (v : Serial) → found ≡ Some open_one
          → IsHad Calls (ask (calls.Lookup to new) there_told) u (Ok found) v
          → lookup (copies_now u) to new ≡ Some open_one
      told_there u found v is (result, between, called, (told_so, same)) =
          let made : result ≡ Ok (answers.Made open_one) =
          there_is result open_one (sym told_so ∙ ap (λ (x : Option Handle). Ok x) is) in
          let there : Calls u (calls.Lookup to new) (Ok (answers.Made open_one)) between =
          subst (λ (r : Result Answer Fault). Calls u (calls.Lookup to new) r between) made called
          in
          (lookup_found u between 0 to new open_one there.answered).0

      go : (u : Serial) (kind : Kind) (b : Bool)
          → IsHad Calls (if b then Ends (refused errno.CrossDevice) else ask_there side to new moved
          kind flags) u (Ok (ways.Open open_one)) t
          → lookup (copies_now u) to new ≡ Some open_one
      go u kind true h = no_refusal h.0
      go u kind false h =
          let c = went_on Calls (λ there. way_past side moved kind flags there)
          (ask (calls.Lookup to new) there_told) u t (ways.Open open_one) h in
          told_there u c.value c.between (past_open side moved kind flags c.value open_one c.between
          t c.then) c.first

-- ---- over a directory

abbrev pub then_moves : Handle → List ℕ → Handle → List ℕ → Unit {0} → Dialogue (Unit {0})
then_moves from old to new gone = ask_done (calls.Rename from old to new)

abbrev pub removal : Handle → List ℕ → Dialogue (Unit {0})
removal to new = Grows (ask_done (calls.Rmdir to new))

removed : (to : Handle) (new : List ℕ) (s t : Serial) (done : Unit {0})
    → IsHad Calls (removal to new) s (Ok done) t
    → Answered s (calls.Rmdir to new) t
removed to new s t done (inl first) = no_refusal first.0
removed to new s t done (inr first) = done_asked s t (calls.Rmdir to new) done first

lost : (Something : Serial → Refusal → Serial → Type 0)
    → ((s t : Serial) (refusal : Refusal) → HasLostDirectory s t → Something s refusal t)
    → (from : Handle) (old : List ℕ) (to : Handle) (new : List ℕ)
    → Changes (move_over_directory from old to new) Something
lost Something into from old to new s t refusal had =
    go (parts Calls (then_moves from old to new) (removal to new) s t (Err refusal) had) where
      go : GoesOn Calls (then_moves from old to new) (removal to new) s (Err refusal) t
          ⊎ Stops Calls (then_moves from old to new) (removal to new) s (Err refusal) t
          → (t ≡ s) ⊎ Something s refusal t
      go (inl on) =
          let same : t ≡ on.between =
          refused_same (ask_done (calls.Rename from old to new))
          (done_last (calls.Rename from old to new)) on.between t refusal on.then in
          let so = removed to new s on.between on.value on.first in
          inr (into s t refusal (record {
            dir = to;
            name = new;
            answer = so.answer;
            gone = so.is ∙ ap (λ (u : Serial). told so.answer u) (sym same);
          }))
      go (inr stop) = inl (refused_same (removal to new) (done_last (calls.Rmdir to new)) s t stop.why
          stop.first)

-- ---- over an open file

-- the first move was answered, and the one back
pub record WentAndCame (old : Serial) (away back : Call) (new : Serial) : Type 0 where
  pub between : Serial
  pub went : Answered old away between
  pub came : Answered between back new

module _ (side : Side) (now : Time) (moved from : Handle) (old : List ℕ) (to : Handle)
    (new : List ℕ) (there : Handle) (hidden : List ℕ) where
  abbrev away : Call
  away = calls.Rename to new side.hidden hidden

  abbrev over : Call
  over = calls.Rename from old to new

  abbrev back : Call
  back = calls.Rename side.hidden hidden to new

  abbrev pub moves : Dialogue (Outcome × Side)
  moves = ask_done away >>= λ gone. Asks over (moved_or_back side now moved there back)

  no_value : {P : Type 0} {value : Outcome × Side} {why : Refusal} → Err why ≡ Ok value → P
  no_value e = cc

  came_back : (between new_world : Serial) (why : Fault) (refusal : Refusal)
      → IsHad Calls (taken_back side now there back why) between (Err refusal) new_world
      → Answered between back new_world
  came_back between new_world why refusal (Ok a, after, called, (is, same)) = record {
    answer = a;
    is = called.answered ∙ ap (λ (s : Serial). told a s) (sym same);
    stands = subst CanStand (sym same) called.stands;
  }
  came_back between new_world why refusal (Err other, after, called, (is, same)) = no_value is

  moved_back : (between new_world : Serial) (refusal : Refusal)
      → IsHad Calls (Asks over (moved_or_back side now moved there back)) between (Err refusal) new_world
      → Answered between back new_world
  moved_back between new_world refusal (Ok a, after, called, (is, same)) = no_value is
  moved_back between new_world refusal (Err why, after, called, rest) =
      subst (λ (s : Serial). Answered s back new_world) called.answered.1
      (came_back after new_world why refusal rest)

  pub went_by : (old_world new_world : Serial) (refusal : Refusal)
      → IsHad Calls moves old_world (Err refusal) new_world
      → (new_world ≡ old_world) ⊎ WentAndCame old_world away back new_world
  went_by old_world new_world refusal had =
      go (parts Calls (λ gone. Asks over (moved_or_back side now moved there back)) (ask_done away) old_world
      new_world (Err refusal) had) where
        go : GoesOn Calls (λ gone. Asks over (moved_or_back side now moved there back)) (ask_done away)
            old_world (Err refusal) new_world
            ⊎ Stops Calls (λ gone. Asks over (moved_or_back side now moved there back)) (ask_done away)
            old_world (Err refusal) new_world
            → (new_world ≡ old_world) ⊎ WentAndCame old_world away back new_world
        go (inl on) = inr (record {
          between = on.between;
          went = done_asked old_world on.between away on.value on.first;
          came = moved_back on.between new_world refusal on.then;
        })
        go (inr stop) = inl (refused_same (ask_done away) (done_last away) old_world new_world
            stop.why stop.first)

-- ---- a rename

-- an open file went among the hidden ones, and came back
pub record CameBack (side : Side) (old new : Serial) : Type 0 where
  pub dir : Handle
  pub name : List ℕ
  pub there : Handle
  pub hidden : List ℕ
  pub bound : lookup (copies_now old) dir name ≡ Some there
  pub numbered : hidden_name_for there ≡ Ok hidden
  pub trip : WentAndCame old (calls.Rename dir name side.hidden hidden)
      (calls.Rename side.hidden hidden dir name) new

-- what has changed, as the calls tell it
abbrev pub Raw : Side → Serial → Refusal → Serial → Type 0
Raw side old refusal new = HasLostDirectory old new ⊎ CameBack side old new

abbrev pub hides_there : Handle → Dialogue (List ℕ)
hides_there there = Grows (Ends (hidden_name_for there))

pub over_open : (side : Side) (now : Time) (moved from : Handle) (old : List ℕ) (to : Handle)
    (new : List ℕ) (there : Handle) (s t : Serial) (refusal : Refusal)
    → lookup (copies_now s) to new ≡ Some there
    → IsHad Calls (move_over_open side now moved from old to new there) s (Err refusal) t
    → (t ≡ s) ⊎ CameBack side s t
over_open side now moved from old to new there s t refusal bound had =
    go (parts Calls (moves side now moved from old to new there) (hides_there there) s t (Err refusal) had)
  where
    trip : (hidden : List ℕ) → hidden_name_for there ≡ Ok hidden
        → (t ≡ s) ⊎ WentAndCame s (calls.Rename to new side.hidden hidden)
        (calls.Rename side.hidden hidden to new) t
        → (t ≡ s) ⊎ CameBack side s t
    trip hidden is (inl same) = inl same
    trip hidden is (inr came) =
        inr (record {
          dir = to;
          name = new;
          there = there;
          hidden = hidden;
          bound = bound;
          numbered = is;
          trip = came;
        })

    go : GoesOn Calls (moves side now moved from old to new there) (hides_there there) s (Err refusal) t
        ⊎ Stops Calls (moves side now moved from old to new there) (hides_there there) s (Err refusal) t
        → (t ≡ s) ⊎ CameBack side s t
    go (inl on) =
        let so = grown (hidden_name_for there) s on.between on.value on.first in
        trip on.value so.0
        (went_by side now moved from old to new there on.value s t refusal
        (subst (λ (u : Serial). IsHad Calls (moves side now moved from old to new there on.value) u
        (Err refusal) t) so.1 on.then))
    go (inr stop) = inl (reads_same (hides_there there) tt s t (Err stop.why) stop.first)

moved_refused : (side : Side) (now : Time) (moved from : Handle) (old : List ℕ) (to : Handle)
    (new : List ℕ) (way : Way) (s t : Serial) (refusal : Refusal)
    → ((there : Handle) → way ≡ ways.Open there → lookup (copies_now s) to new ≡ Some there)
    → IsHad Calls (moved_by side now moved from old to new way) s (Err refusal) t → (t ≡ s)
    ⊎ Raw side s refusal t
moved_refused side now moved from old to new ways.Same s t refusal open_there had = no_refusal (sym had.0)
moved_refused side now moved from old to new ways.Free s t refusal open_there had =
    before_value (Raw side) (move_name from old to new) _
    (λ u v why h. inl (refused_same (move_name from old to new)
    (done_last (calls.Rename from old to new)) u v why h)) s t refusal had
moved_refused side now moved from old to new ways.Directory s t refusal open_there had =
    before_value (Raw side) (move_over_directory from old to new) _
    (lost (Raw side) (λ u v why gone. inl gone) from old to new) s t refusal had
moved_refused side now moved from old to new (ways.Open there) s t refusal open_there had =
    go (parts Calls touches (move_over_open side now moved from old to new there) s t (Err refusal) had) where
      touches : Outcome × Side → Dialogue (Outcome × Side)
      touches done = Ends (Ok (done.0, both_touched now from to done.1))

      go : GoesOn Calls touches (move_over_open side now moved from old to new there) s (Err refusal) t
          ⊎ Stops Calls touches (move_over_open side now moved from old to new there) s (Err refusal) t
          → (t ≡ s) ⊎ Raw side s refusal t
      go (inl on) = no_refusal (sym on.then.0)
      go (inr stop) = back (over_open side now moved from old to new there s t stop.why
          (open_there there refl) stop.first) where
            back : (t ≡ s) ⊎ CameBack side s t → (t ≡ s) ⊎ Raw side s refusal t
            back (inl same) = inl same
            back (inr came) = inr (inr came)

module _ (side : Side) (now : Time) (flags : ℕ) where
  way_refused : (moved from : Handle) (old : List ℕ) (to : Handle) (new : List ℕ)
      → Changes (ask_way side moved from to new flags >>= moved_by side now moved from old to new)
      (Raw side)
  way_refused moved from old to new s t refusal had =
      go (parts Calls (moved_by side now moved from old to new) (ask_way side moved from to new flags) s t
      (Err refusal) had) where
        go : GoesOn Calls (moved_by side now moved from old to new) (ask_way side moved from to new flags) s
            (Err refusal) t
            ⊎ Stops Calls (moved_by side now moved from old to new) (ask_way side moved from to new flags) s
            (Err refusal) t
            → (t ≡ s) ⊎ Raw side s refusal t
        go (inl on) =
            let same : on.between ≡ s = reads_same (ask_way side moved from to new flags)
            (asks_way side moved from to new flags) s on.between (Ok on.value) on.first in
            moved_refused side now moved from old to new on.value s t refusal
            (λ there is. way_open side moved from to new flags there s on.between
            (subst (λ (w : Way). IsHad Calls (ask_way side moved from to new flags) s (Ok w)
            on.between) is on.first))
            (subst (λ (u : Serial). IsHad Calls (moved_by side now moved from old to new on.value) u
            (Err refusal) t) same on.then)
        go (inr stop) = inl (reads_same (ask_way side moved from to new flags)
            (asks_way side moved from to new flags) s t (Err stop.why) stop.first)

  pub rename_raw : (from : ℕ) (old : List ℕ) (to : ℕ) (new : List ℕ)
      → Changes (rename side now from old to new flags) (Raw side)
  rename_raw from old to new =
      behind_reads (Raw side) (Ends (node_named from)) _ tt (λ source.
      behind_reads (Raw side) (Ends (node_named to)) _ tt (λ target.
      else_changes (Raw side) (nat_lt 1 flags) (Ends (refused errno.Invalid)) _
      (λ s t refusal had. inl had.1)
      (behind_reads (Raw side) (Grows (Ends (free_name source old))) _ tt (λ old_name.
      behind_reads (Raw side) (Grows (Ends (free_name target new))) _ tt (λ new_name.
      behind_reads (Raw side) (ask_handle (calls.Lookup source old_name)) _ (refl, λ answer. tt)
      (λ moved. way_refused moved source old_name target new_name))))))
