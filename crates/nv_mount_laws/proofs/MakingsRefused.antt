-- A making that was refused once its node was made: the node has no number, and hidden files stay
-- hidden.
use Rattle.std.proofs.Common.{◌≡◌, ◌∙◌, ◌⊎◌, inl, inr, ℕ, Bool, true, false, List, Ok, Err, ap, refl, subst, sym}
use Rattle.std.specs.Prelude.{if◌then◌else◌, not}
use Rattle.nv_base.specs.declared.node.Kind.{Kind}
use Rattle.nv_base.specs.declared.node.Kind.TheVariants as kinds
use Rattle.nv_base.specs.declared.numbers.Handle.{Handle}
use Rattle.nv_calls.specs.declared.answer.Answer.TheVariants as answers
use Rattle.nv_fuse.specs.declared.attributes.Attributes.{Attributes}
use Rattle.nv_fuse.specs.declared.errno.Errno.TheVariants as errno
use Rattle.nv_fuse.specs.declared.header.Header.{Header}
use Rattle.nv_mount_answers.specs.Kept.{attributes_of}
use Rattle.nv_mount_answers.specs.declared.kept.Shape.{Shape}
use Rattle.nv_mount_answers.specs.declared.kept.Time.{Time}
use Rattle.nv_mount_beside.specs.Inherited.{mode_in}
use Rattle.nv_mount_beside.specs.Names.{free_name, node_named, number_of, refused}
use Rattle.nv_mount_beside.specs.Shown.{entry_of}
use Rattle.nv_mount_beside.specs.declared.outcome.Outcome.{Outcome}
use Rattle.nv_mount_beside.specs.declared.outcome.Outcome.TheVariants as outcomes
use Rattle.nv_mount_beside.specs.declared.refusal.Refusal.{Refusal}
use Rattle.nv_mounted.specs.Asks.{ask_handle, ask_shape}
use Rattle.nv_mounted.specs.Dialogues.{Dialogue, Ends, Grows, IsHad, ◌>>=◌}
use Rattle.nv_mounted.specs.Makings.{create, empty_shape, made_beside, make, make_owned, makes_file, making, mkdir, mknod, owner_made, permissions}
use Rattle.nv_mounted.specs.Side.{put_node, touched}
use Rattle.nv_mounted.specs.Talks.{hidden_if}
use Rattle.nv_mounted.specs.declared.side.Side.{Side}
use Rattle.nv_serial.specs.OneCall.{serial_call}
use Rattle.nv_serial.specs.Serial.{Serial, told}
use Rattle.nv_mount_laws.specs.Hidden.{AreHidden, NamesAnother}
use Rattle.nv_mount_laws.specs.World.{Calls}
use Rattle.nv_mount_laws.proofs.Asked.{grown, made_asked}
use Rattle.nv_mount_laws.proofs.Dialogues.{GoesOn, Stops, parts}
use Rattle.nv_mount_laws.proofs.Flags.{same_flags}
use Rattle.nv_mount_laws.proofs.MakingsHidden.{made_by, making_hidden}
use Rattle.nv_mount_laws.proofs.OtherRequests.{not_reserved}
use Rattle.nv_mount_laws.proofs.ReadingOnly.{reads_same, refused_same}
use Rattle.nv_mount_laws.proofs.RefusedMakings.{making_last}
use Rattle.nv_mount_laws.proofs.Standing.{IsWell}

no_value : {A P : Type 0} {a : A} {why : Refusal} → Err why ≡ Ok a → P
no_value e = cc

-- a node was made that has no number
pub record Unnumbered (number : ℕ) (kind : Kind) (file : List ℕ) (old new : Serial) : Type 0
  where
    pub mode : ℕ
    pub dir : Handle
    pub dir_is : node_named number ≡ Ok dir
    pub name : List ℕ
    pub free : free_name dir file ≡ Ok name
    pub handle : Handle
    pub made : serial_call old 0 (making kind dir name mode) ≡ told (answers.Made handle) new
    pub why : Refusal
    pub unnumbered : number_of handle ≡ Err why

-- THE HIDDEN FILES stay so
pub unnumbered_hidden : (number : ℕ) (kind : Kind) (file : List ℕ) (old new : Serial)
    (side : Side) → AreHidden old side → IsWell old → NamesAnother side number
    → Unnumbered number kind file old new → AreHidden new side
unnumbered_hidden number kind file old new side was well another done =
    making_hidden old new kind done.dir done.name done.mode done.handle
    (made_by old new well kind done.dir done.name done.mode done.handle done.made) side side was
    well
    (λ same. another (done.dir_is ∙ ap (λ (h : Handle). Ok h) same))
    (not_reserved done.dir file done.name done.free) (same_flags old side)
    (λ nameless.
    let numbered = was.numbered done.handle nameless in
    no_value (sym (ap hidden_if done.unnumbered) ∙ numbered.1))

module _ (side : Side) (now : Time) (header : Header) (kind : Kind) (mode : ℕ) (file : List ℕ)
    (opens : Bool) where
  abbrev makes : Dialogue (Attributes × Side)
  makes = make side now header kind mode file opens

  -- what it has done by then
  abbrev Done : Serial → Serial → Type 0
  Done old new = (new ≡ old) ⊎ Unnumbered header.node kind file old new

  module _ {B : Type 0} (old : Serial) (bits : ℕ) (value : Handle → Handle → ℕ → B) where
    abbrev asks : Handle → List ℕ → Dialogue Handle
    asks dir name = ask_handle (making kind dir name (permissions bits))

    abbrev ends : Handle → Handle → ℕ → Dialogue B
    ends dir handle node = Ends (Ok (value dir handle node))

    abbrev numbers : Handle → Handle → Dialogue B
    numbers dir handle = Ends (number_of handle) >>= ends dir handle

    numbered : (dir : Handle) (name : List ℕ) (handle : Handle) (between new : Serial)
        (why : Refusal) → node_named header.node ≡ Ok dir → free_name dir file ≡ Ok name
        → serial_call old 0 (making kind dir name (permissions bits))
        ≡ told (answers.Made handle) between
        → GoesOn Calls (ends dir handle) (Ends (number_of handle)) between (Err why) new
        ⊎ Stops Calls (ends dir handle) (Ends (number_of handle)) between (Err why) new
        → Done old new
    numbered dir name handle between new why dir_is free made (inl on) = no_value on.then.0
    numbered dir name handle between new why dir_is free made (inr stop) = inr (record {
      mode = permissions bits;
      dir = dir;
      dir_is = dir_is;
      name = name;
      free = free;
      handle = handle;
      made = made ∙ ap (λ (s : Serial). told (answers.Made handle) s) (sym stop.first.1);
      why = stop.why;
      unnumbered = sym stop.first.0;
    })

    made_or_not : (dir : Handle) (name : List ℕ) (new : Serial) (why : Refusal)
        → node_named header.node ≡ Ok dir → free_name dir file ≡ Ok name
        → IsHad Calls (asks dir name >>= numbers dir) old (Err why) new → Done old new
    made_or_not dir name new why dir_is free had =
        go (parts Calls (numbers dir) (asks dir name) old new (Err why) had) where
          go : GoesOn Calls (numbers dir) (asks dir name) old (Err why) new
              ⊎ Stops Calls (numbers dir) (asks dir name) old (Err why) new → Done old new
          go (inl on) =
              numbered dir name on.value on.between new why dir_is free
              (made_asked old on.between (making kind dir name
              (permissions bits)) on.value on.first)
              (parts Calls (ends dir on.value) (Ends (number_of on.value)) on.between new (Err why)
              on.then)
          go (inr stop) =
              inl (refused_same (asks dir name) (making_last kind dir name
              (permissions bits)) old new
              stop.why stop.first)

    abbrev named : Handle → Dialogue B
    named dir = Grows (Ends (free_name dir file)) >>= λ name. asks dir name >>= numbers dir

    named_stops : (dir : Handle) (new : Serial) (why : Refusal) → node_named header.node ≡ Ok dir
        → IsHad Calls (named dir) old (Err why) new → Done old new
    named_stops dir new why dir_is had =
        go (parts Calls (λ name. asks dir name >>= numbers dir) (Grows (Ends
        (free_name dir file))) old new
        (Err why) had) where
          go : GoesOn Calls (λ name. asks dir name >>= numbers dir) (Grows (Ends
              (free_name dir file))) old
              (Err why) new
              ⊎ Stops Calls (λ name. asks dir name >>= numbers dir) (Grows (Ends
              (free_name dir file))) old
              (Err why) new
              → Done old new
          go (inl on) =
              let so = grown (free_name dir file) old on.between on.value on.first in
              made_or_not dir on.value new why dir_is so.0
              (subst (λ (s : Serial). IsHad Calls (asks dir on.value >>= numbers dir) s
              (Err why) new) so.1
              on.then)
          go (inr stop) = inl (reads_same (Grows (Ends (free_name dir file))) tt old new
              (Err stop.why) stop.first)

  -- what it is answered, by its directory's mode
  abbrev value_in : Handle → ℕ → Handle → Handle → ℕ → Attributes × Side
  value_in parent_dir parent_mode dir handle node =
      let owner = owner_made side parent_dir parent_mode header in
      let beside = made_beside now owner opens handle in (
        attributes_of node (empty_shape kind (mode_in parent_mode kind mode)) beside.kept,
        touched now dir (put_node handle beside side),
      )

  abbrev of_mode : Handle → Shape → Dialogue (Attributes × Side)
  of_mode dir parent =
      make_owned side now dir (owner_made side dir parent.mode header) kind
      (mode_in parent.mode kind mode) file opens

  abbrev in_dir : Handle → Dialogue (Attributes × Side)
  in_dir dir = ask_shape dir >>= of_mode dir

  -- what a making that was refused has done
  pub make_stops : (old new : Serial) (why : Refusal) → IsHad Calls makes old (Err why) new
      → Done old new
  make_stops old new why had =
      at_dir (parts Calls in_dir (Ends (node_named header.node)) old new (Err why) had) where
        at_parent : (dir : Handle) → node_named header.node ≡ Ok dir
            → GoesOn Calls (of_mode dir) (ask_shape dir) old (Err why) new
            ⊎ Stops Calls (of_mode dir) (ask_shape dir) old (Err why) new → Done old new
        at_parent dir dir_is (inl on) =
            let same : on.between ≡ old =
            reads_same (ask_shape dir) (refl, λ answer. tt) old on.between (Ok on.value)
            on.first in
            named_stops old (mode_in on.value.mode kind mode) (value_in dir on.value.mode) dir new why
            dir_is
            (subst (λ (s : Serial). IsHad Calls (of_mode dir on.value) s (Err why) new) same
            on.then)
        at_parent dir dir_is (inr stop) =
            inl (reads_same (ask_shape dir) (refl, λ answer. tt) old new (Err stop.why) stop.first)

        at_dir : GoesOn Calls in_dir (Ends (node_named header.node)) old (Err why) new
            ⊎ Stops Calls in_dir (Ends (node_named header.node)) old (Err why) new → Done old new
        at_dir (inl on) =
            at_parent on.value (sym on.first.0)
            (parts Calls (of_mode on.value) (ask_shape on.value) old new (Err why)
            (subst (λ (s : Serial). IsHad Calls (in_dir on.value) s (Err why) new) on.first.1
            on.then))
        at_dir (inr stop) = inl stop.first.1

  -- and a request that is answered by it
  answers_stop : (value : Attributes × Side → Outcome × Side) (old new : Serial) (why : Refusal)
      → IsHad Calls (makes >>= λ made. Ends (Ok (value made))) old (Err why) new → Done old new
  answers_stop value old new why had =
      go (parts Calls (λ made. Ends (Ok (value made))) makes old new (Err why) had) where
        go : GoesOn Calls (λ made. Ends (Ok (value made))) makes old (Err why) new
            ⊎ Stops Calls (λ made. Ends (Ok (value made))) makes old (Err why) new
            → Done old new
        go (inl on) = no_value on.then.0
        go (inr stop) = make_stops old new stop.why stop.first

module _ (side : Side) (now : Time) (header : Header) (mode : ℕ) (file : List ℕ) (old new : Serial)
    (why : Refusal) where
  pub mkdir_stops : IsHad Calls (mkdir side now header mode file) old (Err why) new
      → Done side now header kinds.Dir mode file false old new
  mkdir_stops had = answers_stop side now header kinds.Dir mode file false _ old new why had

  pub create_stops : IsHad Calls (create side now header mode file) old (Err why) new
      → Done side now header kinds.File mode file true old new
  create_stops had = answers_stop side now header kinds.File mode file true _ old new why had

  -- a file that is not opened
  abbrev closed : Dialogue (Outcome × Side)
  closed = makes side now header kinds.File mode file false >>=
      λ made. Ends (Ok (outcomes.Found (entry_of made.0), made.1))

  pub mknod_stops : IsHad Calls (mknod side now header mode file) old (Err why) new
      → Done side now header kinds.File mode file false old new
  mknod_stops had = go (not (makes_file mode)) had where
    go : (b : Bool)
        → IsHad Calls (if b then Ends (refused errno.NotSupported) else closed) old (Err why) new
        → Done side now header kinds.File mode file false old new
    go true h = inl h.1
    go false h = answers_stop side now header kinds.File mode file false _ old new why h
