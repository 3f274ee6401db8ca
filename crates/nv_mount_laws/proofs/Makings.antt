-- Makings: hidden files stay hidden, files stay as they are, and what was made is so often open.
use Rattle.std.proofs.Common.{◌⊎◌, inl, inr, ◌≡◌, ◌≢◌, ◌∙◌, ℕ, Bool, true, false, List, Some, Ok, Err, ap, refl, subst, sym}
use Rattle.std.specs.Prelude.{if◌then◌else◌, not}
use Rattle.nv_base.specs.declared.node.Kind.{Kind}
use Rattle.nv_base.specs.declared.node.Kind.TheVariants as kinds
use Rattle.nv_base.specs.declared.numbers.Handle.{Handle}
use Rattle.nv_calls.specs.Refusals.{lookup}
use Rattle.nv_calls.specs.declared.answer.Answer.TheVariants as answers
use Rattle.nv_fuse.specs.declared.attributes.Attributes.{Attributes}
use Rattle.nv_fuse.specs.declared.errno.Errno.TheVariants as errno
use Rattle.nv_fuse.specs.declared.header.Header.{Header}
use Rattle.nv_mount_answers.specs.Kept.{attributes_of}
use Rattle.nv_mount_answers.specs.declared.kept.Time.{Time}
use Rattle.nv_mount_beside.specs.Inherited.{mode_in}
use Rattle.nv_mount_beside.specs.Names.{free_name, node_named, number_of, refused}
use Rattle.nv_mount_beside.specs.Shown.{entry_of, opened_file}
use Rattle.nv_mount_beside.specs.declared.beside.Beside.{Beside}
use Rattle.nv_mount_beside.specs.declared.inherited.Owner.{Owner}
use Rattle.nv_mount_beside.specs.declared.outcome.Outcome.{Outcome}
use Rattle.nv_mount_beside.specs.declared.outcome.Outcome.TheVariants as outcomes
use Rattle.nv_mount_beside.specs.declared.refusal.Refusal.{Refusal}
use Rattle.nv_mounted.specs.Asks.{ask_handle, ask_shape}
use Rattle.nv_mounted.specs.Dialogues.{Dialogue, Ends, Grows, IsHad, ◌>>=◌}
use Rattle.nv_mounted.specs.Makings.{create, empty_shape, made_beside, make, makes_file, making, mkdir, mknod, owner_made, permissions}
use Rattle.nv_mounted.specs.Side.{at_node, put_node, touched, with_side}
use Rattle.nv_mounted.specs.declared.side.Side.{Side}
use Rattle.nv_serial.specs.OneCall.{serial_call}
use Rattle.nv_serial.specs.Serial.{Serial, copies_now, told}
use Rattle.nv_mount_laws.specs.Hidden.{AreHidden, KeepsHidden, NamesAnother}
use Rattle.nv_mount_laws.specs.Numbers.{TellsMade, number_told}
use Rattle.nv_mount_laws.specs.Open.{LeavesOpenFiles, LeavesOpens, OpensMade}
use Rattle.nv_mount_laws.specs.World.{CanStand, Calls}
use Rattle.nv_mount_laws.proofs.Asked.{grown, made_asked, shape_asked}
use Rattle.nv_mount_laws.proofs.Contents.{flags_count}
use Rattle.nv_mount_laws.proofs.Dialogues.{first_told, side_told, went_on}
use Rattle.nv_mount_laws.proofs.Flags.{KeepsFlags}
use Rattle.nv_mount_laws.proofs.MakingsFiles.{OnlyMakes, both_make, make_only, makes_stay}
use Rattle.nv_mount_laws.proofs.MakingsHidden.{Makes, made_by, made_flags, made_named, made_nameless, made_open, making_hidden}
use Rattle.nv_mount_laws.proofs.Numbers.{named_by}
use Rattle.nv_mount_laws.proofs.OtherRequests.{free_is, not_reserved}
use Rattle.nv_mount_laws.proofs.Refused.{chosen}
use Rattle.nv_mount_laws.proofs.MakingsRefused.{Unnumbered, create_stops, mkdir_stops, mknod_stops, unnumbered_hidden}
use Rattle.nv_mount_laws.proofs.Standing.{IsWell, stands_well}
use Rattle.nv_mount_laws.proofs.Stays.{stands_after, stays}

no_value : {A P : Type 0} {a : A} {why : Refusal} → Ok a ≡ Err why → P
no_value e = cc

some_is : {A : Type 0} {a b : A} → Some a ≡ Some b → a ≡ b
some_is e = cc

module _ (side : Side) (now : Time) (header : Header) (kind : Kind) (mode : ℕ) (file : List ℕ)
    (opens : Bool) where
  abbrev making_of : Dialogue (Attributes × Side)
  making_of = make side now header kind mode file opens

  -- what an answered making has done
  record Made (old new : Serial) (attributes : Attributes) (new_side : Side) : Type 0 where
    dir : Handle
    dir_is : node_named header.node ≡ Ok dir
    bits : ℕ
    owner : Owner
    name : List ℕ
    free : free_name dir file ≡ Ok name
    handle : Handle
    numbered : number_of handle ≡ Ok attributes.inode
    made : serial_call old 0 (making kind dir name (permissions bits))
        ≡ told (answers.Made handle) new
    side_is : new_side ≡ touched now dir (put_node handle (made_beside now owner opens handle)
        side)
    stands : CanStand new

  made_so : (old new : Serial) (attributes : Attributes) (new_side : Side) → CanStand old
      → IsHad Calls making_of old (Ok (attributes, new_side)) new
      → Made old new attributes new_side
  made_so old new attributes new_side stands had =
      let a = went_on Calls _ (Ends (node_named header.node)) old new (attributes, new_side) had in
      let dir = a.value in
      let p = went_on Calls _ (ask_shape dir) a.between new (attributes, new_side) a.then in
      let bits : ℕ = mode_in p.value.mode kind mode in
      let owner : Owner = owner_made side dir p.value.mode header in
      let at_p : p.between ≡ old = (shape_asked a.between p.between dir p.value p.first).1
      ∙ a.first.1 in
      let b = went_on Calls _ (Grows (Ends (free_name dir file))) p.between new
      (attributes, new_side) p.then in
      let name = b.value in
      let so = grown (free_name dir file) p.between b.between name b.first in
      let c = went_on Calls _ (ask_handle (making kind dir name (permissions bits))) b.between new
      (attributes, new_side) b.then in
      let handle = c.value in
      let asked = made_asked b.between c.between (making kind dir name (permissions bits)) handle
      c.first in
      let d = went_on Calls _ (Ends (number_of handle)) c.between new (attributes, new_side) c.then
      in
      let at_new : new ≡ c.between = d.then.1 ∙ d.first.1 in
      let beside : Beside = made_beside now owner opens handle in
      let as_told = attributes_of d.value (empty_shape kind bits) beside.kept in
      let after = touched now dir (put_node handle beside side) in
      let is : attributes ≡ as_told = first_told attributes as_told new_side after d.then.0 in
      record {
        dir = dir;
        dir_is = sym a.first.0;
        bits = bits;
        owner = owner;
        name = name;
        free = so.0;
        handle = handle;
        numbered = sym d.first.0 ∙ ap (λ (a : Attributes). Ok a.inode) (sym is);
        made = subst (λ (s : Serial). serial_call s 0 (making kind dir name (permissions bits))
            ≡ told (answers.Made handle) new) (so.1 ∙ at_p)
            (asked ∙ ap (λ (s : Serial). told (answers.Made handle) s) (sym at_new));
        side_is = side_told attributes as_told new_side after d.then.0;
        stands = stands_after making_of old new (Ok (attributes, new_side)) stands had;
      }

  module _ (old new : Serial) (attributes : Attributes) (new_side : Side) (stands : CanStand old)
      (done : Made old new attributes new_side) where
    abbrev well : IsWell old
    well = stands_well old stands

    abbrev well_new : IsWell new
    well_new = stands_well new done.stands

    makes : Makes old new kind done.dir done.name (permissions done.bits) done.handle
    makes = made_by old new well kind done.dir done.name (permissions done.bits) done.handle done.made

    -- the name leads to what was made
    make_named : (dir : Handle) → node_named header.node ≡ Ok dir
        → lookup (copies_now new) dir file ≡ Some done.handle
    make_named dir dir_is =
        let one : dir ≡ done.dir = (let e : Ok dir ≡ Ok done.dir = sym dir_is
        ∙ done.dir_is in cc) in
        ap (λ (d : Handle). lookup (copies_now new) d file) one
        ∙ ap (lookup (copies_now new) done.dir) (free_is done.dir file done.name done.free).1
        ∙ made_named old new kind done.dir done.name (permissions done.bits) done.handle makes

    module _ (was : AreHidden old side) where
      make_flags : KeepsFlags old side new_side
      make_flags =
          subst (λ (s : Side). KeepsFlags old side s) (sym done.side_is)
          (made_flags old new side was well_new kind done.dir done.name (permissions done.bits)
          done.handle makes now done.owner opens)

      make_hidden : NamesAnother side header.node → AreHidden new new_side
      make_hidden another =
          let not_hidden : done.dir ≢ side.hidden = (λ same. another
          (done.dir_is ∙ ap (λ (h : Handle). Ok h) same)) in
          making_hidden old new kind done.dir done.name (permissions done.bits) done.handle makes side
          new_side was well not_hidden (not_reserved done.dir file done.name done.free) make_flags
          (λ nameless. made_nameless old new side was well_new kind done.dir done.name
          (permissions done.bits) done.handle makes now done.owner opens
          (ap (λ (s : Side). (at_node s done.handle).nameless) (sym done.side_is) ∙ nameless))

      -- the node of the name is so often open
      make_opened : (dir made : Handle) → node_named header.node ≡ Ok dir
          → lookup (copies_now new) dir file ≡ Some made
          → (at_node new_side made).opens ≡ (made_beside now done.owner opens done.handle).opens
      make_opened dir made dir_is bound =
          let same : made ≡ done.handle = some_is (sym bound ∙ make_named dir dir_is) in
          ap (λ (h : Handle). (at_node new_side h).opens) same
          ∙ ap (λ (s : Side). (at_node s done.handle).opens) done.side_is
          ∙ made_open old new side was well_new kind done.dir done.name (permissions done.bits)
          done.handle makes now done.owner opens

-- ---- the requests

-- what a request made that is answered by a making
record IsBy (side : Side) (talk : Dialogue (Attributes × Side)) (old new : Serial)
    (outcome : Outcome) (new_side : Side) : Type 0 where
  attributes : Attributes
  is_told : number_told outcome ≡ Some attributes.inode
  had : IsHad Calls talk old (Ok (attributes, new_side)) new

-- a making, and what it is answered as
abbrev answered_as : Dialogue (Attributes × Side) → (Attributes → Outcome)
    → Dialogue (Outcome × Side)
answered_as talk tells = talk >>= λ made. Ends (Ok (tells made.0, made.1))

by_make : (side : Side) (talk : Dialogue (Attributes × Side)) (tells : Attributes → Outcome)
    → ((a : Attributes) → number_told (tells a) ≡ Some a.inode)
    → (old new : Serial) (outcome : Outcome) (new_side : Side)
    → IsHad Calls (answered_as talk tells) old (Ok (outcome, new_side)) new
    → IsBy side talk old new outcome new_side
by_make side talk tells says old new outcome new_side had =
    let a = went_on Calls _ talk old new (outcome, new_side) had in
    let after : new_side ≡ a.value.1 = side_told outcome (tells a.value.0) new_side a.value.1
    a.then.0 in
    let as_told : outcome ≡ tells a.value.0 = first_told outcome
    (tells a.value.0) new_side a.value.1
    a.then.0 in
    record {
      attributes = a.value.0;
      is_told = ap number_told as_told ∙ says a.value.0;
      had = subst (λ (s : Side). IsHad Calls talk old (Ok (a.value.0, s)) new) (sym after)
          (subst (λ (s : Serial). IsHad Calls talk old (Ok a.value) s) (sym a.then.1) a.first);
    }

-- the laws of a request that is answered by a making
module _ (side : Side) (now : Time) (header : Header) (kind : Kind) (mode : ℕ) (file : List ℕ)
    (opens : Bool) (talk : Dialogue (Outcome × Side))
    (by : (old new : Serial) (outcome : Outcome) (new_side : Side)
    → IsHad Calls talk old (Ok (outcome, new_side)) new
    → IsBy side (make side now header kind mode file opens) old new outcome new_side) where
  made_of : (old new : Serial) (outcome : Outcome) (new_side : Side) → CanStand old
      → (had : IsHad Calls talk old (Ok (outcome, new_side)) new)
      → Made side now header kind mode file opens old new
      (by old new outcome new_side had).attributes
      new_side
  made_of old new outcome new_side stands had =
      let one = by old new outcome new_side had in
      made_so side now header kind mode file opens old new one.attributes new_side stands one.had

  counts : LeavesOpens talk side
  counts = flags_count talk side (λ old new new_side outcome stands was had.
      make_flags side now header kind mode file opens old new
      (by old new outcome new_side had).attributes new_side stands
      (made_of old new outcome new_side stands had) was)

  -- a making that was refused has made nothing, or a node without a number
  keeps : ((old new : Serial) (why : Refusal) → IsHad Calls talk old (Err why) new
      → (new ≡ old) ⊎ Unnumbered header.node kind file old new)
      → NamesAnother side header.node → KeepsHidden talk side
  keeps refused_so another old new new_side (Ok outcome) stands was does =
      make_hidden side now header kind mode file opens old new
      (by old new outcome new_side does.had).attributes new_side stands
      (made_of old new outcome new_side stands does.had) was another
  keeps refused_so another old new new_side (Err why) stands was does =
      subst (λ (s : Side). AreHidden new s) (sym does.same)
      (go (refused_so old new why does.had)) where
        go : (new ≡ old) ⊎ Unnumbered header.node kind file old new
            → AreHidden new side
        go (inl same) = subst (λ (s : Serial). AreHidden s side) (sym same) was
        go (inr done) = unnumbered_hidden header.node kind file old new side was
            (stands_well old stands) another done

  opens_it : (count : ℕ)
      → ((owner : Owner) (handle : Handle) → (made_beside now owner opens handle).opens ≡ count)
      → OpensMade talk side header.node file count
  opens_it count is old new new_side outcome stands was does dir made dir_is bound =
      let done = made_of old new outcome new_side stands does.had in
      make_opened side now header kind mode file opens old new
      (by old new outcome new_side does.had).attributes new_side stands done was dir made dir_is
      bound ∙ is done.owner done.handle

  tells : TellsMade talk side header.node file
  tells old new new_side outcome stands does dir dir_is =
      let one = by old new outcome new_side does.had in
      let done = made_of old new outcome new_side stands does.had in
      record {
        node = done.handle;
        bound = make_named side now header kind mode file opens old new one.attributes new_side
            stands
            done dir dir_is;
        number = one.attributes.inode;
        is_told = one.is_told;
        is_named = named_by done.handle one.attributes.inode done.numbered;
      }

  leaves : OnlyMakes talk → LeavesOpenFiles talk side
  leaves only old new new_side result stands was does handle node is opened =
      stays old new handle node
      (stands_after talk old new (with_side new_side result) stands does.had) is.there is.file
      (makes_stay talk only old new (with_side new_side result) stands does.had handle node is.there
      is.file)

module _ (side : Side) (now : Time) (header : Header) (mode : ℕ) (file : List ℕ) where
  abbrev directory : Dialogue (Attributes × Side)
  directory = make side now header kinds.Dir mode file false

  abbrev closed : Dialogue (Attributes × Side)
  closed = make side now header kinds.File mode file false

  abbrev open_one : Dialogue (Attributes × Side)
  open_one = make side now header kinds.File mode file true

  mkdir_by : (old new : Serial) (outcome : Outcome) (new_side : Side)
      → IsHad Calls (mkdir side now header mode file) old (Ok (outcome, new_side)) new
      → IsBy side directory old new outcome new_side
  mkdir_by = by_make side directory (λ made. outcomes.Found (entry_of made)) (λ made. refl)

  create_by : (old new : Serial) (outcome : Outcome) (new_side : Side)
      → IsHad Calls (create side now header mode file) old (Ok (outcome, new_side)) new
      → IsBy side open_one old new outcome new_side
  create_by = by_make side open_one (λ made. outcomes.Created (entry_of made) opened_file)
      (λ made. refl)

  -- a file that is not opened
  abbrev makes_closed : Dialogue (Outcome × Side)
  makes_closed = answered_as closed (λ made. outcomes.Found (entry_of made))

  mknod_by : (old new : Serial) (outcome : Outcome) (new_side : Side)
      → IsHad Calls (mknod side now header mode file) old (Ok (outcome, new_side)) new
      → IsBy side closed old new outcome new_side
  mknod_by old new outcome new_side had = go (not (makes_file mode)) had where
    go : (b : Bool)
        → IsHad Calls (if b then Ends (refused errno.NotSupported) else makes_closed) old
        (Ok (outcome, new_side)) new → IsBy side closed old new outcome new_side
    go true h = no_value h.0
    go false h = by_make side closed (λ made. outcomes.Found (entry_of made)) (λ made. refl) old new
        outcome new_side h

  pub mkdirs_keep : NamesAnother side header.node
      → KeepsHidden (mkdir side now header mode file) side
  mkdirs_keep = keeps side now header kinds.Dir mode file false
      (mkdir side now header mode file) mkdir_by
      (mkdir_stops side now header mode file)

  pub mkdirs_count : LeavesOpens (mkdir side now header mode file) side
  mkdirs_count = counts side now header kinds.Dir mode file false
      (mkdir side now header mode file) mkdir_by

  pub mkdirs_leave : LeavesOpenFiles (mkdir side now header mode file) side
  mkdirs_leave =
      leaves side now header kinds.Dir mode file false (mkdir side now header mode file) mkdir_by
      (both_make directory _ (make_only side now header kinds.Dir mode file false) (λ made. tt))

  pub creates_keep : NamesAnother side header.node
      → KeepsHidden (create side now header mode file) side
  creates_keep = keeps side now header kinds.File mode file true
      (create side now header mode file) create_by
      (create_stops side now header mode file)

  pub creates_count : LeavesOpens (create side now header mode file) side
  creates_count = counts side now header kinds.File mode file true
      (create side now header mode file) create_by

  pub creates_leave : LeavesOpenFiles (create side now header mode file) side
  creates_leave =
      leaves side now header kinds.File mode file true (create side now header mode file) create_by
      (both_make open_one _ (make_only side now header kinds.File mode file true) (λ made. tt))

  pub creates_open : OpensMade (create side now header mode file) side header.node file 1
  creates_open =
      opens_it side now header kinds.File mode file true (create side now header mode file)
      create_by 1 (λ owner handle. refl)

  pub mknods_keep : NamesAnother side header.node
      → KeepsHidden (mknod side now header mode file) side
  mknods_keep = keeps side now header kinds.File mode file false
      (mknod side now header mode file) mknod_by
      (mknod_stops side now header mode file)

  pub mknods_count : LeavesOpens (mknod side now header mode file) side
  mknods_count = counts side now header kinds.File mode file false
      (mknod side now header mode file) mknod_by

  pub mknods_leave : LeavesOpenFiles (mknod side now header mode file) side
  mknods_leave =
      leaves side now header kinds.File mode file false (mknod side now header mode file) mknod_by
      (chosen (λ d. OnlyMakes d) (not (makes_file mode)) (Ends (refused errno.NotSupported))
      makes_closed tt
      (both_make closed _ (make_only side now header kinds.File mode file false) (λ made. tt)))

  pub mknods_open : OpensMade (mknod side now header mode file) side header.node file 0
  mknods_open =
      opens_it side now header kinds.File mode file false (mknod side now header mode file) mknod_by
      0 (λ owner handle. refl)

  pub mkdirs_tell : TellsMade (mkdir side now header mode file) side header.node file
  mkdirs_tell = tells side now header kinds.Dir mode file false
      (mkdir side now header mode file) mkdir_by

  pub creates_tell : TellsMade (create side now header mode file) side header.node file
  creates_tell = tells side now header kinds.File mode file true
      (create side now header mode file) create_by

  pub mknods_tell : TellsMade (mknod side now header mode file) side header.node file
  mknods_tell = tells side now header kinds.File mode file false
      (mknod side now header mode file) mknod_by
