-- What a refused making has changed: nothing, or the node that was made has no number.
use Rattle.std.proofs.Common.{◌≡◌, ◌∙◌, ◌⊎◌, inl, inr, ℕ, Bool, true, false, List, Ok, Err, ap, refl, subst, sym}
use Rattle.std.specs.Prelude.{if◌then◌else◌, not}
use Rattle.nv_base.specs.declared.node.Kind.{Kind}
use Rattle.nv_base.specs.declared.node.Kind.TheVariants as kinds
use Rattle.nv_base.specs.declared.numbers.Handle.{Handle}
use Rattle.nv_calls.specs.declared.answer.Answer.{Answer}
use Rattle.nv_calls.specs.declared.answer.Answer.TheVariants as answers
use Rattle.nv_effects.specs.Suits.{IsMade, Suits}
use Rattle.nv_fuse.specs.declared.errno.Errno.TheVariants as errno
use Rattle.nv_fuse.specs.declared.header.Header.{Header}
use Rattle.nv_mount_answers.specs.declared.kept.Time.{Time}
use Rattle.nv_mount_beside.specs.Inherited.{mode_in}
use Rattle.nv_mount_beside.specs.Names.{free_name, node_named, number_of, refused}
use Rattle.nv_mount_beside.specs.declared.inherited.Owner.{Owner}
use Rattle.nv_mount_beside.specs.declared.refusal.Refusal.{Refusal}
use Rattle.nv_mounted.specs.Asks.{ask_handle, ask_shape, handle_told}
use Rattle.nv_mounted.specs.Dialogues.{Dialogue, Ends, Grows, IsHad, ◌>>=◌}
use Rattle.nv_mounted.specs.Makings.{create, make, make_owned, makes_file, making, mkdir, mknod, owner_made, permissions}
use Rattle.nv_mounted.specs.declared.side.Side.{Side}
use Rattle.nv_serial.specs.Serial.{Serial, told}
use Rattle.nv_mount_laws.specs.Refused.{IsUnnumbered, RefusedChanges}
use Rattle.nv_mount_laws.specs.World.{Calls}
use Rattle.nv_mount_laws.proofs.Asked.{made_asked}
use Rattle.nv_mount_laws.proofs.Dialogues.{GoesOn, Stops, parts}
use Rattle.nv_mount_laws.proofs.ReadingOnly.{ChangesLast, OnlyReads, Succeeds, reads_same, refused_same}

-- a making answers a handle
makes : (kind : Kind) (dir : Handle) (name : List ℕ) (mode : ℕ) (a : Answer)
    → Suits (making kind dir name mode) a → IsMade a
makes kinds.File dir name mode a suits = suits
makes kinds.Dir dir name mode a suits = suits

handle_well : (a : Answer) → IsMade a → Succeeds (Ends (handle_told (Ok a)))
handle_well (answers.Made handle) made = tt
handle_well other made = absurd made

pub making_last : (kind : Kind) (dir : Handle) (name : List ℕ) (mode : ℕ)
    → ChangesLast (ask_handle (making kind dir name mode))
making_last kind dir name mode = (
  λ why. tt,
  λ a suits reads. tt,
  λ a suits changes. handle_well a (makes kind dir name mode a suits),
)

no_value : {A P : Type 0} {a : A} {why : Refusal} → Err why ≡ Ok a → P
no_value e = cc

-- what a dialogue that was refused has changed: nothing, or this
abbrev pub Changes : {A : Type 0} → Dialogue A → (Serial → Refusal → Serial → Type 0) → Type 0
Changes d Something =
    (old new : Serial) (refusal : Refusal) → IsHad Calls d old (Err refusal) new → (new ≡ old)
    ⊎ Something old refusal new

-- behind one that reads
pub behind_reads : {A B : Type 0} (Something : Serial → Refusal → Serial → Type 0) (d : Dialogue A)
    (next : A → Dialogue B)
    → OnlyReads d → ((a : A) → Changes (next a) Something) → Changes (d >>= next) Something
behind_reads {A} {B} Something d next reads each old new refusal had =
    go (parts Calls next d old new (Err refusal) had) where
      go : GoesOn Calls next d old (Err refusal) new ⊎ Stops Calls next d old (Err refusal) new
          → (new ≡ old) ⊎ Something old refusal new
      go (inl on) =
          let same : on.between ≡ old = reads_same d reads old on.between (Ok on.value) on.first in
          subst (λ (s : Serial). (new ≡ s) ⊎ Something s refusal new) same
          (each on.value on.between new refusal on.then)
      go (inr stop) = inl (reads_same d reads old new (Err stop.why) stop.first)

-- before one that has a value
pub before_value : {A B : Type 0} (Something : Serial → Refusal → Serial → Type 0) (d : Dialogue A)
    (value : A → B)
    → Changes d Something → Changes (d >>= λ a. Ends (Ok (value a))) Something
before_value {A} {B} Something d value each old new refusal had =
    go (parts Calls (λ a. Ends (Ok (value a))) d old new (Err refusal) had) where
      go : GoesOn Calls (λ a. Ends (Ok (value a))) d old (Err refusal) new
          ⊎ Stops Calls (λ a. Ends (Ok (value a))) d old (Err refusal) new
          → (new ≡ old) ⊎ Something old refusal new
      go (inl on) = no_value on.then.0
      go (inr stop) =
          let same : refusal ≡ stop.why = let e = stop.is in cc in
          subst (λ (r : Refusal). (new ≡ old) ⊎ Something old r new) (sym same)
          (each old new stop.why stop.first)

module _ (side : Side) (now : Time) (kind : Kind) (mode : ℕ) (file : List ℕ) (opens : Bool) where
  -- the call that makes it
  abbrev asks : Handle → List ℕ → Dialogue Handle
  asks dir name = ask_handle (making kind dir name (permissions mode))

  abbrev ends : {B : Type 0} → (Handle → ℕ → B) → Handle → ℕ → Dialogue B
  ends value handle node = Ends (Ok (value handle node))

  abbrev numbers : {B : Type 0} → (Handle → ℕ → B) → Handle → Dialogue B
  numbers value handle = Ends (number_of handle) >>= ends value handle

  -- a node that was made, and has no number
  last : {B : Type 0} (dir : Handle) (name : List ℕ) (value : Handle → ℕ → B)
      (old between new : Serial) (refusal : Refusal) (handle : Handle)
      → IsHad Calls (asks dir name) old (Ok handle) between
      → GoesOn Calls (ends value handle) (Ends (number_of handle)) between (Err refusal) new
      ⊎ Stops Calls (ends value handle) (Ends (number_of handle)) between (Err refusal) new
      → (new ≡ old) ⊎ IsUnnumbered old refusal new
  last dir name value old between new refusal handle first (inl on) = no_value on.then.0
  last dir name value old between new refusal handle first (inr stop) =
      let made = made_asked old between (making kind dir name (permissions mode)) handle first in
      let same : refusal ≡ stop.why = let e = stop.is in cc in
      inr (record {
        call = making kind dir name (permissions mode);
        handle = handle;
        made = made ∙ ap (λ (s : Serial). told (answers.Made handle) s) (sym stop.first.1);
        unnumbered = sym stop.first.0 ∙ ap (λ (r : Refusal). Err r) (sym same);
      })

  unnumbered : {B : Type 0} (dir : Handle) (name : List ℕ) (value : Handle → ℕ → B)
      → Changes (asks dir name >>= numbers value) IsUnnumbered
  unnumbered {B} dir name value old new refusal had =
      go (parts Calls (numbers value) (asks dir name) old new (Err refusal) had) where
        go : GoesOn Calls (numbers value) (asks dir name) old (Err refusal) new
            ⊎ Stops Calls (numbers value) (asks dir name) old (Err refusal) new
            → (new ≡ old) ⊎ IsUnnumbered old refusal new
        go (inl on) =
            last dir name value old on.between new refusal on.value on.first
            (parts Calls (ends value on.value) (Ends (number_of on.value)) on.between new (Err refusal)
            on.then)
        go (inr stop) = inl (refused_same (asks dir name) (making_last kind dir name (permissions mode))
            old new stop.why stop.first)

  owned_refused : (dir : Handle) (owner : Owner)
      → Changes (make_owned side now dir owner kind mode file opens) IsUnnumbered
  owned_refused dir owner =
      behind_reads IsUnnumbered (Grows (Ends (free_name dir file))) _ tt
      (λ name. unnumbered dir name _)

pub make_refused : (side : Side) (now : Time) (header : Header) (kind : Kind) (mode : ℕ)
    (file : List ℕ) (opens : Bool)
    → Changes (make side now header kind mode file opens) IsUnnumbered
make_refused side now header kind mode file opens =
    behind_reads IsUnnumbered (Ends (node_named header.node)) _ tt (λ dir.
    behind_reads IsUnnumbered (ask_shape dir) _ (refl, λ answer. tt) (λ parent.
    owned_refused side now kind (mode_in parent.mode kind mode) file opens dir
    (owner_made side dir parent.mode header)))

pub refused_changes : {A : Type 0} (Something : Serial → Refusal → Serial → Type 0)
    (talk : Dialogue (A × Side)) (side : Side)
    → Changes talk Something → RefusedChanges Something talk side
refused_changes Something talk side each old new new_side refusal stands was does =
    (each old new refusal does.had, does.same)

-- a test that refuses first
pub else_changes : {A : Type 0} (Something : Serial → Refusal → Serial → Type 0) (b : Bool)
    (d other : Dialogue A)
    → Changes d Something → Changes other Something → Changes (if b then d else other) Something
else_changes Something true d other first second = first
else_changes Something false d other first second = second

module _ (side : Side) (now : Time) (header : Header) (mode : ℕ) (file : List ℕ) where
  pub mknod_refused : RefusedChanges IsUnnumbered (mknod side now header mode file) side
  mknod_refused =
      refused_changes IsUnnumbered (mknod side now header mode file) side
      (else_changes IsUnnumbered (not (makes_file mode)) (Ends (refused errno.NotSupported)) _
      (λ old new refusal had. inl had.1)
      (before_value IsUnnumbered (make side now header kinds.File mode file false) _
      (make_refused side now header kinds.File mode file false)))

  pub mkdir_refused : RefusedChanges IsUnnumbered (mkdir side now header mode file) side
  mkdir_refused =
      refused_changes IsUnnumbered (mkdir side now header mode file) side
      (before_value IsUnnumbered (make side now header kinds.Dir mode file false) _
      (make_refused side now header kinds.Dir mode file false))

  pub create_refused : RefusedChanges IsUnnumbered (create side now header mode file) side
  create_refused =
      refused_changes IsUnnumbered (create side now header mode file) side
      (before_value IsUnnumbered (make side now header kinds.File mode file true) _
      (make_refused side now header kinds.File mode file true))
