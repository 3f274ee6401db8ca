-- What a seat has seen once the owner of an inode has told it of a version.
use Rattle.std.proofs.Common.{◌≡◌, ◌≢◌, ℕ, ◌+◌, ◌<◌, ◌≤◌, ◌∙◌, List, ap, arith, refl, slice_index}
use Rattle.nv_sessions.specs.Fresh.{Owned, greater, only_at}
use Rattle.nv_sessions.proofs.AfterMoves.{first_seen, tell_else}
use Rattle.nv_sessions.proofs.Versions.{slice_index-greater, slice_index-only_at}

module _ (before after : List ℕ) (old risen : Owned) (told : after ≡ greater before (only_at risen.ino risen.version))
    (rose : risen ≡ record old { version = old.version + 1 }) where
  is : after ≡ greater before (only_at old.ino (old.version + 1))
  is = told ∙ ap (λ (o : Owned). greater before (only_at o.ino o.version)) rose

  pub told_higher : slice_index before old.ino ≤ old.version → slice_index before old.ino < slice_index after old.ino
  told_higher seen =
      omega (
        arith,
        ap (λ (z : List ℕ). slice_index z old.ino) is,
        slice_index-greater before (only_at old.ino (old.version + 1)) old.ino,
        slice_index-only_at old.ino (old.version + 1),
        seen,
      )

  pub told_kept : (i : ℕ) → slice_index before i ≤ slice_index after i
  told_kept i = first_seen before (only_at risen.ino risen.version) after i told

  pub told_elsewhere : (i : ℕ) → i ≢ old.ino → slice_index after i ≡ slice_index before i
  told_elsewhere i apart = tell_else before after old.ino old.ino (old.version + 1) i is refl apart
