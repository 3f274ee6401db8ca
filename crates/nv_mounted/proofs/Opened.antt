-- What is listed of a directory, by what is open under its number.
use Rattle.std.proofs.Common.{◌≡◌, ℕ, zero, suc, ◌<◌, true, false, List, refl, ap, arith}
use Rattle.nv_fuse.specs.declared.errno.Errno.TheVariants as errno
use Rattle.nv_mount_beside.specs.Names.{refused}
use Rattle.nv_mounted.specs.Dialogues.{Dialogue, Ends}
use Rattle.nv_mounted.specs.Listings.{is_closed, is_read, list_anew, list_open, list_read}
use Rattle.nv_mounted.specs.declared.directories.Open.{Open}
use Rattle.nv_mounted.specs.declared.directories.Open.TheVariants.{Closed, Unread, Read}
use Rattle.nv_mounted.specs.declared.listing.Named.{Named}
use Rattle.nv_mounted.specs.declared.side.Side.{Side}

-- no directory is open
pub closed : (side : Side) (asked : Dialogue (List Named)) (file room offset : ℕ) (o : Open) → is_closed o ≡ true
    → list_open side asked file room offset o ≡ Ends (refused errno.Stale)
closed side asked file room offset Closed e = refl
closed side asked file room offset Unread e = let no : ⊥ = cc in absurd no
closed side asked file room offset (Read names) e = let no : ⊥ = cc in absurd no

-- at offset 0 it is read
pub at_start : (side : Side) (asked : Dialogue (List Named)) (file room offset : ℕ) (o : Open) → is_closed o ≡ false
    → offset ≡ 0 → list_open side asked file room offset o ≡ list_anew side asked file offset room
at_start side asked file room offset Closed e start = let no : ⊥ = cc in absurd no
at_start side asked file room offset Unread e start = refl
at_start side asked file room zero (Read names) e start = refl
at_start side asked file room (suc n) (Read names) e start = absurd (omega arith)

-- where it was not read yet it is read
pub unread : (side : Side) (asked : Dialogue (List Named)) (file room offset : ℕ) (o : Open) → is_closed o ≡ false
    → is_read o ≡ false → list_open side asked file room offset o ≡ list_anew side asked file offset room
unread side asked file room offset Closed e not_read = let no : ⊥ = cc in absurd no
unread side asked file room offset Unread e not_read = refl
unread side asked file room offset (Read names) e not_read = let no : ⊥ = cc in absurd no

-- behind the start the names are those that were read
pub read_before : (side : Side) (asked : Dialogue (List Named)) (file room offset : ℕ) (o : Open) (names : List Named)
    → o ≡ Read names → 0 < offset → list_open side asked file room offset o ≡ list_read side offset room names
read_before side asked file room offset Closed names e behind = let no : ⊥ = cc in absurd no
read_before side asked file room offset Unread names e behind = let no : ⊥ = cc in absurd no
read_before side asked file room zero (Read others) names e behind = absurd (omega arith)
read_before side asked file room (suc n) (Read others) names e behind =
    let same : others ≡ names = cc in ap (list_read side (suc n) room) same
