-- The versions that a session has at hand.
use Rattle.std.specs.Prelude.{◌≡◌, ℕ, ◌%◌, List, Option, Some, None, slice_index, slice_index_or}
use Rattle.nv_sessions.specs.Locked.{version_at}
use Rattle.nv_sessions.specs.declared.seen_versions.Noted.{Noted}

-- EACH VERSION AT HAND IS THAT WHICH WAS SEEN of its inode, since `opened` had the versions of all inodes at the opening. It lies
-- in the inode's own slot of 16.
abbrev pub AreNoted : List ℕ → List ℕ → List (Option Noted) → Type 0
AreNoted opened seen slots = (slot : ℕ) (noted : Noted) → slice_index_or slots slot None ≡ Some noted
    → (slot ≡ noted.ino % 16) × (version_at opened noted.ino (slice_index seen noted.ino) ≡ noted.version)
