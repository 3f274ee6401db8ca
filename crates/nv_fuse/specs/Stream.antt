-- How a stream of requests is cut: each begins with its length.
use Rattle.std.specs.Prelude.{ℕ, ◌≡◌, ◌≤◌, ◌<◌, ◌++◌, ◌⊎◌, List, length}
use Rattle.nv_fuse.specs.Fields.{field}
use Rattle.nv_fuse.specs.Requests.{IsRequest}
use Rattle.nv_fuse.specs.declared.front.Front.{Front}
use Rattle.nv_fuse.specs.declared.front.Front.TheVariants.{Broken, Part, Whole}

-- What a stream begins with: a whole request and what stands behind it; a part of one, whose length is cut off too or
-- tells more bytes than there are; or a length below that of a header, with which no request begins.
abbrev pub IsFront : List ℕ → Front → Type 0
IsFront bytes (Whole request behind) = (request.now ++ behind.now ≡ bytes) × IsRequest request.now
IsFront bytes Part =
    (length bytes < 4) ⊎ ((40 ≤ field 0 4 bytes) × (length bytes < field 0 4 bytes))
IsFront bytes Broken = (4 ≤ length bytes) × (field 0 4 bytes < 40)
