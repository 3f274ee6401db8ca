-- How requests come.
use Rattle.std.specs.Prelude.{◌≡◌, ◌==◌, ◌||◌, ◌<◌, ◌++◌, if◌then◌else◌, ℕ, ℤ, pos, List, [], Option, Some, None, length}
use Rattle.std.specs.Io.KnownBytes.{Consumes, IsAtEnd, Keeps}
use Rattle.std.specs.IoError.{raw_os_error}
use Rattle.std.specs.declared.io.Error.{Error as IoError}
use Rattle.nv_mount_tool.specs.declared.stream.Brought.{Brought}
use Rattle.nv_mount_tool.specs.declared.stream.Brought.TheVariants.{Bytes, Nothing, End, Unmounted}
use Rattle.nv_mount_tool.specs.declared.stream.StreamError.{StreamError}
use Rattle.nv_mount_tool.specs.declared.stream.StreamError.TheVariants as errors

-- what an error of the system brings: ENOENT (2), EINTR (4) and EAGAIN (11) bring nothing yet, and ENODEV (19) is the end
-- of the mount
abbrev pub brought_at : Option ℤ → Option Brought
brought_at (Some (pos n)) =
    if n == 2 || (n == 4 || n == 11) then Some Nothing else if n == 19 then Some Unmounted else None
brought_at other = None

-- the same of an error
abbrev pub brought_by : IoError → Option Brought
brought_by error = brought_at (raw_os_error error)

-- so many bytes are taken from the reader, and stand behind those that waited; none come only at its end
abbrev pub Reads : ℕ → Option (List ℕ) → Option (List ℕ) → List ℕ → List ℕ → Type 0
Reads count before after old new =
    (bytes : List ℕ) × (length bytes ≡ count) × Consumes before after bytes × (new ≡ old ++ bytes)
    × (count ≡ 0 → IsAtEnd after)

-- What a read brings. Bytes are taken from the reader, and wait behind what waited. At the end the reader has none left. Of
-- all else nothing changes.
abbrev pub Brings : Brought → Option (List ℕ) → Option (List ℕ) → List ℕ → List ℕ → Type 0
Brings Bytes before after old new =
    (bytes : List ℕ) × (0 < length bytes) × Consumes before after bytes × (new ≡ old ++ bytes)
Brings End before after old new = Consumes before after [] × IsAtEnd after × (new ≡ old)
Brings other before after old new = Keeps before after × (new ≡ old)

-- why requests can't be read on: an error that brings nothing, or so many bytes that wait without a whole request
abbrev pub IsRefusal : StreamError → List ℕ → Type 0
IsRefusal (errors.Read error) waiting = brought_by error ≡ None
IsRefusal errors.TooLong waiting = length waiting ≡ 1056768
