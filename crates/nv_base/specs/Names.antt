-- Which bytes are a lawful name.
use Rattle.std.specs.Prelude.{ℕ, ◌&&◌, ◌||◌, ◌==◌, Bool, not, List, length, nat_eq, nat_le, codes}
use Rattle.std.specs.List.{list_all}
use lib.Pointwise.{pointwise}
use Rattle.nv_base.specs.declared.limits.TheConstants.{NAME_BYTES}

-- two names are the same where their bytes are
abbrev pub same_name : List ℕ → List ℕ → Bool
same_name a b = pointwise nat_eq a b

-- the byte may stand in a name: it is neither `/` nor NUL
abbrev pub is_name_byte : ℕ → Bool
is_name_byte byte = not (byte == 47) && not (byte == 0)

-- the name is `.` or `..`
abbrev pub is_dots : List ℕ → Bool
is_dots bytes = same_name bytes (codes ".") || same_name bytes (codes "..")

-- 1 to 255 bytes, none of them `/` or NUL, and not `.` or `..`
abbrev pub is_lawful_name : List ℕ → Bool
is_lawful_name bytes =
    nat_le 1 (length bytes) && nat_le (length bytes) NAME_BYTES && list_all is_name_byte bytes && not (is_dots bytes)
