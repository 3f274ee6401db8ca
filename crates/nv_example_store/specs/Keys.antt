-- Which bytes are a key.
use Rattle.std.specs.Prelude.{ℕ, ◌&&◌, Bool, List, codes, not}
use Rattle.nv_base.specs.Names.{is_lawful_name, same_name}

-- the name under which a value is written first. It is no key.
abbrev pub scratch : List ℕ
scratch = codes "new value"

-- bytes are a key where they are a lawful name, except that one
abbrev pub may_be_key : List ℕ → Bool
may_be_key key = is_lawful_name key && not (same_name key scratch)
