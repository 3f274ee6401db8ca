-- Whether records are deferred.
use Rattle.std.specs.Prelude.{Bool, true, false, List, [], ◌∷◌}
use Rattle.nv_book.specs.declared.record.Record.{Record}

-- there is one
abbrev pub has_some : List Record → Bool
has_some [] = false
has_some (first ∷ others) = true
