-- What a new node has of its directory, and what of who makes it.
use Rattle.std.specs.Prelude.{ℕ, ◌==◌, Bool, if◌then◌else◌, bit_and, bit_or, not}
use Rattle.nv_base.specs.declared.node.Kind.{Kind}
use Rattle.nv_base.specs.declared.node.Kind.TheVariants as kinds
use Rattle.nv_mount_beside.specs.declared.inherited.Owner.{Owner}

-- a directory with the set-group-id bit, octal 2000, passes its group on
abbrev pub passes_group : ℕ → Bool
passes_group mode = not (bit_and mode 1024 == 0)

-- a new node is a user's, and of the directory's group where that is passed on, or else of the user's
abbrev pub owner_in : ℕ → ℕ → ℕ → ℕ → Owner
owner_in dir_mode dir_group user group = record {
  user = user;
  group = if passes_group dir_mode then dir_group else group;
}

-- with the group a directory gets the bit, and a file does not
abbrev pub mode_in : ℕ → Kind → ℕ → ℕ
mode_in dir_mode kinds.File mode = mode
mode_in dir_mode kinds.Dir mode = if passes_group dir_mode then bit_or mode 1024 else mode
