-- What kind of command line the program's is.
use Rattle.std.proofs.Common.{◌≡◌, true, refl}
use Rattle.clap.specs.Words.{is_simple, is_simple_and_free}
use Rattle.clap.proofs.OnLiterals.{clap_on_literals}
use Rattle.nv_mount_tool.specs.CommandLine.{command_line}

pub is_simple_line : is_simple command_line ≡ true
unfolding clap_on_literals
is_simple_line = refl

pub is_free_line : is_simple_and_free command_line ≡ true
unfolding clap_on_literals
is_free_line = refl
