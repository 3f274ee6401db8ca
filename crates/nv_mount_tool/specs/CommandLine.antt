-- What the words of a command line ask for.
use Rattle.std.specs.Prelude.{◌&&◌, ◌^◌, ℕ, Bool, true, false, List, Option, Some, None, codes, if◌then◌else◌, length, nat_lt, option_and_then, unwrap_or}
use Rattle.std.specs.List.{list_all}
use Rattle.std.specs.Option.{option_map_or}
use Rattle.std.specs.Char.{digit_value}
use Rattle.std.specs.Str.{bytes_eq}
use Rattle.std.specs.Str.Parse.{digits_value, without_leading_plus}
use Rattle.clap.specs.Words.{App, Row, Rule, Text, new_app, new_rule, one_of, with_rule}
use Rattle.clap.specs.declared.builder.action.ArgAction.TheVariants.{SetTrue}
use Rattle.clap.specs.declared.builder.value_parser.ValueParser.{ValueParser}
use Rattle.clap.specs.declared.builder.value_parser.ValueParser.TheVariants.{Unsigned}
use Rattle.nv_base.specs.declared.geometry.GeometryNumbers.{GeometryNumbers}
use Rattle.nv_mount_tool.specs.declared.command_line.Options.{Options}

-- an option with one number
abbrev pub number_rule : Text → ValueParser → Rule
number_rule name numbers = record (new_rule name) {
  long = Some name;
  value_names = 1;
  parser = Some numbers;
}

-- an option without a value
abbrev pub flag_rule : Text → Rule
flag_rule name = record (new_rule name) { long = Some name; action = Some SetTrue }

-- the program without its options: a name and a version
abbrev pub program : App
program =
    let plain = new_app (codes "novamount") in
    record plain { top = record plain.top { has_version = true } }

-- its command line: four options with a number from here to there, and one without
abbrev pub command_line : App
command_line =
    with_rule (with_rule (with_rule (with_rule (with_rule program
    (number_rule (codes "blocks") (Unsigned 2 1048576)))
    (number_rule (codes "inodes") (Unsigned 1 65536)))
    (number_rule (codes "snaps") (Unsigned 1 1024)))
    (number_rule (codes "now") (Unsigned 0 9223372036)))
    (flag_rule (codes "audit"))

-- decimal digits, behind a plus or not, that are a number of eight bytes
abbrev pub decimal : Text → Option ℕ
decimal text =
    let digits = without_leading_plus text in
    if nat_lt 0 (length digits) && (list_all (λ d. nat_lt (digit_value d) 10) digits
    && nat_lt (digits_value 10 digits) (2 ^ 64)) then Some (digits_value 10 digits) else None

-- the number of an option, where it is given
abbrev pub number_in : Text → List Row → Option ℕ
number_in name rows = option_and_then decimal (one_of name rows)

-- whether an option without a value is given
abbrev pub flag_in : Text → List Row → Bool
flag_in name rows = option_map_or (bytes_eq (codes "true")) (one_of name rows) false

-- what the words ask for, where they are no more than these options: each has its number or its default
abbrev pub options_of : List Row → Options
options_of rows = record {
  blocks = unwrap_or (number_in (codes "blocks") rows) 262144;
  inodes = unwrap_or (number_in (codes "inodes") rows) 65536;
  snaps = unwrap_or (number_in (codes "snaps") rows) 64;
  now = number_in (codes "now") rows;
  audit = flag_in (codes "audit") rows;
}

-- the numbers of the file system that options ask for
abbrev pub numbers_of : Options → GeometryNumbers
numbers_of options = record {
  blocks = options.blocks;
  cpus = 1;
  block = 4096;
  page = 63;
  inodes = options.inodes;
  snaps = options.snaps;
  actors = 1;
}
