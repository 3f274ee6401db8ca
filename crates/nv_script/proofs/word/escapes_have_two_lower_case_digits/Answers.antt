use Rattle.nv_script.proofs.Printed.{are_printed}
use Rattle.nv_script.proofs.word.escapes_have_two_lower_case_digits.Goals as goal

pub returns : goal.returns
returns c = are_printed
