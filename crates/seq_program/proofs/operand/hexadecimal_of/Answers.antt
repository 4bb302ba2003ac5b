use Rattle.std.proofs.Common.{◌∙◌, rules, arith}
use Rattle.std.proofs.lemmas.Bool.Decides.{nat_tests}
use Rattle.seq_program.proofs.EitherCase.{digits_read}
use Rattle.seq_program.proofs.operand.hexadecimal_of.Goals as goal

pub returns : goal.returns
returns c = c.ok.ensures.value ∙ digits_read c.args.digits.now _ c.from_str_radix.ensures.value
    (search rules) (grind (arith, nat_tests, c.is_empty.ensures)) (omega arith)
