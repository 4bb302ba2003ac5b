use Rattle.std.proofs.Common.{ap, option_map, ◌∙◌, sym}
use Rattle.seq_program.proofs.Bytes.{bytes_below}
use Rattle.seq_program.proofs.operand.block_of.Goals as goal

pub returns-in-Some-clause-bytes : goal.returns-in-Some-clause-bytes
returns-in-Some-clause-bytes c =
    bytes_below c.args.word.now c.in-Some.bytes.items
    (ap (option_map (λ v. v.items)) (sym c.in-Some.is) ∙ c.in_ok-bytes.ensures.value)
