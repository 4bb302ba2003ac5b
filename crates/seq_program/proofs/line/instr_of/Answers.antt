use Rattle.std.proofs.Common.{length}
use Rattle.seq_program.proofs.line.instr_of.Goals as goal

pub returns-clause-fits : goal.returns-clause-fits
returns-clause-fits c = c.in_ok-instr.ensures.fits (length c.args.board.now.targets)
