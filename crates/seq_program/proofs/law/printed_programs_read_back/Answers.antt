use Rattle.seq_program.proofs.PrintedCase.{boards_have_programs}
use Rattle.seq_program.proofs.PrintedPrograms.{printed_programs_read_back}
use Rattle.seq_program.proofs.law.printed_programs_read_back.Goals as goal

pub returns-clause-read : goal.returns-clause-read
returns-clause-read c = printed_programs_read_back (record {
  pair = c.numbers_read_back.ensures.pair;
  bytes = c.numbers_read_back.ensures.bytes;
  decimal = c.numbers_read_back.ensures.decimal;
  names = c.names_read_back.ensures.read;
  digits = c.names_read_back.ensures.digits;
})

pub returns-clause-case : goal.returns-clause-case
returns-clause-case c = boards_have_programs
