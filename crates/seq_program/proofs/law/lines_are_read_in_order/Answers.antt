use Rattle.seq_program.proofs.LinesRead.{lines_in_order, first_fault_is_told, some_line_fails}
use Rattle.seq_program.proofs.law.lines_are_read_in_order.Goals as goal

pub returns-clause-lines : goal.returns-clause-lines
returns-clause-lines c = lines_in_order

pub returns-clause-fault : goal.returns-clause-fault
returns-clause-fault c = first_fault_is_told

pub returns-clause-case : goal.returns-clause-case
returns-clause-case c = some_line_fails
