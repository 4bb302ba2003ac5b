use Rattle.seq_program.proofs.JoinedWords.{lines_back}
use Rattle.seq_program.proofs.law.lines_read_back.Goals as goal

pub returns : goal.returns
returns c = lines_back
