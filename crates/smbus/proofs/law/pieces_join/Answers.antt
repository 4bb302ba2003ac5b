use Rattle.smbus.proofs.CutPieces.{joined, some_taken, stops_joined, unique}
use Rattle.smbus.proofs.law.pieces_join.Goals as goal

pub returns-clause-join : goal.returns-clause-join
returns-clause-join c = joined

pub returns-clause-unique : goal.returns-clause-unique
returns-clause-unique c = unique

pub returns-clause-case : goal.returns-clause-case
returns-clause-case c = some_taken

pub returns-clause-stops : goal.returns-clause-stops
returns-clause-stops c = stops_joined
