use Rattle.notes.proofs.QuotedWords.{tells_whole, tells_beginning}
use Rattle.notes.proofs.quote.QuotedDisplay.fmt.Goals as goal

pub returns-in-Some-clause-writes : goal.returns-in-Some-clause-writes
returns-in-Some-clause-writes g c =
    tells_beginning c.args.self.now.0.now c.in-Some.beginning.now _ c.in-Some.ensures
    c.write.ensures.writes

pub returns-in-None-clause-writes : goal.returns-in-None-clause-writes
returns-in-None-clause-writes g c =
    tells_whole c.args.self.now.0.now _ c.in-None.ensures c.write-in-None.ensures.writes
