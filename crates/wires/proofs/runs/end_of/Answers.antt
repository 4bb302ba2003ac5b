use Rattle.wires.proofs.RunLists.{last_ends}
use Rattle.wires.proofs.runs.end_of.Goals as goal

pub returns-in-Some : goal.returns-in-Some
returns-in-Some c =
    last_ends c.args.runs.now c.in-Some.last.now c.requires.rising c.in-Some.ensures.value
