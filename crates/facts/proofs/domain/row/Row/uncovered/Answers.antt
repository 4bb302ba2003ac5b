use Rattle.facts.proofs.Coded.Uncovering.{found_rows}
use Rattle.facts.proofs.domain.row.Row.uncovered.Goals as goal

pub returns-clause-rows : goal.returns-clause-rows
returns-clause-rows c = λ b s u.
    found_rows b c.args.self.now c.args.other.now c.first_uncovered.result c.is_sized.ensures
    c.is_sized-2.ensures c.first_uncovered.ensures s u
