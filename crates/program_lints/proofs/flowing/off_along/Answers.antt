use Rattle.facts.specs.domain.Rows.{row_view}
use Rattle.facts.specs.domain.Sets.{rails_in}
use Rattle.program_lints.proofs.Changed.{off_after}
use Rattle.program_lints.proofs.flowing.off_along.Goals as goal

pub returns-clause-flow : goal.returns-clause-flow
returns-clause-flow c = λ before d sure.
    off_after c.args.board.now (row_view c.args.row.now) c.args.instr.now c.args.to
    (rails_in c.turned_off.result) (rails_in c.turned_on.result) before d
    (c.turned_off.ensures d) (c.turned_on.ensures d) sure
