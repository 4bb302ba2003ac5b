use Rattle.facts.specs.domain.Rows.{row_view}
use Rattle.facts.specs.domain.Sets.{rails_in}
use Rattle.program_lints.proofs.Changed.{voltage_after}
use Rattle.program_lints.proofs.flowing.voltage_along.Goals as goal

pub returns-clause-flow : goal.returns-clause-flow
returns-clause-flow c = λ before d sure.
    voltage_after c.args.board.now (row_view c.args.row.now) c.args.instr.now c.args.to
    (rails_in c.voltages_set.result) (rails_in c.empty.result) before d
    (c.voltages_set.ensures d) sure
