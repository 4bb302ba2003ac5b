use Rattle.seq_program.specs.RequestViews.{request_view}
use Rattle.facts.specs.domain.Rows.{row_view}
use Rattle.facts.specs.duties.Duties.{duties}
use Rattle.facts.proofs.Coded.Blamed.{first_failing, blamed}
use Rattle.facts.proofs.duties.judging.violation.Goals as goal

pub returns-clause-first : goal.returns-clause-first
returns-clause-first c =
    first_failing c.args.board.now (row_view c.args.row.now) c.args.instr.now
    (request_view c.in-Some.request) duties c.first_broken.result c.in-Some.ensures.value
    c.first_broken.ensures

pub returns-clause-blame : goal.returns-clause-blame
returns-clause-blame c =
    blamed c.args.board.now (row_view c.args.row.now) c.args.instr.now
    (request_view c.in-Some.request) duties c.first_broken.result c.in-Some.ensures.value
    c.first_broken.ensures
