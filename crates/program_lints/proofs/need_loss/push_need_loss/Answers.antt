use Rattle.std.proofs.lemmas.Result.{on_ok_weaker}
use Rattle.facts.specs.domain.Rows.{row_view}
use Rattle.facts.specs.domain.Sets.{rails_in}
use Rattle.program_lints.proofs.Leaning.{of_need}
use Rattle.program_lints.proofs.need_loss.push_need_loss.Goals as goal

pub returns-then-may_be_lost : goal.returns-then-may_be_lost
returns-then-may_be_lost c = λ rail.
    on_ok_weaker c.push_need_lints.result
    (of_need c.args.board.now (row_view c.args.row.now) c.args.instr.now (rails_in c.args.on)
    (rails_in c.leans_on-leaning.result) c.args.place c.args.need rail c.may_be_lost.result
    c.args.lints.now.items c.push_need_lints.new.lints.items c.if-may_be_lost.true
    c.may_be_lost.ensures c.leans_on-leaning.ensures)
    c.push_need_lints.ensures
