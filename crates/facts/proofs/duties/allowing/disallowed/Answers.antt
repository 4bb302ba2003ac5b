use Rattle.std.proofs.Common.{◌∙◌, ap}
use Rattle.board.specs.Boards.{entry_of}
use Rattle.seq_program.specs.RequestViews.{transaction_view}
use Rattle.facts.specs.domain.Rows.{row_view}
use Rattle.facts.proofs.Coded.Untaken.{k1}
use Rattle.facts.proofs.duties.allowing.disallowed.Goals as goal

pub returns : goal.returns
returns c =
    k1 c.args.board.now (row_view c.args.row.now) c.args.target
    (transaction_view c.args.transaction.now) c.in-Some.device.now c.in-Some-entry.entry.now
    c.untaken.result c.in-Some.ensures (c.in-Some-entry.ensures
    ∙ ap (λ n. entry_of c.args.transaction.now.form n c.in-Some.device.now.allow) c.code.ensures)
    c.untaken.ensures
