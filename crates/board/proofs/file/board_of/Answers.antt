use Rattle.toml.specs.View.{table_view}
use Rattle.board.proofs.ValidBoards.{board_valid}
use Rattle.board.proofs.NotToml.{passed_on}
use Rattle.board.proofs.file.board_of.Goals as goal

pub new-requires : goal.new-requires
new-requires c = board_valid (table_view c.args.table.now) _ c.in_ok-targets.ensures

pub returns-in_err-targets-clause-tree : goal.returns-in_err-targets-clause-tree
returns-in_err-targets-clause-tree c =
    passed_on c.from_residual.result c.in_err-targets.field-0.0
    (table_view c.args.table.now) c.from_residual.ensures.1 c.in_err-targets.ensures
