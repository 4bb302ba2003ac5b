use Rattle.std.proofs.Common.{◌∙◌, ap, List, ℕ}
use Rattle.toml.specs.Data.{get_member}
use Rattle.toml.specs.View.{table_view}
use Rattle.toml.proofs.Views.{table_get}
use Rattle.board.proofs.keys.value_at.Goals as goal

pub returns : goal.returns
returns c =
    table_get c.get.result c.name.result.now c.args.table.now.entries c.get.ensures.value
    ∙ ap (λ (n : List ℕ). get_member n (table_view c.args.table.now)) c.name.ensures
