use Rattle.std.specs.Prelude.{replicate}
use Rattle.std.proofs.Common.{refl}
use Rattle.facts.specs.domain.Rows.{row_view}
use Rattle.fact_search.proofs.Rows.Joined.{joins}
use Rattle.fact_search.proofs.Shared.Covers.{row_shaped}
use Rattle.fact_search.proofs.joining.joined.Goals as goal

pub returns : goal.returns
returns c =
    joins c.args.board.now
    (record c.in_ok-joined.joined { base = 0; coeffs = replicate 4 0; lost_coeff = 0 })
    c.args.row.now c.args.other.now
    (row_shaped c.args.board.now (row_view c.args.row.now) c.requires.row)
    c.requires.other c.in_ok-joined.ensures.first c.in_ok-joined.ensures.second
    c.in_ok-joined.ensures.least refl refl refl
