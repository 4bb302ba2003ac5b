use Rattle.std.proofs.Common.{sym, subst}
use Rattle.std.specs.Prelude.{IfSome, Option}
use Rattle.seq_program.specs.declared.instr.Instr.{Instr}
use Rattle.facts.specs.declared.duties.rule.Rule.TheVariants.{K1}
use Rattle.facts.specs.duties.Duties.{Meets}
use Rattle.facts.specs.domain.Rows.{row_view}
use Rattle.fact_search.proofs.Leads.Met.{all_met}
use Rattle.fact_search.proofs.leading.edges_at.Goals as goal

pub edges-requires-clause-row : goal.edges-requires-clause-row
edges-requires-clause-row c =
    c.requires.rows c.args.place (row_view c.in-Some.row.now) (sym c.in-Some.ensures)

pub edges-requires-clause-met : goal.edges-requires-clause-met
edges-requires-clause-met c =
    let row = row_view c.in-Some.row.now in
    let i = c.in-Some-at.instr.now in
    let P : Option Instr → Type 0 = λ o. IfSome o (λ j. Meets c.args.board.now row j K1) in
    subst P c.in-Some-at.ensures (all_met c.args.board.now i row c.in-None.ensures K1)
