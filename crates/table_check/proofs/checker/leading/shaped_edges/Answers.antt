use Rattle.std.proofs.Common.{◌≡◌, ℕ, List, map, subst}
use Rattle.std.specs.Prelude.{IfSome, Option}
use Rattle.seq_program.specs.declared.instr.Instr.{Instr}
use Rattle.seq_program.specs.Valid.{IsInstr}
use Rattle.facts.specs.declared.domain.row.Row.{Row as CodeRow}
use Rattle.facts.specs.transfer.Edges.{Edge}
use Rattle.facts.specs.FactLaws.{IsShaped}
use Rattle.facts.specs.domain.Rows.{row_view}
use Rattle.facts.specs.transfer.TimedEdges.{timed_edges}
use Rattle.facts.specs.transfer.Ways.{timed_view}
use Rattle.table_check.proofs.Broken.{all_have, ok_to, row_shaped}
use Rattle.table_check.proofs.Places.{all_at}
use Rattle.table_check.proofs.checker.leading.shaped_edges.Goals as goal

pub returns-clause-edges : goal.returns-clause-edges
returns-clause-edges c =
    let row = row_view c.args.row.now in
    let b = c.args.board.now in
    let Told : Option Instr → List (ℕ × CodeRow × ℕ) → Type 0 = λ o es. IfSome o
    (λ i. map timed_view es ≡ timed_edges b c.args.place i row) in
    ok_to c.edges.result _ _ (λ es told. subst (λ o. Told o es.items) c.requires.here told)
    c.edges.ensures.leads

pub returns-clause-shaped : goal.returns-clause-shaped
returns-clause-shaped c =
    let row = row_view c.args.row.now in
    let b = c.args.board.now in
    let i = c.args.instr.now in
    let Told : Option Instr → List (ℕ × CodeRow × ℕ) → Type 0 = λ o es. IfSome o
    (λ j. map timed_view es ≡ timed_edges b c.args.place j row) in
    let fits : IsInstr i = all_at (λ (x : Instr). IsInstr x) c.args.program.now c.args.place i
    c.program_is_valid.ensures.each c.requires.here in
    ok_to c.edges.result _ _ (λ es told.
    all_have (λ (x : Edge). IsShaped b x.row) es.items (timed_edges b c.args.place i row)
    (subst (λ o. Told o es.items) c.requires.here told)
    (λ x ticks k. c.covered_rows_follow.ensures.shapes b c.args.place i row x ticks
    c.board_is_valid.ensures fits (row_shaped b row c.requires.row) c.requires.met k))
    c.edges.ensures.leads
