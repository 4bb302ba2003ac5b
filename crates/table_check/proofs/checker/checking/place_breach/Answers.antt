use Rattle.std.proofs.Common.{Some, sym, subst}
use Rattle.std.specs.Prelude.{Option, option_map}
use Rattle.facts.specs.domain.Rows.{row_view}
use Rattle.table_check.specs.Tables.{rows_view}
use Rattle.table_check.specs.declared.checker.breach.Breach.{Breach}
use Rattle.table_check.specs.checker.Looking.{fault_at}
use Rattle.table_check.specs.checker.Obligations.{IsFirstFault, of_row}
use Rattle.table_check.proofs.Evidence.{owed_there}
use Rattle.table_check.proofs.checker.checking.place_breach.Goals as goal

pub instr_breach-requires-clause-row : goal.instr_breach-requires-clause-row
instr_breach-requires-clause-row c =
    c.requires.rows c.args.place (row_view c.in-Some.row.now) (sym c.in-Some.ensures)

pub returns-in-Some-2-clause-first : goal.returns-in-Some-2-clause-first
returns-in-Some-2-clause-first c =
    let b = c.args.board.now in
    let p = c.args.program.now in
    let t = rows_view c.args.rows.now in
    let i = c.in-Some-at.instr.now in
    let row = row_view c.in-Some.row.now in
    let n = c.args.place in
    let P : Option Breach → Type 0 = λ o.
    IsFirstFault b p t (of_row b n i row) (option_map (fault_at n) o) in
    owed_there b p t n i row (Some (fault_at n c.in-Some-2.breach)) c.in-Some-at.ensures
    c.in-Some.ensures (subst P c.in-Some-2.is c.in_ok-breach.ensures.first)
