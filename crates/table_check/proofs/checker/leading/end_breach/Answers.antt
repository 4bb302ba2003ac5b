use Rattle.std.proofs.Common.{sym, subst, refl}
use Rattle.std.specs.Prelude.{option_map, IsTrue}
use Rattle.seq_program.specs.declared.instr.Instr.{Instr}
use Rattle.seq_program.specs.Programs.{is_end}
use Rattle.facts.specs.domain.Rows.{row_view}
use Rattle.table_check.specs.checker.Looking.{fault_at}
use Rattle.table_check.specs.checker.Obligations.{IsFirstFault, of_end}
use Rattle.table_check.proofs.Evidence.{end_breaks_there}
use Rattle.table_check.proofs.checker.leading.end_breach.Goals as goal

pub returns-in-End-clause-first : goal.returns-in-End-clause-first
returns-in-End-clause-first c = λ p t place.
    let P : Instr → Type 0 = λ i. IsFirstFault c.args.board.now p t
    (of_end place (row_view c.args.row.now) i)
    (option_map (fault_at place) c.last_breach.result) in
    subst P (sym c.in-End.is) (c.last_breach.ensures.first p t place)

pub returns-in-End-clause-blame : goal.returns-in-End-clause-blame
returns-in-End-clause-blame c = λ t place.
    end_breaks_there c.args.board.now t place c.args.instr.now (row_view c.args.row.now)
    c.last_breach.result (subst (λ i. IsTrue (is_end i)) (sym c.in-End.is) refl)
    c.last_breach.ensures.blame

pub returns-in-Fail-clause-first : goal.returns-in-Fail-clause-first
returns-in-Fail-clause-first c = λ p t place.
    let P : Instr → Type 0 = λ i. IsFirstFault c.args.board.now p t
    (of_end place (row_view c.args.row.now) i)
    (option_map (fault_at place) c.last_breach-in-Fail.result) in
    subst P (sym c.in-Fail.is) (c.last_breach-in-Fail.ensures.first p t place)

pub returns-in-Fail-clause-blame : goal.returns-in-Fail-clause-blame
returns-in-Fail-clause-blame c = λ t place.
    end_breaks_there c.args.board.now t place c.args.instr.now (row_view c.args.row.now)
    c.last_breach-in-Fail.result (subst (λ i. IsTrue (is_end i)) (sym c.in-Fail.is) refl)
    c.last_breach-in-Fail.ensures.blame
