use Rattle.std.proofs.Common.{◌≡◌, ◌++◌, ℕ, Some, None, List, map, subst, ap}
use Rattle.std.specs.Prelude.{option_map}
use Rattle.facts.specs.declared.domain.row.Row.{Row as CodeRow}
use Rattle.facts.specs.duties.Duties.{duties}
use Rattle.facts.specs.domain.Rows.{row_view}
use Rattle.facts.specs.transfer.Edges.{Edge}
use Rattle.facts.specs.transfer.TimedEdges.{timed_edges}
use Rattle.facts.specs.transfer.Ways.{timed_view}
use Rattle.table_check.specs.checker.Breaches.{BreaksFirst, rule_of}
use Rattle.table_check.specs.checker.Looking.{of_code, fault_at}
use Rattle.table_check.specs.Tables.{rows_view}
use Rattle.table_check.specs.checker.Obligations.{Duty, IsFirstFault, Obligation, of_edges, of_end}
use Rattle.table_check.specs.declared.checker.breach.Breach.TheVariants as breach
use Rattle.table_check.proofs.Broken.{duties_met, duty_fails, first_met}
use Rattle.table_check.proofs.Evidence.{edge_breaks_there}
use Rattle.table_check.proofs.Firsts.{back, front}
use Rattle.table_check.proofs.checker.checking.instr_breach.Goals as goal

pub returns-in-Some-clause-first : goal.returns-in-Some-clause-first
returns-in-Some-clause-first c =
    let b = c.args.board.now in
    let p = c.args.program.now in
    let t = rows_view c.args.rows.now in
    let i = c.args.instr.now in
    let row = row_view c.args.row.now in
    let n = c.args.place in
    let fault = fault_at n (breach.Duty c.in-Some.violation) in
    front b p t (map (Duty n i row) duties)
    (of_edges n (timed_edges b n i row) ++ of_end n row i) fault
    (duty_fails b p t n i row duties (rule_of (breach.Duty c.in-Some.violation))
    c.in-Some.ensures.first)

pub shaped_edges-requires-clause-met : goal.shaped_edges-requires-clause-met
shaped_edges-requires-clause-met c =
    first_met c.args.board.now c.args.instr.now (row_view c.args.row.now)
    c.in_default.ensures.first

pub returns-in-Some-edges_breach-clause-first : goal.returns-in-Some-edges_breach-clause-first
returns-in-Some-edges_breach-clause-first c =
    let b = c.args.board.now in
    let p = c.args.program.now in
    let t = rows_view c.args.rows.now in
    let i = c.args.instr.now in
    let row = row_view c.args.row.now in
    let n = c.args.place in
    let fault = fault_at n c.in-Some-edges_breach.breach in
    let es = timed_edges b n i row in
    let same : of_code n c.in_ok-edges.edges.items ≡ of_edges n es =
    ap (of_edges n) c.in_ok-edges.ensures.edges in
    let P : List Obligation → Type 0 = λ os. IsFirstFault b p t os (Some fault) in
    let Q : List (ℕ × CodeRow × ℕ) → Type 0 =
    λ items. IsFirstFault b p t (of_code n items) (Some fault) in
    back b p t (map (Duty n i row) duties)
    (of_edges n es ++ of_end n row i) (Some fault)
    (duties_met b p t n i row duties c.in_default.ensures.first)
    (front b p t (of_edges n es) (of_end n row i) fault
    (subst P same (subst Q c.deref.ensures.value (c.in-Some-edges_breach.ensures.first p n))))

pub returns-in-Some-edges_breach-clause-blame : goal.returns-in-Some-edges_breach-clause-blame
returns-in-Some-edges_breach-clause-blame c =
    let b = c.args.board.now in
    let t = rows_view c.args.rows.now in
    let i = c.args.instr.now in
    let row = row_view c.args.row.now in
    let n = c.args.place in
    let by = c.in-Some-edges_breach.breach in
    let P : List (Edge × ℕ) → Type 0 = λ es. BreaksFirst b t es by in
    let Q : List (ℕ × CodeRow × ℕ) → Type 0 = λ items. BreaksFirst b t (map timed_view items) by in
    edge_breaks_there b t n i row by
    (subst P c.in_ok-edges.ensures.edges
    (subst Q c.deref.ensures.value c.in-Some-edges_breach.ensures.blame))

pub returns-clause-first : goal.returns-clause-first
returns-clause-first c =
    let b = c.args.board.now in
    let p = c.args.program.now in
    let t = rows_view c.args.rows.now in
    let i = c.args.instr.now in
    let row = row_view c.args.row.now in
    let n = c.args.place in
    let es = timed_edges b n i row in
    let found = option_map (fault_at n) c.end_breach.result in
    let same : of_code n c.in_ok-edges.edges.items ≡ of_edges n es =
    ap (of_edges n) c.in_ok-edges.ensures.edges in
    let P : List Obligation → Type 0 = λ os. IsFirstFault b p t os None in
    let Q : List (ℕ × CodeRow × ℕ) → Type 0 = λ items. IsFirstFault b p t (of_code n items) None in
    back b p t (map (Duty n i row) duties)
    (of_edges n es ++ of_end n row i) found
    (duties_met b p t n i row duties c.in_default.ensures.first)
    (back b p t (of_edges n es) (of_end n row i) found
    (subst P same (subst Q c.deref.ensures.value (c.in-None.ensures.first p n)))
    (c.end_breach.ensures.first p t n))

pub returns-clause-blame : goal.returns-clause-blame
returns-clause-blame c =
    c.end_breach.ensures.blame (rows_view c.args.rows.now) c.args.place
