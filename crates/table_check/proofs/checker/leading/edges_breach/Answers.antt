use Rattle.std.proofs.Common.{◌∷◌, ◌+◌, [], ℕ, sym, subst, arith}
use Rattle.facts.specs.FactLaws.{IsShaped}
use Rattle.facts.specs.domain.Rows.{row_view}
use Rattle.facts.specs.declared.domain.row.Row.{Row as CodeRow}
use Rattle.facts.specs.transfer.Ways.{timed_view}
use Rattle.table_check.specs.checker.Looking.{of_code, fault_at}
use Rattle.table_check.specs.Tables.{rows_view}
use Rattle.table_check.proofs.Evidence.{first_breaks, keeps_more, no_fault_keeps}
use Rattle.table_check.proofs.Firsts.{leaves_fault, leaves_rest}
use Rattle.table_check.proofs.Parts.{edges_from, edges_next, item_at}
use Rattle.table_check.proofs.checker.leading.edges_breach.Goals as goal

pub edge_breach-requires-clause-shaped : goal.edge_breach-requires-clause-shaped
edge_breach-requires-clause-shaped c =
    let P : ℕ × CodeRow × ℕ → Type 0 = λ e. IsShaped c.args.board.now (row_view e.1) in
    subst P (sym c.index-edges-index.is)
    (c.requires.shaped c.loop-index.index c.index-edges-index.result (omega arith))

pub returns-in-Some-clause-first : goal.returns-in-Some-clause-first
returns-in-Some-clause-first c = λ p place.
    let t = rows_view c.args.rows.now in
    let es = c.args.edges.now in
    let n = c.loop-index.index in
    let e = c.index-edges-index.result in
    leaves_fault c.args.board.now p t (of_code place es) (edges_from place es n)
    (of_code place (e ∷ [])) (edges_from place es (n + 1)) (fault_at place c.in-Some.breach)
    (c.loop-index.invariant.leaves p place)
    (edges_next place es n e (item_at es n e c.loop-index-test.true c.index-edges-index.is))
    (c.in-Some.ensures.first p place)

pub returns-in-Some-clause-blame : goal.returns-in-Some-clause-blame
returns-in-Some-clause-blame c =
    let es = c.args.edges.now in
    let n = c.loop-index.index in
    let e = c.index-edges-index.result in
    first_breaks c.args.board.now (rows_view c.args.rows.now) es n e c.in-Some.breach
    (fault_at 0 c.in-Some.breach) (item_at es n e c.loop-index-test.true c.index-edges-index.is)
    c.loop-index.invariant.kept (c.in-Some.ensures.first [] 0) c.in-Some.ensures.blame

pub loop-index-preserved : goal.loop-index-preserved
loop-index-preserved c =
    let b = c.args.board.now in
    let t = rows_view c.args.rows.now in
    let es = c.args.edges.now in
    let n = c.loop-index.index in
    let e = c.index-edges-index.result in
    let here = item_at es n e c.loop-index-test.true c.index-edges-index.is in
    record {
      leaves = λ p place.
          leaves_rest b p t (of_code place es) (edges_from place es n) (of_code place (e ∷ []))
          (edges_from place es (n + 1)) (c.loop-index.invariant.leaves p place)
          (edges_next place es n e here) (c.in_default.ensures.first p place);
      kept = keeps_more b t es n e here c.loop-index.invariant.kept
          (no_fault_keeps b [] t 0 (timed_view e) (c.in_default.ensures.first [] 0));
    }
