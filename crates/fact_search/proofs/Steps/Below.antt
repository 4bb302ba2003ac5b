-- What the edges of a place bring, and what any table says of it that keeps the rule book.
use Rattle.std.proofs.Common.{◌≡◌, ◌<◌, ℕ, List, length, ap, sym, ◌∙◌}
use Rattle.std.specs.Prelude.{slice_get, Some}
use Rattle.board.specs.Boards.{Board}
use Rattle.seq_program.specs.declared.instr.Instr.{Instr}
use Rattle.facts.specs.declared.duties.rule.Rule.TheVariants.{K1}
use Rattle.facts.specs.duties.Duties.{Meets}
use Rattle.facts.specs.transfer.Edges.{Edge}
use Rattle.facts.specs.FactLaws.{IsShaped}
use Rattle.facts.specs.domain.Rows.{Row, IsRow}
use Rattle.facts.specs.transfer.TimedEdges.{HasTimed, timed_edges}
use Rattle.table_check.specs.checker.ByPlace.{MeetsAll}
use Rattle.table_check.specs.checker.Obligations.{IsInductive}
use Rattle.table_check.specs.checker.Rules.{IsCovered}
use Rattle.table_check.specs.Tables.{Table, row_of}
use Rattle.fact_search.specs.Forward.{IsForward}
use Rattle.fact_search.specs.Searching.{IsBelow, Premises}
use Rattle.fact_search.proofs.Shared.Covers.{covers_trans, row_shaped, wider}
use Rattle.fact_search.proofs.Leads.Goes.{inside, onward}
use Rattle.fact_search.proofs.Leads.Said.{is_instr, is_said}

-- the rows of a table that keeps the rule book meet their duties, and its edges are covered
kept_at : (b : Board) (p : List Instr) (any : Table) (n : ℕ) (i : Instr) (row : Row)
    → Premises b p → IsInductive b p any → slice_get p n ≡ Some i → row_of any n ≡ Some row
    → IsRow b row × MeetsAll b i row
    × ((e : Edge) (ticks : ℕ) → HasTimed (timed_edges b n i row) e ticks → IsCovered b any e)
kept_at b p any n i row given inductive here there =
    let k = (given.by_place b p any).0 inductive in
    let met = k.1 n i row here there in
    (k.0.rows n row there, met, (k.0.goes_on n i row here there met).covered)

-- where a table keeps the rule book, the duties of a table below it are met
pub duties_below : (b : Board) (p : List Instr) (t any : Table) (n : ℕ) (i : Instr) (row : Row)
    → Premises b p → IsBelow b p t → IsInductive b p any → IsRow b row → slice_get p n ≡ Some i
    → row_of t n ≡ Some row → MeetsAll b i row
duties_below b p t any n i row given below inductive shaped here there rule =
    let s = below any inductive n row there in
    let k = kept_at b p any n i s.0 given inductive here s.1 in
    given.duties b i s.0 row rule (is_said b p n i s.0 given.program here (k.1 K1))
    (wider b s.0 row k.0 shaped s.2) (k.1 rule)

-- a table that keeps the rule book covers the edges of a table below it
pub edge_below : (b : Board) (p : List Instr) (t any : Table) (n : ℕ) (i : Instr) (row : Row)
    → Premises b p → IsBelow b p t → IsInductive b p any → IsRow b row → slice_get p n ≡ Some i
    → row_of t n ≡ Some row → (e : Edge) (ticks : ℕ) → HasTimed (timed_edges b n i row) e ticks
    → IsCovered b any e
edge_below b p t any n i row given below inductive shaped here there e ticks h =
    let s = below any inductive n row there in
    let k = kept_at b p any n i s.0 given inductive here s.1 in
    let y = given.edges b n i s.0 row given.board
    (is_said b p n i s.0 given.program here (k.1 K1)) (wider b s.0 row k.0 shaped s.2) e ticks h in
    let c = k.2 y.0 ticks y.1 in
    (c.0, ap (row_of any) (sym y.2) ∙ c.1, covers_trans b c.0 (Edge.row y.0) e.row c.2 y.3)

-- what is known of an edge of a place: it leads into the program, onward where the program is
-- forward, with a row of the board that any table covers that keeps the rule book
pub record IsEdge (b : Board) (p : List Instr) (n : ℕ) (e : Edge) : Type 0 where
  pub inside : e.to < length p
  pub onward : IsForward p → n < e.to
  pub shaped : IsShaped b e.row
  pub below : IsForward p → (any : Table) → IsInductive b p any → IsCovered b any e

pub is_edge : (b : Board) (p : List Instr) (t : Table) (n : ℕ) (i : Instr) (row : Row)
    → Premises b p
    → (IsForward p → IsBelow b p t) → IsRow b row → slice_get p n ≡ Some i
    → row_of t n ≡ Some row → Meets b row i K1 → (e : Edge) (ticks : ℕ)
    → HasTimed (timed_edges b n i row) e ticks → IsEdge b p n e
is_edge b p t n i row given below shaped here there met e ticks h = record {
  inside = inside b p n i row e ticks given.program here h;
  onward = λ forward. onward b p n i row e ticks forward here h;
  shaped = given.shapes b n i row e ticks given.board (is_instr p n i given.program here)
      (row_shaped b row shaped) met h;
  below = λ forward any inductive.
      edge_below b p t any n i row given (below forward) inductive shaped here there e ticks h;
}
