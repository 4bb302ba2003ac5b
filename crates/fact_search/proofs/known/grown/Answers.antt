use Rattle.std.proofs.Common.{false, true, ◌≡◌, sym, ◌∙◌}
use Rattle.facts.specs.domain.Rows.{row_view}
use Rattle.fact_search.proofs.Shared.Covers.{covers_trans}
use Rattle.fact_search.proofs.known.grown.Goals as goal

true_false : true ≡ false → ⊥
true_false e = cc

pub returns-then-back : goal.returns-then-back
returns-then-back c =
    let b = c.args.board.now in
    let joined = row_view c.in_ok-joined.joined in
    let result = row_view c.widened.result in
    record {
      shaped = c.widened.ensures.row;
      first = covers_trans b result joined (row_view c.args.old.now) c.widened.ensures.covers
          c.in_ok-joined.ensures.first;
      second = covers_trans b result joined (row_view c.args.row.now) c.widened.ensures.covers
          c.in_ok-joined.ensures.second;
      least = λ onward. absurd (true_false (sym c.if-back.true ∙ onward));
    }

pub returns-else-back : goal.returns-else-back
returns-else-back c = record {
  shaped = c.in_ok-joined.ensures.shaped;
  first = c.in_ok-joined.ensures.first;
  second = c.in_ok-joined.ensures.second;
  least = λ onward. c.in_ok-joined.ensures.least;
}
